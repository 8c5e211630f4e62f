-- Demand 1 for a whole card: it is refused exactly when reading record after record reaches one at fault, by that one's number
-- and at its first byte; and it then leaves the table as it was.
use Prim.Native.Nat.{ℕ, zero, suc, ◌+◌, ◌-◌, ◌<◌}
use native.Mathlib.Omega.{arith}
use Rattle.std.proofs.Common.{true≢false, ◌∙◌, sym, subst}
use Rattle.std.specs.Prelude.{List, [], ◌∷◌, ◌++◌, length, Option, Some, None, Result, Ok, Err}
use Rattle.std.proofs.Math.Path.{◌≡◌, refl, ap}
use Rattle.base.specs.Pick.{pick_both, pick_if}
use Rattle.base.specs.Exactly.{Iff}
use Rattle.chip.specs.Chip.{set_up_chip}
use Rattle.chip.specs.declared.Chip.{Chip}
use Rattle.line.specs.Layout.{capped}
use Rattle.card.specs.Card.{fault_number, Carded, chips, refused, entry_at, Read, all, none, after, onward, read_from, set_up, from_read, set_up_of}
use Rattle.card.specs.declared.Entry.{Entry}
use Rattle.card.specs.declared.Fault.{Fault}
use Rattle.card.specs.declared.Fault.TheVariants as fault
use Rattle.refusals.specs.Card.{entry_is}

-- the refusal number of a record at fault
abbrev pub fault_of : Result (Option Entry) Fault → ℕ
fault_of (Ok e) = 0
fault_of (Err f) = fault_number f

-- reading with so many places reaches an offset after k chips
pub data Reached (most : ℕ) (s : List ℕ) : ℕ → ℕ → Type 0 where
  first : Reached most s 0 0
  onto : {k at : ℕ} (e : Entry) → Reached most s k at → entry_at s at (most - k) ≡ Ok (Some e) → Reached most s (k + 1) e.next

-- a record that is reached and at fault
pub record Faulty (most : ℕ) (s : List ℕ) (r at : ℕ) : Type 0 where
  pub taken : ℕ
  pub reached : Reached most s taken at
  pub fault : fault_of (entry_at s at (most - taken)) ≡ r
  pub real : 0 < r

-- without room no chip is taken
abbrev NotTaken : Result (Option Entry) Fault → Type 0
NotTaken (Ok None) = Unit
NotTaken (Ok (Some e)) = ⊥
NotTaken (Err f) = Unit

not_taken : (s : List ℕ) (at : ℕ) → NotTaken (entry_at s at 0)
not_taken s at =
    rw (entry_is s at 0)
    (pick_both NotTaken _ _ _ tt
    (pick_both NotTaken _ _ _ tt
    (pick_both NotTaken _ _ _
    (pick_both NotTaken _ _ _ (pick_both NotTaken _ _ _ (pick_if NotTaken _ _ _ (λ e. absurd (true≢false (sym e))) (λ e. tt)) tt) tt)
    (pick_both NotTaken _ _ _ tt tt))))

-- what was read is refused, where what came after is
after_none : (cs : List Chip) (x : Read) (r p : ℕ) → after cs x ≡ none r p → x ≡ none r p
after_none cs (all ds) r p e = absurd (no e)
  where
    no : all (cs ++ ds) ≡ none r p → ⊥
    no z = let y : ◌≡◌ {A = ℕ} 0 1 = cc in omega arith
after_none cs (none r' p') r p e = e

none_after : (cs : List Chip) (x : Read) (r p : ℕ) → x ≡ none r p → after cs x ≡ none r p
none_after cs x r p e = ap (after cs) e

not_all : (ds : List Chip) (r p : ℕ) → all ds ≡ none r p → ⊥
not_all ds r p e = let y : ◌≡◌ {A = ℕ} 0 1 = cc in omega arith

module _ (most : ℕ) (s : List ℕ) where
  found : (k at m : ℕ) → most - k ≡ m → Reached most s k at → (x : Result (Option Entry) Fault) (n : ℕ) → entry_at s at m ≡ x → fault_of x ≡ n → 0 < n → (r p : ℕ) → none n at ≡ none r p → Faulty most s r p
  found k at m q h x n f g l r p e =
      let a : n ≡ r = cc in
      let b : at ≡ p = cc in
      rw (← a, ← b) (record { taken = k; reached = h; fault = ap (λ (j : ℕ). fault_of (entry_at s at j)) q ∙ ap fault_of f ∙ g; real = l })

  -- a refusal that is read comes from a record that is reached
  by_entry : (k at m : ℕ) → most - k ≡ m → Reached most s k at → (go : ℕ → Read) (x : Result (Option Entry) Fault) → entry_at s at m ≡ x → (r p : ℕ)
      → ((t : Entry) → x ≡ Ok (Some t) → go t.next ≡ none r p → Faulty most s r p) → onward at go x ≡ none r p → Faulty most s r p
  by_entry k at m q h go (Ok None) f r p on e = absurd (not_all [] r p e)
  by_entry k at m q h go (Ok (Some t)) f r p on e = on t refl (after_none (set_up_chip t.code t.kind ∷ []) (go t.next) r p e)
  by_entry k at m q h go (Err x) f r p on e = found k at m q h (Err x) (fault_number x) f refl (real x) r p e
    where
      real : (x : Fault) → 0 < fault_number x
      real fault.TooMany = omega arith
      real fault.UnknownKind = omega arith
      real fault.WrongLength = omega arith

  reads : (m k at : ℕ) → most - k ≡ m → Reached most s k at → (r p : ℕ) → read_from m s at ≡ none r p → Faulty most s r p
  unfolding read_from
  reads zero k at q h r p e =
      by_entry k at 0 q h (λ next. none 1 at) (entry_at s at 0) refl r p (λ t f g. absurd (never (entry_at s at 0) (not_taken s at) t f)) e
    where
      never : (x : Result (Option Entry) Fault) → NotTaken x → (t : Entry) → x ≡ Ok (Some t) → ⊥
      never x n t f = subst NotTaken f n
  reads (suc m) k at q h r p e =
      by_entry k at (suc m) q h (λ next. read_from m s next) (entry_at s at (suc m)) refl r p
      (λ t f g. reads m (k + 1) t.next (omega arith) (onto t h (ap (λ (j : ℕ). entry_at s at j) q ∙ f)) r p g) e

  -- a record that is reached and at fault is where reading stops
  stops : (k at : ℕ) (n : ℕ) → 0 < n → fault_of (entry_at s at (most - k)) ≡ n → read_from (most - k) s at ≡ none n at
  unfolding read_from
  stops k at n l g = go (most - k) g
    where
      at_fault : (next : ℕ → Read) (x : Result (Option Entry) Fault) → fault_of x ≡ n → onward at next x ≡ none n at
      at_fault next (Ok e) f = absurd (omega arith)
      at_fault next (Err x) f = ap (λ (j : ℕ). none j at) f

      go : (m : ℕ) → fault_of (entry_at s at m) ≡ n → read_from m s at ≡ none n at
      go zero f = at_fault (λ next. none 1 at) (entry_at s at 0) f
      go (suc m) f = at_fault (λ next. read_from m s next) (entry_at s at (suc m)) f

  reaches : (k at : ℕ) → Reached most s k at → (r p : ℕ) → read_from (most - k) s at ≡ none r p → read_from most s 0 ≡ none r p
  unfolding read_from
  reaches k at first r p e = ap (λ (j : ℕ). read_from j s 0) (sym zero_off) ∙ e
    where
      zero_off : most - 0 ≡ most
      zero_off = omega arith
  reaches k at (onto {k = j} {at = o} t h f) r p e = reaches j o h r p (one (most - j) refl f)
    where
      one : (m : ℕ) → most - j ≡ m → entry_at s o m ≡ Ok (Some t) → read_from m s o ≡ none r p
      one zero q g = absurd (subst NotTaken g (not_taken s o))
      one (suc m) q g =
          let b : most - (j + 1) ≡ m = omega arith in
          ap (onward o (λ to. read_from m s to)) g ∙ none_after (set_up_chip t.code t.kind ∷ []) (read_from m s t.next) r p (ap (λ (i : ℕ). read_from i s t.next) (sym b) ∙ e)

  pub card_refused : (r p : ℕ) → Iff (read_from most s 0 ≡ none r p) (Faulty most s r p)
  card_refused r p =
      ((λ e. reads most 0 0 zero_off first r p e), (λ f. reaches f.taken p f.reached r p (stops f.taken p r f.real f.fault)))
    where
      zero_off : most - 0 ≡ most
      zero_off = omega arith

-- set-up is refused by r at p exactly when the first record at fault starts at p, and its fault is r
pub set_up_refused : (places : ℕ) (s : List ℕ) (n : ℕ) (cs : List Chip) (r p : ℕ) → Iff ((set_up_of places s n cs).answer ≡ refused r p) (Faulty (capped places) s r p)
unfolding set_up_of
set_up_refused places s n cs r p =
    ((λ e. (card_refused (capped places) s r p).0 (read_is (read_from (capped places) s 0) e)), (λ f. ap (λ (x : Read). (from_read n cs x).answer) ((card_refused (capped places) s r p).1 f)))
  where
    read_is : (x : Read) → (from_read n cs x).answer ≡ refused r p → x ≡ none r p
    read_is (all ds) e = absurd (no e)
      where
        no : chips (length ds) ≡ refused r p → ⊥
        no z = let y : ◌≡◌ {A = ℕ} 0 1 = cc in omega arith
    read_is (none r' p') e =
        let a : r' ≡ r = cc in
        let b : p' ≡ p = cc in
        (λ j. none (a j) (b j))

-- "chips taken so far are dropped, table unchanged": a refused card leaves the number of chips and every place as they were
pub refused_card_leaves : (places : ℕ) (s : List ℕ) (n : ℕ) (cs : List Chip) (r p : ℕ) → (set_up_of places s n cs).answer ≡ refused r p
    → set_up_of places s n cs ≡ set_up (refused r p) n cs
unfolding set_up_of
refused_card_leaves places s n cs r p = stays (read_from (capped places) s 0)
  where
    stays : (x : Read) → (from_read n cs x).answer ≡ refused r p → from_read n cs x ≡ set_up (refused r p) n cs
    stays (all ds) e = absurd (no e)
      where
        no : chips (length ds) ≡ refused r p → ⊥
        no z = let y : ◌≡◌ {A = ℕ} 0 1 = cc in omega arith
    stays (none r' p') e = ap (λ (a : Carded). set_up a n cs) e
