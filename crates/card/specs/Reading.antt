-- Laws: the loop that reads a card.
use Prim.Native.Nat.{ℕ, zero, suc, ◌+◌, ◌-◌, ◌<◌, ◌≤◌}
use native.Mathlib.Omega.{arith}
use Rattle.std.proofs.Common.{add-one, append_assoc, append-nil, ◌∙◌, take-append-drop, length-set, take-suc-set, drop-set-lt, drop-drop, length-take-le}
use Rattle.std.specs.Prelude.{Bool, true, false, List, [], ◌∷◌, ◌++◌, ◌≡◌, eqb, length, take, drop, set, Option, Some, None, Result, Ok, Err}
use Rattle.std.proofs.Math.Path.{refl, ap, sym}
use Rattle.std.proofs.Common.{subst}
use Rattle.base.specs.Pick.{pick}
use Rattle.chip.specs.Chip.{set_up_chip}
use Rattle.chip.specs.Kinds.{known_kind}
use Rattle.chip.specs.declared.Chip.{Chip}
use Rattle.line.specs.Layout.{capped}
use Rattle.records.specs.Records.{head_at}
use Rattle.records.specs.declared.Head.{Head}
use Rattle.records.specs.declared.Head.TheVariants.{End, Short, Cut, Whole}
use Rattle.card.specs.Card.{fault_number, chips, refused, cut_entry, whole_entry, entry_of, entry_at, Read, all, none, after, onward, read_from, set_up, from_read, set_up_of}
use Rattle.card.specs.declared.Fault.{Fault}
use Rattle.card.specs.declared.Fault.TheVariants as fault
use Rattle.card.specs.declared.Entry.{Entry}

pub entry-at : (s : List ℕ) (room : ℕ) (q p : Head) (r : Result (Option Entry) Fault) → q ≡ p → r ≡ entry_of s room p → r ≡ entry_of s room q
entry-at s room q p r e h = h ∙ ap (λ (k : Head). entry_of s room k) (sym e)

-- reading goes on by one record
read_at : (m at : ℕ) (s : List ℕ) (e p : Result (Option Entry) Fault) → e ≡ entry_at s at (suc m) → e ≡ p
    → read_from (suc m) s at ≡ onward at (λ next. read_from m s next) p
unfolding read_from
read_at m at s e p h k = ap (λ (x : Result (Option Entry) Fault). onward at (λ next. read_from m s next) x) (sym h ∙ k)

read_none : (at : ℕ) (s : List ℕ) (e p : Result (Option Entry) Fault) → e ≡ entry_at s at 0 → e ≡ p → read_from 0 s at ≡ onward at (λ next. none 1 at) p
unfolding read_from
read_none at s e p h k = ap (λ (x : Result (Option Entry) Fault). onward at (λ next. none 1 at) x) (sym h ∙ k)

-- a record that ends the reading, whatever room is left
stops : (room at : ℕ) (s : List ℕ) (e p : Result (Option Entry) Fault) (r : Read) → e ≡ entry_at s at room → e ≡ p → ((go : ℕ → Read) → onward at go p ≡ r)
    → read_from room s at ≡ r
stops zero at s e p r h k f = read_none at s e p h k ∙ f (λ next. none 1 at)
stops (suc m) at s e p r h k f = read_at m at s e p h k ∙ f (λ next. read_from m s next)

-- without room no chip is taken
IsTaken : Result (Option Entry) Fault → Type 0
IsTaken (Ok (Some e)) = Unit
IsTaken (Ok None) = ⊥
IsTaken (Err f) = ⊥

no_room : (s : List ℕ) (h : Head) → IsTaken (entry_of s 0 h) → ⊥
unfolding IsTaken cut_entry whole_entry pick
no_room s End t = t
no_room s Short t = t
no_room s (Cut size k) t = cut (known_kind k) t
  where
    cut : (a : Bool) → IsTaken (pick a (Err fault.WrongLength) (Err fault.UnknownKind)) → ⊥
    cut true f = f
    cut false f = f
no_room s (Whole size k body to) t = whole (known_kind k) (eqb size 10) t
  where
    whole : (a b : Bool) → IsTaken (pick a (pick b (Err fault.TooMany) (Err fault.WrongLength)) (Err fault.UnknownKind)) → ⊥
    whole true true f = f
    whole true false f = f
    whole false b f = f

after_nil : (r : Read) → after [] r ≡ r
after_nil (all ds) = refl
after_nil (none r at) = refl

after_after : (P Q : List Chip) (r : Read) → after P (after Q r) ≡ after (P ++ Q) r
after_after P Q (all ds) = ap (λ (l : List Chip). all l) (sym (append_assoc P Q ds))
after_after P Q (none r at) = refl

-- where the loop stands after n chips
pub record Taking (most : ℕ) (s : List ℕ) (cs₀ cs : List Chip) (n at : ℕ) : Type 0 where
  pub left : after (take n cs) (read_from (most - n) s at) ≡ read_from most s 0
  pub within : n ≤ most
  pub few : most ≤ 16
  pub long : length cs ≡ 16
  pub stays : drop n cs ≡ drop n cs₀

pub taking_start : (most : ℕ) (s : List ℕ) (cs : List Chip) → most ≤ 16 → length cs ≡ 16 → Taking most s cs cs 0 0
taking_start most s cs f l =
    let z : most - 0 ≡ most = omega arith in
    record { left = rw z (after_nil (read_from most s 0)); within = omega arith; few = f; long = l; stays = refl }

module _ (most : ℕ) (s : List ℕ) (cs₀ cs : List Chip) (n at : ℕ) (g : Taking most s cs₀ cs n at) (e : Result (Option Entry) Fault) (h : e ≡ entry_at s at (most - n)) where
  room_left : (x : Entry) → e ≡ Ok (Some x) → n < most
  unfolding entry_at IsTaken
  room_left x k = go (most - n) refl
    where
      go : (m : ℕ) → most - n ≡ m → n < most
      go zero p = absurd (no_room s (head_at s at) (subst IsTaken (sym k ∙ h ∙ ap (λ (j : ℕ). entry_of s j (head_at s at)) p) tt))
      go (suc m) p = omega arith

  pub taking_next : (x : Entry) (c : Chip) → e ≡ Ok (Some x) → c ≡ set_up_chip x.code x.kind → Taking most s cs₀ (set cs n c) (n + 1) x.next
  taking_next x c k d =
      let r = room_left x k in
      let m : most - n ≡ suc (most - (n + 1)) = omega arith in
      let i : n < length cs = omega (arith, g.few, g.long) in
      let a : read_from (most - n) s at ≡ after (set_up_chip x.code x.kind ∷ []) (read_from (most - (n + 1)) s x.next)
      = ap (λ (j : ℕ). read_from j s at) m ∙ read_at (most - (n + 1)) at s e (Ok (Some x)) (h ∙ ap (λ (j : ℕ). entry_at s at j) m) k in
      let b : take (n + 1) (set cs n c) ≡ take n cs ++ (set_up_chip x.code x.kind ∷ [])
      = ap (λ (j : ℕ). take j (set cs n c)) (add-one n) ∙ take-suc-set cs n c i ∙ ap (λ (x : Chip). take n cs ++ (x ∷ [])) d in
      record {
        left = ap (λ (l : List Chip). after l (read_from (most - (n + 1)) s x.next)) b
            ∙ sym (after_after (take n cs) (set_up_chip x.code x.kind ∷ []) (read_from (most - (n + 1)) s x.next))
            ∙ ap (after (take n cs)) (sym a) ∙ g.left;
        within = omega arith;
        few = g.few;
        long = simp length-set g.long;
        stays = drop-set-lt (n + 1) cs n c (omega arith) ∙ sym (drop-drop 1 n cs) ∙ ap (drop 1) g.stays ∙ drop-drop 1 n cs₀;
      }

  pub room_for : (x : Entry) → e ≡ Ok (Some x) → (n < most) × (n < 16)
  room_for x k = let r = room_left x k in (r, omega (arith, g.few))

  module _ (places n₀ : ℕ) (c : most ≡ capped places) where
    ended : (r : Read) → read_from (most - n) s at ≡ r → from_read n₀ cs₀ (after (take n cs) r) ≡ set_up_of places s n₀ cs₀
    unfolding set_up_of
    ended r k = ap (λ (x : Read). from_read n₀ cs₀ x) (ap (after (take n cs)) (sym k) ∙ g.left ∙ ap (λ (j : ℕ). read_from j s 0) c)

    pub taking_done : e ≡ Ok None → set_up (chips n) n cs ≡ set_up_of places s n₀ cs₀
    taking_done k =
        let w = g.within in
        let l : length (take n cs) ≡ n = length-take-le n cs (omega (arith, g.few, g.long)) in
        let q : take n cs ++ [] ≡ take n cs = append-nil (take n cs) in
        let t : take n cs ++ drop n cs₀ ≡ cs = ap (λ (x : List Chip). take n cs ++ x) (sym g.stays) ∙ take-append-drop n cs in
        (λ j. set_up (chips (sym l j)) (sym l j) (sym t j))
        ∙ (λ j. set_up (chips (length (take n cs))) (length (take n cs)) (take n cs ++ drop (sym l j) cs₀))
        ∙ (λ j. set_up (chips (length (sym q j))) (length (sym q j)) (sym q j ++ drop (length (sym q j)) cs₀))
        ∙ ended (all []) (stops (most - n) at s e (Ok None) (all []) h k (λ go. refl))

    pub taking_refused : (f : Fault) → e ≡ Err f → set_up (refused (fault_number f) at) n₀ cs₀ ≡ set_up_of places s n₀ cs₀
    taking_refused f k = ended (none (fault_number f) at) (stops (most - n) at s e (Err f) (none (fault_number f) at) h k (λ go. refl))
