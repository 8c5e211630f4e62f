-- Laws: the passes list the codes that are still to be listed, one after the other, until the places are full.
use Rattle.std.specs.Prelude.{ℕ, zero, suc, max, ◌-◌, ◌*◌, ◌<◌, ◌≤◌, Bool, true, false, List, [], ◌∷◌, ◌++◌, ◌≡◌, refl, eqb, ltb, leb, length, take}
use Rattle.std.proofs.Common.{arith, mul-suc, ◌∙◌, ap, ap₂, sym, length-take, take_all, eq-eqb, ne_eqb, le-leb, ltb-false}
use Rattle.std.proofs.Math.Dec.{leb-suc-suc}
use Rattle.std.proofs.Math.Seq.{take-nil, append_snoc}
use Rattle.std.proofs.lemmas.Bool.{lt-leb}
use Rattle.base.specs.Pick.{pick, pick_true, pick_false}
use Rattle.chip.specs.Chip.{Whole}
use Rattle.line.specs.Layout.{capped}
use Rattle.line.specs.Line.{absent}
use Rattle.line.specs.Event.{asked_by, plan_event, outside_fits}
use Rattle.search.specs.Host.{Host, done, bind, Played, played, Listed, listed, End, end, more, play, write, begun, pass, passes, go_on, up_to}
use Rattle.search.specs.Counts.{more_more, and_then, play_bind}
use Rattle.histories.specs.Below.{Codes}
use Rattle.histories.specs.Histories.{answer_of, after_of, line_wire, codes_of, stores_of}
use Rattle.listing.specs.Order.{branch_order, Lists}
use Rattle.listing.specs.Branch.{is_nil, order_nil}
use Rattle.listing.specs.Rest.{rest, rest_all, rest_some, Outcome, ended, parted}
use Rattle.listing.specs.Slots.{after_reset, reset_played, opened, command_played, codes_reset, codes_opened, stores_reset, stores_opened}
use Rattle.listing.specs.Line.{absent_codes}
use Rattle.listing.specs.Pass.{Passed, pass_opened}

-- how the host goes on after a whole pass with n places left
abbrev onward : ℕ → List ℕ → ℕ → ℕ → Host Listed
onward n out path last = go_on n out (λ w o. passes n w o) (end path last true)

-- where the pass found no parting to come back to
onward_last : (n : ℕ) (out : List ℕ) (c m : ℕ) → m ≡ 0 → onward n out c m ≡ done (listed (out ++ (c ∷ [])) true)
onward_last n out c m q = pick_true true _ _ refl ∙ pick_true (eqb m 0) _ _ (eq-eqb m 0 q)

-- where it found one, and no place is left
onward_full : (out : List ℕ) (c m : ℕ) → 0 < m → onward 0 out c m ≡ done (listed (out ++ (c ∷ [])) false)
onward_full out c m q = pick_true true _ _ refl ∙ pick_false (eqb m 0) _ _ (ne_eqb m 0 (omega arith)) ∙ pick_true (eqb 0 0) _ _ refl

-- where it found one, and places are left
onward_more : (n : ℕ) (out : List ℕ) (c m : ℕ) → 0 < m → onward (suc n) out c m ≡ passes (suc n) (up_to (m - 1) c) (out ++ (c ∷ []))
onward_more n out c m q =
    pick_true true _ _ refl ∙ pick_false (eqb m 0) _ _ (ne_eqb m 0 (omega arith)) ∙ pick_false (eqb (suc n) 0) _ _ (ne_eqb (suc n) 0 (omega arith))

-- a reset, the command and a pass, and how the host goes on
one_pass : (n want : ℕ) (out : List ℕ) (L : List Whole) → is_nil (codes_of L) ≡ false → (p : Passed 64 0 want 0 0 (codes_of L) (opened L))
    → play line_wire (passes (suc n) want out) L ≡ more 1 200 (play line_wire (onward n out p.found p.marked) p.after)
unfolding passes
one_pass n want out L s p =
    let go = go_on n out (λ w o. passes n w o) in
    let search = bind (pass 64 (begun want)) go in
    reset_played _ L
    ∙ ap (more 1 0) (ap (λ (h : Host Listed). play line_wire h (after_reset L)) (pick_false (absent L) _ _ (absent_codes L ∙ s))
    ∙ play_bind line_wire (write 8 0 0xF0) (λ u. search) (after_reset L)
    ∙ ap (λ (q : Played (Unit {0}) (List Whole)). and_then line_wire q (λ u. search)) (command_played L)
    ∙ ap (more 0 8) (play_bind line_wire (pass 64 (begun want)) go (opened L)
    ∙ ap (λ (q : Played End (List Whole)). and_then line_wire q go) p.played))
    ∙ ap (more 1 0) (more_more 0 8 0 192 (play line_wire (onward n out p.found p.marked) p.after))
    ∙ more_more 1 0 0 200 (play line_wire (onward n out p.found p.marked) p.after)

-- what n places list of the codes r that are to come, after those listed before
record Goes (n want : ℕ) (out r : List ℕ) (L : List Whole) : Type 0 where
  result : (play line_wire (passes n want out) L).result ≡ listed (out ++ take n r) (leb (length r) n)
  resets : (play line_wire (passes n want out) L).resets ≡ max 1 (length (take n r))
  slots : (play line_wire (passes n want out) L).slots ≡ 200 * length (take n r)
  codes : codes_of (play line_wire (passes n want out) L).line ≡ codes_of L
  stores : stores_of (play line_wire (passes n want out) L).line ≡ stores_of L

-- one pass that finds the last code
goes_last : (n want : ℕ) (out r : List ℕ) (L K : List Whole) (c m : ℕ) → m ≡ 0 → r ≡ c ∷ [] → codes_of K ≡ codes_of L → stores_of K ≡ stores_of L
    → play line_wire (passes (suc n) want out) L ≡ more 1 200 (play line_wire (onward n out c m) K) → Goes (suc n) want out r L
unfolding play
goes_last n want out r L K c m q h kept stays e =
    let f = e ∙ ap (λ (t : Host Listed). more 1 200 (play line_wire t K)) (onward_last n out c m q) in
    record {
      result = rw (f, h, take-nil {A = ℕ} n, le-leb 1 (suc n) (omega arith));
      resets = rw (f, h, take-nil {A = ℕ} n);
      slots = rw (f, h, take-nil {A = ℕ} n);
      codes = rw f kept;
      stores = rw f stays;
    }

-- one that fills the last place, with codes to come
goes_full : (want : ℕ) (out r s : List ℕ) (L K : List Whole) (c m : ℕ) → 0 < m → r ≡ c ∷ s → 0 < length s → codes_of K ≡ codes_of L → stores_of K ≡ stores_of L
    → play line_wire (passes 1 want out) L ≡ more 1 200 (play line_wire (onward 0 out c m) K) → Goes 1 want out r L
unfolding play
goes_full want out r s L K c m q h some kept stays e =
    let f = e ∙ ap (λ (t : Host Listed). more 1 200 (play line_wire t K)) (onward_full out c m q) in
    record {
      result = rw (f, h, lt-leb (suc (length s)) 1 (omega arith));
      resets = rw (f, h);
      slots = rw (f, h);
      codes = rw f kept;
      stores = rw f stays;
    }

-- one after which the host goes on
goes_more : (n want : ℕ) (out r s : List ℕ) (L K : List Whole) (c m : ℕ) → 0 < m → r ≡ c ∷ s → 0 < length s → codes_of K ≡ codes_of L → stores_of K ≡ stores_of L
    → play line_wire (passes (suc (suc n)) want out) L ≡ more 1 200 (play line_wire (onward (suc n) out c m) K)
    → Goes (suc n) (up_to (m - 1) c) (out ++ (c ∷ [])) s K
    → Goes (suc (suc n)) want out r L
goes_more n want out r s L K c m q h some kept stays e g =
    let f = e ∙ ap (λ (t : Host Listed). more 1 200 (play line_wire t K)) (onward_more n out c m q) in
    record {
      result = rw (f, h) (g.result ∙ ap₂ listed (append_snoc out c (take (suc n) s)) (sym (leb-suc-suc (length s) (suc n))));
      resets = rw (f, h, g.resets) (omega (arith, length-take (suc n) s));
      slots = rw (f, h, g.slots, mul-suc) (omega arith);
      codes = rw f (g.codes ∙ kept);
      stores = rw f (g.stores ∙ stays);
    }

-- the passes from any line with codes, whatever is wanted
goes : (n want : ℕ) (out xs : List ℕ) (L : List Whole) → codes_of L ≡ xs → is_nil xs ≡ false → Codes xs → Goes (suc n) want out (rest 64 0 want xs) L
goes zero want out xs L e s fits = go p (rw e at p.outcome)
  where
    p : Passed 64 0 want 0 0 (codes_of L) (opened L)
    p = pass_opened want L (rw e s) (rw e fits)

    go : (p : Passed 64 0 want 0 0 (codes_of L) (opened L)) → Outcome 64 0 want 0 p.marked p.found xs → Goes 1 want out (rest 64 0 want xs) L
    go p (ended q h) = goes_last zero want out _ L p.after p.found p.marked q h (p.kept ∙ codes_opened L) (p.stores ∙ stores_opened L) (one_pass zero want out L (rw e s) p)
    go p (parted q h) =
        let v = pass_opened (up_to (p.marked - 1) p.found) L (rw e s) (rw e fits) in
        goes_full want out _ _ L p.after p.found p.marked q h (rest_some (rw e at v.outcome)) (p.kept ∙ codes_opened L) (p.stores ∙ stores_opened L) (one_pass zero want out L (rw e s) p)
goes (suc n) want out xs L e s fits = go p (rw e at p.outcome) (λ w. goes n w)
  where
    p : Passed 64 0 want 0 0 (codes_of L) (opened L)
    p = pass_opened want L (rw e s) (rw e fits)

    go : (p : Passed 64 0 want 0 0 (codes_of L) (opened L)) → Outcome 64 0 want 0 p.marked p.found xs
        → ((w : ℕ) (o ys : List ℕ) (K : List Whole) → codes_of K ≡ ys → is_nil ys ≡ false → Codes ys → Goes (suc n) w o (rest 64 0 w ys) K)
        → Goes (suc (suc n)) want out (rest 64 0 want xs) L
    go p (ended q h) below = goes_last (suc n) want out _ L p.after p.found p.marked q h (p.kept ∙ codes_opened L) (p.stores ∙ stores_opened L) (one_pass (suc n) want out L (rw e s) p)
    go p (parted q h) below =
        let v = pass_opened (up_to (p.marked - 1) p.found) L (rw e s) (rw e fits) in
        goes_more n want out _ _ L p.after p.found p.marked q h (rest_some (rw e at v.outcome)) (p.kept ∙ codes_opened L) (p.stores ∙ stores_opened L) (one_pass (suc n) want out L (rw e s) p)
        (below (up_to (p.marked - 1) p.found) (out ++ (p.found ∷ [])) xs p.after (p.kept ∙ codes_opened L ∙ e) s fits)

-- what comes of a reset alone
abbrev reset_alone : Bool → List Whole → Played Listed (List Whole)
reset_alone b L = played (listed [] b) (after_reset L) 1 0

-- no presence
none_there : (n : ℕ) → play line_wire (passes n 0 []) [] ≡ reset_alone true []
unfolding play passes answer_of after_of plan_event outside_fits asked_by pick
none_there zero = refl
none_there (suc n) = refl

-- presence, and no place
present_ends : (L : List Whole) → more 1 0 (play line_wire (pick false (done (listed [] true)) (done (listed [] false))) L) ≡ played (listed [] false) L 1 0
unfolding play pick
present_ends L = refl

no_place : (w : Whole) (L : List Whole) → play line_wire (passes 0 0 []) (w ∷ L) ≡ reset_alone false (w ∷ L)
unfolding passes
no_place w L = reset_played _ (w ∷ L) ∙ present_ends (after_reset (w ∷ L))

-- the passes from the first, with any number of places, on any line
pub passes_list : (places : ℕ) (L : List Whole) → Codes (codes_of L) → Lists (branch_order 64 0 (codes_of L)) places L (play line_wire (passes places 0 []) L)
passes_list places [] fits =
    rw (order_nil 64 0, none_there places)
    (record {
      result = rw (take-nil {A = ℕ} places, le-leb 0 places (omega arith));
      resets = rw (take-nil {A = ℕ} places);
      slots = rw (take-nil {A = ℕ} places);
      codes = refl;
      stores = refl;
    })
passes_list zero (w ∷ L) fits =
    let some = rest_some (pass_opened 0 (w ∷ L) refl fits).outcome in
    rw (← rest_all 64 0 0 (codes_of (w ∷ L)) (omega arith), no_place w L)
    (record {
      result = rw (lt-leb (length (rest 64 0 0 (codes_of (w ∷ L)))) 0 some);
      resets = refl;
      slots = refl;
      codes = codes_reset (w ∷ L);
      stores = stores_reset (w ∷ L);
    })
passes_list (suc n) (w ∷ L) fits =
    let g = goes n 0 [] (codes_of (w ∷ L)) (w ∷ L) refl refl fits in
    rw (← rest_all 64 0 0 (codes_of (w ∷ L)) (omega arith)) (record { result = g.result; resets = g.resets; slots = g.slots; codes = g.codes; stores = g.stores })

-- lists of at most 16 codes are cut by a number of places as they are by that number capped
pub capped_cut : (places : ℕ) (B : List ℕ) → length B ≤ 16 → (take (capped places) B ≡ take places B) × (leb (length B) (capped places) ≡ leb (length B) places)
unfolding capped pick
capped_cut places B h = go (ltb places 16) refl
  where
    go : (t : Bool) → ltb places 16 ≡ t → (take (pick t places 16) B ≡ take places B) × (leb (length B) (pick t places 16) ≡ leb (length B) places)
    go true e = (refl, refl)
    go false e =
        let m : 16 ≤ places = ltb-false places 16 e in
        (take_all 16 B h ∙ sym (take_all places B (omega arith)), le-leb (length B) 16 h ∙ sym (le-leb (length B) places (omega arith)))
