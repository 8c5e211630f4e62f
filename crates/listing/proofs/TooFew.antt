-- Document 01, "Refusal numbers", of the public search: 4 is given exactly when "the list has fewer places than distinct codes", where neither
-- 8 nor 5 is.
use Rattle.std.specs.Prelude.{ℕ, ◌<◌, ◌≤◌, List, ◌⊎◌, ◌≡◌, leb, length, Result, Ok, Err}
use Rattle.std.proofs.Common.{arith, inl, inr, ◌∙◌, sym, leb-true, leb-false, le-leb}
use Rattle.std.proofs.Math.Path.{refl}
use Rattle.std.proofs.lemmas.Bool.{lt-leb}
use Rattle.base.specs.Pick.{pick}
use Rattle.base.specs.Once.{distinct_in}
use Rattle.base.specs.Exactly.{Iff, then_exactly, by_first, by_else}
use Rattle.line.specs.Refusals.{in_range_few, judged_well}
use Rattle.line.specs.declared.Refusal.{Refusal}
use Rattle.line.specs.declared.Refusal.TheVariants.{OutOfRange, WrongSize, NoSuchEvent, NoSuchOutside}
use Rattle.line.specs.Attached.{Attached, Stands, line_from, verdict_at}
use Rattle.search.specs.Search.{Searched, complete, refused, search_by, search_of}
use Rattle.histories.specs.Below.{Codes}
use Rattle.histories.specs.Histories.{codes_of}
use Rattle.listing.proofs.Count.{order_distinct}
use Rattle.listing.proofs.Public.{order_of, search_finds}

-- neither complete nor 4 is the answer where 8 or 5 is given
abbrev Done : Searched → Type 0
Done a = (a ≡ complete) ⊎ (a ≡ refused 4)

complete_4 : complete ≡ refused 4 → ⊥
complete_4 e = let z : ◌≡◌ {A = ℕ} 0 1 = cc in omega arith

module _ (list : List ℕ) (l : Attached) where
  not_done : (r : Refusal) → Done (search_by (Err r) list l).answer → ⊥
  not_done r (inl e) = no e
    where
      no : {n : ℕ} → refused n ≡ complete → ⊥
      no z = let y : ◌≡◌ {A = ℕ} 0 1 = cc in omega arith
  not_done OutOfRange (inr e) = let z : ◌≡◌ {A = ℕ} 8 4 = cc in omega arith
  not_done WrongSize (inr e) = let z : ◌≡◌ {A = ℕ} 5 4 = cc in omega arith
  not_done NoSuchEvent (inr e) = let z : ◌≡◌ {A = ℕ} 6 4 = cc in omega arith
  not_done NoSuchOutside (inr e) = let z : ◌≡◌ {A = ℕ} 7 4 = cc in omega arith

  -- the places of a table hold its chips where it has at most 16: a `Table` has 16 places, a slice as many as chips
  module _ (places : l.count ≤ 16 → l.count ≤ length l.lent.chips) (fits : Codes (codes_of (line_from l))) where
    well : (v : Result (Unit {0}) Refusal) → v ≡ verdict_at l → Done (search_by v list l).answer → Stands l
    well (Ok tt) h d =
        let j = judged_well l.count l.lent.chips l.lent.images l.lent.pads h in
        record { range = j.0; sizes = j.1; places = places (in_range_few l.count l.lent.chips j.0) }
    well (Err r) h d = absurd (not_done r d)

    stands : Done (search_of list l).answer → Stands l
    unfolding search_of
    stands d = well (verdict_at l) refl d

    -- by what the search found
    found : {a : Searched} {B : Type 0} → Iff (pick (leb (length (order_of l)) (length list)) complete (refused 4) ≡ a) B → (a ≡ complete) ⊎ (a ≡ refused 4)
        → Iff ((search_of list l).answer ≡ a) (Stands l × B)
    found i d = (
      (λ e. let s = stands (ended d e) in (s, i.0 (sym (search_finds list l s fits).answer ∙ e))),
      (λ p. (search_finds list l p.0 fits).answer ∙ i.1 p.1),
    )
      where
        ended : {a b : Searched} → (a ≡ complete) ⊎ (a ≡ refused 4) → b ≡ a → Done b
        ended (inl f) e = inl (e ∙ f)
        ended (inr f) e = inr (e ∙ f)

    -- THEOREM: 4 is given exactly when neither 8 nor 5 is and the list has fewer places than there are distinct codes on the line
    pub refused_4 : Iff ((search_of list l).answer ≡ refused 4) (Stands l × (length list < distinct_in (codes_of (line_from l))))
    refused_4 =
        let n = order_distinct (codes_of (line_from l)) fits in
        found (then_exactly (by_else (leb (length (order_of l)) (length list)) complete (refused 4) complete_4)
        ((λ e. let h = leb-false (length (order_of l)) (length list) e in omega arith), (λ h. lt-leb (length (order_of l)) (length list) (omega arith)))) (inr refl)

    -- and the list is complete exactly when neither 8 nor 5 is given and there is a place for each
    pub complete_exactly : Iff ((search_of list l).answer ≡ complete) (Stands l × (distinct_in (codes_of (line_from l)) ≤ length list))
    complete_exactly =
        let n = order_distinct (codes_of (line_from l)) fits in
        found (then_exactly (by_first (leb (length (order_of l)) (length list)) complete (refused 4) (λ e. complete_4 (sym e)))
        ((λ e. let h = leb-true (length (order_of l)) (length list) e in omega arith), (λ h. le-leb (length (order_of l)) (length list) (omega arith)))) (inl refl)
