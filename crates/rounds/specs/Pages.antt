-- Laws: the loop over the codes that were listed.
use Rattle.std.specs.Prelude.{ℕ, ◌+◌, ◌*◌, ◌<◌, ◌≤◌, Bool, true, false, ◌≡◌, refl, get_or}
use native.Mathlib.Omega.{arith}
use Rattle.std.proofs.Common.{add-one, ◌∙◌, drop-cons}
use mathlib.Core.List.{List, [], ◌∷◌, ◌++◌}
use Rattle.std.proofs.Math.Path.{sym, ap}
use Rattle.std.proofs.Math.ListN.{length, drop, length-append, drop_of_length-le}
use Rattle.std.proofs.Math.Seq.{sets}
use Rattle.base.specs.Pick.{pick, pick_true, pick_false}
use Rattle.base.specs.Stores.{sets_append}
use Rattle.base.specs.Once.{is_in}
use Rattle.line.specs.Attached.{Attached}
use Rattle.search.specs.Host.{Played, played, more, play}
use Rattle.search.specs.Search.{wire}
use Rattle.search.specs.Counts.{more_more, more_none, play_bind}
use Rattle.rounds.specs.Borne.{only_borne}
use Rattle.rounds.specs.Host.{read_page, read_pages}
use Rattle.rounds.specs.Reading.{PutAt}
use Rattle.rounds.specs.Spends.{page_spends}

-- where the loop over the codes listed stands after i of them: it has read so many pages, whose bytes stand at the beginning of the page
-- buffer up to a place
pub record Paging (borne codes : List ℕ) (l₀ l : Attached) (pages₀ pages : List ℕ) (count at i : ℕ) : Type 0 where
  pub out : List ℕ
  pub left : more count (352 * count) (play wire (read_pages (only_borne borne (drop i codes)) out) l) ≡ play wire (read_pages (only_borne borne codes) []) l₀
  pub long : length out ≡ at
  pub place : at ≡ 32 * count
  pub laid : pages ≡ sets pages₀ 0 out
  pub counted : count + length (only_borne borne (drop i codes)) ≡ length (only_borne borne codes)
  pub few : count ≤ i
  pub within : i ≤ length codes

module _ (borne codes : List ℕ) where
  pub paging_start : (l : Attached) (pages : List ℕ) → Paging borne codes l l pages pages 0 0 0
  paging_start l pages =
      record {
        out = [];
        left = sym (more_none (play wire (read_pages (only_borne borne codes) []) l));
        long = refl;
        place = refl;
        laid = refl;
        counted = omega arith;
        few = omega arith;
        within = omega arith;
      }

  -- the next code, and those after it
  next_code : (i : ℕ) → i < length codes → drop i codes ≡ get_or codes i 0 ∷ drop (i + 1) codes
  next_code i h = drop-cons codes i 0 h ∙ ap (λ (j : ℕ). get_or codes i 0 ∷ drop j codes) (sym (add-one i))

  module _ (l₀ l : Attached) (pages₀ pages : List ℕ) (count at i code : ℕ) (t : Bool) (g : Paging borne codes l₀ l pages₀ pages count at i) (h : i < length codes)
      (ec : code ≡ get_or codes i 0) (et : t ≡ is_in code borne) where
    only_next : only_borne borne (drop i codes) ≡ pick t (code ∷ only_borne borne (drop (i + 1) codes)) (only_borne borne (drop (i + 1) codes))
    unfolding only_borne
    only_next =
        ap (only_borne borne) (next_code i h ∙ ap (λ (c : ℕ). c ∷ drop (i + 1) codes) (sym ec))
        ∙ ap (λ (b : Bool). pick b (code ∷ only_borne borne (drop (i + 1) codes)) (only_borne borne (drop (i + 1) codes))) (sym et)

    -- a code that is not borne
    pub paging_past : t ≡ false → Paging borne codes l₀ l pages₀ pages count at (i + 1)
    paging_past f =
        let e : only_borne borne (drop i codes) ≡ only_borne borne (drop (i + 1) codes) = only_next ∙ pick_false t _ _ f in
        record {
          out = g.out;
          left = ap (λ (cs : List ℕ). more count (352 * count) (play wire (read_pages cs g.out) l)) (sym e) ∙ g.left;
          long = g.long;
          place = g.place;
          laid = g.laid;
          counted = ap (λ (cs : List ℕ). count + length cs) (sym e) ∙ g.counted;
          few = let k = g.few in omega arith;
          within = omega arith;
        }

    -- one that is
    pub paging_next : (u : Attached) (after : List ℕ) → t ≡ true → PutAt at pages after u (play wire (read_page code) l)
        → Paging borne codes l₀ u pages₀ after (count + 1) (at + 32) (i + 1)
    unfolding read_pages
    paging_next u after f (p, q) =
        let rest = only_borne borne (drop (i + 1) codes) in
        let e : only_borne borne (drop i codes) ≡ code ∷ rest = only_next ∙ pick_true t _ _ f in
        let s = page_spends code in
        let page = (play wire (read_page code) l).result in
        let out = g.out ++ page in
        let r = play wire (read_pages rest out) u in
        let one : play wire (read_pages (code ∷ rest) g.out) l ≡ more 1 352 r
        = play_bind wire (read_page code) (λ (x : List ℕ). read_pages rest (g.out ++ x)) l
        ∙ (λ j. more (s.resets wire l j) (s.slots wire l j) (play wire (read_pages rest out) (sym q j))) in
        let n : 352 * count + 352 ≡ 352 * (count + 1) = omega arith in
        record {
          out = out;
          left = sym (more_more count (352 * count) 1 352 r ∙ ap (λ (k : ℕ). more (count + 1) k r) n)
              ∙ ap (more count (352 * count)) (sym (ap (λ (cs : List ℕ). play wire (read_pages cs g.out) l) e ∙ one))
              ∙ g.left;
          long = length-append g.out page ∙ (λ j. g.long j + s.comes wire l j);
          place = let k = g.place in omega arith;
          laid = p ∙ (λ j. sets (g.laid j) (sym g.long j) page) ∙ sym (sets_append pages₀ 0 g.out page ∙ zero_at);
          counted = let k = ap (λ (cs : List ℕ). count + length cs) (sym e) ∙ g.counted in omega arith;
          few = let k = g.few in omega arith;
          within = omega arith;
        }
      where
        zero_at : sets (sets pages₀ 0 g.out) (0 + length g.out) (play wire (read_page code) l).result ≡ sets (sets pages₀ 0 g.out) (length g.out) (play wire (read_page code) l).result
        zero_at = let z : 0 + length g.out ≡ length g.out = omega arith in ap (λ (k : ℕ). sets (sets pages₀ 0 g.out) k (play wire (read_page code) l).result) z

  pub paging_end : (l₀ l : Attached) (pages₀ pages : List ℕ) (count at i : ℕ) → Paging borne codes l₀ l pages₀ pages count at i → length codes ≤ i
      → PutAt 0 pages₀ pages l (play wire (read_pages (only_borne borne codes) []) l₀) × (count ≡ length (only_borne borne codes))
  unfolding play read_pages only_borne
  paging_end l₀ l pages₀ pages count at i g h =
      let d : drop i codes ≡ [] = drop_of_length-le codes {i = i} h in
      let e : more count (352 * count) (played g.out l 0 0) ≡ play wire (read_pages (only_borne borne codes) []) l₀ = (rw d at g.left) in
      let n : count + 0 ≡ length (only_borne borne codes) = (rw d at g.counted) in (
        (g.laid ∙ ap (λ (p : Played (List ℕ) Attached). sets pages₀ 0 p.result) e, ap (λ (p : Played (List ℕ) Attached). p.line) e),
        omega arith,
      )
