-- Laws: a run of slots on a table and its buffers, of which the line is carried from slot to slot.
use Rattle.std.specs.Prelude.{ℕ, ◌+◌, ◌≤◌, List, ◌++◌, ◌≡◌, refl, eqb, leb, length, take, drop, Result, Ok}
use Rattle.line.specs.declared.Refusal.{Refusal}
use Rattle.std.proofs.Common.{arith, ◌∙◌, ap, sym, take-append-drop, length-append, take_at, drop_at, length-take-le}
use Rattle.std.proofs.lemmas.List.{length-map}
use borrow.Author.Tests.{leb-true, eqb-true}
use Rattle.base.specs.Along.{along}
use Rattle.base.specs.Bits.{both}
use Rattle.base.specs.Both.{both_holds}
use Rattle.chip.specs.Chip.{Whole}
use Rattle.chip.specs.declared.Chip.{Chip}
use Rattle.line.specs.Line.{value_of}
use Rattle.line.specs.Layout.{chips_of, images_of, pads_of, Lent, lent, line_of, lent_from, split, images_size, pads_size}
use Rattle.line.specs.Event.{Fits, table_in_range, sizes_fit}
use Rattle.line.specs.Fitted.{AllFitted, split_fitted, map_fitted, length_chips, images_length, pads_length, split_joined}
use Rattle.line.specs.Prefix.{length_split}
use Rattle.line.specs.Refusals.{chips_split, images_split, pads_split, fit, held}
use Rattle.line.specs.Slots.{bits_of, bytes_from, host_bits, run_on, bytes_asked, run_fits, run_verdict, put, RunOutcome, run_outcome, run_by}
use Rattle.line.specs.Runs.{run_length, run_keeps, run_full, host_many, InByte, Running}
use Rattle.line.specs.declared.Act.TheVariants as act
use Rattle.line.specs.declared.Refusal.TheVariants.{OutOfRange, WrongSize}

-- a table of n chips and its buffers hold a line in the place of another one
pub record Carrying (n : ℕ) (cs₀ : List Chip) (L : List Whole) (m : ℕ) (cs : List Chip) (ms ss : List ℕ) : Type 0 where
  pub number : m ≡ n
  pub held : lent cs ms ss ≡ lent_from n cs₀ L
  pub fitted : AllFitted L
  pub full : length L ≡ n
  pub few : n ≤ 16
  pub places : n ≤ length cs₀

-- the line of a table
pub carrying_start : (n : ℕ) (cs : List Chip) (ms ss : List ℕ) → Fits n cs ms ss → n ≤ length cs → Carrying n cs (line_of n cs ms ss) n cs ms ss
carrying_start n cs ms ss f l =
    let t = take n cs in
    let chips = ap (λ (k : List Chip). k ++ drop n cs) (chips_split t ms ss) ∙ take-append-drop n cs in
    record {
      number = refl;
      held = λ j. lent (sym chips j) (sym (images_split t ms ss f.images) j) (sym (pads_split t ms ss f.pads) j);
      fitted = split_fitted t ms ss f.images f.pads;
      full = length_split t ms ss ∙ length-take-le n cs l;
      few = f.few;
      places = l;
    }

module _ (n : ℕ) (cs₀ : List Chip) (L : List Whole) (m : ℕ) (cs : List Chip) (ms ss : List ℕ) (g : Carrying n cs₀ L m cs ms ss) where
  first : take m cs ≡ chips_of L
  first = (λ j. take (g.number j) (g.held j).chips) ∙ take_at (chips_of L) (drop n cs₀) n (length_chips L ∙ g.full)

  -- it fits, and is found again
  pub carrying_fits : Fits m cs ms ss
  carrying_fits =
      let a = images_length L g.fitted in
      let b = pads_length L g.fitted in
      record {
        few = let e = g.number in let f = g.few in omega arith;
        images = ap (λ (l : Lent). length l.images) g.held ∙ a ∙ ap images_size (sym first);
        pads = ap (λ (l : Lent). length l.pads) g.held ∙ b ∙ ap pads_size (sym first);
      }

  pub carrying_line : line_of m cs ms ss ≡ L
  carrying_line = (λ j. split (first j) (g.held j).images (g.held j).pads) ∙ split_joined L g.fitted

  pub carrying_end : (K : List Whole) → L ≡ K → lent cs ms ss ≡ lent_from n cs₀ K
  carrying_end K e = g.held ∙ ap (λ (M : List Whole). lent_from n cs₀ M) e

  pub carrying_places : m ≤ length cs
  carrying_places =
      let e = g.number in
      let a : length cs ≡ length (chips_of L ++ drop n cs₀) = ap (λ (l : Lent). length l.chips) g.held in
      let b : length (chips_of L ++ drop n cs₀) ≡ length L + length (drop n cs₀) = simp (length-append, length-map) in
      let c = g.full in
      omega arith

-- where the loop over the slots of a byte stands: the line that the table holds, and how far the byte has come
pub record ByteTable (n : ℕ) (cs₀ : List Chip) (L₀ : List Whole) (bits count i host sum worth m : ℕ) (cs : List Chip) (ms₀ ss₀ ms ss : List ℕ) : Type 0 where
  pub line : List Whole
  pub byte : InByte bits count L₀ i host sum worth line
  pub table : Carrying n cs₀ line m cs ms ss
  pub images : length ms ≡ length ms₀
  pub pads : length ss ≡ length ss₀

-- where the loop over the bytes stands
pub record RunTable (n : ℕ) (cs₀ : List Chip) (L₀ : List Whole) (slots : ℕ) (bits answers₀ : List ℕ) (at left : ℕ) (answers : List ℕ) (m : ℕ) (cs : List Chip) (ms₀ ss₀ ms ss : List ℕ) : Type 0 where
  pub line : List Whole
  pub running : Running slots bits answers₀ L₀ at left answers line
  pub table : Carrying n cs₀ line m cs ms ss
  pub images : length ms ≡ length ms₀
  pub pads : length ss ≡ length ss₀

-- a byte's slots, by their contract, leave the line that they come to
pub carrying_byte : (n : ℕ) (cs₀ : List Chip) (L : List Whole) (m : ℕ) (cs : List Chip) (ms ss : List ℕ) → Carrying n cs₀ L m cs ms ss
    → (count bits p : ℕ) (ds : List Chip) (xs ys : List ℕ) → lent ds xs ys ≡ lent_from m cs (run_on (bits_of count bits) (line_of m cs ms ss)).line → p ≡ m
    → Carrying n cs₀ (run_on (bits_of count bits) L).line p ds xs ys
carrying_byte n cs₀ L m cs ms ss g count bits p ds xs ys h q =
    let K = (run_on (bits_of count bits) L).line in
    record {
      number = q ∙ g.number;
      held = h ∙ ap (λ (M : List Whole). lent_from m cs (run_on (bits_of count bits) M).line) (carrying_line n cs₀ L m cs ms ss g)
          ∙ (λ j. lent (chips_of K ++ drop (g.number j) (g.held j).chips) (images_of K) (pads_of K))
          ∙ ap (λ (z : List Chip). lent (chips_of K ++ z) (images_of K) (pads_of K)) (drop_at (chips_of L) (drop n cs₀) n (length_chips L ∙ g.full));
      fitted = run_keeps AllFitted (λ b K f. map_fitted (act.Take (value_of b K)) K f) (bits_of count bits) L g.fitted;
      full = run_full (bits_of count bits) L ∙ g.full;
      few = g.few;
      places = g.places;
    }

-- ---- a run by its verdict

-- what a run that is not refused knows
pub record RunWell (n : ℕ) (cs : List Chip) (slots : ℕ) (bits answers ms ss : List ℕ) : Type 0 where
  pub fits : Fits n cs ms ss
  pub few : slots ≤ 65535
  pub bits_size : length bits ≡ bytes_asked slots
  pub answers_size : length answers ≡ bytes_asked slots

module _ (n : ℕ) (cs : List Chip) (slots : ℕ) (bits answers ms ss : List ℕ) where
  pub run_well : Ok tt ≡ run_verdict n cs slots bits answers ms ss → RunWell n cs slots bits answers ms ss
  unfolding run_verdict run_fits
  run_well h =
      let a = held (table_in_range n cs) _ OutOfRange h in
      let b = held (both (sizes_fit n cs ms ss) _) _ WrongSize a.1 in
      let c = both_holds (sizes_fit n cs ms ss) _ b.0 in
      let d = both_holds (leb slots 65535) _ c.1 in
      let e = both_holds (eqb (length bits) (bytes_asked slots)) _ d.1 in
      record {
        fits = fit n cs ms ss a.0 c.0;
        few = leb-true slots 65535 d.0;
        bits_size = eqb-true (length bits) (bytes_asked slots) e.0;
        answers_size = eqb-true (length answers) (bytes_asked slots) e.1;
      }

  -- as many slots are put on the line as were asked for
  all_put : RunWell n cs slots bits answers ms ss → (L : List Whole) → length (run_on (host_bits slots bits) L).bits ≡ slots
  all_put w L = let h = w.bits_size in run_length (host_bits slots bits) L ∙ host_many slots bits (omega arith)

  pub put_all : RunWell n cs slots bits answers ms ss → (out : List ℕ) (p : ℕ) (ds : List Chip) (xs ys : List ℕ)
      → out ≡ bytes_from (length answers) (run_on (host_bits slots bits) (line_of n cs ms ss)).bits → lent ds xs ys ≡ lent_from n cs (run_on (host_bits slots bits) (line_of n cs ms ss)).line → p ≡ n
      → run_outcome (put slots) out p (lent ds xs ys) ≡ run_by (Ok tt) n cs slots bits answers ms ss
  put_all w out p ds xs ys a h q = λ j. run_outcome (put (sym (all_put w (line_of n cs ms ss)) j)) (a j) (q j) (h j)

-- what a match of the code found, taken to what it matched
pub run_at : (n : ℕ) (cs : List Chip) (slots : ℕ) (bits answers ms ss : List ℕ) (q p : Result (Unit {0}) Refusal) (r : RunOutcome) → q ≡ p
    → r ≡ run_by p n cs slots bits answers ms ss → r ≡ run_by q n cs slots bits answers ms ss
run_at n cs slots bits answers ms ss = along (λ (k : Result (Unit {0}) Refusal). run_by k n cs slots bits answers ms ss)
