-- Laws: the loop over the records of a table, by which each is judged and all are surveyed.
use Rattle.std.specs.Prelude.{ℕ, zero, suc, ◌+◌, ◌-◌, ◌*◌, ◌/◌, ◌<◌, ◌≤◌, Bool, true, false, ◌≡◌, refl, eqb, length, take, drop, get_or}
use Rattle.std.proofs.Common.{arith, zero-add, ◌∙◌, sym, drop-drop}
use mathlib.Core.List.{List, [], ◌∷◌}
use Rattle.std.proofs.Math.Path.{ap}
use Rattle.std.proofs.Math.ListN.{get_or-eq_default}
use Rattle.base.specs.Pick.{pick}
use Rattle.base.specs.Bits.{both}
use Rattle.base.specs.Both.{both_true, true_both}
use Rattle.base.specs.Bytes.{same_bytes}
use Rattle.chip.specs.Kinds.{image_most, pad_most, image_size, pad_size}
use Rattle.chip.specs.Limits.{image_small, pad_small}
use Rattle.chip.specs.Range.{in_range}
use Rattle.chip.specs.With.{no_chip}
use Rattle.chip.specs.declared.Chip.{Chip}
use Rattle.line.specs.Event.{all_in_range}
use Rattle.line.specs.Layout.{images_size, pads_size}
use Rattle.line.specs.declared.Survey.{Survey}
use Rattle.packed.specs.Packed.{record_size, packed, unpacked, is_record, packed_table, unpacked_from, unpacked_table, is_table}
use Rattle.packed.specs.Judged.{stands}
use Rattle.packed.specs.Laws.{from_length}
use Rattle.packed.specs.Filling.{one-chip, one_judged, rest_none}

-- the chips of the records from i on
abbrev pub chips_from : ℕ → ℕ → List ℕ → List Chip
chips_from n i bs = unpacked_from (n - i) (drop (i * record_size) bs)

-- bytes are the records of chips whose fields lie in their ranges
abbrev pub stand_as : List Chip → List ℕ → Bool
stand_as cs bs = both (same_bytes (packed_table cs) bs) (all_in_range cs)

-- what a survey finds of chips whose fields lie in their ranges
abbrev pub survey_of : ℕ → List Chip → Survey
survey_of chip cs = record { within = true; kind = (get_or cs chip no_chip).kind; spot = record { place = length cs; image = images_size cs; pad = pads_size cs } }

-- where the loop stands after i records: whether each stands, and the sizes that they ask
pub record Judging (n : ℕ) (bs : List ℕ) (i : ℕ) (ok : Bool) (image pad : ℕ) : Type 0 where
  pub judged : both ok (stand_as (chips_from n i bs) (drop (i * record_size) bs)) ≡ stand_as (unpacked_from n bs) bs
  pub images : image + images_size (chips_from n i bs) ≡ images_size (unpacked_from n bs)
  pub pads : pad + pads_size (chips_from n i bs) ≡ pads_size (unpacked_from n bs)
  pub image_room : image ≤ i * image_most
  pub pad_room : pad ≤ i * pad_most
  pub within : i ≤ n
  pub few : n ≤ 16
  pub room : n * record_size ≤ length bs

pub judging_start : (n : ℕ) (bs : List ℕ) → n ≤ 16 → n * record_size ≤ length bs → Judging n bs 0 true 0 0
judging_start n bs f r =
    let z : n - 0 ≡ n = omega arith in
    record {
      judged = rw z (true_both (stand_as (unpacked_from n bs) bs));
      images = rw z (zero-add (images_size (unpacked_from n bs)));
      pads = rw z (zero-add (pads_size (unpacked_from n bs)));
      image_room = omega arith;
      pad_room = omega arith;
      within = omega arith;
      few = f;
      room = r;
    }

-- a record is judged by itself, its bytes and its fields at once
both_across : (o r s a b : Bool) → both (both o (both r a)) (both s b) ≡ both o (both (both r s) (both a b))
unfolding both pick
both_across false r s a b = refl
both_across true false s a b = refl
both_across true true s true b = refl
both_across true true true false b = refl
both_across true true false false b = refl

-- two tests, one after the other
pub pick_and : {A : Type 0} (t r : Bool) (a b : A) → pick (both t r) a b ≡ pick t (pick r a b) b
unfolding both pick
pick_and true r a b = refl
pick_and false r a b = refl

stands_is : (bs : List ℕ) (good : Bool) → good ≡ stands bs → good ≡ both (same_bytes (packed (unpacked bs)) bs) (in_range (unpacked bs))
unfolding stands is_record
stands_is bs good e = e

module _ (n : ℕ) (bs : List ℕ) (i : ℕ) (ok : Bool) (image pad : ℕ) (g : Judging n bs i ok image pad) where
  abbrev part : List ℕ
  part = take (i * record_size + record_size - i * record_size) (drop (i * record_size) bs)

  pub judging_next : (good w : Bool) (kind size room : ℕ) → i < n → good ≡ stands part → w ≡ both ok good → kind ≡ (unpacked part).kind → size ≡ image_size kind → room ≡ pad_size kind
      → Judging n bs (i + 1) w (image + size) (pad + room)
  judging_next good w kind size room h f k e x y =
      let c = unpacked part in
      let D' = drop ((i + 1) * record_size) bs in
      let U' = chips_from n (i + 1) bs in
      let same = same_bytes (packed c) part in
      let one : chips_from n i bs ≡ c ∷ U' = one-chip n bs i c same h g.room refl refl in
      let judged = one_judged n bs i c same h g.room refl refl in
      let sized : size ≡ image_size c.kind = x ∙ ap image_size e in
      let roomy : room ≡ pad_size c.kind = y ∙ ap pad_size e in
      let images = sym (ap images_size one) in
      let pads = sym (ap pads_size one) in
      let images_left = g.images in
      let pads_left = g.pads in
      let image_room = g.image_room in
      let pad_room = g.pad_room in
      let most = image_small c.kind in
      let most_room = pad_small c.kind in
      record {
        judged = ap (λ (b : Bool). both b (stand_as U' D')) (k ∙ ap (both ok) (stands_is part good f))
            ∙ both_across ok same (same_bytes (packed_table U') D') (in_range c) (all_in_range U')
            ∙ (λ j. both ok (both (sym judged j) (all_in_range (sym one j))))
            ∙ g.judged;
        images = omega arith;
        pads = omega arith;
        image_room = omega arith;
        pad_room = omega arith;
        within = omega arith;
        few = g.few;
        room = g.room;
      }

  -- what the loop leaves
  module _ (h : n ≤ i) where
    at-end : i ≡ n
    at-end = let w = g.within in omega arith

    none_left : chips_from n i bs ≡ []
    none_left = let z : n - i ≡ 0 = omega arith in ap (λ (x : ℕ). unpacked_from x (drop (i * record_size) bs)) z

    pub judging_end : both ok (eqb (length bs) (n * record_size)) ≡ stand_as (unpacked_from n bs) bs
    judging_end =
        ap (both ok) (sym (rest_none (n * record_size) bs g.room) ∙ sym (both_true (same_bytes [] (drop (n * record_size) bs))))
        ∙ (λ j. both ok (stand_as (sym none_left j) (drop (sym at-end j * record_size) bs)))
        ∙ g.judged

    pub survey_end : (chip kind : ℕ) → kind ≡ (get_or (unpacked_from n bs) chip no_chip).kind
        → ◌≡◌ {A = Survey} (record { within = true; kind = kind; spot = record { place = n; image = image; pad = pad } }) (survey_of chip (unpacked_from n bs))
    survey_end chip kind e =
        let images : image ≡ images_size (unpacked_from n bs) = let a = ap images_size none_left in let b = g.images in omega arith in
        let pads : pad ≡ pads_size (unpacked_from n bs) = let a = ap pads_size none_left in let b = g.pads in omega arith in
        λ j. record { within = true; kind = e j; spot = record { place = sym (from_length n bs) j; image = images j; pad = pads j } }

-- the chip at a place of n records
from_at : (n k : ℕ) (bs : List ℕ) → k < n → get_or (unpacked_from n bs) k no_chip ≡ unpacked (take record_size (drop (k * record_size) bs))
from_at zero k bs h = absurd (omega arith)
from_at (suc n) zero bs h = refl
from_at (suc n) (suc k) bs h =
    let a : record_size + k * record_size ≡ suc k * record_size = omega arith in
    from_at n k (drop record_size bs) (omega arith) ∙ ap (λ (l : List ℕ). unpacked (take record_size l)) (drop-drop (k * record_size) record_size bs ∙ ap (λ (x : ℕ). drop x bs) a)

pub kind_there : (n k : ℕ) (bs : List ℕ) (kind : ℕ) → k < n → kind ≡ (unpacked (take (k * record_size + record_size - k * record_size) (drop (k * record_size) bs))).kind
    → kind ≡ (get_or (unpacked_from n bs) k no_chip).kind
kind_there n k bs kind h e =
    let z : k * record_size + record_size - k * record_size ≡ record_size = omega arith in
    e ∙ ap (λ (x : ℕ). (unpacked (take x (drop (k * record_size) bs))).kind) z ∙ ap (λ (c : Chip). c.kind) (sym (from_at n k bs h))

pub kind_absent : (n k : ℕ) (bs : List ℕ) → n ≤ k → 0 ≡ (get_or (unpacked_from n bs) k no_chip).kind
kind_absent n k bs h = let l = from_length n bs in ap (λ (c : Chip). c.kind) (sym (get_or-eq_default (unpacked_from n bs) no_chip {n = k} (omega arith)))

-- the chips of all the records that bytes have
module _ (bs : List ℕ) (n : ℕ) (q : n ≡ length bs / record_size) where
  pub chips_are : unpacked_from n bs ≡ unpacked_table bs
  unfolding unpacked_table
  chips_are = ap (λ (k : ℕ). unpacked_from k bs) q

  pub chips_count : n ≡ length (unpacked_table bs)
  chips_count = sym (from_length n bs) ∙ ap (λ (x : List Chip). length x) chips_are

  -- bytes are a table of chips whose fields lie in their ranges, as the loop found
  pub whole_is : (ok whole : Bool) → both ok (eqb (length bs) (n * record_size)) ≡ stand_as (unpacked_from n bs) bs → whole ≡ both ok (eqb (length bs) (n * record_size))
      → whole ≡ both (is_table bs) (all_in_range (unpacked_table bs))
  unfolding is_table
  whole_is ok whole j w = w ∙ j ∙ ap (λ (x : List Chip). stand_as x bs) chips_are
