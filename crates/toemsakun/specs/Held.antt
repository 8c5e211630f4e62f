-- Laws: a line of whole chips as it lies in a table's bytes and in its buffers.
use Rattle.std.specs.Prelude.{ℕ, ◌*◌, ◌≤◌, List, ◌≡◌, length, take}
use Rattle.std.proofs.Common.{arith, ◌∙◌, ap, sym}
use Rattle.std.proofs.lemmas.List.{length-map}
use Rattle.std.proofs.Math.Seq.{take-length}
use Rattle.chip.specs.Chip.{Whole}
use Rattle.chip.specs.declared.Chip.{Chip}
use Rattle.line.specs.Layout.{images_size, pads_size, split, chips_of, images_of, pads_of}
use Rattle.line.specs.Fitted.{AllFitted, split_fitted, images_length, pads_length, split_joined}
use Rattle.line.specs.Refusals.{chips_split, images_split, pads_split}
use Rattle.line.specs.Prefix.{length_split}
use Rattle.packed.specs.Packed.{record_size, packed_table, unpacked_table}
use Rattle.packed.specs.Laws.{table_length, unpacked-table}
use Rattle.toemsakun.specs.Slots.{Lined, line_in}

-- a line lies in bytes and buffers
pub record Held (L : List Whole) (bs ms ss : List ℕ) : Type 0 where
  pub few : length L ≤ 16
  pub fitted : AllFitted L
  pub table : bs ≡ packed_table (chips_of L)
  pub images : ms ≡ images_of L
  pub pads : ss ≡ pads_of L

-- the line that bytes and buffers hold lies in them
module _ (bs ms ss : List ℕ) where
  all_places : take (length (unpacked_table bs)) (unpacked_table bs) ≡ unpacked_table bs
  all_places = take-length (unpacked_table bs)

  pub line_chips : chips_of (line_in bs ms ss) ≡ unpacked_table bs
  line_chips = chips_split _ ms ss ∙ all_places

  pub lined_held : Lined bs ms ss → Held (line_in bs ms ss) bs ms ss
  lined_held h =
      let f = h.fits in
      let k = length_split (take (length (unpacked_table bs)) (unpacked_table bs)) ms ss ∙ ap (λ (cs : List Chip). length cs) all_places in
      let few = f.few in
      record {
        few = omega arith;
        fitted = split_fitted (take (length (unpacked_table bs)) (unpacked_table bs)) ms ss f.images f.pads;
        table = sym h.table.packs ∙ ap (λ (cs : List Chip). packed_table cs) (sym line_chips);
        images = sym (images_split (take (length (unpacked_table bs)) (unpacked_table bs)) ms ss f.images);
        pads = sym (pads_split (take (length (unpacked_table bs)) (unpacked_table bs)) ms ss f.pads);
      }

-- and a line that lies in them is the one that they hold
module _ (L : List Whole) (bs ms ss : List ℕ) (h : Held L bs ms ss) where
  pub held_chips : unpacked_table bs ≡ chips_of L
  held_chips = ap (λ (l : List ℕ). unpacked_table l) h.table ∙ unpacked-table (chips_of L)

  places : take (length (unpacked_table bs)) (unpacked_table bs) ≡ chips_of L
  places = take-length (unpacked_table bs) ∙ held_chips

  pub held_count : length (unpacked_table bs) ≡ length L
  held_count = ap (λ (cs : List Chip). length cs) held_chips ∙ length-map L _

  pub held_size : length bs ≡ length L * record_size
  held_size =
      let k = ap (λ (l : List ℕ). length l) h.table ∙ table_length (chips_of L) in
      let m = length-map L (λ (w : Whole). w.chip) in
      omega arith

  pub held_lined : Lined bs ms ss
  held_lined =
      let k = held_count in
      let few = h.few in
      record {
        table = record { few = omega arith; packs = ap (λ (cs : List Chip). packed_table cs) held_chips ∙ sym h.table };
        fits = record {
          few = omega arith;
          images = ap (λ (l : List ℕ). length l) h.images ∙ images_length L h.fitted ∙ ap (λ (cs : List Chip). images_size cs) (sym places);
          pads = ap (λ (l : List ℕ). length l) h.pads ∙ pads_length L h.fitted ∙ ap (λ (cs : List Chip). pads_size cs) (sym places);
        };
      }

  pub held_line : line_in bs ms ss ≡ L
  held_line = (λ j. split (places j) (h.images j) (h.pads j)) ∙ split_joined L h.fitted
