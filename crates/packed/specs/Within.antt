-- Laws: a slot on a chip whose parts lie in the buffers.
use Rattle.std.specs.Prelude.{ℕ, ◌+◌, ◌≤◌, Bool, List, ◌++◌, ◌≡◌, leb, length, take, drop}
use Rattle.std.proofs.Common.{◌∙◌, take-append-drop, le-leb}
use Rattle.std.proofs.Math.Path.{ap}
use Rattle.base.specs.Pick.{pick_true}
use Rattle.chip.specs.Chip.{Whole, whole, left, chip_map, level_takes_by, level_seen, takes_of}
use Rattle.chip.specs.Kinds.{image_size, pad_size}
use Rattle.chip.specs.declared.Chip.{Chip}
use Rattle.chip.specs.declared.ChipAfter.{ChipAfter}
use Rattle.scratchpad.specs.declared.Deed.TheVariants as deed
use Rattle.memory.specs.Memory.{done}
use Rattle.line.specs.Bridge.{part_of, put_part, whole_at, choose, act_within, act_at}
use Rattle.line.specs.Line.{act_of}
use Rattle.line.specs.declared.Act.TheVariants as act

-- a part put back in its place
pub back : (l : List ℕ) (at n : ℕ) → put_part l at n (part_of l at n) ≡ l
back l at n = ap (λ (x : List ℕ). take at l ++ x) (take-append-drop n (drop at l)) ∙ take-append-drop at l

module _ (v : Bool) (image pad : ℕ) (c : Chip) (ms ss : List ℕ) where
  -- where a slot leaves the chip, by what it sees of its parts
  abbrev pub leaves : ChipAfter
  leaves = level_takes_by c v (level_seen (whole_at c image pad ms ss) c.level) c.level

  -- the chip and the buffers, once the deed is done
  abbrev pub within : ChipAfter → Whole
  within t =
      let b = done (chip_map c) (part_of ms image (image_size c.kind)) (part_of ss pad (pad_size c.kind)) t.deed in
      whole t.chip (put_part ms image (image_size c.kind) b.memory) (put_part ss pad (pad_size c.kind) b.pad)

  -- nothing is done
  pub within_still : (d : Chip) → within (left d deed.Nothing) ≡ whole d ms ss
  within_still d = λ j. whole d (back ms image (image_size c.kind) j) (back ss pad (pad_size c.kind) j)

  module _ (h : image + image_size c.kind ≤ length ms) (k : pad + pad_size c.kind ≤ length ss) where
    lie : {X : Type 0} (a b : X) → choose c image pad ms ss a b ≡ a
    lie a b =
        pick_true (leb (image + image_size c.kind) (length ms)) _ _ (le-leb (image + image_size c.kind) (length ms) h)
        ∙ pick_true (leb (pad + pad_size c.kind) (length ss)) _ _ (le-leb (pad + pad_size c.kind) (length ss) k)

    pub act_is : (t : ChipAfter) → leaves ≡ t → act_at (act_of (act.Take v)) c image pad ms ss ≡ within t
    unfolding act_at act_within takes_of
    act_is t e = lie _ _ ∙ ap within e

    pub act_still : (d : Chip) → leaves ≡ left d deed.Nothing → act_at (act_of (act.Take v)) c image pad ms ss ≡ whole d ms ss
    act_still d e = act_is (left d deed.Nothing) e ∙ within_still d
