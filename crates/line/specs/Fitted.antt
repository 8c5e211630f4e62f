-- Laws: a line each of whose chips has the memory and the scratchpad that its kind asks for, and the table and buffers that hold it.
use Rattle.std.specs.Prelude.{ℕ, suc, List, [], ◌∷◌, map, ◌≡◌, refl, length, drop}
use Rattle.std.proofs.Common.{arith, ◌∙◌, ap, sym, length-append, length-drop, take_at, drop_at, length-take-le}
use Rattle.chip.specs.Chip.{Whole}
use Rattle.chip.specs.Kinds.{image_size, pad_size}
use Rattle.chip.specs.declared.Chip.{Chip}
use Rattle.line.specs.Line.{act_of}
use Rattle.line.specs.Layout.{images_size, pads_size, split, chips_of, images_of, pads_of}
use Rattle.line.specs.Named.{act_named}
use Rattle.line.specs.Sizes.{act_sized}
use Rattle.line.specs.declared.Act.{Act}

-- a chip has the memory and the scratchpad that its kind asks for
pub record Fitted (w : Whole) : Type 0 where
  pub memory : length w.memory ≡ image_size w.chip.kind
  pub pad : length w.pad ≡ pad_size w.chip.kind

abbrev pub AllFitted : List Whole → Type 0
AllFitted [] = Unit
AllFitted (w ∷ L) = Fitted w × AllFitted L

pub act_fitted : (a : Act) (w : Whole) → Fitted w → Fitted (act_of a w)
act_fitted a w f =
    let n = act_named a w in
    let s = act_sized a w in
    record { memory = s.0 ∙ f.memory ∙ ap image_size (sym n.1); pad = s.1 ∙ f.pad ∙ ap pad_size (sym n.1) }

pub map_fitted : (a : Act) (L : List Whole) → AllFitted L → AllFitted (map (act_of a) L)
map_fitted a [] f = tt
map_fitted a (w ∷ L) (f, g) = (act_fitted a w f, map_fitted a L g)

-- buffers of the sizes that a table asks are such a line
pub split_fitted : (cs : List Chip) (ms ss : List ℕ) → length ms ≡ images_size cs → length ss ≡ pads_size cs → AllFitted (split cs ms ss)
split_fitted [] ms ss b t = tt
split_fitted (c ∷ cs) ms ss b t = (
  record { memory = length-take-le (image_size c.kind) ms (omega arith); pad = length-take-le (pad_size c.kind) ss (omega arith) },
  split_fitted cs (drop (image_size c.kind) ms) (drop (pad_size c.kind) ss) (simp length-drop (omega arith)) (simp length-drop (omega arith)),
)

-- what such a line asks for
pub length_chips : (L : List Whole) → length (chips_of L) ≡ length L
length_chips [] = refl
length_chips (w ∷ L) = ap suc (length_chips L)

pub images_length : (L : List Whole) → AllFitted L → length (images_of L) ≡ images_size (chips_of L)
images_length [] f = refl
images_length (w ∷ L) (f, g) = let a = images_length L g in let b = f.memory in simp length-append (omega arith)

pub pads_length : (L : List Whole) → AllFitted L → length (pads_of L) ≡ pads_size (chips_of L)
pads_length [] f = refl
pads_length (w ∷ L) (f, g) = let a = pads_length L g in let b = f.pad in simp length-append (omega arith)

-- it is found again in its table and buffers
pub split_joined : (L : List Whole) → AllFitted L → split (chips_of L) (images_of L) (pads_of L) ≡ L
split_joined [] f = refl
split_joined (w ∷ L) (f, g) =
    (simp (
      take_at w.memory (images_of L) (image_size w.chip.kind) f.memory,
      take_at w.pad (pads_of L) (pad_size w.chip.kind) f.pad,
      drop_at w.memory (images_of L) (image_size w.chip.kind) f.memory,
      drop_at w.pad (pads_of L) (pad_size w.chip.kind) f.pad,
    ))
    ∙ ap (λ (k : List Whole). w ∷ k) (split_joined L g)
