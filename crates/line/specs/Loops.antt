-- Laws: what the loops of the code cite, a turn and the end of each.
use Rattle.std.specs.Prelude.{ℕ, ◌+◌, ◌-◌, ◌<◌, ◌≤◌, Bool, true, false, List, ◌≡◌, leb}
use Rattle.std.proofs.Common.{arith, sym, le-leb}
use Rattle.std.proofs.Math.Nat.{add-sub_cancel_left}
use Rattle.std.proofs.lemmas.Bool.{lt-leb}
use Rattle.base.specs.Along.{along}
use Rattle.chip.specs.Chip.{Whole, whole, sends_of}
use Rattle.chip.specs.Kinds.{image_size, pad_size}
use Rattle.chip.specs.declared.Chip.{Chip}
use Rattle.line.specs.declared.Act.{Act}
use Rattle.line.specs.Line.{act_of}
use Rattle.line.specs.Bridge.{part_of, put_part, act_within}

-- where a part of a size at an offset lies
pub lies_in : (at size bytes : ℕ) → at ≤ bytes → size ≤ bytes - at → true ≡ leb (at + size) bytes
lies_in at size bytes h k = sym (le-leb (at + size) bytes (omega arith))

pub lies_past : (at size bytes : ℕ) → at ≤ bytes → bytes - at < size → false ≡ leb (at + size) bytes
lies_past at size bytes h k = sym (lt-leb (at + size) bytes (omega arith))

pub begins_past : (at size bytes : ℕ) → bytes < at → false ≡ leb (at + size) bytes
begins_past at size bytes h = sym (lt-leb (at + size) bytes (omega arith))

-- parts lent as `image .. image + size` come back
pub parts_back : (f : Whole → Whole) (c : Chip) (image pad size room : ℕ) (ms ss : List ℕ) (r : Chip) (x y : List ℕ) → size ≡ image_size c.kind → room ≡ pad_size c.kind
    → whole r x y ≡ f (whole c (part_of ms image (image + size - image)) (part_of ss pad (pad + room - pad)))
    → whole r (put_part ms image (image + size - image) x) (put_part ss pad (pad + room - pad) y) ≡ act_within f c image pad ms ss
unfolding act_within
parts_back f c image pad size room ms ss r x y p q h =
    let k : whole r x y ≡ f (whole c (part_of ms image (image_size c.kind)) (part_of ss pad (pad_size c.kind))) = simp (add-sub_cancel_left, p, q) at h in
    simp (add-sub_cancel_left, ← k, p, q)

-- the same for what is sent
pub parts_bit : (c : Chip) (image pad size room : ℕ) (ms ss : List ℕ) (r : Bool) → size ≡ image_size c.kind → room ≡ pad_size c.kind
    → r ≡ sends_of (whole c (part_of ms image (image + size - image)) (part_of ss pad (pad + room - pad)))
    → r ≡ sends_of (whole c (part_of ms image (image_size c.kind)) (part_of ss pad (pad_size c.kind)))
parts_bit c image pad size room ms ss r p q h = simp (add-sub_cancel_left, p, q) at h

-- what a chip does, taken at the act that a match found
pub acted_at : (w : Whole) (q p : Act) (r : Whole) → q ≡ p → r ≡ act_of p w → r ≡ act_of q w
acted_at w q p r = along (λ (k : Act). act_of k w) q p r
