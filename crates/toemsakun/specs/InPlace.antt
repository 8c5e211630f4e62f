-- Laws: one chip of a line, as its record and its parts of the buffers lie in their places.
use Rattle.std.specs.Prelude.{ℕ, ◌+◌, ◌-◌, ◌*◌, ◌≤◌, Bool, List, [], ◌∷◌, ◌++◌, ◌≡◌, refl, length, take, drop}
use Rattle.std.proofs.Common.{arith, append_assoc, ◌∙◌, ap, sym, length-append, take_at, drop_at}
use Rattle.std.proofs.lemmas.List.{map-append, length-map}
use Rattle.chip.specs.Chip.{Whole, whole, takes_of, sends_of}
use Rattle.chip.specs.Kinds.{image_size, pad_size}
use Rattle.chip.specs.declared.Chip.{Chip}
use Rattle.line.specs.Layout.{chips_of, images_of, pads_of}
use Rattle.line.specs.Bridge.{act_at, act-at, bit_at, bit-at}
use Rattle.line.specs.Line.{act_of}
use Rattle.line.specs.Fitted.{Fitted, AllFitted, act_fitted}
use Rattle.line.specs.Named.{act_named}
use Rattle.line.specs.declared.Act.TheVariants as act
use Rattle.packed.specs.Packed.{record_size, packed, unpacked, packed_table}
use Rattle.packed.specs.Laws.{packed_length, table_length, unpacked_packed}
use Rattle.packed.specs.Filling.{table_append}
use Rattle.packed.specs.Sends.{sends_in}
use Rattle.packed.specs.SendsLaw.{sends_packed}
use Rattle.packed.specs.Takes.{Taken, taken, takes_in}
use Rattle.packed.specs.TakesLaw.{packed_taken, takes_packed}
use Rattle.toemsakun.specs.Held.{Held}

-- a slot leaves a chip's kind
pub takes_kind : (v : Bool) (w : Whole) → (takes_of v w).chip.kind ≡ w.chip.kind
takes_kind v w = (act_named (act.Take v) w).1

-- the buffers of two lines, one after the other
pub images_append : (P Q : List Whole) → images_of (P ++ Q) ≡ images_of P ++ images_of Q
images_append [] Q = refl
images_append (w ∷ P) Q = ap (λ (l : List ℕ). w.memory ++ l) (images_append P Q) ∙ sym (append_assoc w.memory (images_of P) (images_of Q))

pub pads_append : (P Q : List Whole) → pads_of (P ++ Q) ≡ pads_of P ++ pads_of Q
pads_append [] Q = refl
pads_append (w ∷ P) Q = ap (λ (l : List ℕ). w.pad ++ l) (pads_append P Q) ∙ sym (append_assoc w.pad (pads_of P) (pads_of Q))

pub fitted_there : (P : List Whole) (w : Whole) (Q : List Whole) → AllFitted (P ++ w ∷ Q) → Fitted w
fitted_there [] w Q (g, h) = g
fitted_there (u ∷ P) w Q (g, h) = fitted_there P w Q h

fitted_put : (P : List Whole) (w u : Whole) (Q : List Whole) → Fitted u → AllFitted (P ++ w ∷ Q) → AllFitted (P ++ u ∷ Q)
fitted_put [] w u Q k (g, h) = (k, h)
fitted_put (x ∷ P) w u Q k (g, h) = (g, fitted_put P w u Q k h)

-- the records of a line with a chip w after the chips P
records : (P : List Whole) (w : Whole) (Q : List Whole) → packed_table (chips_of (P ++ w ∷ Q)) ≡ packed_table (chips_of P) ++ (packed w.chip ++ packed_table (chips_of Q))
records P w Q = ap (λ (cs : List Chip). packed_table cs) (map-append (λ (x : Whole). x.chip) P (w ∷ Q)) ∙ table_append (chips_of P) (w.chip ∷ chips_of Q)

-- the record at place i of a table, as the code lends it
abbrev pub record_at : ℕ → List ℕ → List ℕ
record_at i bs = take (i * record_size + record_size - i * record_size) (drop (i * record_size) bs)

module _ (P : List Whole) (w : Whole) (Q : List Whole) (bs ms ss : List ℕ) (i image pad : ℕ) (h : Held (P ++ w ∷ Q) bs ms ss)
    (p : length P ≡ i) (m : length (images_of P) ≡ image) (s : length (pads_of P) ≡ pad) where
  bytes_are : bs ≡ packed_table (chips_of P) ++ (packed w.chip ++ packed_table (chips_of Q))
  bytes_are = h.table ∙ records P w Q

  before : length (packed_table (chips_of P)) ≡ i * record_size
  before = let k = table_length (chips_of P) in let l = length-map P (λ (x : Whole). x.chip) in omega arith

  one : i * record_size + record_size - i * record_size ≡ record_size
  one = omega arith

  from_there : drop (i * record_size) bs ≡ packed w.chip ++ packed_table (chips_of Q)
  from_there = ap (λ (l : List ℕ). drop (i * record_size) l) bytes_are ∙ drop_at (packed_table (chips_of P)) _ (i * record_size) before

  part_is : record_at i bs ≡ packed w.chip
  part_is = (λ j. take (one j) (from_there j)) ∙ take_at (packed w.chip) _ record_size (packed_length w.chip)

  pub kind_there : (kind : ℕ) → kind ≡ (unpacked (record_at i bs)).kind → kind ≡ w.chip.kind
  kind_there kind e = e ∙ ap (λ (l : List ℕ). (unpacked l).kind) part_is ∙ ap (λ (c : Chip). c.kind) (unpacked_packed w.chip)

  -- its parts of the buffers
  own : Fitted w
  own = fitted_there P w Q h.fitted

  images_are : ms ≡ images_of P ++ (w.memory ++ images_of Q)
  images_are = h.images ∙ images_append P (w ∷ Q)

  pads_are : ss ≡ pads_of P ++ (w.pad ++ pads_of Q)
  pads_are = h.pads ∙ pads_append P (w ∷ Q)

  image_room : image_size w.chip.kind ≤ length (w.memory ++ images_of Q)
  image_room = let k = own.memory in simp length-append (omega arith)

  pad_room : pad_size w.chip.kind ≤ length (w.pad ++ pads_of Q)
  pad_room = let k = own.pad in simp length-append (omega arith)

  pub image_fits : image + image_size w.chip.kind ≤ length ms
  image_fits =
      let k = ap (λ (l : List ℕ). length l) images_are ∙ length-append (images_of P) (w.memory ++ images_of Q) in
      let r = image_room in
      omega arith

  pub pad_fits : pad + pad_size w.chip.kind ≤ length ss
  pad_fits =
      let k = ap (λ (l : List ℕ). length l) pads_are ∙ length-append (pads_of P) (w.pad ++ pads_of Q) in
      let r = pad_room in
      omega arith

  own_memory : take (image_size w.chip.kind) (w.memory ++ images_of Q) ≡ w.memory
  own_memory = take_at w.memory (images_of Q) (image_size w.chip.kind) own.memory

  own_pad : take (pad_size w.chip.kind) (w.pad ++ pads_of Q) ≡ w.pad
  own_pad = take_at w.pad (pads_of Q) (pad_size w.chip.kind) own.pad

  -- what it sends
  pub sends_there : (bit : Bool) → bit ≡ sends_in image pad (record_at i bs) ms ss → bit ≡ sends_of w
  sends_there bit e =
      e ∙ ap (λ (l : List ℕ). sends_in image pad l ms ss) part_is
      ∙ sends_packed image pad w.chip ms ss image_fits pad_fits
      ∙ (λ j. bit_at w.chip image pad (images_are j) (pads_are j))
      ∙ bit-at w.chip image pad (images_of P) (w.memory ++ images_of Q) (pads_of P) (w.pad ++ pads_of Q) m s image_room pad_room
      ∙ (λ j. sends_of (whole w.chip (own_memory j) (own_pad j)))

  -- the line after a slot of the value v on it
  module _ (v : Bool) (x ms' ss' : List ℕ) (e : taken x ms' ss' ≡ takes_in v image pad (record_at i bs) ms ss) where
    abbrev u : Whole
    u = takes_of v w

    taken_is : taken x ms' ss' ≡ taken (packed u.chip) (images_of P ++ (u.memory ++ images_of Q)) (pads_of P ++ (u.pad ++ pads_of Q))
    taken_is =
        e ∙ ap (λ (l : List ℕ). takes_in v image pad l ms ss) part_is
        ∙ takes_packed v image pad w.chip ms ss image_fits pad_fits
        ∙ ap packed_taken
        ((λ j. act_at (act_of (act.Take v)) w.chip image pad (images_are j) (pads_are j))
        ∙ act-at (act_of (act.Take v)) w.chip image pad (images_of P) (w.memory ++ images_of Q) (pads_of P) (w.pad ++ pads_of Q) m s image_room pad_room
        ∙ (λ j. let y = takes_of v (whole w.chip (own_memory j) (own_pad j)) in
        whole y.chip (images_of P ++ (y.memory ++ drop_at w.memory (images_of Q) (image_size w.chip.kind) own.memory j))
        (pads_of P ++ (y.pad ++ drop_at w.pad (pads_of Q) (pad_size w.chip.kind) own.pad j))))

    pub held_there : Held (P ++ u ∷ Q) (take (i * record_size) bs ++ (x ++ drop (i * record_size + record_size - i * record_size) (drop (i * record_size) bs))) ms' ss'
    held_there =
        record {
          few = let f = h.few in let k = length-append P (w ∷ Q) in let l = length-append P (u ∷ Q) in omega arith;
          fitted = fitted_put P w u Q (act_fitted (act.Take v) w own) h.fitted;
          table = (λ j. (ap (λ (l : List ℕ). take (i * record_size) l) bytes_are ∙ take_at (packed_table (chips_of P)) _ (i * record_size) before) j
              ++ ((taken_is j).bytes ++ ((λ k. drop (one k) (from_there k)) ∙ drop_at (packed w.chip) _ record_size (packed_length w.chip)) j))
              ∙ sym (records P u Q);
          images = ap (λ (t : Taken). t.images) taken_is ∙ sym (images_append P (u ∷ Q));
          pads = ap (λ (t : Taken). t.pads) taken_is ∙ sym (pads_append P (u ∷ Q));
        }
