-- Form: a slot on a record's bytes, changed in their place, by the step that they name in include/toemsakun.h's table of steps.
use Rattle.std.specs.Prelude.{ℕ, ◌+◌, ◌/◌, ◌%◌, Bool, List, eqb, ltb, get_or, set}
use Rattle.base.specs.Pick.{pick}
use Rattle.base.specs.Bits.{bit_of, same, filled}
use Rattle.base.specs.Parts.{part_byte, put_in_part}
use Rattle.crc.specs.Crc.{poly16, crc_byte}
use Rattle.records.specs.Numbers.{number_at}
use Rattle.scratchpad.specs.Map.{Map, rule_by}
use Rattle.scratchpad.specs.Registers.{with_e}
use Rattle.scratchpad.specs.Scratchpad.{in_page}
use Rattle.memory.specs.Part.{map_of}
use Rattle.chip.specs.Kinds.{part_of, image_size, pad_size}
use Rattle.line.specs.Bridge.{act_at}
use Rattle.line.specs.Line.{act_of}
use Rattle.line.specs.declared.Act.TheVariants as act
use Rattle.packed.specs.Packed.{unpacked, put_record}
use Rattle.packed.specs.declared.Shape.{Shape}
use Rattle.packed.specs.declared.Shape.TheVariants.{Still, Count, Byte, Word, Code, Data, Pad, Memory, Any}

-- what a slot leaves: the record's bytes, the images and the scratchpads
pub record Taken : Type 0 where
  pub bytes : List ℕ
  pub images : List ℕ
  pub pads : List ℕ

abbrev pub taken : List ℕ → List ℕ → List ℕ → Taken
taken bs ms ss = record { bytes = bs; images = ms; pads = ss }

-- the shape of each step: what a slot does to its w, a, b and c; a number that is no step goes the general way too
unfoldable pub shape_of : ℕ → Shape
shape_of number =
    pick (eqb number 0) Still
    (pick (eqb number 1) Byte
    (pick (eqb number 2) (Count 63)
    (pick (eqb number 3) Code
    (pick (eqb number 5) Byte
    (pick (eqb number 16) Still
    (pick (eqb number 17) Word
    (pick (eqb number 18) Data
    (pick (eqb number 19) (Count 15)
    (pick (eqb number 20) (Count 23)
    (pick (eqb number 21) Pad
    (pick (eqb number 22) Word
    (pick (eqb number 23) Byte
    (pick (eqb number 25) Word
    (pick (eqb number 26) Memory
    (pick (eqb number 32) Still
    (pick (eqb number 33) (Count 7)
    (pick (eqb number 34) Word
    (pick (eqb number 35) (Count 7)
    (pick (eqb number 36) (Count 7)
    Any)))))))))))))))))))

-- the bit v enters the byte at a place, and the byte at counter is the new count
unfoldable pub filled_at : ℕ → ℕ → ℕ → Bool → List ℕ → List ℕ
filled_at counter count place v bs = set (set bs counter count) place (filled 0x80 (get_or bs place 0) v)

-- the bit v enters w, and a is the new count
unfoldable pub word_filled : ℕ → Bool → List ℕ → List ℕ
word_filled count v bs =
    let w : ℕ = filled 0x8000 (number_at bs 16 2) v in
    set (set (set bs 16 (w % 256)) 17 (w / 256)) 18 count

-- the bit v is the code's at a place
unfoldable pub of_code : ℕ → Bool → List ℕ → Bool
of_code place v bs = same (bit_of (number_at bs 0 8) place) v

-- a step put in its place, with b and c 0
unfoldable pub put_step : ℕ → ℕ → ℕ → List ℕ → List ℕ
put_step number w a bs = set (set (set (set (set (set bs 15 number) 16 (w % 256)) 17 (w / 256)) 18 a) 19 0) 20 0

-- after a byte of the scratchpad, taken or sent: the same step at the next offset, or after the last the CRC-16
unfoldable pub offset_next : ℕ → ℕ → ℕ → ℕ → List ℕ → List ℕ
offset_next number offset last crc bs = pick (ltb offset last) (put_step number crc (offset + 1) bs) (put_step 19 crc 0 bs)

-- after a byte of the memory that was sent: the next address, or after the last ones
unfoldable pub address_next : ℕ → ℕ → List ℕ → List ℕ
address_next address last bs = pick (ltb address last) (put_step 26 (address + 1) 0 bs) (put_step 16 0 0 bs)

-- the map of the part that the bytes name
abbrev pub map_at : List ℕ → Map
map_at bs = map_of (part_of (get_or bs 8 0))

-- a byte of the memory that is sent: a counts its bits, and w is its address
unfoldable pub memory_end : List ℕ → List ℕ
memory_end bs = address_next (number_at bs 16 2) (map_at bs).last bs

unfoldable pub memory_out : List ℕ → List ℕ
memory_out bs = pick (ltb (get_or bs 18 0) 7) (set bs 18 (get_or bs 18 0 + 1)) (memory_end bs)

-- a byte of the scratchpad that is sent: b counts its bits, a is its offset, and w the CRC-16 of what was sent
unfoldable pub pad_end : ℕ → List ℕ → List ℕ → List ℕ
pad_end pad bs ss =
    let byte : ℕ = part_byte ss pad (pad_size (get_or bs 8 0)) (get_or bs 18 0) in
    offset_next 21 (get_or bs 18 0) ((map_at bs).end (get_or bs 12 0)) (crc_byte poly16 (number_at bs 16 2) byte) bs

unfoldable pub pad_out : ℕ → List ℕ → List ℕ → List ℕ
pad_out pad bs ss = pick (ltb (get_or bs 19 0) 7) (set bs 19 (get_or bs 19 0 + 1)) (pad_end pad bs ss)

-- a byte that was sent to an offset of T's page, through the rule of a byte
unfoldable pub ruled_in : ℕ → ℕ → ℕ → List ℕ → List ℕ → ℕ
ruled_in image offset sent bs ms =
    let a : ℕ = in_page (number_at bs 10 2) offset in
    let size : ℕ = image_size (get_or bs 8 0) in
    rule_by (map_at bs) a (part_byte ms image size a) (part_byte ms image size ((map_at bs).control a)) sent

-- a data byte that was taken whole, a its offset, and w the CRC-16 of those before: it goes through the rule of a byte into the
-- scratchpad, and E is its offset
unfoldable pub whole_in : ℕ → ℕ → ℕ → List ℕ → List ℕ → List ℕ → Taken
whole_in image pad sent bs ms ss =
    let offset : ℕ = get_or bs 18 0 in
    taken (offset_next 18 offset 31 (crc_byte poly16 (number_at bs 16 2) sent) (set bs 12 (with_e (get_or bs 12 0) offset))) ms
    (put_in_part ss pad (pad_size (get_or bs 8 0)) offset (ruled_in image offset sent bs ms))

-- a slot of the value v on the bytes bs, the chip's parts of the buffers ms and ss beginning at image and pad
module _ (v : Bool) (image pad : ℕ) (bs ms ss : List ℕ) where
  -- any slot: what it does to the chip that the bytes stand for, packed again
  unfoldable pub any_in : Taken
  any_in =
      let x = act_at (act_of (act.Take v)) (unpacked bs) image pad ms ss in
      taken (put_record x.chip bs) x.memory x.pad

  -- a is counted, up to a last place
  unfoldable pub count_in : ℕ → Taken
  count_in last = pick (ltb (get_or bs 18 0) last) (taken (set bs 18 (get_or bs 18 0 + 1)) ms ss) any_in

  -- a byte: a counts its bits, which enter b
  unfoldable pub byte_in : Taken
  byte_in = pick (ltb (get_or bs 18 0) 7) (taken (filled_at 18 (get_or bs 18 0 + 1) 19 v bs) ms ss) any_in

  -- two bytes: a counts their bits, which enter w
  unfoldable pub word_in : Taken
  word_in = pick (ltb (get_or bs 18 0) 15) (taken (word_filled (get_or bs 18 0 + 1) v bs) ms ss) any_in

  -- Match ROM: a is counted while the bits are the code's
  unfoldable pub code_in : Taken
  code_in = pick (ltb (get_or bs 18 0) 63) (pick (of_code (get_or bs 18 0) v bs) (taken (set bs 18 (get_or bs 18 0 + 1)) ms ss) any_in) any_in

  -- a data byte that is taken: b counts its bits, which enter c
  unfoldable pub data_end : Taken
  data_end = whole_in image pad (filled 0x80 (get_or bs 20 0) v) bs ms ss

  unfoldable pub data_in : Taken
  data_in = pick (ltb (get_or bs 19 0) 7) (taken (filled_at 19 (get_or bs 19 0 + 1) 20 v bs) ms ss) data_end

  -- a slot by the shape of the step
  abbrev pub takes_by : Shape → Taken
  takes_by Still = taken bs ms ss
  takes_by (Count last) = count_in last
  takes_by Byte = byte_in
  takes_by Word = word_in
  takes_by Code = code_in
  takes_by Data = data_in
  takes_by Pad = taken (pad_out pad bs ss) ms ss
  takes_by Memory = taken (memory_out bs) ms ss
  takes_by Any = any_in

  unfoldable pub takes_in : Taken
  takes_in = takes_by (shape_of (get_or bs 15 0))
