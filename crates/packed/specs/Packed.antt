-- include/toemsakun.h, "A chip's record": a chip as a run of bytes, numbers with the low byte first, and a table as a run of records.
use Rattle.std.specs.Prelude.{ℕ, zero, suc, ◌-◌, ◌*◌, ◌/◌, ◌%◌, Bool, List, [], ◌∷◌, ◌++◌, eqb, leb, length, take, drop, get_or, replicate}
use Rattle.base.specs.Pick.{pick}
use Rattle.base.specs.Bytes.{same_bytes}
use Rattle.chip.specs.declared.Chip.{Chip}
use Rattle.line.specs.declared.Table.{Table}
use Rattle.records.specs.Numbers.{number_at}
use Rattle.packed.specs.declared.Step.{Step}
use Rattle.packed.specs.Step.{step, flag, level_packed, level_unpacked}

-- "TK_RECORD_SIZE": the bytes of a record, for good; the places that no field has are kept for later ones
abbrev pub record_size : ℕ
record_size = 32

-- a number as n bytes, the low byte first, and one more for what is left
abbrev pub bytes_of : ℕ → ℕ → List ℕ
bytes_of zero x = x ∷ []
bytes_of (suc n) x = x % 256 ∷ bytes_of n (x / 256)

-- the bytes of a chip's record, by the step that its level is: from 21 on each is 0
abbrev pub packed_with : Chip → Step → List ℕ
packed_with c s =
    bytes_of 7 c.code
    ++ (c.kind ∷ flag c.rc ∷ [])
    ++ bytes_of 1 c.registers.t
    ++ (c.registers.es ∷ c.switch.latches ∷ c.switch.outside ∷ s.number ∷ [])
    ++ bytes_of 1 s.w
    ++ (s.a ∷ s.b ∷ s.c ∷ replicate (record_size - 21) 0)

-- a chip's record as bytes
unfoldable pub packed : Chip → List ℕ
packed c = packed_with c (level_packed c.level)

-- the step that a record's bytes name
abbrev pub step_at : List ℕ → Step
step_at bs = step (get_or bs 15 0) (number_at bs 16 2) (get_or bs 18 0) (get_or bs 19 0) (get_or bs 20 0)

-- the chip that any bytes stand for, as many as a record has: what the step does not name is passed over
unfoldable pub unpacked : List ℕ → Chip
unpacked bs = record {
  code = number_at bs 0 8;
  kind = get_or bs 8 0;
  rc = eqb (get_or bs 9 0) 1;
  level = level_unpacked (step_at bs);
  registers = record { t = number_at bs 10 2; es = get_or bs 12 0 };
  switch = record { latches = get_or bs 13 0; outside = get_or bs 14 0 };
}

-- bytes are a record where packing what they stand for gives them again: so none has a byte that must be 0 and is not, a step
-- that is not in the table, or a flag over 1
unfoldable pub is_record : List ℕ → Bool
is_record bs = same_bytes (packed (unpacked bs)) bs

-- a chip's record in the place of the first bytes, as many as it has; where there are fewer, nothing is put
unfoldable pub put_record : Chip → List ℕ → List ℕ
put_record c bs = pick (leb record_size (length bs)) (packed c ++ drop record_size bs) bs

-- a table as bytes, record after record
abbrev pub packed_table : List Chip → List ℕ
packed_table [] = []
packed_table (c ∷ cs) = packed c ++ packed_table cs

-- the chips that n records stand for
abbrev pub unpacked_from : ℕ → List ℕ → List Chip
unpacked_from zero bs = []
unpacked_from (suc n) bs = unpacked (take record_size bs) ∷ unpacked_from n (drop record_size bs)

-- the chips that bytes stand for, a chip for each record's size
unfoldable pub unpacked_table : List ℕ → List Chip
unpacked_table bs = unpacked_from (length bs / record_size) bs

-- bytes are a table where packing what they stand for gives them again: so their number is a multiple of a record's size, and each
-- so many are a record
unfoldable pub is_table : List ℕ → Bool
is_table bs = same_bytes (packed_table (unpacked_table bs)) bs

-- a table in whose first places bytes put their chips, where they are a table of at most 16; the other places stay, and bytes
-- that are none leave the table as it was
unfoldable pub table_from : List ℕ → Table → Table
table_from bs t =
    let cs = unpacked_table bs in
    pick (leb (length bs / record_size) 16)
    (pick (is_table bs) (record { n = length cs; chips = cs ++ drop (length cs) t.chips }) t)
    t

-- the first n chips as records in the place of the first bytes; where there are fewer bytes, or over 16 chips, nothing is put
unfoldable pub put_table : ℕ → List Chip → List ℕ → List ℕ
put_table n cs bs =
    pick (leb n 16)
    (pick (leb (n * record_size) (length bs)) (packed_table (take n cs) ++ drop (n * record_size) bs) bs)
    bs
