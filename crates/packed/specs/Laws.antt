-- Laws: bytes are a record, or a table, of a chip, or of chips, exactly where packing gives them.
use Rattle.std.specs.Prelude.{ℕ, zero, suc, ◌+◌, ◌*◌, ◌/◌, ◌%◌, true, List, [], ◌∷◌, ◌≡◌, refl, eqb, length, drop}
use Rattle.std.proofs.Common.{arith, true≢false, ◌∙◌, ap, sym, length-append, take_at, drop_at, eqb-true, eq-eqb}
use Rattle.base.specs.Pick.{pick}
use Rattle.base.specs.Bits.{both}
use Rattle.base.specs.Both.{both_holds}
use Rattle.base.specs.Bytes.{same_bytes}
use Rattle.chip.specs.declared.Chip.{Chip}
use Rattle.packed.specs.Step.{flag_back, step, level_packed, level_unpacked, level_back}
use Rattle.packed.specs.Packed.{record_size, packed, unpacked, is_record, packed_table, unpacked_from, unpacked_table, is_table}

-- a number is found again from its bytes
abbrev pub from_bytes : ℕ → ℕ → ℕ
from_bytes zero x = x
from_bytes (suc n) x = x % 256 + 256 * from_bytes n (x / 256)

pub number_back : (n x : ℕ) → from_bytes n x ≡ x
number_back zero x = refl
number_back (suc n) x =
    let e = number_back n (x / 256) in
    omega arith

-- every record that is packed is found again, whatever its fields
pub unpacked_packed : (c : Chip) → unpacked (packed c) ≡ c
unfolding unpacked packed
unpacked_packed c =
    let s = level_packed c.level in
    let level : level_unpacked (step s.number (from_bytes 1 s.w) s.a s.b s.c) ≡ c.level
    = (λ j. level_unpacked (step s.number (number_back 1 s.w j) s.a s.b s.c)) ∙ level_back c.level in
    λ j. record {
      code = number_back 7 c.code j;
      kind = c.kind;
      rc = flag_back c.rc j;
      level = level j;
      registers = record { t = number_back 1 c.registers.t j; es = c.registers.es };
      switch = record { latches = c.switch.latches; outside = c.switch.outside };
    }

-- two runs of bytes are the same exactly where they are equal
pub same_true : (xs ys : List ℕ) → same_bytes xs ys ≡ true → xs ≡ ys
unfolding same_bytes
same_true [] [] e = refl
same_true [] (y ∷ ys) e = absurd (true≢false (sym e))
same_true (x ∷ xs) [] e = absurd (true≢false (sym e))
same_true (x ∷ xs) (y ∷ ys) e =
    let h = both_holds (eqb x y) (same_bytes xs ys) e in
    λ j. eqb-true x y h.0 j ∷ same_true xs ys h.1 j

pub same_refl : (xs : List ℕ) → same_bytes xs xs ≡ true
unfolding same_bytes both pick
same_refl [] = refl
same_refl (x ∷ xs) = rw (eq-eqb x x refl) (same_refl xs)

-- bytes are a record that stands for c exactly where they are c packed
pub record_of : (bs : List ℕ) (c : Chip) → is_record bs ≡ true → unpacked bs ≡ c → bs ≡ packed c
unfolding is_record
record_of bs c e h = sym (same_true (packed (unpacked bs)) bs e) ∙ ap (λ (d : Chip). packed d) h

pub of_record : (bs : List ℕ) (c : Chip) → bs ≡ packed c → (is_record bs ≡ true) × (unpacked bs ≡ c)
unfolding is_record
of_record bs c e =
    let h : unpacked bs ≡ c = ap (λ (k : List ℕ). unpacked k) e ∙ unpacked_packed c in
    let k : packed (unpacked bs) ≡ bs = ap (λ (d : Chip). packed d) h ∙ sym e in
    (ap (λ (x : List ℕ). same_bytes x bs) k ∙ same_refl bs, h)

-- a record's size
pub packed_length : (c : Chip) → length (packed c) ≡ record_size
unfolding packed
packed_length c = refl

pub table_length : (cs : List Chip) → length (packed_table cs) ≡ record_size * length cs
table_length [] = refl
table_length (c ∷ cs) =
    let h = table_length cs in
    let k = packed_length c in
    simp length-append (omega arith)

pub from_length : (n : ℕ) (bs : List ℕ) → length (unpacked_from n bs) ≡ n
from_length zero bs = refl
from_length (suc n) bs = ap suc (from_length n (drop record_size bs))

from_table : (cs : List Chip) → unpacked_from (length cs) (packed_table cs) ≡ cs
from_table [] = refl
from_table (c ∷ cs) =
    λ j. (ap (λ (k : List ℕ). unpacked k) (take_at (packed c) (packed_table cs) record_size (packed_length c)) ∙ unpacked_packed c) j
    ∷ (ap (λ (k : List ℕ). unpacked_from (length cs) k) (drop_at (packed c) (packed_table cs) record_size (packed_length c)) ∙ from_table cs) j

-- every table that is packed is found again
pub unpacked-table : (cs : List Chip) → unpacked_table (packed_table cs) ≡ cs
unfolding unpacked_table
unpacked-table cs =
    let e : length (packed_table cs) / record_size ≡ length cs = let h = table_length cs in omega arith in
    ap (λ (n : ℕ). unpacked_from n (packed_table cs)) e ∙ from_table cs

-- bytes are a table that stands for cs exactly where they are cs packed
pub table_is : (bs : List ℕ) → is_table bs ≡ true → packed_table (unpacked_table bs) ≡ bs
unfolding is_table
table_is bs e = same_true (packed_table (unpacked_table bs)) bs e

pub table_of : (bs : List ℕ) (cs : List Chip) → is_table bs ≡ true → unpacked_table bs ≡ cs → bs ≡ packed_table cs
table_of bs cs e h = sym (table_is bs e) ∙ ap (λ (k : List Chip). packed_table k) h

pub of_table : (bs : List ℕ) (cs : List Chip) → bs ≡ packed_table cs → (is_table bs ≡ true) × (unpacked_table bs ≡ cs)
unfolding is_table
of_table bs cs e =
    let h : unpacked_table bs ≡ cs = ap (λ (k : List ℕ). unpacked_table k) e ∙ unpacked-table cs in
    let k : packed_table (unpacked_table bs) ≡ bs = ap (λ (d : List Chip). packed_table d) h ∙ sym e in
    (ap (λ (x : List ℕ). same_bytes x bs) k ∙ same_refl bs, h)
