-- Laws: the remark of the sheet (003, beside its figure 4) that shifting in the CRC too brings all stages back to 0, and its converse.
use Rattle.std.specs.Prelude.{ℕ, ◌<◌, Bool, true, false, ◌≡◌, refl}
use Rattle.std.proofs.Common.{arith, true≢false, ◌∙◌, sym, ap}
use Rattle.std.proofs.Math.Bool.{xor}
use Rattle.base.specs.Bits.{bit_of}
use Rattle.crc.specs.Code.{byte_of, code_crc, check_of}
use Rattle.crc.specs.Check.{good_exactly, zeros_pass}
use Rattle.crc.specs.Drawn.{drawn-code}
use Rattle.crc.specs.Every.{stages}
use Rattle.crc.specs.Figure4.{cleared, drawn_bit, drawn_byte, drawn_code, as_byte, stages_of}
use Rattle.crc.specs.Stages.{byte_of_stages, stages_of_byte}
use Rattle.crc.specs.declared.CodeCheck.TheVariants.{Good}
use Rattle.crc.specs.declared.figure4.ShiftRegister.{ShiftRegister}

xor_own : (a : Bool) → xor a a ≡ false
unfolding xor
xor_own true = refl
xor_own false = refl

xor_false : (a : Bool) → xor a false ≡ a
unfolding xor
xor_false true = refl
xor_false false = refl

xor_none : (a b : Bool) → xor a b ≡ false → a ≡ b
unfolding xor
xor_none true true e = refl
xor_none true false e = absurd (true≢false e)
xor_none false true e = absurd (true≢false e)
xor_none false false e = refl

-- a register that reads as the byte b is cleared by shifting b in
own_clears : (b : ℕ) → drawn_byte (stages_of b) b ≡ cleared
unfolding drawn_byte drawn_bit stages_of
own_clears b = simp (xor_own, xor_false)

-- a step that leaves 0 in the 1st stage had no feedback: it is taken back by moving each stage down and the bit into the 8th
taken_back : (r q : ShiftRegister) (v : Bool) → drawn_bit r v ≡ q → q.stage1 ≡ false → r ≡ stages q.stage2 q.stage3 q.stage4 q.stage5 q.stage6 q.stage7 q.stage8 v
unfolding drawn_bit
taken_back r q v e z =
    let f : xor r.stage8 v ≡ false = ap (λ (s : ShiftRegister). s.stage1) e ∙ z in
    let none : (a : Bool) → a ≡ xor a (xor r.stage8 v) = λ a. sym (ap (xor a) f ∙ xor_false a) in
    let p : r ≡ stages r.stage1 r.stage2 r.stage3 (xor r.stage4 (xor r.stage8 v)) (xor r.stage5 (xor r.stage8 v)) r.stage6 r.stage7 v =
    λ j. stages r.stage1 r.stage2 r.stage3 (none r.stage4 j) (none r.stage5 j) r.stage6 r.stage7 (xor_none r.stage8 v f j) in
    p ∙ ap (λ (s : ShiftRegister). stages s.stage2 s.stage3 s.stage4 s.stage5 s.stage6 s.stage7 s.stage8 v) e

-- only the byte that a register reads as clears it
clears_own : (r : ShiftRegister) (b : ℕ) → drawn_byte r b ≡ cleared → r ≡ stages_of b
unfolding drawn_byte stages_of
clears_own r b e =
    let e7 = taken_back _ _ (bit_of b 7) e refl in
    let e6 = taken_back _ _ (bit_of b 6) e7 refl in
    let e5 = taken_back _ _ (bit_of b 5) e6 refl in
    let e4 = taken_back _ _ (bit_of b 4) e5 refl in
    let e3 = taken_back _ _ (bit_of b 3) e4 refl in
    let e2 = taken_back _ _ (bit_of b 2) e3 refl in
    let e1 = taken_back _ _ (bit_of b 1) e2 refl in
    taken_back _ _ (bit_of b 0) e1 refl

byte_small : (code k : ℕ) → byte_of code k < 256
unfolding byte_of
byte_small code k = omega arith

-- shifting in an eighth byte that is the CRC of the first seven leaves all stages 0
sum_clears : (code : ℕ) → code_crc code ≡ byte_of code 7 → drawn_byte (drawn_code code) (byte_of code 7) ≡ cleared
sum_clears code s =
    let own : drawn_code code ≡ stages_of (byte_of code 7) =
    sym (stages_of_byte (drawn_code code)) ∙ ap stages_of (drawn-code code ∙ s) in
    ap (λ (r : ShiftRegister). drawn_byte r (byte_of code 7)) own ∙ own_clears (byte_of code 7)

-- "after the eighth byte of a good code has been shifted in too, all stages are 0"
pub good_clears : (code : ℕ) → check_of code ≡ Good → drawn_byte (drawn_code code) (byte_of code 7) ≡ cleared
good_clears code g = sum_clears code ((good_exactly code).0 g).1

-- so they are after that of a code of zeros
pub zeros_clear : drawn_byte (drawn_code 0) (byte_of 0 7) ≡ cleared
zeros_clear = sum_clears 0 zeros_pass.1

-- and after that of no other code
pub clears_good : (code : ℕ) → (code ≡ 0 → ⊥) → drawn_byte (drawn_code code) (byte_of code 7) ≡ cleared → check_of code ≡ Good
clears_good code n e =
    let s : code_crc code ≡ byte_of code 7 = sym (drawn-code code) ∙ ap as_byte (clears_own (drawn_code code) (byte_of code 7) e) ∙ byte_of_stages (byte_of code 7) (byte_small code 7) in
    (good_exactly code).1 (n, s)
