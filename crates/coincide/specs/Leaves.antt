-- Two outcomes that a contract permits are the same: of base, crc, records, numerals, setpoints, intelhex and console the functions whose contract gives the answer, or the one thing that
-- is changed, by an equation. Written by tools/ties.
use Rattle.std.specs.Prelude.{refl}
use Rattle.std.proofs.Common.{◌∙◌, sym}
use Rattle.base.specs.contracts as base
use Rattle.crc.specs.contracts as crc
use Rattle.records.specs.contracts as records
use Rattle.numerals.specs.contracts as numerals
use Rattle.setpoints.specs.contracts as setpoints
use Rattle.intelhex.specs.contracts as intelhex
use Rattle.console.specs.contracts as console
use Rattle.base.proofs as base_proofs
use Rattle.crc.proofs as crc_proofs
use Rattle.records.proofs as records_proofs
use Rattle.numerals.proofs as numerals_proofs
use Rattle.setpoints.proofs as setpoints_proofs
use Rattle.intelhex.proofs as intelhex_proofs
use Rattle.console.proofs as console_proofs
use Rattle.coincide.specs.Settled.{Settled}

-- base

pub base_bit_of : Settled base.bit_of.ended base_proofs.bit_of.Reads.Learnt
base_bit_of κs a x y v w p q = (p ∙ sym q, refl)

pub base_is_same : Settled base.is_same.ended base_proofs.is_same.Reads.Learnt
base_is_same κs a x y v w p q = (p ∙ sym q, refl)

pub base_are_both : Settled base.are_both.ended base_proofs.are_both.Reads.Learnt
base_are_both κs a x y v w p q = (p ∙ sym q, refl)

pub base_U8Register_filled : Settled base.U8Register.filled.ended base_proofs.U8Register.filled.Reads.Learnt
base_U8Register_filled κs a x y v w p q = (p ∙ sym q, refl)

pub base_U16Register_filled : Settled base.U16Register.filled.ended base_proofs.U16Register.filled.Reads.Learnt
base_U16Register_filled κs a x y v w p q = (p ∙ sym q, refl)

pub base_byte_at : Settled base.byte_at.ended base_proofs.byte_at.Reads.Learnt
base_byte_at κs a x y v w p q = (p ∙ sym q, refl)

pub base_put_at : Settled base.put_at.ended base_proofs.put_at.Reads.Learnt
base_put_at κs a x y v w p q = (refl, λ i. ((p ∙ sym q) i, w.1))

pub base_fill : Settled base.fill.ended base_proofs.fill.Reads.Learnt
base_fill κs a x y v w p q = (refl, λ i. ((p ∙ sym q) i, w.1))

pub base_same_bytes : Settled base.same_bytes.ended base_proofs.same_bytes.Reads.Learnt
base_same_bytes κs a x y v w p q = (p ∙ sym q, refl)

pub base_part_byte : Settled base.part_byte.ended base_proofs.part_byte.Reads.Learnt
base_part_byte κs a x y v w p q = (p ∙ sym q, refl)

pub base_put_in_part : Settled base.put_in_part.ended base_proofs.put_in_part.Reads.Learnt
base_put_in_part κs a x y v w p q = (refl, λ i. ((p ∙ sym q) i, w.1))

-- crc

pub crc_bit8 : Settled crc.bit8.ended crc_proofs.bit8.Reads.Learnt
crc_bit8 κs a x y v w p q = (p ∙ sym q, refl)

pub crc_byte8 : Settled crc.byte8.ended crc_proofs.byte8.Reads.Learnt
crc_byte8 κs a x y v w p q = (p ∙ sym q, refl)

pub crc_bit16 : Settled crc.bit16.ended crc_proofs.bit16.Reads.Learnt
crc_bit16 κs a x y v w p q = (p ∙ sym q, refl)

pub crc_byte16 : Settled crc.byte16.ended crc_proofs.byte16.Reads.Learnt
crc_byte16 κs a x y v w p q = (p ∙ sym q, refl)

pub crc_crc8 : Settled crc.crc8.ended crc_proofs.crc8.Reads.Learnt
crc_crc8 κs a x y v w p q = (p ∙ sym q, refl)

pub crc_crc16 : Settled crc.crc16.ended crc_proofs.crc16.Reads.Learnt
crc_crc16 κs a x y v w p q = (p ∙ sym q, refl)

pub crc_of_code : Settled crc.of_code.ended crc_proofs.of_code.Reads.Learnt
crc_of_code κs a x y v w p q = (p ∙ sym q, refl)

pub crc_check_code : Settled crc.check_code.ended crc_proofs.check_code.Reads.Learnt
crc_check_code κs a x y v w p q = (p ∙ sym q, refl)

pub crc_byte_of : Settled crc.byte_of.ended crc_proofs.byte_of.Reads.Learnt
crc_byte_of κs a x y v w p q = (p ∙ sym q, refl)

-- records

pub records_pair : Settled records.pair.ended records_proofs.pair.Reads.Learnt
records_pair κs a x y v w p q = (p ∙ sym q, refl)

pub records_code : Settled records.code.ended records_proofs.code.Reads.Learnt
records_code κs a x y v w p q = (p ∙ sym q, refl)

pub records_pair_at : Settled records.pair_at.ended records_proofs.pair_at.Reads.Learnt
records_pair_at κs a x y v w p q = (p ∙ sym q, refl)

pub records_code_at : Settled records.code_at.ended records_proofs.code_at.Reads.Learnt
records_code_at κs a x y v w p q = (p ∙ sym q, refl)

pub records_head_at : Settled records.head_at.ended records_proofs.head_at.Reads.Learnt
records_head_at κs a x y v w p q = (p ∙ sym q, refl)

-- numerals

pub numerals_read_digits : Settled numerals.read_digits.ended numerals_proofs.read_digits.Reads.Learnt
numerals_read_digits κs a x y v w p q = (p ∙ sym q, refl)

pub numerals_read_number : Settled numerals.read_number.ended numerals_proofs.read_number.Reads.Learnt
numerals_read_number κs a x y v w p q = (p ∙ sym q, refl)

pub numerals_magnitude : Settled numerals.magnitude.ended numerals_proofs.magnitude.Reads.Learnt
numerals_magnitude κs a x y v w p q = (p ∙ sym q, refl)

pub numerals_hex_digit_of : Settled numerals.hex.digit_of.ended numerals_proofs.hex.digit_of.Reads.Learnt
numerals_hex_digit_of κs a x y v w p q = (p ∙ sym q, refl)

pub numerals_hex_put_digits : Settled numerals.hex.put_digits.ended numerals_proofs.hex.put_digits.Reads.Learnt
numerals_hex_put_digits κs a x y v w p q = (refl, λ i. (tt, ((p ∙ sym q) i, w.1.1)))

-- setpoints

pub setpoints_number_of : Settled setpoints.number_of.ended setpoints_proofs.number_of.Reads.Learnt
setpoints_number_of κs a x y v w p q = (p ∙ sym q, refl)

pub setpoints_read : Settled setpoints.read.ended setpoints_proofs.read.Reads.Learnt
setpoints_read κs a x y v w p q = (p ∙ sym q, refl)

pub setpoints_read_either : Settled setpoints.read_either.ended setpoints_proofs.read_either.Reads.Learnt
setpoints_read_either κs a x y v w p q = (p ∙ sym q, refl)

pub setpoints_signed_byte : Settled setpoints.signed_byte.ended setpoints_proofs.signed_byte.Reads.Learnt
setpoints_signed_byte κs a x y v w p q = (p ∙ sym q, refl)

pub setpoints_signed_pair : Settled setpoints.signed_pair.ended setpoints_proofs.signed_pair.Reads.Learnt
setpoints_signed_pair κs a x y v w p q = (p ∙ sym q, refl)

-- intelhex

pub intelhex_number_of : Settled intelhex.number_of.ended intelhex_proofs.number_of.Reads.Learnt
intelhex_number_of κs a x y v w p q = (p ∙ sym q, refl)

pub intelhex_blank_image : Settled intelhex.blank_image.ended intelhex_proofs.blank_image.Reads.Learnt
intelhex_blank_image κs a x y v w p q = (p.0 ∙ sym q.0, refl)

-- console

pub console_turns_left : Settled console.turns_left.ended console_proofs.turns_left.Reads.Learnt
console_turns_left κs a x y v w p q = (p.0 ∙ sym q.0, refl)

pub console_count_on : Settled console.count_on.ended console_proofs.count_on.Reads.Learnt
console_count_on κs a x y v w p q = (p ∙ sym q, refl)

pub console_argument_room : Settled console.argument_room.ended console_proofs.argument_room.Reads.Learnt
console_argument_room κs a x y v w p q = (p.0 ∙ sym q.0, refl)

pub console_tell : Settled console.tell.ended console_proofs.tell.Reads.Learnt
console_tell κs a x y v w p q = (refl, refl)

pub console_tell_number : Settled console.tell_number.ended console_proofs.tell_number.Reads.Learnt
console_tell_number κs a x y v w p q = (refl, refl)

pub console_tell_failed : Settled console.tell_failed.ended console_proofs.tell_failed.Reads.Learnt
console_tell_failed κs a x y v w p q = (refl, refl)

pub console_say_line : Settled console.say_line.ended console_proofs.say_line.Reads.Learnt
console_say_line κs a x y v w p q = (refl, refl)

pub console_say_refused : Settled console.say_refused.ended console_proofs.say_refused.Reads.Learnt
console_say_refused κs a x y v w p q = (refl, refl)

pub console_input_nothing : Settled console.input.nothing.ended console_proofs.input.nothing.Reads.Learnt
console_input_nothing κs a x y v w p q = (p ∙ sym q, refl)

pub console_input_within : Settled console.input.within.ended console_proofs.input.within.Reads.Learnt
console_input_within κs a x y v w p q = (p.0 ∙ sym q.0, refl)
