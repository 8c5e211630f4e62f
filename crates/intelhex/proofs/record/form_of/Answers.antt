use Rattle.std.proofs.Common.{refl, rules}
use Rattle.intelhex.specs.Sound.{form_empty, form_no_colon, form_no_digit, form_odd, form_few, form_bytes}
use Rattle.intelhex.proofs.record.form_of.Goals as goal

pub returns-in_default : goal.returns-in_default
returns-in_default c = form_empty _ c.in_default.len_below

pub returns-in_default-2 : goal.returns-in_default-2
returns-in_default-2 c = form_no_colon _ (search rules)

pub returns-then-not-are_digits : goal.returns-then-not-are_digits
returns-then-not-are_digits c = form_no_digit _ _ (search rules) refl _ c.are_digits.ensures c.if-not-are_digits.true

pub returns-then-digits-ne0 : goal.returns-then-digits-ne0
returns-then-digits-ne0 c = form_odd _ _ (search rules) refl _ c.are_digits.ensures c.if-not-are_digits.false c.if-digits-ne0.true

pub returns-then-digits-lt10 : goal.returns-then-digits-lt10
returns-then-digits-lt10 c = form_few _ _ (search rules) refl _ c.are_digits.ensures c.if-not-are_digits.false (search rules) c.if-digits-lt10.true

pub returns : goal.returns
returns c = form_bytes _ _ (search rules) refl _ c.are_digits.ensures c.if-not-are_digits.false (search rules) (search rules)
