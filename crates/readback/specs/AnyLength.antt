-- M-109: "a number of any length is judged". Whoever reads a number of a text, however long, and writes it, by calls, writes what the text says.
use Rattle.std.specs.Prelude.{ℕ, suc, ◌<◌, Bool, true, false, List, ◌≡◌, refl, eqb, ltb, leb, ℤ, pos, negsuc, length, Result, Err, Option, Some}
use Rattle.std.proofs.Common.{arith, ◌∙◌, ap, sym, ltb-true}
use contract.Lifetimes.{Lfts}
use Rattle.std.specs.Borrow.{Bor}
use denote.Triple.Clauses.{at_exit}
use Rattle.std.specs.Int.Signed.{lt_z}
use Rattle.std.proofs.lemmas.Bool.{lt-leb}
use Rattle.base.specs.Bits.{both}
use Rattle.base.specs.Pick.{pick, pick_false, pick_same}
use Rattle.numerals.specs.Numerals.{number, said, minus, most, capped, numeral_by, numeral_of}
use Rattle.numerals.specs.contracts as numerals
use Rattle.numerals.proofs as numerals_proofs
use Rattle.setpoints.specs.Kinds.{Form, form_of, between, allowed}
use Rattle.setpoints.specs.Pages.{page_size, Wrote, wrote, write_page, write101, write102}
use Rattle.setpoints.specs.declared.Fault.{Fault}
use Rattle.setpoints.specs.declared.Fault.TheVariants.{WrongLength}
use Rattle.setpoints.specs.declared.Kind.{Kind}
use Rattle.setpoints.specs.declared.Kind.TheVariants.{Degrees, Tenths}
use Rattle.readback.specs.Calls.{Write101, Write102, wrote_by_101, wrote_by_102}

-- ---- a number that is capped is written as it is

-- a value that is not allowed is as good as any other
refused_alike : (f : Form) (v w : ℤ) (page : List ℕ) → allowed f v ≡ false → allowed f w ≡ false → write_page f v page ≡ write_page f w page
unfolding write_page
refused_alike f v w page s t = ap (λ (x : Wrote). pick (eqb (length page) page_size) x (wrote (Err WrongLength) page)) (pick_false _ _ _ s ∙ sym (pick_false _ _ _ t))

-- no negative number is allowed, nor one past the least of 19 digits
none_below : (kind : Kind) (n : ℕ) → allowed (form_of kind) (negsuc n) ≡ false
unfolding between both pick
none_below Degrees n = refl
none_below Tenths n = refl

none_above : (kind : Kind) (n : ℕ) → most < suc n → allowed (form_of kind) (pos n) ≡ false
unfolding between both
none_above Degrees n h = ap (λ (x : Bool). pick (leb 10 n) x false) (lt-leb n 35 (omega arith)) ∙ pick_same _ _
none_above Tenths n h = ap (λ (x : Bool). pick (leb 180 n) x false) (lt-leb n 270 (omega arith)) ∙ pick_same _ _

capped_alike : (kind : Kind) (z : ℤ) (page : List ℕ) → write_page (form_of kind) (capped z) page ≡ write_page (form_of kind) z page
unfolding capped pick
capped_alike kind (pos n) page = by (ltb most n) refl
  where
    by : (t : Bool) → ltb most n ≡ t → write_page (form_of kind) (pick t (pos most) (pos n)) page ≡ write_page (form_of kind) (pos n) page
    by true e = refused_alike (form_of kind) (pos most) (pos n) page (none_above kind most (omega arith)) (none_above kind n (let h = ltb-true most n e in omega arith))
    by false e = refl
capped_alike kind (negsuc n) page = by (lt_z (negsuc n) (minus most))
  where
    by : (t : Bool) → write_page (form_of kind) (pick t (minus most) (negsuc n)) page ≡ write_page (form_of kind) (negsuc n) page
    by true = refused_alike (form_of kind) (minus most) (negsuc n) page (none_below kind 999999999999999999) (none_below kind n)
    by false = refl

-- ---- by calls

-- a call of `numerals::read_number`: the text lies anywhere, and the contract permits the answer
pub record NumberCall (text : List ℕ) (answer : Option ℤ) : Type 2 where
  pub κs : Lfts 1
  pub bytes : Bor (List ℕ)
  pub from_bytes : bytes.now ≡ text
  pub permits : numerals_proofs.read_number.Reads.Learnt κs (bytes, tt) answer (at_exit numerals.read_number.ended κs (bytes, tt) (tt, tt))

-- what is told of a text that says a number
told_number : (text : List ℕ) (z v : ℤ) → said text ≡ number z → NumberCall text (Some v) → v ≡ capped z
told_number text z v e c = let h = c.permits ∙ ap numeral_of c.from_bytes ∙ ap numeral_by e in cc

-- THEOREM: where a text says a number, of any length, the number that is read of it is written as what the text says
pub any_length_101 : (text : List ℕ) (z v : ℤ) (page after : List ℕ) (a : Result (Unit {0}) Fault) → said text ≡ number z → NumberCall text (Some v) → Write101 v page a after
    → wrote a after ≡ write101 z page
any_length_101 text z v page after a e c d =
    wrote_by_101 v page a after d ∙ ap (λ (x : ℤ). write101 x page) (told_number text z v e c) ∙ capped_alike Degrees z page

pub any_length_102 : (text : List ℕ) (z v : ℤ) (page after : List ℕ) (a : Result (Unit {0}) Fault) → said text ≡ number z → NumberCall text (Some v) → Write102 v page a after
    → wrote a after ≡ write102 z page
any_length_102 text z v page after a e c d =
    wrote_by_102 v page a after d ∙ ap (λ (x : ℤ). write102 x page) (told_number text z v e c) ∙ capped_alike Tenths z page

-- THEOREM: what is read of every text is what it says, capped, or that it says no number
pub text_told : (text : List ℕ) (r : Option ℤ) → NumberCall text r → r ≡ numeral_by (said text)
text_told text r c = c.permits ∙ ap numeral_of c.from_bytes
