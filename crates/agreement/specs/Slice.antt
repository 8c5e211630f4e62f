-- The calls of the lent form on a slice of chips, and that they are the calls on the table that the slice is: they keep the number of its chips.
use Rattle.std.specs.Prelude.{ℕ, List, [], ◌∷◌, map, ◌≡◌, refl, length}
use Rattle.std.proofs.Common.{arith, ◌∙◌, ap, sym}
use Rattle.std.proofs.Math.Seq.{take-length}
use Rattle.chip.specs.declared.Chip.{Chip}
use Rattle.line.specs.Event.{event_of}
use Rattle.line.specs.Layout.{Lent, split}
use Rattle.line.specs.Slots.{slots_of}
use Rattle.line.specs.Prefix.{event_holds}
use Rattle.line.specs.Refusals.{chips_split}
use Rattle.search.specs.Prefix.{search_has}
use Rattle.line.specs.Attached.{Attached, attached, leaves_of, line_from}
use Rattle.search.specs.Search.{search_of}
use Rattle.histories.specs.Histories.{codes_of}
use Rattle.histories.specs.Standing.{codes_chips}
use Rattle.histories.specs.Calls.{Call, event_call, search_call, slots_call, leaves_call, calls_on}
use Rattle.agreement.specs.Slots.{slots_hold}

-- a lent slice of chips with its buffers, as the table that it is: each place holds a chip
abbrev pub of_lent : Lent → Attached
of_lent x = attached (length x.chips) x.chips x.images x.pads

-- the codes of chips
abbrev pub codes_in : List Chip → List ℕ
codes_in cs = map (λ (c : Chip). c.code) cs

-- what `lent::take_event` and `lent::search_line` leave, and a run of slots, of which the lent form has no function: the library for C has it, on
-- the bytes of such a slice; and what one call after another leaves
abbrev pub leaves_lent : Call → Lent → Lent
leaves_lent (event_call e) x = (event_of (length x.chips) x.chips e x.images x.pads).lent
leaves_lent (search_call list) x = (search_of list (of_lent x)).line.lent
leaves_lent (slots_call n bits out) x = (slots_of (length x.chips) x.chips n bits out x.images x.pads).lent

abbrev pub run_lent : List Call → Lent → Lent
run_lent [] x = x
run_lent (c ∷ cs) x = run_lent cs (leaves_lent c x)

-- they keep the number of chips, so that they are the calls on the table
pub leaves-lent : (c : Call) (x : Lent) → of_lent (leaves_lent c x) ≡ leaves_call c (of_lent x)
unfolding leaves_of
leaves-lent (event_call e) x =
    let k = event_holds (length x.chips) x.chips e x.images x.pads (omega arith) in
    λ j. record { count = (k.places ∙ sym k.chips) j; lent = leaves_lent (event_call e) x }
leaves-lent (search_call list) x =
    let n = length x.chips in
    let k = search_has n n (omega arith) list (of_lent x) (record { chips = refl; places = refl }) in
    λ j. record { count = (k.places ∙ sym k.chips) j; lent = leaves_lent (search_call list) x }
leaves-lent (slots_call n bits out) x =
    let k = slots_hold (length x.chips) x.chips (omega arith) n bits out x.images x.pads in
    λ j. record { count = (k.places ∙ sym k.chips) j; lent = leaves_lent (slots_call n bits out) x }

pub run-lent : (cs : List Call) (x : Lent) → of_lent (run_lent cs x) ≡ calls_on cs (of_lent x)
run-lent [] x = refl
run-lent (c ∷ cs) x = run-lent cs (leaves_lent c x) ∙ ap (calls_on cs) (leaves-lent c x)

-- and its codes are those of the table
pub codes_lent : (x : Lent) → codes_of (line_from (of_lent x)) ≡ codes_in x.chips
codes_lent x =
    ap (λ (cs : List Chip). codes_of (split cs x.images x.pads)) (take-length x.chips)
    ∙ codes_chips (split x.chips x.images x.pads)
    ∙ ap codes_in (chips_split x.chips x.images x.pads)
