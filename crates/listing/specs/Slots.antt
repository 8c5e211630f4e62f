-- Laws: a host's slots and resets on a line of whole chips.
use Rattle.std.specs.Prelude.{ℕ, zero, suc, ◌+◌, Bool, true, false, List, [], ◌∷◌, map, ◌≡◌, refl}
use Rattle.std.proofs.Common.{◌∙◌, ap, ap₂, sym, one-add}
use Rattle.base.specs.Pick.{pick}
use Rattle.base.specs.Bits.{bit_of, both}
use Rattle.base.specs.Both.{both_true, both_holds}
use Rattle.chip.specs.Chip.{Whole, takes_of, sends_of, reset_of}
use Rattle.line.specs.Event.{Answered, bit, asked_by, plan_event, outside_fits}
use Rattle.line.specs.Line.{value_of, absent}
use Rattle.line.specs.Refusals.{presence}
use Rattle.line.specs.Events.{slot_event, reset_event}
use Rattle.search.specs.Host.{Host, ask, Played, played, more, play, write}
use Rattle.histories.specs.Histories.{answer_of, after_of, line_wire, codes_of, stores_of}
use Rattle.histories.specs.Fed.{fed, sends_nothing}
use Rattle.histories.specs.Sent.{bits_from}
use Rattle.listing.specs.Chip.{code_takes, code_resets, code_fed, hears, reset_stored, opened_stored}

-- the AND of what the chips of a line send
unfoldable pub sent : List Whole → Bool
sent [] = true
sent (w ∷ L) = both (sends_of w) (sent L)

-- a line after a slot of the value v
abbrev pub taken : Bool → List Whole → List Whole
taken v L = map (takes_of v) L

-- a line after a reset
abbrev pub after_reset : List Whole → List Whole
after_reset L = map reset_of L

-- one bit and another may change places
both_swap : (a b c : Bool) → both (both a b) c ≡ both b (both a c)
unfolding both pick
both_swap true b c = refl
both_swap false true c = refl
both_swap false false c = refl

-- the value of a slot is the AND of the host's bit and what the chips send
pub value_is : (b : Bool) (L : List Whole) → value_of b L ≡ both b (sent L)
unfolding sent
value_is b [] = sym (both_true b)
value_is b (w ∷ L) = value_is (both (sends_of w) b) L ∙ both_swap (sends_of w) b (sent L)

-- a slot, by its value
slot_played : {A : Type 0} (b v : Bool) (f : Answered → Host A) (L : List Whole) → both b (sent L) ≡ v
    → play line_wire (ask (slot_event b) f) L ≡ more 0 1 (play line_wire (f (bit v)) (taken v L))
unfolding play answer_of after_of plan_event outside_fits asked_by pick
slot_played true v f L e = rw (value_is true L, e)
slot_played false v f L e = rw (value_is false L, e)

-- a slot in which the host reads what the chips send
pub read_played : {A : Type 0} (v : Bool) (f : Answered → Host A) (L : List Whole) → sent L ≡ v
    → play line_wire (ask (slot_event true) f) L ≡ more 0 1 (play line_wire (f (bit v)) (taken v L))
unfolding both pick
read_played v f L e = slot_played true v f L e

-- a slot in which the host writes a bit and no chip sends
pub write-played : {A : Type 0} (b : Bool) (f : Answered → Host A) (L : List Whole) → sent L ≡ true
    → play line_wire (ask (slot_event b) f) L ≡ more 0 1 (play line_wire (f (bit b)) (taken b L))
write-played b f L e = slot_played b b f L (ap (both b) e ∙ both_true b)

-- a reset
pub reset_played : {A : Type 0} (f : Answered → Host A) (L : List Whole)
    → play line_wire (ask reset_event f) L ≡ more 1 0 (play line_wire (f (bit (absent L))) (after_reset L))
unfolding play answer_of after_of plan_event outside_fits asked_by pick
reset_played f L = ap (λ (b : Bool). more 1 0 (play line_wire (f (bit b)) (after_reset L))) (presence L)

-- a slot keeps the codes of a line
pub codes_taken : (v : Bool) (L : List Whole) → codes_of (taken v L) ≡ codes_of L
codes_taken v [] = refl
codes_taken v (w ∷ L) = ap₂ ◌∷◌ (code_takes v w) (codes_taken v L)

-- so does a reset
pub codes_reset : (L : List Whole) → codes_of (after_reset L) ≡ codes_of L
codes_reset [] = refl
codes_reset (w ∷ L) = ap₂ ◌∷◌ (code_resets w) (codes_reset L)

-- no chip of a line sends anything while bits come
abbrev pub AllHear : List Bool → List Whole → Type 0
AllHear vs [] = Unit {0}
AllHear vs (w ∷ L) = (sends_nothing vs w ≡ true) × AllHear vs L

-- then none does at the first
pub hear_quiet : (v : Bool) (vs : List Bool) (L : List Whole) → AllHear (v ∷ vs) L → sent L ≡ true
unfolding sent both pick
hear_quiet v vs [] h = refl
hear_quiet v vs (w ∷ L) (h, r) = ap₂ both (both_holds (sends_of w) _ h).0 (hear_quiet v vs L r)

-- and none at the others
pub hear_next : (v : Bool) (vs : List Bool) (L : List Whole) → AllHear (v ∷ vs) L → AllHear vs (taken v L)
hear_next v vs [] h = tt
hear_next v vs (w ∷ L) (h, r) = ((both_holds (sends_of w) _ h).1, hear_next v vs L r)

-- the line when the bits have come, one bit later
pub fed_next : (v : Bool) (vs : List Bool) (L : List Whole) → map (fed vs) (taken v L) ≡ map (fed (v ∷ vs)) L
fed_next v vs [] = refl
fed_next v vs (w ∷ L) = ap (λ (r : List Whole). fed (v ∷ vs) w ∷ r) (fed_next v vs L)

-- and with no bit to come
pub fed_none : (L : List Whole) → L ≡ map (fed []) L
fed_none [] = refl
fed_none (w ∷ L) = ap (λ (r : List Whole). w ∷ r) (fed_none L)

-- what a byte of n slots comes to
abbrev pub write_played : ℕ → List Whole → Played (Unit {0}) (List Whole)
write_played n L = played tt L 0 n

-- one slot more
one_more : (n : ℕ) (L : List Whole) → more 0 1 (write_played n L) ≡ write_played (suc n) L
one_more n L = λ i. write_played (one-add n i) L

-- a byte that every chip hears
pub byte_played : (n i byte : ℕ) (L : List Whole) → AllHear (bits_from n i byte) L → play line_wire (write n i byte) L ≡ write_played n (map (fed (bits_from n i byte)) L)
unfolding play write
byte_played zero i byte L h = ap (write_played 0) (fed_none L)
byte_played (suc n) i byte L h =
    let v = bit_of byte i in
    let vs = bits_from n (i + 1) byte in
    write-played v (λ x. write n (i + 1) byte) L (hear_quiet v vs L h)
    ∙ ap (more 0 1) (byte_played n (i + 1) byte (taken v L) (hear_next v vs L h) ∙ ap (write_played n) (fed_next v vs L))
    ∙ one_more n (map (fed (v ∷ vs)) L)

-- after a reset every chip hears the command of the search
pub all_hear : (L : List Whole) → AllHear (bits_from 8 0 0xF0) (after_reset L)
all_hear [] = tt
all_hear (w ∷ L) = (hears w, all_hear L)

-- the line after a reset and the command
abbrev pub opened : List Whole → List Whole
opened L = map (fed (bits_from 8 0 0xF0)) (after_reset L)

-- the command after a reset
pub command_played : (L : List Whole) → play line_wire (write 8 0 0xF0) (after_reset L) ≡ write_played 8 (opened L)
command_played L = byte_played 8 0 0xF0 (after_reset L) (all_hear L)

-- a chip keeps its code through both
pub code_opened : (w : Whole) → (fed (bits_from 8 0 0xF0) (reset_of w)).chip.code ≡ w.chip.code
code_opened w = code_fed (bits_from 8 0 0xF0) (reset_of w) ∙ code_resets w

-- and a line its codes
pub codes_opened : (L : List Whole) → codes_of (opened L) ≡ codes_of L
codes_opened [] = refl
codes_opened (w ∷ L) = ap₂ ◌∷◌ (code_opened w) (codes_opened L)

-- and what its chips store
pub stores_reset : (L : List Whole) → stores_of (after_reset L) ≡ stores_of L
stores_reset [] = refl
stores_reset (w ∷ L) = ap₂ ◌∷◌ (reset_stored w) (stores_reset L)

pub stores_opened : (L : List Whole) → stores_of (opened L) ≡ stores_of L
stores_opened [] = refl
stores_opened (w ∷ L) = ap₂ ◌∷◌ (opened_stored w) (stores_opened L)
