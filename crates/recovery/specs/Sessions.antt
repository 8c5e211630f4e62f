-- Sessions: the opening that matches a code, histories in which every session opens so, and the session that writes a whole page
-- into a scratchpad.
use Rattle.std.specs.Prelude.{ℕ, ◌+◌, ◌%◌, ◌<◌, ◌≤◌, Bool, List, [], ◌∷◌, ◌++◌, map, ◌≡◌, length, Result, Ok, Err}
use Rattle.line.specs.declared.Refusal.{Refusal}
use Rattle.std.proofs.Common.{arith}
use Rattle.line.specs.declared.Event.{Event}
use Rattle.line.specs.declared.Plan.{Plan}
use Rattle.line.specs.declared.Plan.TheVariants as plan
use Rattle.line.specs.Events.{reset_event}
use Rattle.histories.specs.Below.{Bytes}
use Rattle.histories.specs.Sent.{bits_from, bits_of, slots}

-- "55h: RC = 0, then take 64 bits.": the bits by which a session matches a code
abbrev pub opening : ℕ → List Bool
opening code = bits_from 8 0 0x55 ++ bits_from 64 0 code

-- the bits of an opening that are still to come after an event; none, where slots are free
abbrev pub to_come : ℕ → List Bool → Result Plan Refusal → List Bool
to_come code [] (Ok (plan.Slot v)) = []
to_come code (b ∷ bs) (Ok (plan.Slot v)) = bs
to_come code bs (Ok plan.Reset) = opening code
to_come code bs (Ok plan.PowerOn) = []
to_come code bs (Ok (plan.Outside i l)) = bs
to_come code bs (Err r) = bs

-- a slot has the bit that is next to come
abbrev pub Next : List Bool → Result Plan Refusal → Type 0
Next [] (Ok (plan.Slot v)) = Unit
Next (b ∷ bs) (Ok (plan.Slot v)) = v ≡ b
Next bs (Ok plan.Reset) = Unit
Next bs (Ok plan.PowerOn) = Unit
Next bs (Ok (plan.Outside i l)) = Unit
Next bs (Err r) = Unit

-- with these bits of an opening to come, every session of a history opens by matching the code, or is cut inside its opening;
-- power on and outside levels may stand anywhere, and so may what is refused; it goes by what each event comes to
abbrev pub Addressed : ℕ → List Bool → List (Result Plan Refusal) → Type 0
Addressed code bs [] = Unit
Addressed code bs (p ∷ ps) = Next bs p × Addressed code (to_come code bs p) ps

-- what slots of these bits come to
abbrev pub slotted : List Bool → List (Result Plan Refusal)
slotted vs = map (λ (v : Bool). Ok (plan.Slot v)) vs

-- a session that matches a code: a reset, Match ROM of the code, and these bits
abbrev pub match_session : ℕ → List Bool → List Event
match_session code vs = reset_event ∷ slots (opening code ++ vs)

-- 0Fh, the address t, the bytes
abbrev pub write_bits : ℕ → List ℕ → List Bool
write_bits t bytes = bits_from 8 0 0x0F ++ (bits_from 16 0 t ++ bits_of bytes)

-- a reset, a match of the code, and Write Scratchpad of these bytes at t
abbrev pub write : ℕ → ℕ → List ℕ → List Event
write code t bytes = match_session code (write_bits t bytes)

-- 32 bytes, for an address of 16 bits whose offset in its page is 0
pub record Page (t : ℕ) (bytes : List ℕ) : Type 0 where
  pub address : t < 0x10000
  pub offset : t % 32 ≡ 0
  pub full : length bytes ≡ 32
  pub small : Bytes bytes

-- bytes for an address of 16 bits, at least one and no more than its page has from there on
pub record WithinPage (t : ℕ) (bytes : List ℕ) : Type 0 where
  pub address : t < 0x10000
  pub some : 0 < length bytes
  pub fits : t % 32 + length bytes ≤ 32
  pub small : Bytes bytes

-- a whole page is such
pub page_in : (t : ℕ) (bytes : List ℕ) → Page t bytes → WithinPage t bytes
page_in t bytes g =
    let z = g.offset in
    let f = g.full in
    record { address = g.address; some = omega arith; fits = omega arith; small = g.small }
