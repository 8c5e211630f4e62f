-- Laws of one chip in a search: it keeps its code, hears the command, and goes through the places or drops out.
use Rattle.std.specs.Prelude.{ℕ, ◌+◌, ◌<◌, Bool, true, false, not, List, [], ◌∷◌, ◌≡◌, refl, ltb}
use Rattle.std.proofs.Common.{arith, ◌∙◌, ap, lt-ltb, ltb-true, ltb-false}
use Rattle.base.specs.Pick.{pick, pick_true}
use Rattle.base.specs.Bits.{bit_of, same, both, filled}
use Rattle.rom.specs.Rom.{rom, command_of, command_bit, search_bit, search_sends}
use Rattle.rom.specs.declared.RomNext.TheVariants as next
use Rattle.rom.specs.declared.RomStep.TheVariants.{Search}
use Rattle.chip.specs.Chip.{Whole, level_of, rom_slot, level_takes, takes_of, sends_of, reset_chip, reset_of}
use Rattle.chip.specs.Level.{takes-in, sends-in}
use Rattle.chip.specs.declared.Level.{Level}
use Rattle.chip.specs.declared.Level.TheVariants.{Waiting, Rom, FunctionCommand}
use Rattle.line.specs.declared.Act.TheVariants.{Take}
use Rattle.line.specs.Named.{act_named}
use Rattle.histories.specs.Histories.{stored_in}
use Rattle.histories.specs.Fed.{fed, sends_nothing}
use Rattle.histories.specs.Sent.{bits_from}

-- the code ------------------------------------------------------------------------------------

-- a slot keeps a chip's code
pub code_takes : (v : Bool) (w : Whole) → (takes_of v w).chip.code ≡ w.chip.code
code_takes v w = (act_named (Take v) w).0

-- so does a reset
pub code_resets : (w : Whole) → (reset_of w).chip.code ≡ w.chip.code
unfolding reset_of reset_chip
code_resets w = refl

-- the command -----------------------------------------------------------------------------------

-- a chip keeps its code while bits come
pub code_fed : (vs : List Bool) (w : Whole) → (fed vs w).chip.code ≡ w.chip.code
code_fed [] w = refl
code_fed (v ∷ vs) w = code_fed vs (takes_of v w) ∙ code_takes v w

-- after a reset every chip hears the command of the search, and sends nothing
pub hears : (w : Whole) → sends_nothing (bits_from 8 0 0xF0) (reset_of w) ≡ true
unfolding reset_of reset_chip sends_of takes_of rom_slot command_bit filled bit_of both pick
hears w = refl

-- the places ------------------------------------------------------------------------------------

-- the level at a slot of a place; past the last place, the function level
level_at : ℕ → ℕ → Level
level_at k s = pick (ltb k 64) (Rom (Search k s)) (FunctionCommand 0 0)

-- a chip that takes part in a search, and is at slot s of place k
pub Part : ℕ → ℕ → Whole → Type 0
Part k s w = w.chip.level ≡ level_at k s

-- a chip that dropped out, and waits for a reset
pub Out : Whole → Type 0
Out w = w.chip.level ≡ Waiting

-- a chip that heard the command is at the first place
pub begun : (w : Whole) → Part 0 0 (fed (bits_from 8 0 0xF0) (reset_of w))
unfolding Part level_at reset_of reset_chip takes_of rom_slot command_bit command_of filled bit_of pick
begun w = refl

-- which level that is, at a place of the code
pub level_in : (k s : ℕ) (w : Whole) → k < 64 → Part k s w → w.chip.level ≡ Rom (Search k s)
unfolding Part level_at
level_in k s w h e = e ∙ pick_true (ltb k 64) _ _ (lt-ltb k 64 h)

-- and which is that of a chip that dropped out
pub level_out : (w : Whole) → Out w → w.chip.level ≡ Waiting
unfolding Out
level_out w e = e

-- where a slot leads a chip at a known level
level_taken : (w : Whole) (v : Bool) (l : Level) → w.chip.level ≡ l → (takes_of v w).chip.level ≡ (level_takes w v l).chip.level
level_taken w v l e = ap (λ (u : Whole). u.chip.level) (takes-in w v l e)

-- at slot 0 a chip sends its bit
pub bit_sent : (k : ℕ) (w : Whole) → k < 64 → Part k 0 w → sends_of w ≡ bit_of w.chip.code k
unfolding search_sends pick
bit_sent k w h p = sends-in w (Rom (Search k 0)) (level_in k 0 w h p)

-- at slot 1 it sends the complement
pub not_sent : (k : ℕ) (w : Whole) → k < 64 → Part k 1 w → sends_of w ≡ not (bit_of w.chip.code k)
unfolding search_sends pick
not_sent k w h p = sends-in w (Rom (Search k 1)) (level_in k 1 w h p)

-- at slot 2 it sends nothing
pub quiet : (k : ℕ) (w : Whole) → k < 64 → Part k 2 w → sends_of w ≡ true
unfolding search_sends pick
quiet k w h p = sends-in w (Rom (Search k 2)) (level_in k 2 w h p)

-- a chip that dropped out sends nothing
pub out_quiet : (w : Whole) → Out w → sends_of w ≡ true
unfolding Out
out_quiet w p = sends-in w Waiting p

-- a slot after which the next slot comes
slot_next : (k s : ℕ) (w : Whole) (v : Bool) → k < 64 → s < 2 → Part k s w → Part k (s + 1) (takes_of v w)
unfolding Part rom_slot search_bit level_at pick
slot_next k s w v h l p = level_taken w v (Rom (Search k s)) (level_in k s w h p) ∙ rw (lt-ltb s 2 l, lt-ltb k 64 h)

-- after its bit a chip is at slot 1
pub bit_taken : (k : ℕ) (v : Bool) (w : Whole) → k < 64 → Part k 0 w → Part k 1 (takes_of v w)
bit_taken k v w h p = slot_next k 0 w v h (omega arith) p

-- after the complement it is at slot 2
pub not_taken : (k : ℕ) (v : Bool) (w : Whole) → k < 64 → Part k 1 w → Part k 2 (takes_of v w)
not_taken k v w h p = slot_next k 1 w v h (omega arith) p

-- the level after a place at which the chip's bit came
place_next : (k : ℕ) (rc s t : Bool) → ltb k 63 ≡ s → ltb (k + 1) 64 ≡ t
    → level_of (pick s (rom (next.Step (Search (k + 1) 0)) rc) (rom next.Function true)).next ≡ pick t (Rom (Search (k + 1) 0)) (FunctionCommand 0 0)
unfolding pick
place_next k rc true true p q = refl
place_next k rc true false p q = let z : ⊥ = omega (arith, ltb-true k 63 p, ltb-false (k + 1) 64 q) in absurd z
place_next k rc false true p q = let z : ⊥ = omega (arith, ltb-false k 63 p, ltb-true (k + 1) 64 q) in absurd z
place_next k rc false false p q = refl

-- a chip whose bit is written goes on to the next place
pub goes-on : (k : ℕ) (v : Bool) (w : Whole) → k < 64 → Part k 2 w → same (bit_of w.chip.code k) v ≡ true → Part (k + 1) 0 (takes_of v w)
unfolding Part rom_slot search_bit level_at pick
goes-on k v w h p e = level_taken w v (Rom (Search k 2)) (level_in k 2 w h p) ∙ rw e (place_next k w.chip.rc (ltb k 63) (ltb (k + 1) 64) refl refl)

-- another drops out
pub drops_out : (k : ℕ) (v : Bool) (w : Whole) → k < 64 → Part k 2 w → same (bit_of w.chip.code k) v ≡ false → Out (takes_of v w)
unfolding Out rom_slot search_bit pick
drops_out k v w h p e = level_taken w v (Rom (Search k 2)) (level_in k 2 w h p) ∙ rw e

-- a chip that dropped out stays out
pub out_stays : (v : Bool) (w : Whole) → Out w → Out (takes_of v w)
unfolding Out
out_stays v w p = level_taken w v Waiting p ∙ p

-- what it stores ----------------------------------------------------------------------------------

-- the memory after a slot at a known level
memory_taken : (w : Whole) (v : Bool) (l : Level) → w.chip.level ≡ l → (takes_of v w).memory ≡ (level_takes w v l).memory
memory_taken w v l e = ap (λ (u : Whole). u.memory) (takes-in w v l e)

-- code, kind and memory of a chip that keeps its memory in a slot
stored_slot : (v : Bool) (w : Whole) → (takes_of v w).memory ≡ w.memory → stored_in (takes_of v w) ≡ stored_in w
stored_slot v w e = let n = act_named (Take v) w in λ j. record { code = n.0 j; kind = n.1 j; memory = e j }

-- a chip that takes part keeps them, and so does one that dropped out
pub part_stored : (k s : ℕ) (v : Bool) (w : Whole) → k < 64 → Part k s w → stored_in (takes_of v w) ≡ stored_in w
part_stored k s v w h p = stored_slot v w (memory_taken w v (Rom (Search k s)) (level_in k s w h p))

pub out_stored : (v : Bool) (w : Whole) → Out w → stored_in (takes_of v w) ≡ stored_in w
out_stored v w p = stored_slot v w (memory_taken w v Waiting (level_out w p))

-- a chip keeps them over a reset and the command
pub reset_stored : (w : Whole) → stored_in (reset_of w) ≡ stored_in w
unfolding reset_of reset_chip
reset_stored w = refl

pub opened_stored : (w : Whole) → stored_in (fed (bits_from 8 0 0xF0) (reset_of w)) ≡ stored_in w
unfolding reset_of reset_chip takes_of rom_slot command_bit command_of filled bit_of pick
opened_stored w = refl
