-- Demand 2, "the line shows the wired AND": laws of a line of whole chips. The value of a slot and the bits sent, which chips are sending,
-- who moves on; and a slot in which a chip sends and another receives.
use Rattle.std.specs.Prelude.{ℕ, ◌<◌, Bool, true, false, List, [], ◌∷◌, ◌≡◌, refl, eqb, ltb, replicate}
use Rattle.std.proofs.Common.{arith, ◌∙◌, lt-ltb, ne_eqb}
use Rattle.base.specs.Pick.{pick, pick_false}
use Rattle.base.specs.Bits.{both, filled}
use Rattle.base.specs.Both.{both_holds, both_true'}
use Rattle.base.specs.Exactly.{Iff}
use Rattle.rom.specs.Rom.{command_bit, search_bit, search_sends}
use Rattle.rom.specs.declared.RomStep.TheVariants.{Command, Read, Match, Search}
use Rattle.scratchpad.specs.declared.MemoryPhase.TheVariants as memory
use Rattle.ds2413.specs.declared.SwitchPhase.TheVariants as pio
use Rattle.chip.specs.With.{with_level}
use Rattle.chip.specs.Chip.{Whole, whole, rom_slot, memory_slot, switch_slot, level_takes, takes_of, level_sends, sends_of, set_up_chip}
use Rattle.chip.specs.declared.Level.{Level}
use Rattle.chip.specs.declared.Level.TheVariants.{Waiting, Rom, FunctionCommand, Memory, Pio}
use Rattle.line.specs.Line.{value_of}
use Rattle.line.specs.Event.{asked_by, plan_event, outside_fits}
use Rattle.line.specs.Events.{slot_event}
use Rattle.histories.specs.Histories.{at, after_of, run}

-- every chip of a line sends 1
abbrev pub AllSendOne : List Whole → Type 0
AllSendOne [] = Unit
AllSendOne (w ∷ L) = (sends_of w ≡ true) × AllSendOne L

-- "A slot's value is the AND of the host's bit and the bit of each chip that is sending": 1 exactly if all of these are 1
value_one : (host : Bool) (L : List Whole) → value_of host L ≡ true → (host ≡ true) × AllSendOne L
value_one host [] h = (h, tt)
value_one host (w ∷ L) h =
    let p = value_one (both (sends_of w) host) L h in
    let q = both_holds (sends_of w) host p.0 in
    (q.1, (q.0, p.1))

one_value : (host : Bool) (L : List Whole) → (host ≡ true) × AllSendOne L → value_of host L ≡ true
one_value host [] (h, a) = h
one_value host (w ∷ L) (h, (a, b)) = one_value (both (sends_of w) host) L (both_true' (sends_of w) host a h, b)

pub value_exactly : (host : Bool) (L : List Whole) → Iff (value_of host L ≡ true) ((host ≡ true) × AllSendOne L)
value_exactly host L = (value_one host L, one_value host L)

-- a level at which a chip is sending
abbrev pub Sending : Level → Type 0
Sending Waiting = ⊥
Sending (Rom (Command count bits)) = ⊥
Sending (Rom (Read place)) = Unit
Sending (Rom (Match place)) = ⊥
Sending (Rom (Search place step)) = ltb step 2 ≡ true
Sending (FunctionCommand count bits) = ⊥
Sending (Memory memory.Ones) = Unit
Sending (Memory (memory.WriteAddress count bits)) = ⊥
Sending (Memory (memory.WriteData offset count bits crc)) = ⊥
Sending (Memory (memory.SendCrc place crc)) = Unit
Sending (Memory (memory.ReadRegisters place)) = Unit
Sending (Memory (memory.ReadPad offset count crc)) = Unit
Sending (Memory (memory.CopyAddress count bits)) = ⊥
Sending (Memory (memory.CopyEnd address count bits)) = ⊥
Sending (Memory (memory.Copied answer)) = Unit
Sending (Memory (memory.ReadAddress count bits)) = ⊥
Sending (Memory (memory.ReadMemory address count)) = Unit
Sending (Pio pio.Ones) = Unit
Sending (Pio (pio.Status count sample)) = Unit
Sending (Pio (pio.Take count bits)) = ⊥
Sending (Pio (pio.Confirm count)) = Unit
Sending (Pio (pio.Show count sample)) = Unit

-- "a chip with nothing to send sends 1", level by level and of a chip
search_silent : (code place step : ℕ) → (ltb step 2 ≡ true → ⊥) → search_sends code place step ≡ true
unfolding search_sends
search_silent code place step n =
    let two : (step < 2 → ⊥) = λ h. n (lt-ltb step 2 h) in
    pick_false (eqb step 0) _ _ (ne_eqb step 0 (λ e. two (omega arith))) ∙ pick_false (eqb step 1) _ _ (ne_eqb step 1 (λ e. two (omega arith)))

level_silent : (w : Whole) (l : Level) → (Sending l → ⊥) → level_sends w l ≡ true
level_silent w Waiting n = refl
level_silent w (Rom (Command count bits)) n = refl
level_silent w (Rom (Read place)) n = absurd (n tt)
level_silent w (Rom (Match place)) n = refl
level_silent w (Rom (Search place step)) n = search_silent w.chip.code place step n
level_silent w (FunctionCommand count bits) n = refl
level_silent w (Memory memory.Ones) n = refl
level_silent w (Memory (memory.WriteAddress count bits)) n = refl
level_silent w (Memory (memory.WriteData offset count bits crc)) n = refl
level_silent w (Memory (memory.SendCrc place crc)) n = absurd (n tt)
level_silent w (Memory (memory.ReadRegisters place)) n = absurd (n tt)
level_silent w (Memory (memory.ReadPad offset count crc)) n = absurd (n tt)
level_silent w (Memory (memory.CopyAddress count bits)) n = refl
level_silent w (Memory (memory.CopyEnd address count bits)) n = refl
level_silent w (Memory (memory.Copied answer)) n = absurd (n tt)
level_silent w (Memory (memory.ReadAddress count bits)) n = refl
level_silent w (Memory (memory.ReadMemory address count)) n = absurd (n tt)
level_silent w (Pio pio.Ones) n = refl
level_silent w (Pio (pio.Status count sample)) n = absurd (n tt)
level_silent w (Pio (pio.Take count bits)) n = refl
level_silent w (Pio (pio.Confirm count)) n = absurd (n tt)
level_silent w (Pio (pio.Show count sample)) n = absurd (n tt)

pub nothing_sends_1 : (w : Whole) → (Sending w.chip.level → ⊥) → sends_of w ≡ true
unfolding sends_of
nothing_sends_1 w n = level_silent w w.chip.level n

level_moves : (w : Whole) (l : Level) → Sending l → level_takes w true l ≡ level_takes w false l
unfolding rom_slot search_bit memory_slot switch_slot pick
level_moves w Waiting h = elim h [ ]
level_moves w (Rom (Command _ _)) h = elim h [ ]
level_moves w (Rom (Match _)) h = elim h [ ]
level_moves w (Rom (Read place)) h = refl
level_moves w (Rom (Search place step)) h = rw h
level_moves w (FunctionCommand _ _) h = elim h [ ]
level_moves w (Memory (memory.WriteAddress _ _)) h = elim h [ ]
level_moves w (Memory (memory.WriteData _ _ _ _)) h = elim h [ ]
level_moves w (Memory (memory.CopyAddress _ _)) h = elim h [ ]
level_moves w (Memory (memory.CopyEnd _ _ _)) h = elim h [ ]
level_moves w (Memory (memory.ReadAddress _ _)) h = elim h [ ]
level_moves w (Pio (pio.Take _ _)) h = elim h [ ]
level_moves w (Memory memory.Ones) h = refl
level_moves w (Memory (memory.SendCrc place crc)) h = refl
level_moves w (Memory (memory.ReadRegisters place)) h = refl
level_moves w (Memory (memory.ReadPad offset count crc)) h = refl
level_moves w (Memory (memory.Copied answer)) h = refl
level_moves w (Memory (memory.ReadMemory address count)) h = refl
level_moves w (Pio pio.Ones) h = refl
level_moves w (Pio (pio.Status count sample)) h = refl
level_moves w (Pio (pio.Confirm count)) h = refl
level_moves w (Pio (pio.Show count sample)) h = refl

-- "A sending chip moves on whatever the value."
pub moves_on : (w : Whole) → Sending w.chip.level → takes_of true w ≡ takes_of false w
unfolding takes_of
moves_on w h = level_moves w w.chip.level h

-- a DS28EC20 that sends a 0 after a copy, and another that takes a ROM command
abbrev sender : Whole
sender = whole (with_level (Memory (memory.Copied false)) (set_up_chip 1 1)) (replicate 2624 0xFF) (replicate 32 0xFF)

abbrev receiver : Whole
receiver = whole (with_level (Rom (Command 0 0)) (set_up_chip 2 1)) (replicate 2624 0xFF) (replicate 32 0xFF)

-- "A receiving chip takes the slot's value, not the host's bit.": the host writes 1, the sender pulls it to 0, and the receiver has taken a 0
pub receiver_takes_value : (at 1 (run (slot_event true ∷ []) (sender ∷ receiver ∷ []))).chip.level ≡ Rom (Command 1 0)
unfolding after_of plan_event outside_fits asked_by sends_of takes_of rom_slot command_bit filled both pick set_up_chip
receiver_takes_value = refl
