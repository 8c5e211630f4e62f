-- include/toemsakun.h, the table of steps: what a chip is in the middle of, as a number, and what it needs to go on.
use Rattle.std.specs.Prelude.{ℕ, Bool, true, false, ◌≡◌, refl, eqb, ltb}
use Rattle.std.proofs.Common.{ap}
use Rattle.base.specs.Pick.{pick}
use Rattle.rom.specs.declared.RomStep.{RomStep}
use Rattle.rom.specs.declared.RomStep.TheVariants.{Command, Read, Match, Search}
use Rattle.scratchpad.specs.declared.MemoryPhase.{MemoryPhase}
use Rattle.scratchpad.specs.declared.MemoryPhase.TheVariants.{Ones, WriteAddress, WriteData, SendCrc, ReadRegisters, ReadPad, CopyAddress, CopyEnd, Copied, ReadAddress, ReadMemory}
use Rattle.ds2413.specs.declared.SwitchPhase.{SwitchPhase}
use Rattle.ds2413.specs.declared.SwitchPhase.TheVariants as pio
use Rattle.chip.specs.declared.Level.{Level}
use Rattle.chip.specs.declared.Level.TheVariants.{Waiting, Rom, FunctionCommand, Memory, Pio}
use Rattle.packed.specs.declared.Step.{Step}

-- a step's number, and w, a, b and c
abbrev pub step : ℕ → ℕ → ℕ → ℕ → ℕ → Step
step number w a b c = record { number = number; w = w; a = a; b = b; c = c }

-- a bit as a number
abbrev pub flag : Bool → ℕ
flag true = 1
flag false = 0

-- steps 1 to 4, of any chip
abbrev pub rom_packed : RomStep → Step
rom_packed (Command count bits) = step 1 0 count bits 0
rom_packed (Read place) = step 2 0 place 0 0
rom_packed (Match place) = step 3 0 place 0 0
rom_packed (Search place slot) = step 4 0 place slot 0

-- steps 16 to 26, of a DS28EC20
abbrev pub memory_packed : MemoryPhase → Step
memory_packed Ones = step 16 0 0 0 0
memory_packed (WriteAddress count bits) = step 17 bits count 0 0
memory_packed (WriteData offset count bits crc) = step 18 crc offset count bits
memory_packed (SendCrc place crc) = step 19 crc place 0 0
memory_packed (ReadRegisters place) = step 20 0 place 0 0
memory_packed (ReadPad offset count crc) = step 21 crc offset count 0
memory_packed (CopyAddress count bits) = step 22 bits count 0 0
memory_packed (CopyEnd address count bits) = step 23 address count bits 0
memory_packed (Copied answer) = step 24 0 (flag answer) 0 0
memory_packed (ReadAddress count bits) = step 25 bits count 0 0
memory_packed (ReadMemory address count) = step 26 address count 0 0

-- steps 32 to 36, of a DS2413
abbrev pub switch_packed : SwitchPhase → Step
switch_packed pio.Ones = step 32 0 0 0 0
switch_packed (pio.Status count sample) = step 33 0 count sample 0
switch_packed (pio.Take count bits) = step 34 bits count 0 0
switch_packed (pio.Confirm count) = step 35 0 count 0 0
switch_packed (pio.Show count sample) = step 36 0 count sample 0

-- a chip's level as a step
abbrev pub level_packed : Level → Step
level_packed Waiting = step 0 0 0 0 0
level_packed (Rom s) = rom_packed s
level_packed (FunctionCommand count bits) = step 5 0 count bits 0
level_packed (Memory p) = memory_packed p
level_packed (Pio p) = switch_packed p

-- what a step stands for: it takes what the step names, whatever the rest is; a number that is no step is taken for another
unfoldable pub rom_unpacked : Step → RomStep
rom_unpacked s =
    pick (eqb s.number 1) (Command s.a s.b)
    (pick (eqb s.number 2) (Read s.a)
    (pick (eqb s.number 3) (Match s.a)
    (Search s.a s.b)))

unfoldable pub copy_unpacked : Step → MemoryPhase
copy_unpacked s =
    pick (eqb s.number 22) (CopyAddress s.a s.w)
    (pick (eqb s.number 23) (CopyEnd s.w s.a s.b)
    (pick (eqb s.number 24) (Copied (eqb s.a 1))
    (pick (eqb s.number 25) (ReadAddress s.a s.w)
    (pick (eqb s.number 26) (ReadMemory s.w s.a)
    Ones))))

unfoldable pub memory_unpacked : Step → MemoryPhase
memory_unpacked s =
    pick (eqb s.number 17) (WriteAddress s.a s.w)
    (pick (eqb s.number 18) (WriteData s.a s.b s.c s.w)
    (pick (eqb s.number 19) (SendCrc s.a s.w)
    (pick (eqb s.number 20) (ReadRegisters s.a)
    (pick (eqb s.number 21) (ReadPad s.a s.b s.w)
    (copy_unpacked s)))))

unfoldable pub switch_unpacked : Step → SwitchPhase
switch_unpacked s =
    pick (eqb s.number 33) (pio.Status s.a s.b)
    (pick (eqb s.number 34) (pio.Take s.a s.w)
    (pick (eqb s.number 35) (pio.Confirm s.a)
    (pick (eqb s.number 36) (pio.Show s.a s.b)
    pio.Ones)))

unfoldable pub level_unpacked : Step → Level
level_unpacked s =
    pick (eqb s.number 0) Waiting
    (pick (ltb s.number 5) (Rom (rom_unpacked s))
    (pick (eqb s.number 5) (FunctionCommand s.a s.b)
    (pick (ltb s.number 32) (Memory (memory_unpacked s))
    (Pio (switch_unpacked s)))))

-- a level that was packed is unpacked again
pub flag_back : (b : Bool) → eqb (flag b) 1 ≡ b
flag_back true = refl
flag_back false = refl

rom_back : (s : RomStep) → level_unpacked (rom_packed s) ≡ Rom s
unfolding level_unpacked rom_unpacked pick
rom_back (Command count bits) = refl
rom_back (Read place) = refl
rom_back (Match place) = refl
rom_back (Search place part) = refl

memory_back : (p : MemoryPhase) → level_unpacked (memory_packed p) ≡ Memory p
unfolding level_unpacked memory_unpacked copy_unpacked pick
memory_back Ones = refl
memory_back (WriteAddress count bits) = refl
memory_back (WriteData offset count bits crc) = refl
memory_back (SendCrc place crc) = refl
memory_back (ReadRegisters place) = refl
memory_back (ReadPad offset count crc) = refl
memory_back (CopyAddress count bits) = refl
memory_back (CopyEnd address count bits) = refl
memory_back (Copied answer) = ap (λ (b : Bool). Memory (Copied b)) (flag_back answer)
memory_back (ReadAddress count bits) = refl
memory_back (ReadMemory address count) = refl

switch_back : (p : SwitchPhase) → level_unpacked (switch_packed p) ≡ Pio p
unfolding level_unpacked switch_unpacked pick
switch_back pio.Ones = refl
switch_back (pio.Status count sample) = refl
switch_back (pio.Take count bits) = refl
switch_back (pio.Confirm count) = refl
switch_back (pio.Show count sample) = refl

pub level_back : (l : Level) → level_unpacked (level_packed l) ≡ l
unfolding level_unpacked pick
level_back Waiting = refl
level_back (Rom s) = rom_back s
level_back (FunctionCommand count bits) = refl
level_back (Memory p) = memory_back p
level_back (Pio p) = switch_back p
