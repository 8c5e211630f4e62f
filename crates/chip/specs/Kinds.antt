-- The kinds by name: document 01's kinds 1 (DS28EC20) and 2 (DS2413), and what each has.
use Rattle.std.specs.Prelude.{ℕ, Bool, true, eqb, Option, Some, None}
use Rattle.base.specs.Pick.{pick}
use Rattle.chip.specs.declared.kinds.Kind.{Kind}
use Rattle.chip.specs.declared.kinds.Kind.TheVariants as kind
use Rattle.rom.specs.declared.Knows.{Knows}
use Rattle.memory.specs.declared.Part.{Part}
use Rattle.memory.specs.declared.Part.TheVariants.{Ds28ec20}

-- the kind of a number
unfoldable pub named : ℕ → Option Kind
named k = pick (eqb k 1) (Some kind.Ds28ec20) (pick (eqb k 2) (Some kind.Ds2413) None)

-- "kind 1 or 2"
unfoldable pub known_kind : ℕ → Bool
known_kind kind = pick (eqb kind 1) true (eqb kind 2)

-- a DS28EC20, which is kind 1
unfoldable pub is_ds28ec20 : ℕ → Bool
is_ds28ec20 kind = eqb kind 1

-- a kind with a memory
unfoldable pub has_memory : ℕ → Bool
has_memory kind = eqb kind 1

-- a kind with a scratchpad
unfoldable pub has_scratchpad : ℕ → Bool
has_scratchpad kind = eqb kind 1

-- a kind with T and E/S
unfoldable pub has_registers : ℕ → Bool
has_registers kind = eqb kind 1

-- a kind with latches and outside levels
unfoldable pub has_switch : ℕ → Bool
has_switch kind = eqb kind 2

-- the kinds that event 4 takes: "outside levels of one DS2413"
unfoldable pub takes_outside : ℕ → Bool
takes_outside kind = has_switch kind

-- the part that a kind with a memory is
unfoldable pub part_of : ℕ → Part
part_of kind = Ds28ec20

-- what a kind knows of the ROM commands that not every chip knows
unfoldable pub knows_of : ℕ → Knows
knows_of kind = record { resume = true }

-- the most bytes that any kind asks, of an image and of a scratchpad
abbrev pub image_most : ℕ
image_most = 2624

abbrev pub pad_most : ℕ
pad_most = 32

-- "the memory images (2,624 bytes for each kind-1 chip, in table order)"
unfoldable pub image_size : ℕ → ℕ
image_size kind = pick (eqb kind 1) 2624 0

-- "and the scratchpads (32 bytes each, same order)"
unfoldable pub pad_size : ℕ → ℕ
pad_size kind = pick (eqb kind 1) 32 0
