-- Form: a table by value for chips that stand in another form, gathered in it one by one and put back from it.
use Rattle.std.specs.Prelude.{ℕ, ◌+◌, leb, ltb, get_or, set, replicate}
use Rattle.base.specs.Pick.{pick}
use Rattle.chip.specs.Chip.{set_up_chip}
use Rattle.chip.specs.With.{no_chip}
use Rattle.chip.specs.declared.Chip.{Chip}
use Rattle.line.specs.declared.Table.{Table}

-- sixteen empty places, said to hold n chips
abbrev pub blank_table : ℕ → Table
blank_table n = record { n = n; chips = replicate 16 (set_up_chip 0 0) }

-- a table with one chip more; over 16 it counts 17
unfoldable pub joined : Chip → Table → Table
joined c t =
    pick (ltb t.n 16)
    (record { n = t.n + 1; chips = set t.chips t.n c })
    (record { n = 17; chips = t.chips })

-- what a place holds once a table is put back
unfoldable pub chip_for : Table → ℕ → Chip → Chip
chip_for t i c = pick (leb t.n 16) (pick (ltb i t.n) (get_or t.chips i no_chip) c) c
