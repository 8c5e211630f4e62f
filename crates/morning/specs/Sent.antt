-- Laws: one chip while page 0 of a code is read. It is silent over the match, the command and the address; then a DS28EC20 of that code sends its
-- memory, and every other chip ones.
use Rattle.std.specs.Prelude.{ℕ, ◌^◌, ◌<◌, Bool, ◌≡◌, eqb, length}
use Rattle.std.proofs.Common.{arith, true≢false, ◌∙◌, ap, subst, eqb-true}
use Rattle.std.proofs.Math.Bool.{true, false}
use mathlib.Core.List.{List, [], ◌++◌}
use Rattle.std.proofs.Math.Path.{refl, sym}
use Rattle.std.proofs.lemmas.Bool.{eqb-false}
use Rattle.base.specs.Pick.{pick, pick_if}
use Rattle.base.specs.Bits.{bit_of, filled, both}
use Rattle.scratchpad.specs.declared.Registers.{Registers}
use Rattle.ds2413.specs.Switch.{switch_function, switch_begins}
use Rattle.ds2413.specs.declared.SwitchPhase.TheVariants as switch
use Rattle.rom.specs.declared.RomStep.TheVariants.{Command}
use Rattle.chip.specs.Kinds.{is_ds28ec20, known_kind, image_size, has_memory, has_switch}
use Rattle.chip.specs.Chip.{Whole, function_in, function_slot, switch_slot, takes_of, sends_of, level_reset, reset_chip, reset_of}
use Rattle.chip.specs.declared.Level.TheVariants.{Waiting, Rom, FunctionCommand, Pio}
use Rattle.histories.specs.Histories.{Stored, stored_in}
use Rattle.histories.specs.Fed.{fed, sends_nothing}
use Rattle.histories.specs.Sent.{bits_of}
use Rattle.recovery.specs.Sessions.{opening}
use Rattle.recovery.specs.Goes.{Goes, goes_from, goes_append, of_kind, goes_match, goes_waiting, goes_other}
use Rattle.rounds.specs.Borne.{bears_code}
use Rattle.commands.specs.Streams.{Streams, streams_ones}
use Rattle.commands.specs.ReadMemory.{read_memory, memory_size, streams_memory, goes_read}

-- what the host sends after the reset: a match of the code, F0h, 0000h
abbrev pub asked : ℕ → List Bool
asked code = opening code ++ read_memory 0

-- what a chip sends then: a DS28EC20 of the code its memory, another nothing
abbrev pub page_bits : ℕ → Whole → List Bool
page_bits code w = pick (bears_code code w.chip.kind w.chip.code) (bits_of w.memory) []

-- a chip's kind is known, its memory has the size of its kind, and its code is of 64 bits
pub record SoundChip (c : Stored) : Type 0 where
  pub known : known_kind c.kind ≡ true
  pub full : length c.memory ≡ image_size c.kind
  pub fits : c.code < 2 ^ 64

-- a chip is silent while it is asked, and sends these bits after that; code, kind and memory stay
pub record Sends (code : ℕ) (bits : List Bool) (w : Whole) : Type 0 where
  pub silent : sends_nothing (asked code) (reset_of w) ≡ true
  pub streams : Streams bits (fed (asked code) (reset_of w))
  pub stays : stored_in (fed (asked code) (reset_of w)) ≡ stored_in w

-- by where the bits that are asked bring it
sends-by : (code : ℕ) (bits : List Bool) (w u : Whole) → Goes (asked code) (reset_of w) u → Streams bits u → stored_in u ≡ stored_in w → Sends code bits w
sends-by code bits w u g s e =
    record {
      silent = g.silent;
      streams = subst (Streams bits) (sym g.comes) s;
      stays = ap stored_in g.comes ∙ e;
    }

-- a chip after a reset, with its kind written out
reset_as : (w : Whole) (kind : ℕ) → w.chip.kind ≡ kind → reset_of w ≡ of_kind w.chip w.memory kind (Rom (Command 0 0)) w.chip.rc (level_reset w.chip w.chip.level) w.pad
unfolding reset_of reset_chip
reset_as w kind e = ap (λ (k : ℕ). of_kind w.chip w.memory k (Rom (Command 0 0)) w.chip.rc (level_reset w.chip w.chip.level) w.pad) e

module _ (code : ℕ) (w : Whole) where
  -- its registers after the reset
  abbrev first : Registers
  first = level_reset w.chip w.chip.level

  -- a chip of another code waits
  sends_other : code < 2 ^ 64 → w.chip.code < 2 ^ 64 → (w.chip.code ≡ code → ⊥) → Sends code [] w
  unfolding sends_of takes_of
  sends_other g h n =
      let kind = w.chip.kind in
      let end = of_kind w.chip w.memory kind Waiting false first w.pad in
      sends-by code [] w end
      (goes_from (asked code) _ _ _ (reset_as w kind refl)
      (goes_append (opening code) (read_memory 0) _ _ _ (goes_other w.chip w.memory kind code g h n w.chip.rc first w.pad)
      (goes_waiting w.chip w.memory kind (read_memory 0) false first w.pad)))
      (streams_ones end refl (λ v. refl))
      refl

  module _ (e : w.chip.code ≡ code) where
    -- a match of the chip's own code, and then the command
    own : (kind : ℕ) (u : Whole) → w.chip.kind ≡ kind → Goes (read_memory 0) (of_kind w.chip w.memory kind (FunctionCommand 0 0) true first w.pad) u → Goes (asked code) (reset_of w) u
    own kind u k g =
        subst (λ (x : ℕ). Goes (asked x) (reset_of w) u) e
        (goes_from (asked w.chip.code) _ _ _ (reset_as w kind k)
        (goes_append (opening w.chip.code) (read_memory 0) _ _ _ (goes_match w.chip w.memory kind w.chip.rc first w.pad) g))

    -- a DS28EC20
    sends_memory : length w.memory ≡ image_size w.chip.kind → w.chip.kind ≡ 1 → Sends code (bits_of w.memory) w
    sends_memory full k =
        let r = first in
        sends-by code (bits_of w.memory) w _
        (own 1 _ k (goes_read w.chip w.memory r w.pad 0 (omega arith)))
        (streams_memory w.chip w.memory true r w.pad 0 (full ∙ memory_size w.chip.kind k))
        (λ j. record { code = w.chip.code; kind = sym k j; memory = w.memory })

    -- a DS2413: "Any other: ones."
    switch_read : (r : Registers) → Goes (read_memory 0) (of_kind w.chip w.memory 2 (FunctionCommand 0 0) true r w.pad) (of_kind w.chip w.memory 2 (Pio switch.Ones) true r w.pad)
    unfolding sends_of takes_of function_slot function_in switch_slot has_memory has_switch switch_function switch_begins filled bit_of both pick
    switch_read r = record { silent = refl; comes = refl }

    sends_ones : w.chip.kind ≡ 2 → Sends code [] w
    unfolding sends_of takes_of switch_slot
    sends_ones k =
        sends-by code [] w _ (own 2 _ k (switch_read first)) (streams_ones (of_kind w.chip w.memory 2 (Pio switch.Ones) true first w.pad) refl (λ v. refl))
        (λ j. record { code = w.chip.code; kind = sym k j; memory = w.memory })

-- the kinds that there are
kind_one : (kind : ℕ) → is_ds28ec20 kind ≡ true → kind ≡ 1
unfolding is_ds28ec20
kind_one kind e = eqb-true kind 1 e

kind_two : (kind : ℕ) → known_kind kind ≡ true → is_ds28ec20 kind ≡ false → kind ≡ 2
unfolding known_kind is_ds28ec20
kind_two kind k e = eqb-true kind 2 (pick_if (λ (b : Bool). b ≡ true → eqb kind 2 ≡ true) (eqb kind 1) true (eqb kind 2) (λ f g. absurd (true≢false (sym f ∙ e))) (λ f g. g) k)

-- every chip of a known kind, with a memory of its size, sends so
pub sends_page : (code : ℕ) (w : Whole) → code < 2 ^ 64 → SoundChip (stored_in w) → Sends code (page_bits code w) w
unfolding both pick
sends_page code w g sound = go (is_ds28ec20 w.chip.kind) (eqb code w.chip.code) refl refl
  where
    go : (t u : Bool) → is_ds28ec20 w.chip.kind ≡ t → eqb code w.chip.code ≡ u → Sends code (pick (both t u) (bits_of w.memory) []) w
    go true true p q = sends_memory code w (sym (eqb-true code w.chip.code q)) sound.full (kind_one w.chip.kind p)
    go true false p q = sends_other code w g sound.fits (λ z. eqb-false code w.chip.code q (sym z))
    go false true p q = sends_ones code w (sym (eqb-true code w.chip.code q)) (kind_two w.chip.kind sound.known p)
    go false false p q = sends_other code w g sound.fits (λ z. eqb-false code w.chip.code q (sym z))
