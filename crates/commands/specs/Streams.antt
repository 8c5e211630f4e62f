-- What a chip sends in slots, one after the other, whatever their values.
use Rattle.std.specs.Prelude.{ℕ, zero, suc, Bool, true, not, List, [], ◌∷◌, ◌≡◌, refl, length}
use Rattle.std.proofs.Common.{◌∙◌, ap, sym, subst}
use Rattle.chip.specs.With.{with_level}
use Rattle.scratchpad.specs.declared.MemoryPhase.TheVariants.{Copied}
use Rattle.chip.specs.Chip.{Whole, whole, memory_slot, level_takes, takes_of, sends_of}
use Rattle.chip.specs.Level.{takes-in, sends-in}
use Rattle.chip.specs.declared.Level.TheVariants.{Waiting, Memory}
use Rattle.histories.specs.Fed.{fed}

-- the bits that a chip sends in slots of these values
abbrev pub sent_in : List Bool → Whole → List Bool
sent_in [] w = []
sent_in (v ∷ vs) w = sends_of w ∷ sent_in vs (takes_of v w)

-- the first n of these bits, "then ones"
abbrev pub then_ones : ℕ → List Bool → List Bool
then_ones zero bits = []
then_ones (suc n) [] = true ∷ then_ones n []
then_ones (suc n) (b ∷ bits) = b ∷ then_ones n bits

-- a chip but for its level: code, kind, RC, T, E/S, latches, outside levels, memory and scratchpad
abbrev pub but_level : Whole → Whole
but_level w = whole (with_level Waiting w.chip) w.memory w.pad

-- in slots of whatever values and however many, a chip sends these bits and then ones, and all of it but its level stays
pub record Streams (bits : List Bool) (w : Whole) : Type 0 where
  pub sends : (values : List Bool) → sent_in values w ≡ then_ones (length values) bits
  pub stays : (values : List Bool) → but_level (fed values w) ≡ but_level w

-- from an equal state
pub streams_from : (bits : List Bool) (w u : Whole) → w ≡ u → Streams bits u → Streams bits w
streams_from bits w u e s = subst (Streams bits) (sym e) s

-- one bit before others
pub streams_bit : {bits : List Bool} {w u : Whole} (b : Bool) → sends_of w ≡ b → ((v : Bool) → takes_of v w ≡ u) → but_level u ≡ but_level w → Streams bits u → Streams (b ∷ bits) w
streams_bit {bits} {w} {u} b e f k s = record { sends = sends; stays = stays }
  where
    sends : (vs : List Bool) → sent_in vs w ≡ then_ones (length vs) (b ∷ bits)
    sends [] = refl
    sends (v ∷ vs) = let rest = ap (sent_in vs) (f v) ∙ s.sends vs in λ j. e j ∷ rest j

    stays : (vs : List Bool) → but_level (fed vs w) ≡ but_level w
    stays [] = refl
    stays (v ∷ vs) = ap (λ (x : Whole). but_level (fed vs x)) (f v) ∙ s.stays vs ∙ k

-- ones alone, of a chip that stays as it is and sends 1
pub streams_ones : (w : Whole) → sends_of w ≡ true → ((v : Bool) → takes_of v w ≡ w) → Streams [] w
streams_ones w e f = record { sends = sends; stays = stays }
  where
    sends : (vs : List Bool) → sent_in vs w ≡ then_ones (length vs) []
    sends [] = refl
    sends (v ∷ vs) = let rest = ap (sent_in vs) (f v) ∙ sends vs in λ j. e j ∷ rest j

    stays : (vs : List Bool) → but_level (fed vs w) ≡ but_level w
    stays [] = refl
    stays (v ∷ vs) = ap (λ (x : Whole). but_level (fed vs x)) (f v) ∙ stays vs

-- a bit and its complement, by turns
abbrev pub by_turns : ℕ → Bool → List Bool
by_turns zero b = []
by_turns (suc n) b = b ∷ by_turns n (not b)

-- "the chip sends 0, 1, 0, 1 until reset": a chip that has carried out a copy, in slots of whatever values and however many
pub copied_sends : (values : List Bool) (w : Whole) (b : Bool) → w.chip.level ≡ Memory (Copied b) → sent_in values w ≡ by_turns (length values) b
unfolding memory_slot
copied_sends [] w b e = refl
copied_sends (v ∷ vs) w b e =
    let next : (takes_of v w).chip.level ≡ Memory (Copied (not b)) = ap (λ (u : Whole). u.chip.level) (takes-in w v (Memory (Copied b)) e) ∙ step v in
    let rest = copied_sends vs (takes_of v w) (not b) next in
    λ j. sends-in w (Memory (Copied b)) e j ∷ rest j
  where
    step : (v : Bool) → (level_takes w v (Memory (Copied b))).chip.level ≡ Memory (Copied (not b))
    step v = refl
