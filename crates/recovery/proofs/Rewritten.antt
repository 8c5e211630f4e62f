-- The write session on a line: the exact state that it brings chip i to, from any state of the line.
use Rattle.std.specs.Prelude.{ℕ, ◌/◌, ◌%◌, Bool, false, List, [], ◌∷◌, ◌++◌, map, ◌≡◌}
use Rattle.std.proofs.Math.Bool.{true}
use Rattle.std.proofs.Common.{◌∙◌, sym, subst}
use Rattle.std.proofs.Math.Path.{ap}
use Rattle.base.specs.Pick.{pick}
use Rattle.crc.specs.Crc.{poly16, crc_of}
use Rattle.scratchpad.specs.Registers.{registers}
use Rattle.scratchpad.specs.declared.MemoryPhase.TheVariants.{SendCrc}
use Rattle.chip.specs.Chip.{Whole, whole, level_reset, reset_of}
use Rattle.chip.specs.Kinds.{pad_size}
use Rattle.chip.specs.declared.Level.TheVariants.{Memory}
use Rattle.line.specs.Event.{bit}
use Rattle.histories.specs.Histories.{at, run, answers}
use Rattle.recovery.specs.Sessions.{opening, write_bits, write, Page}
use Rattle.recovery.specs.Stays.{bare}
use Rattle.recovery.proofs.Among.{Own, Among}
use Rattle.recovery.specs.Goes.{Goes, goes_from, goes_to, of_kind, ec20}
use Rattle.recovery.specs.Written.{ruled, written_to, goes_written}
use Rattle.recovery.proofs.Installed.{Installed, codes_at}
use Rattle.recovery.proofs.Matched.{reset_is, session_among, session_answers}

-- a DS28EC20 after the write, with its kind written out
module _ (w : Whole) (e : w.chip.kind ≡ 1) where
  written_is : (t : ℕ) (bytes : List ℕ)
      → ec20 w.chip w.memory (Memory (SendCrc 0 (crc_of poly16 0 (0x0F ∷ t % 256 ∷ t / 256 ∷ bytes)))) true (registers t 0x1F) (ruled w.memory t bytes) ≡ written_to w t bytes
  unfolding written_to
  written_is t bytes =
      let crc = crc_of poly16 0 (0x0F ∷ t % 256 ∷ t / 256 ∷ bytes) in
      ap (λ (k : ℕ). of_kind w.chip w.memory k (Memory (SendCrc 0 crc)) true (registers t 0x1F) (ruled w.memory t bytes)) (sym e)

  -- its scratchpad has 32 bytes
  pub pad-size : pad_size w.chip.kind ≡ 32
  unfolding pad_size pick
  pad-size = rw e

-- the write depends on these alone
pub written_same : (w u : Whole) (t : ℕ) (bytes : List ℕ) → bare w.chip ≡ bare u.chip → w.memory ≡ u.memory → written_to w t bytes ≡ written_to u t bytes
unfolding written_to
written_same w u t bytes e m = λ j. written_to (whole (e j) (m j) []) t bytes

module _ (i : ℕ) (L : List Whole) (s : Installed i L) (code : ℕ) (e : (at i L).chip.code ≡ code) (t : ℕ) (bytes : List ℕ) (g : Page t bytes) where
  -- the bits after the reset
  abbrev sent : List Bool
  sent = opening code ++ write_bits t bytes

  -- chip i, alone, from the reset to the end of the write
  goes : Goes sent (reset_of (at i L)) (written_to (at i L) t bytes)
  goes =
      let w = at i L in
      subst (λ (c : ℕ). Goes (opening c ++ write_bits t bytes) (reset_of w) (written_to w t bytes)) e
      (goes_from (opening w.chip.code ++ write_bits t bytes) _ _ _ (reset_is w s.kind)
      (goes_to (opening w.chip.code ++ write_bits t bytes) _ _ _
      (goes_written w.chip w.memory t bytes w.chip.rc (level_reset w.chip w.chip.level) w.pad g (s.good.pad ∙ pad-size w s.kind))
      (written_is w s.kind t bytes)))

  -- chip i after the write, among chips of other codes that wait
  pub rewritten : Among code [] (written_to (at i L) t bytes) i (run (write code t bytes) L)
  rewritten = session_among i L s code e (write_bits t bytes) (written_to (at i L) t bytes) goes

  -- it has the code
  pub rewritten_own : Own code [] (written_to (at i L) t bytes)
  unfolding written_to
  rewritten_own =
      record { has_code = e; of_64_bits = codes_at i L s.attached s.codes; kind = s.kind; silent = λ n. absurd (n e) }

  -- and every bit of the session is on the line as the host wrote it
  pub rewritten_answers : answers (write code t bytes) L ≡ bit false ∷ map bit sent
  rewritten_answers = session_answers i L s code e (write_bits t bytes) (written_to (at i L) t bytes) goes
