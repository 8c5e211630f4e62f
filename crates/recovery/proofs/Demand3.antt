-- "Recovery after noise: after a reset, a match and a full-page scratchpad write, a chip's whole state no longer depends on what
-- happened between, unless it copied."
-- The words are: Installed in Installed.antt; NoCopy in CarriedOut.antt, by AtSlots of the crate histories; Page, write and Addressed
-- in Sessions.antt; written_to in Written.antt; Recovered in Recovery.antt.
use Rattle.std.specs.Prelude.{ℕ, List, ◌++◌, ◌≡◌, refl}
use Rattle.std.proofs.Common.{◌∙◌, ap, sym}
use Rattle.chip.specs.Chip.{Whole}
use Rattle.line.specs.declared.Event.{Event}
use Rattle.histories.specs.Histories.{at, run}
use Rattle.histories.specs.Kept.{run_kinds}
use Rattle.recovery.specs.Sessions.{write, Page}
use Rattle.recovery.specs.CarriedOut.{NoCopy}
use Rattle.recovery.proofs.CarriedOut.{no_copy}
use Rattle.recovery.specs.Stays.{run_stays}
use Rattle.recovery.proofs.Among.{among_at}
use Rattle.recovery.specs.Written.{written_to}
use Rattle.recovery.proofs.Installed.{Installed, installed_run}
use Rattle.recovery.proofs.Rewritten.{rewritten}
use Rattle.recovery.proofs.Recovery.{Recovered, same_memory, run_append}

-- THEOREM: the exact state of chip i after a reset, a match of its code and a write of a whole page, from any state of the line
pub written : (i : ℕ) (L : List Whole) → Installed i L → (t : ℕ) (bytes : List ℕ) → Page t bytes
    → at i (run (write (at i L).chip.code t bytes) L) ≡ written_to (at i L) t bytes
written i L s t bytes g = among_at (rewritten i L s (at i L).chip.code refl t bytes g)

-- THEOREM: two histories from one set-up, equal up to some point, then any events in which chip i carries out no copy. After a
-- reset, a match of its code and a write of 32 bytes from offset 0 its whole state is the same, and from there on every answer
-- is, while each new session opens by matching that code
pub demand_3 : (i : ℕ) (L : List Whole) → Installed i L
    → (start left right : List Event) → NoCopy i left (run start L) → NoCopy i right (run start L)
    → (t : ℕ) (bytes : List ℕ) → Page t bytes
    → Recovered i (at i L).chip.code (write (at i L).chip.code t bytes) (run (start ++ left) L) (run (start ++ right) L)
demand_3 i L s start left right p q t bytes g =
    let k = run_stays i (start ++ left) L in
    let n = run_stays i (start ++ right) L in
    let memory : (at i (run (start ++ left) L)).memory ≡ (at i (run (start ++ right) L)).memory
    = ap (λ (M : List Whole). (at i M).memory) (run_append start left L)
    ∙ no_copy i left (run start L) p
    ∙ sym (no_copy i right (run start L) q)
    ∙ ap (λ (M : List Whole). (at i M).memory) (sym (run_append start right L)) in
    same_memory i (run (start ++ left) L) (run (start ++ right) L) (installed_run i (start ++ left) L s) (installed_run i (start ++ right) L s)
    (at i L).chip.code t bytes g k.code n.code
    (k.rest s.good s.kind ∙ sym (n.rest s.good s.kind))
    memory (run_kinds (start ++ left) L ∙ sym (run_kinds (start ++ right) L))
