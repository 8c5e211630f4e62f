-- Laws: a record that can be taken lies in the recording, has at least four bytes, and ends where the next one starts; a run has the bytes that it asks.
use Rattle.std.specs.Prelude.{ℕ, ◌+◌, ◌-◌, ◌*◌, ◌≤◌, Bool, List, ◌≡◌, length, take, drop, Result, Ok, Err}
use Rattle.std.proofs.Common.{arith, ◌∙◌, subst, length-drop, length-take-le}
use Rattle.line.specs.Slots.{bytes_asked}
use Rattle.recording.specs.declared.Fault.{Fault}
use Rattle.recording.specs.Reading.{found_at}
use Rattle.recording.specs.Heads.{kind_counted}
use Rattle.recording.specs.There.{kind_at}
use Rattle.recording.specs.Ways.{found_has}
use Rattle.recording.specs.Putting.{RecordFits, answers_most}
use Rattle.recording.specs.declared.Found.{Found}
use Rattle.recording.specs.declared.Found.TheVariants as found
use Rattle.recording.specs.declared.Record.{Record}
use Rattle.recording.specs.declared.Record.TheVariants as record_of

-- a record from an offset to the next, with no more answers than eight for each byte
pub record Lies (s : List ℕ) (at : ℕ) (r : Record) (next : ℕ) : Type 0 where
  pub further : at + 4 ≤ next
  pub within : next ≤ length s
  pub fits : RecordFits s r
  pub few : answers_most r + 8 * at ≤ 8 * next

-- a record that was found lies in the recording
abbrev pub Sound : List ℕ → ℕ → Result Found Fault → Type 0
Sound s at (Ok found.End) = Unit
Sound s at (Ok found.Part) = Unit
Sound s at (Ok (found.Record r next)) = Lies s at r next
Sound s at (Err f) = Unit

-- what stands at an offset
pub found_sound : (s : List ℕ) (at room : ℕ) (over more : Bool) → Sound s at (found_at s at room over more)
found_sound s at room over more =
    found_has (Sound s at) s at room over more (λ e. tt) (λ a. tt) (λ f. tt)
    (λ w k t r. record { further = omega arith; within = w.within; fits = tt; few = omega arith })
    (λ w k t u. record { further = omega arith; within = w.within; fits = (omega arith, w.within); few = omega arith })
    (λ w t. let l = kind_counted s (at + 4) (kind_at s at) in record { further = omega arith; within = w.within; fits = tt; few = omega arith })

-- and so a record that was found there
pub found_lies : (s : List ℕ) (at room : ℕ) (over more : Bool) (r : Record) (next : ℕ) → found_at s at room over more ≡ Ok (found.Record r next) → Lies s at r next
found_lies s at room over more r next e = subst (Sound s at) e (found_sound s at room over more)

-- a run has as many bytes as its slots ask
pub run-bytes : (s : List ℕ) (count from to : ℕ) → RecordFits s (record_of.Slots count from to) → length (take (to - from) (drop from s)) ≡ bytes_asked count
run-bytes s count from to f =
    let a = f.0 in
    let w = f.1 in
    let d = length-drop from s in
    length-take-le (to - from) (drop from s) (omega arith) ∙ omega arith
