-- Form: runs of slots that follow one another in a recording, joined into one whose host bits stand in a buffer of their own. How many are joined
-- is not said: any number plays as its records do.
use Rattle.std.specs.Prelude.{ℕ, ◌+◌, ◌-◌, ◌*◌, ◌≤◌, Bool, true, List, [], ◌++◌, ◌≡◌, length, take, drop, Ok}
use Rattle.line.specs.Attached.{Attached, verdict_at}
use Rattle.line.specs.Slots.{host_bits}
use Rattle.recording.specs.Reading.{found_at}
use Rattle.recording.specs.Playing.{run_step, record_step}
use Rattle.recording.specs.Putting.{RecordFits, answers_most}
use Rattle.recording.specs.declared.Found.TheVariants as found
use Rattle.recording.specs.declared.Record.{Record}
use Rattle.recording.specs.declared.Record.TheVariants as record_of

-- some runs that stand one after the other from an offset on: the host's bits, and the offset after them
pub data Row (more : Bool) (s : List ℕ) (room : ℕ) : ℕ → List Bool → ℕ → Type 0 where
  none : (at : ℕ) → Row more s room at [] at
  run : (at count from to next end : ℕ) (bs : List Bool) → found_at s at room true more ≡ Ok (found.Record (record_of.Slots count from to) next) → Row more s room next bs end
      → Row more s room at (host_bits count (take (to - from) (drop from s)) ++ bs) end

-- slots whose bits stood in a buffer, with those of some runs from an offset on put after them
pub record GatheredTo (more : Bool) (s : List ℕ) (room at slots : ℕ) (host : List ℕ) (all next : ℕ) (after : List ℕ) : Type 0 where
  pub bits : List Bool
  pub row : Row more s room at bits next
  pub packed : host_bits all after ≡ host_bits slots host ++ bits
  pub counted : all + 8 * at ≤ slots + 8 * next
  pub grown : slots ≤ all
  pub few : all ≤ 65535
  pub within : next ≤ length s
  pub long : length after ≡ length host

-- what is put on the line for a record before an offset, and the offset after all that it stands for: it alone, or a run with some that follow it
pub data PlaysAs (more : Bool) (s : List ℕ) (room : ℕ) (taken : Record) (next : ℕ) (host : List ℕ) : Record → ℕ → Type 0 where
  alone : (r : Record) → ((l : Attached) → record_step host r l ≡ record_step s taken l) → PlaysAs more s room taken next host r next
  joined : (r : Record) (end : ℕ) (hs bs : List Bool) → ((l : Attached) → record_step s taken l ≡ run_step (verdict_at l) hs l)
      → ((l : Attached) → record_step host r l ≡ run_step (verdict_at l) (hs ++ bs) l) → Row more s room next bs end → PlaysAs more s room taken next host r end

-- the same, where a run's host bits stand in the buffer, and no more answers come than those of the record and eight for each byte after it
pub record JoinedTo (more : Bool) (s : List ℕ) (room : ℕ) (taken : Record) (next : ℕ) (host : List ℕ) (r : Record) (end : ℕ) : Type 0 where
  pub plays : PlaysAs more s room taken next host r end
  pub fits : RecordFits host r
  pub few : answers_most r + 8 * next ≤ answers_most taken + 8 * end
  pub further : next ≤ end
  pub within : end ≤ length s
