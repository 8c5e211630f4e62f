-- Every run of slots that a recording holds can be cut.
use Rattle.std.specs.Prelude.{ℕ, ◌-◌, ◌≤◌, Bool, true, List, [], ◌++◌, ◌≡◌, length, take, drop, Ok}
use Rattle.std.proofs.Common.{arith, ◌∙◌, ap, sym, subst}
use Rattle.line.specs.Slots.{host_bits}
use Rattle.recording.specs.Reading.{found_at}
use Rattle.recording.specs.Playing.{playback}
use Rattle.recording.specs.declared.Record.TheVariants as record_of
use Rattle.recording.specs.declared.Found.TheVariants as found
use Rattle.histories.specs.Below.{Bytes}
use Rattle.played.specs.Written.{slots_bytes}
use Rattle.played.specs.Handed.{start, hand_piece}
use Rattle.played.specs.Formed.{Formed, formed}
use Rattle.played.specs.Cut.{bytes_added, place_moved, written_cut}

-- every run that a recording of bytes holds there has that form, so all of them can be cut so
pub taken_cut : (before rest : List ℕ) (count from to next room : ℕ) (event more : Bool) → Bytes rest → (hand_piece true before start).held ≡ []
    → found_at rest 0 room event more ≡ Ok (found.Record (record_of.Slots count from to) next) → let hs = host_bits count (take (to - from) (drop from rest)) in (k : ℕ) → k ≤ count
    → playback (before ++ (slots_bytes (take k hs) ++ (slots_bytes (drop k hs) ++ drop next rest))) ≡ place_moved (length before) (bytes_added k hs) (playback (before ++ rest))
taken_cut before rest count from to next room event more b e f k h =
    let hs = host_bits count (take (to - from) (drop from rest)) in
    let w = subst (Formed rest) f (formed rest room event more b) in
    let n = w.0 in
    let few = w.1 in
    written_cut before (drop next rest) hs k (omega arith) (omega arith) e
    ∙ ap (λ (s : List ℕ). place_moved (length before) (bytes_added k hs) (playback (before ++ s))) (sym w.2)
