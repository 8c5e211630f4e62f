-- Every run of slots that is taken from a recording has the one form that such records are written in.
use Rattle.std.specs.Prelude.{ℕ, suc, ◌+◌, ◌-◌, ◌*◌, ◌/◌, ◌%◌, ◌≤◌, Bool, true, List, [], ◌∷◌, ◌++◌, ◌≡◌, length, take, drop, Result, Ok, Err}
use Rattle.std.proofs.Common.{arith, ◌∙◌, ap, sym, take-append-drop, length-take-le}
use Rattle.line.specs.Runs.{host_many}
use Rattle.line.specs.Slots.{bytes_asked, host_bits}
use Rattle.records.specs.Numbers.{number_at}
use Rattle.recording.specs.declared.Fault.{Fault}
use Rattle.recording.specs.Reading.{unused_clear, found_at}
use Rattle.recording.specs.There.{size_at, kind_at, next_at}
use Rattle.recording.specs.Ways.{found_has}
use Rattle.recording.specs.declared.Record.TheVariants as record_of
use Rattle.recording.specs.declared.Found.{Found}
use Rattle.recording.specs.declared.Found.TheVariants as found
use Rattle.histories.specs.Below.{Bytes, first_below, others_below, take_bytes}
use Rattle.played.specs.Packing.{packed, packed_back}
use Rattle.played.specs.Written.{slots_bytes}

-- a run that is found is one of as many bits as its count, at most 65535, written at the beginning of the bytes
abbrev pub Formed : List ℕ → Result Found Fault → Type 0
Formed s (Ok found.End) = Unit
Formed s (Ok found.Part) = Unit
Formed s (Ok (found.Record (record_of.Chip code kind) next)) = Unit
Formed s (Ok (found.Record (record_of.Slots count from to) next)) = let hs = host_bits count (take (to - from) (drop from s)) in (length hs ≡ count) × (count ≤ 65535) × (s ≡ slots_bytes hs ++ drop next s)
Formed s (Ok (found.Record (record_of.Event e) next)) = Unit
Formed s (Err f) = Unit

-- by the bytes of its length, its kind and its count
run_formed : (s : List ℕ) → Bytes s → size_at s 0 ≡ 4 + bytes_asked (number_at s 4 2) → kind_at s 0 ≡ 16 → next_at s 0 ≤ length s
    → unused_clear (number_at s 4 2) (take (next_at s 0 - 6) (drop 6 s)) ≡ true → Formed s (Ok (found.Record (record_of.Slots (number_at s 4 2) 6 (next_at s 0)) (next_at s 0)))
run_formed (a ∷ b ∷ c ∷ d ∷ x ∷ y ∷ rest) h e k l u =
    let h1 = others_below 256 a _ h in
    let h2 = others_below 256 b _ h1 in
    let h3 = others_below 256 c _ h2 in
    let h4 = others_below 256 d _ h3 in
    let h5 = others_below 256 x _ h4 in
    let ba = first_below 256 a _ h in
    let bb = first_below 256 b _ h1 in
    let bc = first_below 256 c _ h2 in
    let bx = first_below 256 x _ h4 in
    let by = first_below 256 y _ h5 in
    let count = x + 256 * y in
    let next = 0 + (a + 256 * b + 2) in
    let m = next - 6 in
    let bits = take m rest in
    let hs = host_bits count bits in
    let long : length bits ≡ bytes_asked count = length-take-le m rest (omega arith) ∙ (let z : m ≡ bytes_asked count = omega arith in z) in
    let n = host_many count bits (omega arith) in
    let p : packed hs ≡ bits = packed_back count bits long (take_bytes m rest (others_below 256 y rest h5)) u in
    let size = 4 + bytes_asked (length hs) in
    let ea : a ≡ size % 256 = omega arith in
    let eb : b ≡ size / 256 = omega arith in
    let ec : c ≡ 16 = omega arith in
    let ed : d ≡ 0 = omega arith in
    let ex : x ≡ length hs % 256 = omega arith in
    let ey : y ≡ length hs / 256 = omega arith in
    let past : suc (suc (suc (suc (suc (suc m))))) ≡ next = omega arith in (
      n,
      omega arith,
      (λ j. ea j ∷ eb j ∷ ec j ∷ ed j ∷ ex j ∷ ey j ∷ (sym (take-append-drop m rest) ∙ ap (λ (q : List ℕ). q ++ drop m rest) (sym p)) j)
          ∙ ap (λ (i : ℕ). slots_bytes hs ++ drop i (a ∷ b ∷ c ∷ d ∷ x ∷ y ∷ rest)) past,
    )
run_formed [] h e k l u = absurd (omega arith)
run_formed (a ∷ []) h e k l u = absurd (omega arith)
run_formed (a ∷ b ∷ []) h e k l u = absurd (omega arith)
run_formed (a ∷ b ∷ c ∷ []) h e k l u = absurd (omega arith)
run_formed (a ∷ b ∷ c ∷ d ∷ []) h e k l u = absurd (omega arith)
run_formed (a ∷ b ∷ c ∷ d ∷ x ∷ []) h e k l u = absurd (omega arith)

-- what stands at the beginning of bytes
pub formed : (s : List ℕ) (room : ℕ) (over more : Bool) → Bytes s → Formed s (found_at s 0 room over more)
formed s room over more h =
    found_has (Formed s) s 0 room over more (λ e. tt) (λ a. tt) (λ f. tt) (λ w k t r. tt) (λ w k t u. run_formed s h t k w.within u) (λ w t. tt)
