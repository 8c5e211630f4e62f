-- Laws: the loops that put bits after others and gather runs of slots, and what is put on the line for a record.
use Rattle.std.specs.Prelude.{ℕ, ◌+◌, ◌-◌, ◌*◌, ◌<◌, ◌≤◌, Bool, true, List, [], ◌∷◌, ◌++◌, ◌≡◌, refl, length, take, drop, Result, Ok}
use Rattle.std.proofs.Common.{arith, zero-add, append_assoc, append-nil, ◌∙◌, ap, sym, subst, take-append-drop, length-take-le}
use Rattle.line.specs.Attached.{verdict_at}
use Rattle.line.specs.Packing.{host_put, put_long, host_more, host_before}
use Rattle.line.specs.Slots.{host_bits, bytes_asked, slot_bit, with_slot_bit}
use Rattle.recording.specs.declared.Fault.{Fault}
use Rattle.recording.specs.Reading.{found_at}
use Rattle.recording.specs.Playing.{run_step, slots_step, record_step}
use Rattle.recording.specs.Putting.{answers_most}
use Rattle.recording.specs.Next.{Lies, found_lies}
use Rattle.recording.specs.Puts.{with_slots, without_slots}
use Rattle.recording.specs.Joining.{Row, none, run, GatheredTo, alone, joined, JoinedTo}
use Rattle.recording.specs.declared.Found.{Found}
use Rattle.recording.specs.declared.Found.TheVariants as found
use Rattle.recording.specs.declared.Record.{Record}
use Rattle.recording.specs.declared.Record.TheVariants as record_of

-- ---- the bits of a run put after others

-- where the loop over so many bits stands after i of them
pub record Adding (host₀ : List ℕ) (slots : ℕ) (bytes : List ℕ) (count : ℕ) (host : List ℕ) (i : ℕ) : Type 0 where
  pub added : host_bits (slots + i) host ≡ host_bits slots host₀ ++ host_bits i bytes
  pub within : i ≤ count
  pub there : count ≤ 8 * length bytes
  pub few : slots + count ≤ 65535
  pub size : length host ≡ 8192
  pub long : length host ≡ length host₀

-- before any is put
pub adding_start : (host : List ℕ) (slots : ℕ) (bytes : List ℕ) (count : ℕ) → count ≤ 8 * length bytes → slots + count ≤ 65535 → length host ≡ 8192 → Adding host slots bytes count host 0
adding_start host slots bytes count h f l =
    let z : slots + 0 ≡ slots = omega arith in
    record { added = ap (λ (n : ℕ). host_bits n host) z ∙ sym (append-nil (host_bits slots host)); within = omega arith; there = h; few = f; size = l; long = refl }

module _ (host₀ : List ℕ) (slots : ℕ) (bytes : List ℕ) (count : ℕ) (host : List ℕ) (i : ℕ) (g : Adding host₀ slots bytes count host i) where
  -- one bit more
  pub adding_next : (b : Bool) (after : List ℕ) → i < count → b ≡ slot_bit bytes i → after ≡ with_slot_bit host (slots + i) b → Adding host₀ slots bytes count after (i + 1)
  adding_next b after h e p =
      let t = g.there in
      let f = g.few in
      let l = g.size in
      let a : slots + (i + 1) ≡ slots + i + 1 = omega arith in
      let k : length after ≡ length host = ap length p ∙ put_long host (slots + i) b in
      record {
        added = (λ j. host_bits (a j) (p j)) ∙ host_put host (slots + i) b (omega arith) ∙ (λ j. g.added j ++ (e j ∷ []))
            ∙ append_assoc (host_bits slots host₀) (host_bits i bytes) (slot_bit bytes i ∷ []) ∙ ap (λ (x : List Bool). host_bits slots host₀ ++ x) (sym (host_more i bytes (omega arith)));
        within = omega arith;
        there = t;
        few = f;
        size = k ∙ l;
        long = k ∙ g.long;
      }

  -- all are put
  pub adding_end : count ≤ i → host_bits (slots + count) host ≡ host_bits slots host₀ ++ host_bits count bytes
  adding_end h = let w = g.within in let e : i ≡ count = omega arith in subst (λ (n : ℕ). host_bits (slots + n) host ≡ host_bits slots host₀ ++ host_bits n bytes) e g.added

-- ---- runs that follow one another

-- one run more after others
row_more : {more : Bool} {s : List ℕ} {room at : ℕ} {bs : List Bool} {next : ℕ} → Row more s room at bs next
    → (count from to end : ℕ) → found_at s next room true more ≡ Ok (found.Record (record_of.Slots count from to) end)
    → Row more s room at (bs ++ host_bits count (take (to - from) (drop from s))) end
row_more {more = more} {s = s} {room = room} (none k) count from to end e =
    subst (λ (x : List Bool). Row more s room k x end) (append-nil (host_bits count (take (to - from) (drop from s)))) (run k count from to end end [] e (none end))
row_more {more = more} {s = s} {room = room} (run k n i j m q cs f g) count from to end e =
    let hs = host_bits n (take (j - i) (drop i s)) in
    let ds = host_bits count (take (to - from) (drop from s)) in
    subst (λ (x : List Bool). Row more s room k x end) (sym (append_assoc hs cs ds)) (run k n i j m end (cs ++ ds) f (row_more g count from to end e))

-- before any is gathered
pub gathered_start : (more : Bool) (s : List ℕ) (room at slots : ℕ) (host : List ℕ) → slots ≤ 65535 → at ≤ length s → GatheredTo more s room at slots host slots at host
gathered_start more s room at slots host h w =
    record { bits = []; row = none at; packed = sym (append-nil (host_bits slots host)); counted = omega arith; grown = omega arith; few = h; within = w; long = refl }

module _ (more : Bool) (s : List ℕ) (room at slots : ℕ) (host : List ℕ) (all next : ℕ) (held : List ℕ) (g : GatheredTo more s room at slots host all next held)
    (f : Result Found Fault) (d : f ≡ found_at s next room true more) (r : Record) (end : ℕ) (k : f ≡ Ok (found.Record r end)) (count from to : ℕ) (q : r ≡ record_of.Slots count from to) where
  -- a run stands here
  here : found_at s next room true more ≡ Ok (found.Record (record_of.Slots count from to) end)
  here = sym d ∙ k ∙ ap (λ (x : Record). (Ok (found.Record x end))) q

  -- the run lies in the recording
  pub gathered_lies : Lies s next (record_of.Slots count from to) end
  gathered_lies = found_lies s next room true more (record_of.Slots count from to) end here

  -- its bits are put after the others
  pub gathered_next : (after : List ℕ) → all + count ≤ 65535 → host_bits (all + count) after ≡ host_bits all held ++ host_bits count (take (to - from) (drop from s)) → length after ≡ length held
      → GatheredTo more s room at slots host (all + count) end after
  gathered_next after h p l =
      let w = gathered_lies in
      let a = w.few in
      let b = w.further in
      let c = g.counted in
      let e = g.grown in
      record {
        bits = g.bits ++ host_bits count (take (to - from) (drop from s));
        row = row_more g.row count from to end here;
        packed = p ∙ ap (λ (x : List Bool). x ++ host_bits count (take (to - from) (drop from s))) g.packed ∙ append_assoc (host_bits slots host) g.bits _;
        counted = omega arith;
        grown = omega arith;
        few = h;
        within = w.within;
        long = l ∙ g.long;
      }

-- ---- what is put on the line for a record

-- any record but a run of slots stands for itself: its events do not look at the buffer
pub joined_other : (more : Bool) (s : List ℕ) (room : ℕ) (taken : Record) (next : ℕ) (host : List ℕ) → ((count from to : ℕ) → taken ≡ record_of.Slots count from to → ⊥) → next ≤ length s
    → JoinedTo more s room taken next host taken next
joined_other more s room (record_of.Chip code kind) next host o w = record { plays = alone (record_of.Chip code kind) (λ l. refl); fits = tt; few = omega arith; further = omega arith; within = w }
joined_other more s room (record_of.Slots count from to) next host o w = absurd (o count from to refl)
joined_other more s room (record_of.Event e) next host o w = record { plays = alone (record_of.Event e) (λ l. refl); fits = tt; few = omega arith; further = omega arith; within = w }

module _ (more : Bool) (s : List ℕ) (room : ℕ) (taken : Record) (next : ℕ) (count from to : ℕ) (q : taken ≡ record_of.Slots count from to) where
  -- a run without a slot stands for itself
  pub joined_none : (host : List ℕ) → count ≡ 0 → next ≤ length s → JoinedTo more s room taken next host (record_of.Slots count 0 0) next
  joined_none host z w =
      record {
        plays = alone (record_of.Slots count 0 0) (λ l. without_slots count (take 0 host) l z ∙ sym (without_slots count (take (to - from) (drop from s)) l z) ∙ ap (λ (r : Record). record_step s r l) (sym q));
        fits = (omega arith, omega arith);
        few = let e = ap answers_most q in omega arith;
        further = omega arith;
        within = w;
      }

  -- a run with slots, and those that follow it
  pub joined_runs : (host host₁ host₂ : List ℕ) (slots size end : ℕ) → (count ≡ 0 → ⊥) → host_bits (0 + count) host₁ ≡ host_bits 0 host ++ host_bits count (take (to - from) (drop from s))
      → GatheredTo more s room next count host₁ slots end host₂ → size ≡ bytes_asked slots → length host₂ ≡ 8192 → JoinedTo more s room taken next host₂ (record_of.Slots slots 0 size) end
  joined_runs host host₁ host₂ slots size end z p g e l =
      let hs = host_bits count (take (to - from) (drop from s)) in
      let a = g.few in
      let b = g.grown in
      let c = g.counted in
      let k : bytes_asked slots ≤ length host₂ = omega arith in
      let m = length-take-le size host₂ (omega arith) in
      let whole : size - 0 ≡ size = omega arith in
      let own : host_bits slots (take size host₂) ≡ hs ++ g.bits
      = sym (host_before slots (take size host₂) (drop size host₂) (omega arith)) ∙ ap (host_bits slots) (take-append-drop size host₂) ∙ g.packed
      ∙ ap (λ (x : List Bool). x ++ g.bits) (ap (λ (n : ℕ). host_bits n host₁) (sym (zero-add count)) ∙ p) in
      record {
        plays = joined (record_of.Slots slots 0 size) end hs g.bits
            (λ x. ap (λ (r : Record). record_step s r x) q ∙ with_slots count (take (to - from) (drop from s)) x z)
            (λ x. ap (λ (n : ℕ). slots_step slots (take n host₂) x) whole ∙ with_slots slots (take size host₂) x (λ n. z (omega arith)) ∙ ap (λ (bs : List Bool). run_step (verdict_at x) bs x) own)
            g.row;
        fits = (omega arith, omega arith);
        few = let n = ap answers_most q in omega arith;
        further = omega arith;
        within = g.within;
      }
