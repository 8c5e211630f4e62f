-- Laws: what the code hands back of an event, of a run of slots and of a record is what they come to.
use Rattle.std.specs.Prelude.{ℕ, ◌≤◌, Bool, true, false, List, [], ◌++◌, ◌≡◌, eqb, leb, length, set, Result, Ok, Err}
use Rattle.std.proofs.Common.{arith, ◌∙◌, sym, eq-eqb, ne_eqb, le-leb}
use Rattle.std.proofs.Math.Path.{ap}
use Rattle.base.specs.Along.{along}
use Rattle.base.specs.Pick.{pick_true, pick_false}
use Rattle.base.specs.Bits.{both}
use Rattle.base.specs.Both.{both_true}
use Rattle.chip.specs.declared.Chip.{Chip}
use Rattle.line.specs.Attached.{Attached, attached, left_by, says_of, leaves_of, verdict_at}
use Rattle.line.specs.Event.{answered, number_of, judge, table_tests, table_in_range, sizes_fit, verdict_of, Outcome, outcome, event_of}
use Rattle.line.specs.Layout.{lent, line_of}
use Rattle.line.specs.Packing.{host_before}
use Rattle.line.specs.Runs.{run_length, host_many}
use Rattle.line.specs.Slots.{host_bits, bytes_from, run_on, bytes_asked, run_fits, Slotted, slotted, RunOutcome, run_outcome, run_verdict, run_by, slots_of}
use Rattle.line.specs.Slots as slots
use Rattle.line.specs.declared.Event.{Event}
use Rattle.line.specs.declared.Refusal.{Refusal}
use Rattle.recording.specs.Playing.{step, bits, said_by, event_step, run_step, slots_step, record_step, digit, put_digits}
use Rattle.recording.specs.Putting.{Written, wrote, unwritten, written_by, written_in, Put, put, put_from}
use Rattle.recording.specs.declared.Record.{Record}
use Rattle.recording.specs.Unpacked.{unpacked, bytes_length}

-- ---- an event

module _ (e : Event) (n : ℕ) (cs : List Chip) (ms ss : List ℕ) (a : Result Bool Refusal) (m : ℕ) (ds : List Chip) (xs ys : List ℕ)
    (h : outcome (answered a) m (lent ds xs ys) ≡ event_of n cs e ms ss) (place : ℕ) (out : List ℕ) where
  -- its answer and what it leaves, by the outcome
  event_put : (p : Result Bool Refusal) → a ≡ p → put_from place out (step (said_by (answered p)) (attached m ds xs ys)) ≡ put_from place out (event_step e (attached n cs ms ss))
  unfolding says_of leaves_of
  event_put p k =
      ap (λ (q : Result Bool Refusal). put_from place out (step (said_by (answered q)) (attached m ds xs ys))) (sym k)
      ∙ ap (λ (o : Outcome). put_from place out (step (said_by o.answer) (left_by o))) h

  -- answered by a bit, whose character is put
  pub event_bit : (b : Bool) (d : ℕ) (text : List ℕ) → a ≡ Ok b → d ≡ digit b → text ≡ set out place d
      → put (wrote 1) text (attached m ds xs ys) ≡ put_from place out (event_step e (attached n cs ms ss))
  event_bit b d text k f t = ap (λ (x : List ℕ). put (wrote 1) x (attached m ds xs ys)) (t ∙ ap (λ (x : ℕ). set out place x) f) ∙ event_put (Ok b) k

  -- refused
  pub event_refused : (r : Refusal) (w : Written) → a ≡ Err r → w ≡ written_in (answered a) → put w out (attached m ds xs ys) ≡ put_from place out (event_step e (attached n cs ms ss))
  event_refused r w k f = ap (λ (x : Written). put x out (attached m ds xs ys)) (f ∙ ap (λ (x : Result Bool Refusal). written_in (answered x)) k) ∙ event_put (Err r) k

-- ---- a run of slots

-- one with slots goes by the verdict
pub with_slots : (count : ℕ) (host : List ℕ) (l : Attached) → (count ≡ 0 → ⊥) → slots_step count host l ≡ run_step (verdict_at l) (host_bits count host) l
unfolding slots_step
with_slots count host l z = pick_false (eqb count 0) _ _ (ne_eqb count 0 z)

-- one without is no event
pub without_slots : (count : ℕ) (host : List ℕ) (l : Attached) → count ≡ 0 → slots_step count host l ≡ step (bits []) l
unfolding slots_step
without_slots count host l z = pick_true (eqb count 0) _ _ (eq-eqb count 0 z)

-- with bits and answers of the sizes asked it is judged as the table is
judged : (n : ℕ) (cs : List Chip) (count : ℕ) (host answers ms ss : List ℕ) → count ≤ 65535 → length host ≡ bytes_asked count → length answers ≡ bytes_asked count
    → run_verdict n cs count host answers ms ss ≡ verdict_of n cs ms ss
unfolding run_verdict verdict_of run_fits both
judged n cs count host answers ms ss h b a =
    let e : run_fits count (length host) (length answers) ≡ true
    = pick_true (leb count 65535) _ false (le-leb count 65535 h) ∙ pick_true (eqb (length host) (bytes_asked count)) _ false (eq-eqb _ _ b) ∙ eq-eqb _ _ a in
    ap (λ (t : Bool). judge (table_tests (table_in_range n cs) t)) (ap (both (sizes_fit n cs ms ss)) e ∙ both_true (sizes_fit n cs ms ss))

-- the number in what a run answers
abbrev number_in : Slotted → ℕ
number_in (slots.put n) = n
number_in (slots.refused r) = r

module _ (n : ℕ) (cs : List Chip) (count : ℕ) (host answers ms ss : List ℕ) (few : count ≤ 65535) (asked : length host ≡ bytes_asked count) (as_many : length answers ≡ bytes_asked count)
    (a : Result ℕ Refusal) (back : List ℕ) (m : ℕ) (ds : List Chip) (xs ys : List ℕ) (h : run_outcome (slotted a) back m (lent ds xs ys) ≡ slots_of n cs count host answers ms ss) where
  -- the outcome, by the table's verdict
  by_verdict : (p : Result ℕ Refusal) → a ≡ p → run_outcome (slotted p) back m (lent ds xs ys) ≡ run_by (verdict_of n cs ms ss) n cs count host answers ms ss
  unfolding slots_of
  by_verdict p k =
      ap (λ (q : Result ℕ Refusal). run_outcome (slotted q) back m (lent ds xs ys)) (sym k) ∙ h
      ∙ ap (λ (v : Result (Unit {0}) Refusal). run_by v n cs count host answers ms ss) (judged n cs count host answers ms ss few asked as_many)

  -- an answer for each slot
  all_put : length (run_on (host_bits count host) (line_of n cs ms ss)).bits ≡ count
  all_put = run_length (host_bits count host) (line_of n cs ms ss) ∙ host_many count host (omega arith)

  -- as many answers as slots, by the verdict
  count_by : (v : Result (Unit {0}) Refusal) (k : ℕ) → run_outcome (slots.put k) back m (lent ds xs ys) ≡ run_by v n cs count host answers ms ss → k ≡ count
  count_by (Ok tt) k g = ap (λ (o : RunOutcome). number_in o.answer) g ∙ all_put
  count_by (Err r) k g =
      let d : slots.put k ≡ slots.refused (number_of r) = ap (λ (o : RunOutcome). o.answer) g in
      let z : ◌≡◌ {A = ℕ} 0 1 = cc in
      absurd (omega arith)

  -- as many answers as slots
  pub slots_count : (k : ℕ) → a ≡ Ok k → k ≡ count
  slots_count k e = count_by (verdict_of n cs ms ss) k (by_verdict (Ok k) e)

  module _ (place : ℕ) (out : List ℕ) where
    -- put on the line, by the verdict
    put_by : (v : Result (Unit {0}) Refusal) (k : ℕ) (rest text : List ℕ) → run_outcome (slots.put k) back m (lent ds xs ys) ≡ run_by v n cs count host answers ms ss
        → text ≡ put_digits (host_bits k (back ++ rest)) place out → put (wrote k) text (attached m ds xs ys) ≡ put_from place out (run_step v (host_bits count host) (attached n cs ms ss))
    put_by (Ok tt) k rest text g t =
        let r = run_on (host_bits count host) (line_of n cs ms ss) in
        let l : k ≡ length r.bits = ap (λ (o : RunOutcome). number_in o.answer) g in
        let b : back ≡ bytes_from (length answers) r.bits = ap (λ (o : RunOutcome). o.answers) g in
        let c : length back ≡ length answers = ap length b ∙ bytes_length (length answers) r.bits in
        let q = all_put in
        let u : host_bits k (back ++ rest) ≡ r.bits
        = host_before k back rest (omega arith) ∙ (λ j. host_bits (l j) (b j)) ∙ unpacked (length answers) r.bits (omega arith) in
        λ j. put (wrote (l j)) ((t ∙ ap (λ (bs : List Bool). put_digits bs place out) u) j) (record { count = (g j).count; lent = (g j).lent })
    put_by (Err r) k rest text g t =
        let d : slots.put k ≡ slots.refused (number_of r) = ap (λ (o : RunOutcome). o.answer) g in
        let z : ◌≡◌ {A = ℕ} 0 1 = cc in
        absurd (omega arith)

    -- refused, by the verdict
    refused_by : (v : Result (Unit {0}) Refusal) (r : ℕ) → run_outcome (slots.refused r) back m (lent ds xs ys) ≡ run_by v n cs count host answers ms ss
        → put (unwritten r) out (attached m ds xs ys) ≡ put_from place out (run_step v (host_bits count host) (attached n cs ms ss))
    refused_by (Ok tt) r g =
        let d : slots.refused r ≡ slots.put (length (run_on (host_bits count host) (line_of n cs ms ss)).bits) = ap (λ (o : RunOutcome). o.answer) g in
        let z : ◌≡◌ {A = ℕ} 0 1 = cc in
        absurd (omega arith)
    refused_by (Err q) r g = λ j. put (unwritten (number_in (g j).answer)) out (record { count = (g j).count; lent = (g j).lent })

    -- so what is put goes by it
    judged_step : (count ≡ 0 → ⊥) → put_from place out (run_step (verdict_of n cs ms ss) (host_bits count host) (attached n cs ms ss)) ≡ put_from place out (slots_step count host (attached n cs ms ss))
    judged_step z = ap (put_from place out) (sym (with_slots count host (attached n cs ms ss) z))

    -- put on the line, with the characters of the answers in the text
    pub slots-put : (k : ℕ) (rest text : List ℕ) → (count ≡ 0 → ⊥) → a ≡ Ok k → text ≡ put_digits (host_bits k (back ++ rest)) place out
        → put (wrote k) text (attached m ds xs ys) ≡ put_from place out (slots_step count host (attached n cs ms ss))
    slots-put k rest text z e t = put_by (verdict_of n cs ms ss) k rest text (by_verdict (Ok k) e) t ∙ judged_step z

    -- refused
    pub slots_refused : (r : Refusal) → (count ≡ 0 → ⊥) → a ≡ Err r
        → put (written_by a) out (attached m ds xs ys) ≡ put_from place out (slots_step count host (attached n cs ms ss))
    slots_refused r z e = ap (λ (x : Result ℕ Refusal). put (written_by x) out (attached m ds xs ys)) e ∙ refused_by (verdict_of n cs ms ss) (number_of r) (by_verdict (Err r) e) ∙ judged_step z

-- a run without a slot puts nothing
pub slots_none : (count : ℕ) (host : List ℕ) (l : Attached) (place : ℕ) (out : List ℕ) → count ≡ 0 → put (wrote 0) out l ≡ put_from place out (slots_step count host l)
slots_none count host l place out z = ap (put_from place out) (sym (without_slots count host l z))

-- ---- a record

-- what its events hand back, taken from the record that a match found to the one that it matched
pub record_put : (s : List ℕ) (l : Attached) (place : ℕ) (out : List ℕ) (q p : Record) (r : Put) → q ≡ p → r ≡ put_from place out (record_step s p l) → r ≡ put_from place out (record_step s q l)
record_put s l place out = along (λ (k : Record). put_from place out (record_step s k l))
