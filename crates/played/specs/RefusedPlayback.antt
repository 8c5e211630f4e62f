-- Demand 1 for a whole recording, document 02's own refusals: "9, a card record after one of kinds 16 to 19; 10, a nonzero unused bit".
use Rattle.std.specs.Prelude.{ℕ, ◌-◌, true, false, List, ◌≡◌, refl, length, Err}
use Rattle.std.proofs.Common.{arith, true≢false, ◌∙◌, ap, sym, subst, leb-false, ltb-false}
use Rattle.base.specs.Exactly.{Iff}
use Rattle.line.specs.Attached.{Attached}
use Rattle.line.specs.Event.{number_of}
use Rattle.line.specs.declared.Refusal.{Refusal}
use Rattle.line.specs.declared.Refusal.TheVariants.{OutOfRange, WrongSize, NoSuchEvent, NoSuchOutside}
use Rattle.recording.specs.Reading.{number_of_fault, found_at}
use Rattle.recording.specs.There.{starts_by_kind}
use Rattle.recording.specs.Cards.{room_for}
use Rattle.recording.specs.Playing.{refusal, none, record_step, playback}
use Rattle.card.specs.Card.{fault_number}
use Rattle.card.specs.declared.Fault.{Fault as CardFault}
use Rattle.card.specs.declared.Fault.TheVariants as on_card
use Rattle.recording.specs.declared.Fault.{Fault}
use Rattle.recording.specs.declared.Fault.TheVariants as fault
use Rattle.recording.specs.declared.Record.{Record}
use Rattle.played.specs.LineRefusals.{RefusalFor, record_refusal}
use Rattle.played.specs.Refused.{slots_event, refused_9, refused_10}
use Rattle.played.specs.Reached.{Reached, Faulty, in_card, in_record, in_events, playback_refused}

-- no refusal of the line has these numbers
other_number : (r : Refusal) → (number_of r ≡ 9 → ⊥) × (number_of r ≡ 10 → ⊥)
other_number OutOfRange = ((λ e. omega arith), (λ e. omega arith))
other_number WrongSize = ((λ e. omega arith), (λ e. omega arith))
other_number NoSuchEvent = ((λ e. omega arith), (λ e. omega arith))
other_number NoSuchOutside = ((λ e. omega arith), (λ e. omega arith))

-- nor has one of a card
card_number : (f : CardFault) → (fault_number f ≡ 9 → ⊥) × (fault_number f ≡ 10 → ⊥)
card_number on_card.TooMany = ((λ e. omega arith), (λ e. omega arith))
card_number on_card.UnknownKind = ((λ e. omega arith), (λ e. omega arith))
card_number on_card.WrongLength = ((λ e. omega arith), (λ e. omega arith))

-- what an event is refused by has a number of the line's
line_number : (s : List ℕ) (x : Record) (l : Attached) (n : ℕ) → (record_step s x l).said ≡ none n → (r : Refusal) × (number_of r ≡ n)
line_number s x l n e = subst RefusalFor e (record_refusal s x l)

-- the faults of these numbers
fault_9 : (f : Fault) → number_of_fault f ≡ 9 → f ≡ fault.CardAfterEvent
fault_9 (fault.OnCard f) e = absurd ((card_number f).0 e)
fault_9 fault.CardAfterEvent e = refl
fault_9 fault.UnusedBits e = absurd (omega arith)
fault_9 (fault.OnLine r) e = absurd ((other_number r).0 e)

fault_10 : (f : Fault) → number_of_fault f ≡ 10 → f ≡ fault.UnusedBits
fault_10 (fault.OnCard f) e = absurd ((card_number f).1 e)
fault_10 fault.CardAfterEvent e = absurd (omega arith)
fault_10 fault.UnusedBits e = refl
fault_10 (fault.OnLine r) e = absurd ((other_number r).1 e)

-- a record from the first of kinds 16 to 19 on is reached, and refused so
pub record RefusedRecord (s : List ℕ) (f : Fault) (p : ℕ) : Type 0 where
  pub line : Attached
  pub reached : Reached s line p
  pub fault : found_at s p (room_for line.count) true false ≡ Err f

module _ (s : List ℕ) (p : ℕ) where
  -- THEOREM: playback ends by 9 exactly when it reaches a card record after one of kinds 16 to 19 (as refused-9 says)
  pub playback_refused_9 : Iff (((playback s).ends ≡ refusal 9) × ((playback s).at ≡ p)) (RefusedRecord s fault.CardAfterEvent p)
  playback_refused_9 = ((λ e. by_fault ((playback_refused s 9 p).0 e)), (λ h. (playback_refused s 9 p).1 (in_record h.line fault.CardAfterEvent h.reached h.fault refl)))
    where
      by_fault : Faulty s 9 p → RefusedRecord s fault.CardAfterEvent p
      by_fault (in_card t f h n e q) =
          absurd (true≢false (sym ((refused_9 s p (room_for t.n) false false).0 (e ∙ ap (λ (g : Fault). (Err g)) (fault_9 f q))).1.1.1.1.1.1))
      by_fault (in_record l f h e q) = record { line = l; reached = h; fault = e ∙ ap (λ (g : Fault). (Err g)) (fault_9 f q) }
      by_fault (in_events l x next h e q) = let n = line_number s x l 9 q in absurd ((other_number n.0).0 n.1)

  -- THEOREM: and by 10 exactly when it reaches a run with a nonzero unused bit (as refused-10 says)
  pub playback_refused_10 : Iff (((playback s).ends ≡ refusal 10) × ((playback s).at ≡ p)) (RefusedRecord s fault.UnusedBits p)
  playback_refused_10 = ((λ e. by_fault ((playback_refused s 10 p).0 e)), (λ h. (playback_refused s 10 p).1 (in_record h.line fault.UnusedBits h.reached h.fault refl)))
    where
      by_fault : Faulty s 10 p → RefusedRecord s fault.UnusedBits p
      by_fault (in_card t f h n e q) =
          let c = (refused_10 s p (room_for t.n) false false).0 (e ∙ ap (λ (g : Fault). (Err g)) (fault_10 f q)) in
          let a = leb-false (length s) p c.0 in
          let b = ltb-false (length s - p) 4 c.1.0 in
          absurd (true≢false (sym (starts_by_kind s p (omega arith) ∙ slots_event _ c.1.1.1.0) ∙ n))
      by_fault (in_record l f h e q) = record { line = l; reached = h; fault = e ∙ ap (λ (g : Fault). (Err g)) (fault_10 f q) }
      by_fault (in_events l x next h e q) = let n = line_number s x l 10 q in absurd ((other_number n.0).1 n.1)
