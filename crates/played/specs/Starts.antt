-- Laws: a record that is found is one of kinds 16 to 19 exactly when it has events.
use Rattle.std.specs.Prelude.{ℕ, Bool, true, false, List, ◌≡◌, Result, Ok, Err}
use Rattle.std.proofs.Common.{◌∙◌, subst}
use Rattle.recording.specs.declared.Fault.{Fault}
use Rattle.recording.specs.Reading.{found_at, starts_event}
use Rattle.recording.specs.There.{starts_by_kind}
use Rattle.recording.specs.Ways.{IsWhole, found_has}
use Rattle.recording.specs.declared.Record.{Record}
use Rattle.recording.specs.declared.Record.TheVariants as record_of
use Rattle.recording.specs.declared.Found.{Found}
use Rattle.recording.specs.declared.Found.TheVariants as found

-- a record has events, also if it is a run of no slots
abbrev pub has_events : Record → Bool
has_events (record_of.Chip code kind) = false
has_events (record_of.Slots count from to) = true
has_events (record_of.Event e) = true

-- whether a record of kinds 16 to 19 starts, by what is found
abbrev StartsAs : Bool → Result Found Fault → Type 0
StartsAs b (Ok found.End) = Unit
StartsAs b (Ok found.Part) = Unit
StartsAs b (Ok (found.Record x next)) = b ≡ has_events x
StartsAs b (Err f) = Unit

module _ (s : List ℕ) (at room : ℕ) (over more : Bool) where
  -- whatever is found
  starts_as : StartsAs (starts_event s at) (found_at s at room over more)
  starts_as =
      found_has (StartsAs (starts_event s at)) s at room over more (λ e. tt) (λ a. tt) (λ f. tt)
      (λ w k t r. by_kind false w) (λ w k t u. by_kind true w) (λ w t. by_kind true w)
    where
      by_kind : (event : Bool) → IsWhole s at event → starts_event s at ≡ event
      by_kind event w = starts_by_kind s at w.headed ∙ w.sort

  pub found_starts : (x : Record) (next : ℕ) → found_at s at room over more ≡ Ok (found.Record x next) → starts_event s at ≡ has_events x
  found_starts x next e = subst (StartsAs (starts_event s at)) e starts_as
