-- Document 01, "Search": "the search's list, counts and the line it leaves are those of one run of events". Which events: resets and slots alone;
-- and the counts are theirs, "resets and slots are counted apart".
use Rattle.std.specs.Prelude.{ℕ, zero, suc, ◌+◌, ◌-◌, Bool, true, List, [], ◌∷◌, ◌++◌, ◌≡◌, refl, length, Result}
use Rattle.line.specs.declared.Refusal.{Refusal}
use Rattle.std.proofs.Common.{◌∙◌, ap}
use Rattle.base.specs.Pick.{pick_if}
use Rattle.base.specs.Bits.{bit_of}
use Rattle.line.specs.Event.{Answered}
use Rattle.line.specs.Events.{slot_event, reset_event}
use Rattle.line.specs.Layout.{capped}
use Rattle.line.specs.Refusals.{well_judged}
use Rattle.line.specs.declared.Event.{Event}
use Rattle.search.specs.Host.{Host, done, ask, bind, resets_of, slots_of, play, End, UnderWay, begun, pass, write, Listed, up_to, passes, search_host}
use Rattle.line.specs.Attached.{Attached, says_of, leaves_of, Stands}
use Rattle.search.specs.Search.{wire, Search, search_by, search_of}
use Rattle.histories.specs.Joined.{run_on}
use Rattle.histories.specs.Calls.{events_of, play_runs}

-- a reset, or a slot
pub data ResetOrSlot : Event → Type 0 where
  a_reset : ResetOrSlot reset_event
  a_slot : (b : Bool) → ResetOrSlot (slot_event b)

-- every event of a history
abbrev pub ResetsAndSlots : List Event → Type 0
ResetsAndSlots [] = Unit
ResetsAndSlots (e ∷ es) = ResetOrSlot e × ResetsAndSlots es

-- how many resets, and how many slots, a history has
abbrev pub resets_in : List Event → ℕ
resets_in [] = 0
resets_in (e ∷ es) = resets_of e + resets_in es

abbrev pub slots_in : List Event → ℕ
slots_in [] = 0
slots_in (e ∷ es) = slots_of e + slots_in es

-- a host that asks for nothing else, whatever it is answered
pub data Asks {A : Type 0} : Host A → Type 0 where
  ends : {a : A} → Asks (done a)
  asks : {e : Event} {f : Answered → Host A} → ResetOrSlot e → ((x : Answered) → Asks (f x)) → Asks (ask e f)

-- one host, then another
pub asks_bind : {A B : Type 0} {h : Host A} {g : A → Host B} → Asks h → ((a : A) → Asks (g a)) → Asks (bind h g)
unfolding bind
asks_bind (ends {a}) k = k a
asks_bind (asks p r) k = asks p (λ x. asks_bind (r x) k)

-- the command, a pass, and the passes of a search
pub write_asks : (n i byte : ℕ) → Asks (write n i byte)
unfolding write
write_asks zero i byte = ends
write_asks (suc n) i byte = asks (a_slot (bit_of byte i)) (λ x. write_asks n (i + 1) byte)

pass_asks : (n : ℕ) (p : UnderWay) → Asks (pass n p)
unfolding pass
pass_asks zero p = ends
pass_asks (suc n) p =
    asks (a_slot true) (λ x. asks (a_slot true) (λ y.
    pick_if (λ (h : Host End). Asks h) _ _ _ (λ t. ends) (λ t. asks (a_slot _) (λ z. pass_asks n _))))

pub passes_ask : (n want : ℕ) (out : List ℕ) → Asks (passes n want out)
unfolding passes
passes_ask zero want out = asks a_reset (λ x. pick_if (λ (h : Host Listed). Asks h) _ _ _ (λ t. ends) (λ t. ends))
passes_ask (suc n) want out =
    asks a_reset (λ x. pick_if (λ (h : Host Listed). Asks h) _ _ _ (λ t. ends)
    (λ t. asks_bind (write_asks 8 0 0xF0) (λ u. asks_bind (pass_asks 64 (begun want)) (λ e.
    pick_if (λ (h : Host Listed). Asks h) _ _ _
    (λ a. pick_if (λ (h : Host Listed). Asks h) _ _ _ (λ b. ends)
    (λ b. pick_if (λ (h : Host Listed). Asks h) _ _ _ (λ c. ends) (λ c. passes_ask n (up_to (e.last - 1) e.path) (out ++ (e.path ∷ [])))))
    (λ a. ends)))))

-- what such a host puts on a table
pub asked_events : {A : Type 0} (h : Host A) (l : Attached) → Asks h → ResetsAndSlots (events_of h l)
asked_events (done a) l r = tt
asked_events (ask e f) l (asks p r) = (p, asked_events (f (says_of e l)) (leaves_of e l) (r (says_of e l)))

-- what a host counts is what it puts on a table
pub play_resets : {A : Type 0} (h : Host A) (l : Attached) → (play wire h l).resets ≡ resets_in (events_of h l)
unfolding play
play_resets (done a) l = refl
play_resets (ask e f) l = ap (λ (n : ℕ). resets_of e + n) (play_resets (f (says_of e l)) (leaves_of e l))

pub play_slots : {A : Type 0} (h : Host A) (l : Attached) → (play wire h l).slots ≡ slots_in (events_of h l)
unfolding play
play_slots (done a) l = refl
play_slots (ask e f) l = ap (λ (n : ℕ). slots_of e + n) (play_slots (f (says_of e l)) (leaves_of e l))

-- a search is a run of events: only resets and slots; the line that it leaves is theirs, and so are the counts
pub record RunOfEvents (s : Search) (es : List Event) (l : Attached) : Type 0 where
  pub only : ResetsAndSlots es
  pub line : s.line ≡ run_on es l
  pub resets : s.resets ≡ resets_in es
  pub slots : s.slots ≡ slots_in es

-- THEOREM: so is the public search, on a table that neither 8 nor 5 refuses, under refusal 4 too; the events are those that its host puts on that
-- table
pub search_is_run : (list : List ℕ) (l : Attached) → Stands l → RunOfEvents (search_of list l) (events_of (search_host (length list)) l) l
unfolding search_of
search_is_run list l s =
    let h = search_host (length list) in
    let well = well_judged l.count l.lent.chips l.lent.images l.lent.pads s.range s.sizes in
    record {
      only = asked_events h l (passes_ask (capped (length list)) 0 []);
      line = ap (λ (v : Result (Unit {0}) Refusal). (search_by v list l).line) well ∙ play_runs h l;
      resets = ap (λ (v : Result (Unit {0}) Refusal). (search_by v list l).resets) well ∙ play_resets h l;
      slots = ap (λ (v : Result (Unit {0}) Refusal). (search_by v list l).slots) well ∙ play_slots h l;
    }
