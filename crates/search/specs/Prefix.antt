-- Laws: a search on a table goes by the places of its line alone, and leaves the places past them.
use Rattle.std.specs.Prelude.{ℕ, ◌≤◌, ◌<◌, List, ◌++◌, ◌≡◌, length, Result, Ok, Err}
use Rattle.line.specs.declared.Refusal.{Refusal}
use Rattle.std.proofs.Common.{arith, ◌∙◌}
use Rattle.std.proofs.Math.Path.{refl, ap}
use Rattle.chip.specs.declared.Chip.{Chip}
use Rattle.line.specs.Event.{Outcome}
use Rattle.line.specs.Prefix.{verdict_rest, event_rest, event_holds, many_verdict}
use Rattle.line.specs.declared.Event.{Event}
use Rattle.search.specs.Host.{Host, done, ask, Played, Listed, played, more, resets_of, slots_of, play, search_host}
use Rattle.line.specs.Attached.{Attached, attached, left_by, says_of, leaves_of, verdict_at}
use Rattle.search.specs.Search.{refused, wire, Search, outcome, from_played, search_by, search_of}

-- the same table with the places Z after its own, and what was played or searched on it
abbrev pub attached_rest : List Chip → Attached → Attached
attached_rest Z l = attached l.count (l.lent.chips ++ Z) l.lent.images l.lent.pads

abbrev played_rest : {A : Type 0} → List Chip → Played A Attached → Played A Attached
played_rest Z p = played p.result (attached_rest Z p.line) p.resets p.slots

abbrev pub search_rest : List Chip → Search → Search
search_rest Z s = outcome s.answer s.number s.list s.resets s.slots (attached_rest Z s.line)

-- a table has n chips in m places
pub record Has (n m : ℕ) (l : Attached) : Type 0 where
  pub chips : l.count ≡ n
  pub places : length l.lent.chips ≡ m

-- a table of over 16 chips is refused by 8, without an event
pub many_search : (list : List ℕ) (n : ℕ) (cs : List Chip) (ms ss : List ℕ) → 16 < n → search_of list (attached n cs ms ss) ≡ outcome (refused 8) 0 list 0 0 (attached n cs ms ss)
unfolding search_of
many_search list n cs ms ss h = ap (λ (v : Result (Unit {0}) Refusal). search_by v list (attached n cs ms ss)) (many_verdict n cs ms ss h)

module _ (n m : ℕ) (few : n ≤ m) where
  leaves_has : (e : Event) (l : Attached) → Has n m l → Has n m (leaves_of e l)
  unfolding leaves_of
  leaves_has e l h =
      let c = h.chips in
      let p = h.places in
      let k = event_holds l.count l.lent.chips e l.lent.images l.lent.pads (omega arith) in
      record { chips = k.chips ∙ c; places = k.places ∙ p }

  play_has : {A : Type 0} (h : Host A) (l : Attached) → Has n m l → Has n m (play wire h l).line
  unfolding play
  play_has (done a) l s = s
  play_has (ask e f) l s = play_has (f (says_of e l)) (leaves_of e l) (leaves_has e l s)

  -- every search keeps the number of chips and of places
  pub search_has : (list : List ℕ) (l : Attached) → Has n m l → Has n m (search_of list l).line
  unfolding search_of
  search_has list l s = go (verdict_at l)
    where
      go : (v : Result (Unit {0}) Refusal) → Has n m (search_by v list l).line
      go (Ok tt) = play_has (search_host (length list)) l s
      go (Err r) = s

  module _ (Z : List Chip) where
    event_on_rest : (e : Event) (l : Attached) → Has n m l → (says_of e (attached_rest Z l) ≡ says_of e l) × (leaves_of e (attached_rest Z l) ≡ attached_rest Z (leaves_of e l))
    unfolding says_of leaves_of
    event_on_rest e l h =
        let c = h.chips in
        let p = h.places in
        let k = event_rest l.count l.lent.chips Z (omega arith) e l.lent.images l.lent.pads in
        (ap (λ (o : Outcome). o.answer) k, ap (λ (o : Outcome). left_by o) k)

    play_rest : {A : Type 0} (h : Host A) (l : Attached) → Has n m l → play wire h (attached_rest Z l) ≡ played_rest Z (play wire h l)
    unfolding play
    play_rest (done a) l s = refl
    play_rest (ask e f) l s =
        let k = event_on_rest e l s in
        ap (more (resets_of e) (slots_of e))
        ((λ j. play wire (f (k.0 j)) (k.1 j)) ∙ play_rest (f (says_of e l)) (leaves_of e l) (leaves_has e l s))

    -- a search on a table with more places than its own
    pub search-rest : (list : List ℕ) (l : Attached) → Has n m l → search_of list (attached_rest Z l) ≡ search_rest Z (search_of list l)
    unfolding search_of
    search-rest list l s =
        let c = s.chips in
        let p = s.places in
        ap (λ (v : Result (Unit {0}) Refusal). search_by v list (attached_rest Z l)) (verdict_rest l.count l.lent.chips Z (omega arith) l.lent.images l.lent.pads)
        ∙ go (verdict_at l)
      where
        go : (v : Result (Unit {0}) Refusal) → search_by v list (attached_rest Z l) ≡ search_rest Z (search_by v list l)
        go (Ok tt) = ap (λ (x : Played Listed Attached). from_played list x) (play_rest (search_host (length list)) l s)
        go (Err r) = refl
