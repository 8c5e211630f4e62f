-- Laws: the loop of the passes plays the host of the search.
use Rattle.std.specs.Prelude.{ℕ, suc, ◌+◌, ◌-◌, ◌*◌, ◌<◌, ◌≤◌, Bool, true, false, List, [], ◌∷◌, ◌++◌, ◌≡◌, refl, length, take, drop, set, eqb, Result}
use Rattle.line.specs.declared.Refusal.{Refusal}
use Rattle.std.proofs.Common.{arith, ◌∙◌, take-append-drop, take-suc-set, drop-set-lt, drop-drop, length-take-le, eq-eqb, ne_eqb, zero-add, add-zero, add-one}
use Rattle.std.proofs.Math.Path.{sym, ap}
use Rattle.std.proofs.Math.ListN.{length-set}
use Rattle.base.specs.Pick.{pick, pick_true, pick_false}
use Rattle.chip.specs.declared.Chip.{Chip}
use Rattle.line.specs.Event.{verdict_of}
use Rattle.line.specs.Events.{reset_event}
use Rattle.search.specs.Host.{Host, bind, done, Played, played, Listed, listed, End, end, more, heard, play, begun, pass, write, passes, go_on, up_to}
use Rattle.search.specs.Counts.{more_more, more_none, and_then, play_bind}
use Rattle.line.specs.Attached.{Attached, attached, says_of, leaves_of}
use Rattle.search.specs.Search.{Searched, complete, refused, complete_or4, wire, Search, outcome, from_played, search_by, search_of, played_pass, played_write}

abbrev pub played_list : Attached → List ℕ → Bool → ℕ → ℕ → Played Listed Attached
played_list l out b r s = played (listed out b) l r s

-- what a host hears of a reset, and the line that it leaves
abbrev hears_reset : Attached → Bool
hears_reset l = heard (says_of reset_event l)

abbrev reset_leaves : Attached → Attached
reset_leaves l = leaves_of reset_event l

-- a search with no place: presence, and refusal 4, or no chip, and complete
pub nowhere : (l lp : Attached) (list : List ℕ) (v : Bool) → v ≡ hears_reset l → lp ≡ reset_leaves l
    → outcome (complete_or4 v) 0 list 1 0 lp ≡ from_played list (play wire (passes 0 0 []) l)
unfolding play passes pick
nowhere l lp list true ev lp_is = rw (← ev, ← lp_is)
nowhere l lp list false ev lp_is = rw (← ev, ← lp_is)

-- the passes that are left, with so many places left: none where there is no place
abbrev pub passes_left : ℕ → ℕ → List ℕ → Host Listed
passes_left m want out = pick (eqb m 0) (done (listed out false)) (passes m want out)

-- where the loop of the passes stands after n codes
pub record Seeking (places : ℕ) (l₀ l : Attached) (list₀ list : List ℕ) (want n slots : ℕ) : Type 0 where
  pub left : more n slots (play wire (passes_left (places - n) want (take n list)) l) ≡ play wire (passes places 0 []) l₀
  pub room : places ≤ length list
  pub stays : drop n list ≡ drop n list₀
  pub slots_count : slots ≤ 200 * n

pub seeking_start : (places : ℕ) (l : Attached) (list : List ℕ) → 0 < places → places ≤ length list → Seeking places l l list list 0 0 0
seeking_start places l list f r =
    let z : places - 0 ≡ places = omega arith in
    record {
      left = rw z (ap (λ (h : Host Listed). more 0 0 (play wire h l)) (pick_false (eqb places 0) _ _ (ne_eqb places 0 (omega arith))) ∙ sym (more_none (play wire (passes places 0 []) l)));
      room = r;
      stays = refl;
      slots_count = omega arith;
    }

-- what is left while there is a place
left_some : (places n want : ℕ) (out : List ℕ) → n < places → passes_left (places - n) want out ≡ passes (places - n) want out
left_some places n want out h = pick_false (eqb (places - n) 0) _ _ (ne_eqb (places - n) 0 (omega arith))

-- no presence
pub seek_absent : (places : ℕ) (l₀ l lp : Attached) (list₀ list : List ℕ) (want n slots : ℕ) (v : Bool)
    → Seeking places l₀ l list₀ list want n slots → n < places → v ≡ hears_reset l → lp ≡ reset_leaves l → v ≡ true
    → played_list lp (take n list) true (n + 1) slots ≡ play wire (passes places 0 []) l₀
unfolding play passes pick
seek_absent places l₀ l lp list₀ list want n slots v g h ev lp_is t =
    let z : slots ≡ slots + 0 = omega arith in
    let m : places - n ≡ suc (places - (n + 1)) = omega arith in
    let e : play wire (passes (places - n) want (take n list)) l ≡ played_list lp (take n list) true 1 0 = rw (m, ← ev, ← lp_is, t) in
    ap (λ (s : ℕ). played_list lp (take n list) true (n + 1) s) z
    ∙ sym (ap (λ (k : Host Listed). more n slots (play wire k l)) (left_some places n want (take n list) h) ∙ ap (more n slots) e) ∙ g.left

-- how the host goes on after a pass
abbrev onward : ℕ → List ℕ → End → Host Listed
onward m out e = go_on m out (λ w o. passes m w o) e

eight : (s : ℕ) (q : Played Listed Attached) → more 1 0 (more 0 8 (more 0 s q)) ≡ more 1 (8 + s) q
eight s q = ap (more 1 0) (more_more 0 8 0 s q) ∙ more_more 1 0 0 (8 + s) q ∙ ap (λ (z : ℕ). more 1 z q) (zero-add (8 + s))

-- one pass
one_pass : (m want : ℕ) (out : List ℕ) (l lp u le : Attached) (v : Bool) (path last s : ℕ) (whole : Bool) → v ≡ hears_reset l → lp ≡ reset_leaves l → v ≡ false
    → played_write u 8 ≡ play wire (write 8 0 0xF0) lp → played_pass le path last whole s ≡ play wire (pass 64 (begun want)) u
    → play wire (passes (suc m) want out) l ≡ more 1 (8 + s) (play wire (onward m out (end path last whole)) le)
unfolding play passes pick
one_pass m want out l lp u le v path last s whole ev lp_is t eu ee =
    rw (← ev, ← lp_is, t)
    (ap (more 1 0) (play_bind wire (write 8 0 0xF0) (λ x. bind (pass 64 (begun want)) (onward m out)) lp
    ∙ ap (λ (q : Played (Unit {0}) Attached). and_then wire q (λ x. bind (pass 64 (begun want)) (onward m out))) (sym eu)
    ∙ ap (more 0 8) (play_bind wire (pass 64 (begun want)) (onward m out) u
    ∙ ap (λ (q : Played End Attached). and_then wire q (onward m out)) (sym ee)))
    ∙ eight s (play wire (onward m out (end path last whole)) le))

-- the host's way on, with n + 1 codes listed
module _ (places : ℕ) (l₀ l lp u le : Attached) (list₀ list : List ℕ) (want n slots : ℕ) (v : Bool) (path last s : ℕ) (whole : Bool)
    (g : Seeking places l₀ l list₀ list want n slots) (ev : v ≡ hears_reset l) (lp_is : lp ≡ reset_leaves l) (t : v ≡ false) (h : n < places)
    (eu : played_write u 8 ≡ play wire (write 8 0 0xF0) lp) (ee : played_pass le path last whole s ≡ play wire (pass 64 (begun want)) u) where
  -- after the pass
  passed : more (n + 1) (slots + (8 + s)) (play wire (onward (places - (n + 1)) (take n list) (end path last whole)) le) ≡ play wire (passes places 0 []) l₀
  passed =
      let m : places - n ≡ suc (places - (n + 1)) = omega arith in
      let f : play wire (passes (places - n) want (take n list)) l ≡ more 1 (8 + s) (play wire (onward (places - (n + 1)) (take n list) (end path last whole)) le)
      = rw m (one_pass (places - (n + 1)) want (take n list) l lp u le v path last s whole ev lp_is t eu ee) in
      sym (more_more n slots 1 (8 + s) _)
      ∙ sym (ap (λ (k : Host Listed). more n slots (play wire k l)) (left_some places n want (take n list) h) ∙ ap (more n slots) f) ∙ g.left

  sum_zero : (out : List ℕ) (b : Bool) → more (n + 1) (slots + (8 + s)) (played_list le out b 0 0) ≡ played_list le out b (n + 1) (slots + (8 + s))
  sum_zero out b = λ i. played_list le out b (add-zero (n + 1) i) (add-zero (slots + (8 + s)) i)

  -- the pass was given up
  pub seek_up : whole ≡ false → played_list le (take n list) true (n + 1) (slots + (8 + s)) ≡ play wire (passes places 0 []) l₀
  unfolding play
  seek_up q = sym (sum_zero (take n list) true) ∙ ap (λ (k : Host Listed). more (n + 1) (slots + (8 + s)) (play wire k le)) (sym (pick_false whole _ _ q)) ∙ passed

  module _ (q : whole ≡ true) where
    into : Host Listed → Played Listed Attached
    into k = more (n + 1) (slots + (8 + s)) (play wire k le)

    taken : take n list ++ (path ∷ []) ≡ take (n + 1) (set list n path)
    taken = rw add-one (sym (take-suc-set list n path (let r = g.room in omega arith)))

    pub seek_last : last ≡ 0 → played_list le (take (n + 1) (set list n path)) true (n + 1) (slots + (8 + s)) ≡ play wire (passes places 0 []) l₀
    unfolding play into
    seek_last z = rw (← taken) (sym (sum_zero (take n list ++ (path ∷ [])) true)
        ∙ ap into (sym (pick_true whole _ _ q ∙ pick_true (eqb last 0) _ _ (eq-eqb _ _ z))) ∙ passed)

    pub seek_stays : drop (n + 1) (set list n path) ≡ drop (n + 1) list₀
    seek_stays = drop-set-lt (n + 1) list n path (omega arith) ∙ sym (drop-drop 1 n list) ∙ ap (drop 1) g.stays ∙ drop-drop 1 n list₀

    pub seek_again : (k w : ℕ) → last ≡ k + 1 → w ≡ up_to k path → s ≤ 192
        → Seeking places l₀ le list₀ (set list n path) w (n + 1) (slots + (8 + s))
    unfolding into
    seek_again k w z ew few =
        let d : last - 1 ≡ k = omega arith in
        record {
          left = rw (← taken, ew, ← d) (ap into (sym (pick_true whole _ _ q ∙ pick_false (eqb last 0) _ _ (ne_eqb last 0 (omega arith)))) ∙ passed);
          room = simp length-set g.room;
          stays = seek_stays;
          slots_count = let c = g.slots_count in omega arith;
        }

-- every place is filled, and codes are left
module _ (places : ℕ) (l₀ l : Attached) (list₀ list : List ℕ) (want n slots : ℕ) (g : Seeking places l₀ l list₀ list want n slots) (q : n ≡ places) where
  pub full_stays : drop places list ≡ drop places list₀
  full_stays = ap (λ (k : ℕ). drop k list) (sym q) ∙ g.stays ∙ ap (λ (k : ℕ). drop k list₀) q

  pub seek_full : played_list l (take places list) false places slots ≡ play wire (passes places 0 []) l₀
  unfolding play
  seek_full =
      ap (λ (k : ℕ). played_list l (take k list) false k slots) (sym q)
      ∙ (λ i. played_list l (take n list) false (sym (add-zero n) i) (sym (add-zero slots) i))
      ∙ ap (λ (k : Host Listed). more n slots (play wire k l)) (sym (pick_true (eqb (places - n) 0) _ _ (eq-eqb (places - n) 0 (omega arith)))) ∙ g.left

-- a list that was filled to its first n places is what the host listed, then what stood there
pub found_list : (n : ℕ) (list list₀ : List ℕ) (l : Attached) (b : Bool) (r s : ℕ) (a : Searched) → n ≤ length list → drop n list ≡ drop n list₀ → a ≡ complete_or4 b
    → outcome a n list r s l ≡ from_played list₀ (played_list l (take n list) b r s)
found_list n list list₀ l b r s a h e f =
    let k : length (take n list) ≡ n = length-take-le n list h in
    let m : take n list ++ drop (length (take n list)) list₀ ≡ list
    = ap (λ (i : ℕ). take n list ++ drop i list₀) k ∙ ap (λ (i : List ℕ). take n list ++ i) (sym e) ∙ take-append-drop n list in
    λ j. outcome (f j) (sym k j) (sym m j) r s l

pub found_all : (n : ℕ) (list list₀ : List ℕ) (l : Attached) (r s : ℕ) (p : Played Listed Attached) → n ≤ length list → drop n list ≡ drop n list₀
    → played_list l (take n list) true r s ≡ p → outcome complete n list r s l ≡ from_played list₀ p
found_all n list list₀ l r s p h e f = found_list n list list₀ l true r s complete h e (sym (pick_true true _ _ refl)) ∙ ap (from_played list₀) f

pub found_some : (n : ℕ) (list list₀ : List ℕ) (l : Attached) (r s : ℕ) (p : Played Listed Attached) → n ≤ length list → drop n list ≡ drop n list₀
    → played_list l (take n list) false r s ≡ p → outcome (refused 4) n list r s l ≡ from_played list₀ p
found_some n list list₀ l r s p h e f = found_list n list list₀ l false r s (refused 4) h e (sym (pick_false false _ _ refl)) ∙ ap (from_played list₀) f

-- a search, taken at what the table was judged to
pub search_at : (n : ℕ) (cs : List Chip) (ms ss list : List ℕ) (q p : Result (Unit {0}) Refusal) (r : Search) → q ≡ verdict_of n cs ms ss → q ≡ p
    → r ≡ search_by p list (attached n cs ms ss) → r ≡ search_of list (attached n cs ms ss)
unfolding search_of
search_at n cs ms ss list q p r h e k = k ∙ ap (λ (v : Result (Unit {0}) Refusal). search_by v list (attached n cs ms ss)) (sym e ∙ h)
