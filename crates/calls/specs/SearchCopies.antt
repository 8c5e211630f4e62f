-- A search carries out no copy in any chip: every chip is at the ROM level, or waits, in each of its slots. So calls in whose events a chip
-- carries out no copy carry out none.
use Prim.Native.Nat.{ℕ, zero, suc, ◌+◌, ◌-◌, ◌<◌}
use native.Mathlib.Omega.{arith}
use Rattle.std.specs.Prelude.{Bool, not, List, [], ◌∷◌, ◌++◌, map, ◌≡◌, length}
use Rattle.std.proofs.Math.Bool.{true, false}
use Rattle.std.proofs.Math.Path.{refl, ap, sym}
use Rattle.std.proofs.Common.{◌∙◌, subst}
use Rattle.std.proofs.lemmas.Bool.{not-true}
use Rattle.base.specs.Pick.{pick, pick_if}
use Rattle.base.specs.Bits.{bit_of, both, filled}
use Rattle.base.specs.Both.{both_true, both_holds}
use Rattle.rom.specs.Rom.{command_bit}
use Rattle.rom.specs.declared.RomStep.TheVariants.{Search}
use Rattle.chip.specs.Chip.{Whole, rom_slot, takes_of, reset_chip, reset_of}
use Rattle.chip.specs.declared.Level.{Level}
use Rattle.chip.specs.declared.Level.TheVariants.{Waiting, Rom}
use Rattle.line.specs.Layout.{capped}
use Rattle.line.specs.Line.{value_of}
use Rattle.line.specs.Event.{Answered, bit, asked_by, plan_event, outside_fits, plan_on}
use Rattle.line.specs.Events.{slot_event, reset_event}
use Rattle.line.specs.declared.Event.{Event}
use Rattle.search.specs.Host.{Host, done, ask, End, Listed, bind, UnderWay, begun, next_place, pass, write, up_to, passes, search_host}
use Rattle.line.specs.Attached.{Attached, says_of, leaves_of, Stands, line_from}
use Rattle.search.specs.Search.{search_of}
use Rattle.histories.specs.Histories.{no_whole, at, answer_of, after_of, run}
use Rattle.histories.specs.Standing.{says_is, line_after, stands_after}
use Rattle.histories.specs.Joined.{run_joined}
use Rattle.histories.specs.Calls.{events_of, Call, event_call, search_call, slots_call, leaves_call, events_of_call, events_of_calls, call_runs, stands_calls}
use Rattle.histories.specs.Sent.{bits_from}
use Rattle.histories.specs.Fed.{fed}
use Rattle.histories.specs.AtSlots.{AtSlot}
use Rattle.recovery.specs.CarriedOut.{level_carries_out, carries_out, NoCopy}
use Rattle.listing.specs.Chip.{level_in, level_out}
use Rattle.listing.specs.Slots.{taken, after_reset, value_is, AllHear, hear_quiet, hear_next, fed_next, fed_none, all_hear}
use Rattle.listing.specs.Line.{At, nobody, part, gone, at_opened, bits_taken, nots_taken, bit_written}

-- a chip in which no slot carries out a copy
abbrev Calm : Whole → Type 0
Calm w = (v : Bool) → carries_out v w ≡ false

-- where a level carries out none
calm_in : (w : Whole) (l : Level) → w.chip.level ≡ l → ((v : Bool) → level_carries_out w v l ≡ false) → Calm w
unfolding carries_out
calm_in w l e h v = ap (level_carries_out w v) e ∙ h v

-- no chip past the line
calm_none : Calm no_whole
unfolding carries_out
calm_none v = refl

-- no chip of a line in a pass
at_calm : (i k s : ℕ) {L : List Whole} {xs : List ℕ} → k < 64 → At k s L xs → Calm (at i L)
at_calm zero k s h nobody = calm_none
at_calm (suc i) k s h nobody = calm_none
at_calm zero k s h (part {w} p e r) = calm_in w (Rom (Search k s)) (level_in k s w h p) (λ v. refl)
at_calm (suc i) k s h (part p e r) = at_calm i k s h r
at_calm zero k s h (gone {w} o r) = calm_in w Waiting (level_out w o) (λ v. refl)
at_calm (suc i) k s h (gone o r) = at_calm i k s h r

-- in none of some slots a chip carries out a copy, computed
abbrev copies_nothing : List Bool → Whole → Bool
copies_nothing [] w = true
copies_nothing (v ∷ vs) w = both (not (carries_out v w)) (copies_nothing vs (takes_of v w))

-- nor in those of the command of the search after a reset
command_copies : (w : Whole) → copies_nothing (bits_from 8 0 0xF0) (reset_of w) ≡ true
unfolding reset_of reset_chip takes_of carries_out rom_slot command_bit filled bit_of both pick
command_copies w = refl

-- no chip of a line
abbrev NoneCopies : List Bool → List Whole → Type 0
NoneCopies vs [] = Unit
NoneCopies vs (w ∷ L) = (copies_nothing vs w ≡ true) × NoneCopies vs L

none_copies : (L : List Whole) → NoneCopies (bits_from 8 0 0xF0) (after_reset L)
none_copies [] = tt
none_copies (w ∷ L) = (command_copies w, none_copies L)

-- at the first of the slots, and at the others
none_first : (i : ℕ) (v : Bool) (vs : List Bool) (L : List Whole) → NoneCopies (v ∷ vs) L → carries_out v (at i L) ≡ false
none_first zero v vs [] n = calm_none v
none_first (suc i) v vs [] n = calm_none v
none_first zero v vs (w ∷ L) (n, r) = not-true (carries_out v w) (both_holds _ _ n).0
none_first (suc i) v vs (w ∷ L) (n, r) = none_first i v vs L r

none_next : (v : Bool) (vs : List Bool) (L : List Whole) → NoneCopies (v ∷ vs) L → NoneCopies vs (taken v L)
none_next v vs [] n = tt
none_next v vs (w ∷ L) (n, r) = ((both_holds _ _ n).1, none_next v vs L r)

module _ (i : ℕ) where
  -- a host on a line, in whose slots chip i carries out no copy, and which comes to Q
  data Idles {A : Type 0} (Q : A → List Whole → Type 0) : Host A → List Whole → Type 0 where
    ends : {a : A} {L : List Whole} → Q a L → Idles Q (done a) L
    asks : {e : Event} {f : Answered → Host A} {L : List Whole} → AtSlot (λ (b : Bool). carries_out (value_of b L) (at i L) ≡ false) (plan_on e L) → Idles Q (f (answer_of e L)) (after_of e L) → Idles Q (ask e f) L

  -- one host, then another
  idles_bind : {A B : Type 0} {Q : B → List Whole → Type 0} {g : A → Host B} {h : Host A} {L : List Whole} → Idles (λ a M. Idles Q (g a) M) h L → Idles Q (bind h g) L
  unfolding bind
  idles_bind (ends p) = p
  idles_bind (asks p r) = asks p (idles_bind r)

  -- its events on a table then carry out none
  idles_table : {A : Type 0} {Q : A → List Whole → Type 0} (h : Host A) (l : Attached) → Stands l → Idles Q h (line_from l) → NoCopy i (events_of h l) (line_from l)
  idles_table (done a) l s r = tt
  idles_table {Q = Q} (ask e f) l s (asks p r) =
      (p, rw (← line_after l e s) (idles_table {Q = Q} (f (says_of e l)) (leaves_of e l) (stands_after l e s) (rw (line_after l e s, says_is l s e) r)))

  -- a slot
  slot_idles : {A : Type 0} {Q : A → List Whole → Type 0} (b : Bool) {f : Answered → Host A} {L : List Whole}
      → ((v : Bool) → value_of b L ≡ v → (carries_out v (at i L) ≡ false) × Idles Q (f (bit v)) (taken v L)) → Idles Q (ask (slot_event b) f) L
  unfolding answer_of after_of plan_event outside_fits asked_by pick
  slot_idles true {L = L} g = let h = g (value_of true L) refl in asks h.0 h.1
  slot_idles false {L = L} g = let h = g (value_of false L) refl in asks h.0 h.1

  -- a reset
  reset_idles : {A : Type 0} {Q : A → List Whole → Type 0} {f : Answered → Host A} {L : List Whole} → ((x : Answered) → Idles Q (f x) (after_reset L)) → Idles Q (ask reset_event f) L
  unfolding answer_of after_of plan_event outside_fits asked_by pick
  reset_idles g = asks tt (g _)

  -- the command
  write_idles : (n j byte : ℕ) (L : List Whole) {Q : Unit {0} → List Whole → Type 0} → AllHear (bits_from n j byte) L → NoneCopies (bits_from n j byte) L
      → Q tt (map (fed (bits_from n j byte)) L) → Idles Q (write n j byte) L
  unfolding write
  write_idles zero j byte L {Q} h c q = ends (subst (Q tt) (sym (fed_none L)) q)
  write_idles (suc n) j byte L {Q} h c q =
      let b = bit_of byte j in
      let vs = bits_from n (j + 1) byte in
      slot_idles b (λ v e.
      let k : v ≡ b = sym e ∙ value_is b L ∙ ap (both b) (hear_quiet b vs L h) ∙ both_true b in
      rw k (none_first i b vs L c, write_idles n (j + 1) byte (taken b L) (hear_next b vs L h) (none_next b vs L c) (subst (Q tt) (sym (fed_next b vs L)) q)))

  -- a pass under way
  pass_idles : (n : ℕ) (p : UnderWay) {L : List Whole} {xs : List ℕ} {Q : End → List Whole → Type 0} → p.place + n ≡ 64 → At p.place 0 L xs
      → ((e : End) (M : List Whole) → Q e M) → Idles Q (pass n p) L
  unfolding pass
  pass_idles zero p e a q = ends (q _ _)
  pass_idles (suc n) p {L} {Q = Q} e a q =
      let k = p.place in
      let h : k < 64 = omega arith in
      slot_idles true (λ v d. (
        at_calm i k 0 h a v,
        slot_idles true (λ u c. (
          at_calm i k 1 h (bits_taken k v h a) u,
          pick_if (λ (host : Host End). Idles Q host (taken u (taken v L))) _ _ _ (λ t. ends (q _ _))
              (λ t. slot_idles _ (λ x z. (
                at_calm i k 2 h (nots_taken k u h (bits_taken k v h a)) x,
                pass_idles n (next_place v u p) (omega arith) (bit_written k x h (nots_taken k u h (bits_taken k v h a))) q,
              ))),
        )),
      ))

  -- nothing is asked of what a search comes to
  abbrev Anything : Listed → List Whole → Type 0
  Anything a M = Unit

  -- passes
  passes_idle : (n want : ℕ) (out : List ℕ) (L : List Whole) → Idles Anything (passes n want out) L
  unfolding passes
  passes_idle zero want out L = reset_idles (λ x. pick_if (λ (h : Host Listed). Idles Anything h (after_reset L)) _ _ _ (λ t. ends tt) (λ t. ends tt))
  passes_idle (suc n) want out L =
      reset_idles (λ x. pick_if (λ (h : Host Listed). Idles Anything h (after_reset L)) _ _ _ (λ t. ends tt)
      (λ t. idles_bind (write_idles 8 0 0xF0 (after_reset L) (all_hear L) (none_copies L)
      (idles_bind (pass_idles 64 (begun want) refl (at_opened L) (λ e M.
      pick_if (λ (h : Host Listed). Idles Anything h M) _ _ _
      (λ a. pick_if (λ (h : Host Listed). Idles Anything h M) _ _ _ (λ b. ends tt)
      (λ b. pick_if (λ (h : Host Listed). Idles Anything h M) _ _ _ (λ c. ends tt) (λ c. passes_idle n (up_to (e.last - 1) e.path) (out ++ (e.path ∷ [])) M)))
      (λ a. ends tt)))))))

  -- THEOREM: a search with any number of places, on a table that stands well, carries out no copy in chip i
  pub search_copies_nothing : (places : ℕ) (l : Attached) → Stands l → NoCopy i (events_of (search_host places) l) (line_from l)
  search_copies_nothing places l s = idles_table (search_host places) l s (passes_idle (capped places) 0 [] (line_from l))

-- chip i carries out no copy in some calls: in none of the events and runs of slots among them, since no search carries one out
abbrev pub NoCopyIn : ℕ → List Call → Attached → Type 0
NoCopyIn i [] l = Unit
NoCopyIn i (event_call e ∷ cs) l = NoCopy i (e ∷ []) (line_from l) × NoCopyIn i cs (leaves_of e l)
NoCopyIn i (search_call list ∷ cs) l = NoCopyIn i cs (search_of list l).line
NoCopyIn i (slots_call n bits out ∷ cs) l = NoCopy i (events_of_call (slots_call n bits out) l) (line_from l) × NoCopyIn i cs (leaves_call (slots_call n bits out) l)

-- one history after another
no_copy_append : (i : ℕ) (xs ys : List Event) (L : List Whole) → NoCopy i xs L → NoCopy i ys (run xs L) → NoCopy i (xs ++ ys) L
no_copy_append i [] ys L p q = q
no_copy_append i (e ∷ xs) ys L (p, r) q = (p, no_copy_append i xs ys (after_of e L) r q)

-- one call more
call_idle : (i : ℕ) (c : Call) (cs : List Call) (l : Attached) → Stands l → NoCopy i (events_of_call c l) (line_from l)
    → (Stands (leaves_call c l) → NoCopy i (events_of_calls cs (leaves_call c l)) (line_from (leaves_call c l)))
    → NoCopy i (events_of_calls (c ∷ cs) l) (line_from l)
call_idle i c cs l s p r =
    let e = call_runs c l s in
    let there : line_from (leaves_call c l) ≡ run (events_of_call c l) (line_from l) = ap line_from e ∙ run_joined (events_of_call c l) l s in
    no_copy_append i (events_of_call c l) (events_of_calls cs (leaves_call c l)) (line_from l) p
    (subst (NoCopy i (events_of_calls cs (leaves_call c l))) there (r (stands_calls (c ∷ []) l s)))

-- THEOREM: then chip i carries out no copy in any event that the calls put on the line
pub no_copy_in : (i : ℕ) (cs : List Call) (l : Attached) → Stands l → NoCopyIn i cs l → NoCopy i (events_of_calls cs l) (line_from l)
no_copy_in i [] l s n = tt
no_copy_in i (event_call e ∷ cs) l s (p, r) = call_idle i (event_call e) cs l s p (λ t. no_copy_in i cs (leaves_of e l) t r)
no_copy_in i (search_call list ∷ cs) l s n = call_idle i (search_call list) cs l s (search_copies_nothing i (length list) l s) (λ t. no_copy_in i cs (search_of list l).line t n)
no_copy_in i (slots_call n bits out ∷ cs) l s (p, r) = call_idle i (slots_call n bits out) cs l s p (λ t. no_copy_in i cs (leaves_call (slots_call n bits out) l) t r)
