-- A session that matches a chip's code, sends it a command and reads: of a line whose codes all differ, from any state of it.
use Rattle.std.specs.Prelude.{ℕ, zero, suc, Bool, true, false, List, [], ◌∷◌, ◌++◌, map, ◌≡◌, refl, length, replicate, Result}
use Rattle.std.proofs.Common.{append_assoc, ◌∙◌, ap, sym}
use Rattle.std.proofs.lemmas.List.{map-append}
use Rattle.base.specs.Both.{both_true}
use Rattle.chip.specs.Chip.{Whole, takes_of, sends_of, level_reset, reset_chip, reset_of}
use Rattle.chip.specs.declared.Level.TheVariants.{Waiting, FunctionCommand}
use Rattle.line.specs.Event.{Answered, bit}
use Rattle.line.specs.Events.{slot_event, reset_event}
use Rattle.line.specs.declared.Event.{Event}
use Rattle.line.specs.declared.Plan.{Plan}
use Rattle.line.specs.declared.Refusal.{Refusal}
use Rattle.histories.specs.Histories.{at, answer_of, after_of, run, answers, came}
use Rattle.histories.specs.Sent.{slots}
use Rattle.recovery.specs.Sessions.{opening, Addressed, slotted, match_session}
use Rattle.recovery.specs.Stays.{run_stays}
use Rattle.recovery.proofs.Among.{Own, Among, among_at, own_run, own_answers, alone, alone_answers}
use Rattle.recovery.specs.Goes.{Goes, goes_from, goes_append, of_kind, ec20, goes_opening}
use Rattle.recovery.proofs.Installed.{Installed, codes_at}
use Rattle.recovery.proofs.Matched.{came_slots, addressed_slots, reset_is, session_among, session_answers}
use Rattle.recovery.proofs.Recovery.{run_append}
use Rattle.histories.specs.Fed.{fed}
use Rattle.commands.specs.Streams.{sent_in, then_ones, but_level, Streams}
use Rattle.commands.specs.ShortAddress.{matched}

-- a reset, a match of the code, these bits, and n read slots
abbrev pub reading : ℕ → List Bool → ℕ → List Event
reading code bits n = match_session code (bits ++ replicate n true)

-- its answers, where the host reads so: presence, then each bit as the host wrote it, then what is read
abbrev pub reading_answers : ℕ → List Bool → List Bool → List Answered
reading_answers code bits read = bit false ∷ map bit (opening code ++ (bits ++ read))

-- the values of n read slots in which no other chip pulls the line down
abbrev read_bits : ℕ → Whole → List Bool
read_bits zero w = []
read_bits (suc n) w = sends_of w ∷ read_bits n (takes_of (sends_of w) w)

-- there are n of them
read_length : (n : ℕ) (w : Whole) → length (read_bits n w) ≡ n
read_length zero w = refl
read_length (suc n) w = ap suc (read_length n (takes_of (sends_of w) w))

-- in slots of these values the chip sends these
read_sent : (n : ℕ) (w : Whole) → sent_in (read_bits n w) w ≡ read_bits n w
read_sent zero w = refl
read_sent (suc n) w = ap (λ (l : List Bool). sends_of w ∷ l) (read_sent n (takes_of (sends_of w) w))

-- they are what it answers alone
read_answers : (n : ℕ) (w : Whole) → own_answers (slotted (replicate n true)) w ≡ map bit (read_bits n w)
read_answers zero w = refl
read_answers (suc n) w =
    ap (λ (b : Bool). bit b ∷ own_answers (slotted (replicate n true)) (takes_of b w)) (both_true (sends_of w))
    ∙ ap (λ (l : List Answered). bit (sends_of w) ∷ l) (read_answers n (takes_of (sends_of w) w))

-- and by which it comes where it comes to alone
read_run : (n : ℕ) (w : Whole) → own_run (slotted (replicate n true)) w ≡ fed (read_bits n w) w
read_run zero w = refl
read_run (suc n) w =
    ap (λ (b : Bool). own_run (slotted (replicate n true)) (takes_of b w)) (both_true (sends_of w)) ∙ read_run n (takes_of (sends_of w) w)

-- the answers of one history after another
answers_append : (xs ys : List Event) (L : List Whole) → answers (xs ++ ys) L ≡ answers xs L ++ answers ys (run xs L)
answers_append [] ys L = refl
answers_append (e ∷ xs) ys L = ap (λ (l : List Answered). answer_of e L ∷ l) (answers_append xs ys (after_of e L))

-- a DS28EC20 after a reset and a match of its code, with its kind written out
abbrev pub after_match : Whole → Whole
after_match w = ec20 w.chip w.memory (FunctionCommand 0 0) true (level_reset w.chip w.chip.level) w.pad

-- it is, but for its level, as the reset left it, and RC is 1
pub after_match_is : (w : Whole) → w.chip.kind ≡ 1 → but_level (after_match w) ≡ but_level (matched (reset_of w))
unfolding reset_of reset_chip
after_match_is w e = ap (λ (k : ℕ). of_kind w.chip w.memory k Waiting true (level_reset w.chip w.chip.level) w.pad) (sym e)

-- what a chip comes to alone from there on, it comes to from the reset on
pub match_goes : (i : ℕ) (L : List Whole) → Installed i L → (command : List Bool) (u : Whole) → Goes command (after_match (at i L)) u
    → Goes (opening (at i L).chip.code ++ command) (reset_of (at i L)) u
match_goes i L s command u taken =
    let w = at i L in
    goes_from (opening w.chip.code ++ command) _ _ _ (reset_is w s.kind)
    (goes_append (opening w.chip.code) command _ _ _ (goes_opening w.chip w.memory w.chip.rc (level_reset w.chip w.chip.level) w.pad) taken)

-- chip i of a line; the bits of a command, over which it is silent, where they bring it, alone, and what it then sends
module _ (i : ℕ) (L : List Whole) (s : Installed i L) (command : List Bool) (u : Whole) (sent : List Bool)
    (taken : Goes command (after_match (at i L)) u) (streams : Streams sent u) where
  -- its code
  abbrev code : ℕ
  code = (at i L).chip.code

  -- from the reset on
  goes : Goes (opening code ++ command) (reset_of (at i L)) u
  goes = match_goes i L s command u taken

  -- the line when the command is in
  abbrev line : List Whole
  line = run (match_session code command) L

  -- chip i on it, among chips that wait
  among : Among code [] u i line
  among = session_among i L s code refl command u goes

  -- chip i by itself
  own : Own code [] u
  own =
      let k = run_stays i (match_session code command) L in
      let c : u.chip.code ≡ code = ap (λ (w : Whole). w.chip.code) (sym (among_at among)) ∙ k.code in
      record {
        has_code = c;
        of_64_bits = rw c (codes_at i L s.attached s.codes);
        kind = ap (λ (w : Whole). w.chip.kind) (sym (among_at among)) ∙ k.kind ∙ s.kind;
        silent = λ n. absurd (n c);
      }

  module _ (n : ℕ) where
    -- the read slots
    abbrev ones : List Event
    ones = slots (replicate n true)

    -- the session is the command, and then these
    in_two : reading code command n ≡ match_session code command ++ ones
    in_two =
        ap (λ (vs : List Bool). reset_event ∷ slots vs) (sym (append_assoc (opening code) command (replicate n true)))
        ∙ ap (λ (es : List Event). reset_event ∷ es) (map-append slot_event (opening code ++ command) (replicate n true))

    -- slots are free there
    free : Addressed code [] (came ones line)
    free = addressed_slots code [] (replicate n true) line

    -- what the host reads
    read_is : read_bits n u ≡ then_ones n sent
    read_is = sym (read_sent n u) ∙ streams.sends (read_bits n u) ∙ ap (λ (k : ℕ). then_ones k sent) (read_length n u)

    -- THEOREM: the host reads what the chip sends, and then ones
    pub session_reads : answers (reading code command n) L ≡ reading_answers code command (then_ones n sent)
    session_reads =
        ap (λ (es : List Event). answers es L) in_two
        ∙ answers_append (match_session code command) ones L
        ∙ ap (λ (l : List Answered). l ++ answers ones line) (session_answers i L s code refl command u goes)
        ∙ ap (λ (l : List Answered). bit false ∷ (map bit (opening code ++ command) ++ l))
        (alone_answers code [] ones u i line free own among
        ∙ ap (λ (ps : List (Result Plan Refusal)). own_answers ps u) (came_slots (replicate n true) line)
        ∙ read_answers n u
        ∙ ap (map bit) read_is)
        ∙ ap (λ (l : List Answered). bit false ∷ l) (sym (map-append bit (opening code ++ command) (then_ones n sent)))
        ∙ ap (λ (vs : List Bool). bit false ∷ map bit vs) (append_assoc (opening code) command (then_ones n sent))

    -- THEOREM: and leaves the chip, but for its level, as the command left it
    pub session_stays : but_level (at i (run (reading code command n) L)) ≡ but_level u
    session_stays =
        ap (λ (es : List Event). but_level (at i (run es L))) in_two
        ∙ ap (λ (K : List Whole). but_level (at i K)) (run_append (match_session code command) ones L)
        ∙ ap but_level (among_at (alone code [] ones u i line free own among))
        ∙ ap (λ (ps : List (Result Plan Refusal)). but_level (own_run ps u)) (came_slots (replicate n true) line)
        ∙ ap but_level (read_run n u)
        ∙ streams.stays (read_bits n u)
