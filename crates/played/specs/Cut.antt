-- A run of slots cut into two records at any bit plays as the one record does.
use Rattle.std.specs.Prelude.{ℕ, ◌+◌, ◌-◌, ◌≤◌, Bool, true, false, List, [], ◌++◌, ◌≡◌, ltb, length, take, drop}
use Rattle.std.proofs.Common.{add-zero, arith, append_assoc, ◌∙◌, ap, sym, length-append, length-drop, take-append-drop, length-take-le, drop_at, lt-ltb, le-ltb}
use Rattle.std.proofs.lemmas.List.{map-append}
use Rattle.base.specs.Pick.{pick, pick_true, pick_false}
use Rattle.line.specs.Attached.{Attached, Stands}
use Rattle.line.specs.declared.Event.{Event}
use Rattle.line.specs.declared.Table.{Table}
use Rattle.line.specs.Events.{slot_event}
use Rattle.line.specs.Slots.{bytes_asked}
use Rattle.recording.specs.Reading.{starts_event}
use Rattle.recording.specs.Cards.{room_for, cards_read, cards_of, cards_from}
use Rattle.recording.specs.Playing.{Ends, bits, Step, step, slots_step, Played, played, after, further, on_step, play_on, play_from, play_all, set_up_line, playback}
use Rattle.recording.specs.JoinPlay.{run_of, after_run, slots-step, runs_said}
use Rattle.recording.specs.Unpacked.{unpacked}
use Rattle.recording.specs.declared.CardsEnding.TheVariants as cards
use Rattle.recording.specs.declared.CardsRead.{CardsRead}
use Rattle.histories.specs.Sent.{slots}
use Rattle.histories.specs.Joined.{run_on, stands_on}
use Rattle.histories.specs.Calls.{run_on_append}
use Rattle.histories.specs.Slots.{slots-left}
use Rattle.played.specs.Packing.{packed}
use Rattle.played.specs.Written.{slots_bytes, slots_size, bits_written, found_written, starts_written, written_length}
use Rattle.played.specs.Handed.{Stage, carding, playing, over, Hand, start, hand_after, card_after, hand_bytes, hand_piece, came_to}
use Rattle.played.specs.Standing.{table_stands}
use Rattle.played.specs.Fuel.{play_there}
use Rattle.played.specs.Pieces.{whole_from, piece_whole, one_piece}
use Rattle.played.specs.Counted.{piece_counted}
use Rattle.played.specs.Staged.{StageStands, piece_stands, start_stands}

-- ---- the step of a run is that of its slot events

-- the bits that a run gives there
abbrev said_bits : List Bool → Attached → List Bool
said_bits hs l = (run_of hs l).bits

-- a run answers its bits, and leaves what its slot events leave; one without slots leaves all as it was
run-step : (hs : List Bool) (l : Attached) → Stands l → slots_step (length hs) (packed hs) l ≡ step (bits (said_bits hs l)) (run_on (slots hs) l)
run-step hs l s =
    slots-step (length hs) (packed hs) l s
    ∙ ap (λ (bs : List Bool). step (bits (said_bits bs l)) (after_run bs l)) (unpacked (bytes_asked (length hs)) hs (omega arith))
    ∙ ap (step (bits (said_bits hs l))) (sym (slots-left hs l s))

-- ---- one run after another

-- they leave what the slots of both leave, and give their bits
slots_joined : (hs bs : List Bool) (l : Attached) → run_on (slots bs) (run_on (slots hs) l) ≡ run_on (slots (hs ++ bs)) l
slots_joined hs bs l = sym (run_on_append (slots hs) (slots bs) l) ∙ ap (λ (es : List Event). run_on es l) (sym (map-append slot_event hs bs))

bits_joined : (hs bs : List Bool) (l : Attached) → Stands l → said_bits hs l ++ said_bits bs (run_on (slots hs) l) ≡ said_bits (hs ++ bs) l
bits_joined hs bs l s = ap (λ (m : Attached). said_bits hs l ++ said_bits bs m) (slots-left hs l s) ∙ runs_said hs bs l s

-- ---- records played

-- the bytes that cutting a run after k of its bits adds
abbrev pub bytes_added : ℕ → List Bool → ℕ
bytes_added k hs = slots_size (take k hs) + slots_size (drop k hs) - slots_size hs

-- a run that comes first is played first
run_played : (hs : List Bool) → length hs ≤ 65535 → (more : Bool) (later : List ℕ) (l : Attached) → Stands l
    → play_all more (slots_bytes hs ++ later) l ≡ after (said_bits hs l) (further (slots_size hs) (play_all more later (run_on (slots hs) l)))
unfolding play_all play_from
run_played hs few more later l s =
    let whole = slots_bytes hs ++ later in
    let n = length whole in
    let w = written_length hs in
    let a = length-append (slots_bytes hs) later in
    let go : ℕ → Attached → Played = λ next m. play_from n more whole next m in
    ap (play_on go whole 0 l) (found_written hs few later (room_for l.count) true more)
    ∙ ap (λ (bs : List ℕ). let d = slots_step (length hs) bs l in on_step go 0 (slots_size hs) d.said d.line) (bits_written hs few later)
    ∙ ap (λ (d : Step). on_step go 0 (slots_size hs) d.said d.line) (run-step hs l s)
    ∙ ap (after (said_bits hs l))
    (play_there more whole (slots_size hs) (omega arith) n (omega arith) (run_on (slots hs) l)
    ∙ ap (λ (r : List ℕ). further (slots_size hs) (play_all more r (run_on (slots hs) l))) (drop_at (slots_bytes hs) later (slots_size hs) w))

-- so is one cut into two records
cut_played : (k : ℕ) (hs : List Bool) → k ≤ length hs → length hs ≤ 65535 → (more : Bool) (later : List ℕ) (l : Attached) → Stands l
    → play_all more (slots_bytes (take k hs) ++ (slots_bytes (drop k hs) ++ later)) l ≡ further (bytes_added k hs) (play_all more (slots_bytes hs ++ later) l)
cut_played k hs h few more later l s =
    let a = take k hs in
    let b = drop k hs in
    let la = length-take-le k hs h in
    let lb = length-drop k hs in
    let m = run_on (slots a) l in
    let p = play_all more later (run_on (slots hs) l) in
    let at : slots_size a + (slots_size b + p.at) ≡ bytes_added k hs + (slots_size hs + p.at) = omega arith in
    run_played a (omega arith) more (slots_bytes b ++ later) l s
    ∙ ap (λ (q : Played). after (said_bits a l) (further (slots_size a) q)) (run_played b (omega arith) more later m (stands_on (slots a) l s))
    ∙ ap (λ (n : Attached). let q = play_all more later n in played (said_bits a l ++ (said_bits b m ++ q.answers)) q.ends (slots_size a + (slots_size b + q.at)) q.line)
    (slots_joined a b l ∙ ap (λ (bs : List Bool). run_on (slots bs) l) (take-append-drop k hs))
    ∙ (λ j. played (sym (append_assoc (said_bits a l) (said_bits b m) p.answers) j) p.ends (at j) p.line)
    ∙ ap (λ (bs : List Bool). played (bs ++ p.answers) p.ends (bytes_added k hs + (slots_size hs + p.at)) p.line)
    (bits_joined a b l s ∙ ap (λ (bs : List Bool). said_bits bs l) (take-append-drop k hs))
    ∙ ap (further (bytes_added k hs)) (sym (run_played hs few more later l s))

-- ---- the whole recording

-- the same, where a place past the first so many bytes comes n bytes later
abbrev pub place_moved : ℕ → ℕ → Played → Played
place_moved first n p = played p.answers p.ends (pick (ltb first p.at) (n + p.at) p.at) p.line

-- an event ends a card: it is played on the line that the card sets up
card_ended : (s : List ℕ) (n : ℕ) (bs : List Bool) (t : Table) → starts_event s 0 ≡ true → hand_bytes false s n bs (carding t) ≡ hand_bytes false s n bs (playing (set_up_line t))
unfolding cards_of cards_from
card_ended s n bs t e =
    ap (λ (c : CardsRead). card_after false s n bs c.at c.table c.ending) (pick_true (starts_event s 0) (cards_read cards.Events 0 t) _ e)
    ∙ ap (λ (m : ℕ). hand_after s m bs (play_all false s (set_up_line t))) (add-zero n)

module _ (k : ℕ) (hs : List Bool) (h : k ≤ length hs) (few : length hs ≤ 65535) (later : List ℕ) where
  -- the run in one record and in two
  abbrev one : List ℕ
  one = slots_bytes hs ++ later

  abbrev two : List ℕ
  two = slots_bytes (take k hs) ++ (slots_bytes (drop k hs) ++ later)

  -- both come to the same on a line that stands well
  cut_playing : (n : ℕ) (bs : List Bool) (l : Attached) → Stands l
      → came_to (hand_bytes false two n bs (playing l)) ≡ place_moved n (bytes_added k hs) (came_to (hand_bytes false one n bs (playing l)))
  cut_playing n bs l s =
      let p = play_all false one l in
      let q = ap (λ (x : Played). x.at) (run_played hs few false later l s) in
      let at : n + (bytes_added k hs + p.at) ≡ bytes_added k hs + (n + p.at) = omega arith in
      let past = pick_true (ltb n (n + p.at)) (bytes_added k hs + (n + p.at)) (n + p.at) (lt-ltb n (n + p.at) (omega arith)) in
      let c = came_to (hand_after one n bs p) in
      ap (λ (x : Played). came_to (hand_after two n bs x)) (cut_played k hs h few false later l s)
      ∙ (λ j. played c.answers c.ends ((at ∙ sym past) j) c.line)

  -- and at every stage
  cut_staged : (n : ℕ) (bs : List Bool) (g : Stage) → StageStands g → came_to (hand_bytes false two n bs g) ≡ place_moved n (bytes_added k hs) (came_to (hand_bytes false one n bs g))
  cut_staged n bs (carding t) w =
      let a = length-take-le k hs h in
      ap came_to (card_ended two n bs t (starts_written (take k hs) (omega arith) (slots_bytes (drop k hs) ++ later)))
      ∙ cut_playing n bs (set_up_line t) (table_stands t w)
      ∙ sym (ap (λ x. place_moved n (bytes_added k hs) (came_to x)) (card_ended one n bs t (starts_written hs few later)))
  cut_staged n bs (playing l) w = cut_playing n bs l w
  cut_staged n bs (over e l) w = λ j. played bs e (sym (pick_false (ltb n n) (bytes_added k hs + n) n (le-ltb n n (omega arith))) j) l

-- where nothing is left of what was handed over, the rest is played from there on
handed_on : (rest : List ℕ) (h : Hand) → h.held ≡ [] → whole_from h rest ≡ came_to (hand_bytes false rest h.taken h.answers h.stage)
unfolding hand_piece
handed_on rest h e = ap (λ (s : List ℕ). came_to (hand_bytes false (s ++ rest) h.taken h.answers h.stage)) e

-- where playing is over, nothing of the rest is played
handed_over : (rest : List ℕ) (h : Hand) (e : Ends) (l : Attached) → h.stage ≡ over e l → whole_from h rest ≡ played h.answers e h.taken l
unfolding hand_piece
handed_over rest h e l o = ap (λ (g : Stage). came_to (hand_bytes false (h.held ++ rest) h.taken h.answers g)) o

-- a recording is what comes of it where it is handed over in two pieces
in_two_pieces : (before rest : List ℕ) → playback (before ++ rest) ≡ whole_from (hand_piece true before start) rest
in_two_pieces before rest = sym (piece_whole start before rest ∙ one_piece (before ++ rest))

-- THEOREM: a run of slots cut into two records after any of its bits, before the first and after the last counted in, gives the same bits, the
-- same end or refusal, and leaves the same line; a later place comes as many bytes later as were added. It may stand anywhere in a recording: after
-- bytes of which nothing is left over ..
pub written_cut : (before later : List ℕ) (hs : List Bool) (k : ℕ) → k ≤ length hs → length hs ≤ 65535 → (hand_piece true before start).held ≡ []
    → playback (before ++ (slots_bytes (take k hs) ++ (slots_bytes (drop k hs) ++ later))) ≡ place_moved (length before) (bytes_added k hs) (playback (before ++ (slots_bytes hs ++ later)))
written_cut before later hs k h few e =
    let one = slots_bytes hs ++ later in
    let two = slots_bytes (take k hs) ++ (slots_bytes (drop k hs) ++ later) in
    let g = hand_piece true before start in
    let c = piece_counted true before start in
    let z : length g.held ≡ 0 = ap length e in
    let all : g.taken ≡ length before = omega arith in
    in_two_pieces before two ∙ handed_on two g e
    ∙ cut_staged k hs h few later g.taken g.answers g.stage (piece_stands true before start start_stands)
    ∙ ap (place_moved g.taken (bytes_added k hs)) (sym (handed_on one g e) ∙ sym (in_two_pieces before one))
    ∙ ap (λ (n : ℕ). place_moved n (bytes_added k hs) (playback (before ++ one))) all

-- .. or after bytes that are refused, where nothing that comes changes anything
pub after_refusal : (before first second : List ℕ) (e : Ends) (l : Attached) → (hand_piece true before start).stage ≡ over e l → playback (before ++ first) ≡ playback (before ++ second)
after_refusal before first second e l o =
    let g = hand_piece true before start in
    in_two_pieces before first ∙ handed_over first g e l o ∙ sym (handed_over second g e l o) ∙ sym (in_two_pieces before second)
