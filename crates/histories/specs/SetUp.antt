-- What a card that is not refused sets up: its records, one after the other, as chips in the first places of the table, whatever stood there
-- before. With images and scratchpads of the sizes asked that table stands well.
use Rattle.std.specs.Prelude.{ℕ, zero, suc, ◌+◌, ◌*◌, ◌^◌, ◌<◌, ◌≤◌, true, List, [], ◌∷◌, ◌++◌, map, ◌≡◌, refl, leb, length, take, drop, get_or, Option, Some, None, Result, Ok, Err}
use Rattle.std.proofs.Common.{arith, not-suc-le-zero, ◌∙◌, sym, take_at}
use Rattle.std.proofs.Math.Bool.{false}
use Rattle.std.proofs.Math.Path.{ap}
use borrow.Author.Tests.{le-leb, eqb-true, eq-eqb}
use Rattle.std.proofs.Math.ListN.{length-append}
use Rattle.base.specs.Pick.{pick, pick_true, pick_if}
use Rattle.base.specs.Bits.{both}
use Rattle.ds2413.specs.Switch.{switch_in_range}
use Rattle.chip.specs.Chip.{set_up_chip}
use Rattle.chip.specs.Range.{in_range}
use Rattle.chip.specs.Kinds.{known_kind}
use Rattle.chip.specs.With.{no_chip}
use Rattle.chip.specs.declared.Chip.{Chip}
use Rattle.line.specs.Layout.{capped, images_size, pads_size, images_asked, pads_asked, chips_of}
use Rattle.line.specs.Prefix.{capped_few}
use Rattle.line.specs.Event.{all_in_range, table_in_range, sizes_fit}
use Rattle.line.specs.Refusals.{chips_split}
use Rattle.records.specs.Numbers.{number_at}
use Rattle.records.specs.Records.{head_at}
use Rattle.records.specs.declared.Head.{Head}
use Rattle.card.specs.Card.{chips, refused, cut_entry, whole_entry, entry_of, entry_at, Read, all, none, after, onward, read_from, SetUp, from_read, set_up_of}
use Rattle.card.specs.Fits.{AtMost, read_few}
use Rattle.card.specs.declared.Entry.{Entry}
use Rattle.card.specs.declared.Fault.{Fault}
use Rattle.line.specs.Attached.{Attached, attached, Stands, line_from}
use Rattle.histories.specs.Below.{Codes, Bytes, none_below, one_below, byte_at}
use Rattle.histories.specs.Histories.{at, codes_of}
use Rattle.base.specs.Both.{both_true'}
use Rattle.line.specs.Keeps.{range_in}
use Rattle.histories.specs.Standing.{at_chip, codes_chips}

-- the records of a card --------------------------------------------------------------------------

-- record i of a card, "length (2 bytes, little-endian, counting what follows it), kind (2 bytes), eight code bytes, family first": its
-- kind, its code, and the chip that it gives
abbrev pub kind_in : List ℕ → ℕ → ℕ
kind_in card i = number_at card (12 * i + 2) 2

abbrev pub code_in : List ℕ → ℕ → ℕ
code_in card i = number_at card (12 * i + 4) 8

abbrev pub chip_in : List ℕ → ℕ → Chip
chip_in card i = set_up_chip (code_in card i) (kind_in card i)

-- the codes, and the chips, of so many records from record i on
abbrev pub codes_from : List ℕ → ℕ → ℕ → List ℕ
codes_from card i zero = []
codes_from card i (suc k) = code_in card i ∷ codes_from card (suc i) k

abbrev pub chips_from : List ℕ → ℕ → ℕ → List Chip
chips_from card i zero = []
chips_from card i (suc k) = chip_in card i ∷ chips_from card (suc i) k

-- reading them -----------------------------------------------------------------------------------

-- a chip as set-up leaves it
pub set_up_range : (code kind : ℕ) → known_kind kind ≡ true → in_range (set_up_chip code kind) ≡ true
unfolding set_up_chip switch_in_range both pick
set_up_range code kind k = range_in (set_up_chip code kind) (record { known = k; clear = refl; pins = refl; place = refl })

-- a record at an offset that gives a chip: its kind is known, its code and kind stand there, and the next record starts twelve bytes on
abbrev Gives : List ℕ → ℕ → Result (Option Entry) Fault → Type 0
Gives s at (Ok None) = Unit
Gives s at (Ok (Some e)) = (known_kind e.kind ≡ true) × ((e.code ≡ number_at s (at + 4) 8) × ((e.kind ≡ number_at s (at + 2) 2) × (e.next ≡ at + 12)))
Gives s at (Err f) = Unit

entry_gives : (s : List ℕ) (at room : ℕ) → Gives s at (entry_at s at room)
unfolding entry_at head_at cut_entry whole_entry
entry_gives s at room =
    pick_if (λ (h : Head). Gives s at (entry_of s room h)) _ _ _ (λ e. tt)
    (λ e. pick_if (λ (h : Head). Gives s at (entry_of s room h)) _ _ _ (λ f. tt)
    (λ f. pick_if (λ (h : Head). Gives s at (entry_of s room h)) _ _ _
    (λ g. pick_if (Gives s at) _ _ _
    (λ k. pick_if (Gives s at) _ _ _
    (λ t. pick_if (Gives s at) _ _ _ (λ r. (k, (refl, (refl, ap (λ (n : ℕ). at + (n + 2)) (eqb-true (number_at s at 2) 10 t))))) (λ r. tt)) (λ t. tt)) (λ k. tt))
    (λ g. pick_if (Gives s at) _ _ _ (λ k. tt) (λ k. tt))))

-- what was read is the chips of its records, in range
abbrev Records : List ℕ → ℕ → Read → Type 0
Records s i (all ds) = (ds ≡ chips_from s i (length ds)) × (all_in_range ds ≡ true)
Records s i (none r at) = Unit

one_more : (s : List ℕ) (i : ℕ) (c : Chip) (r : Read) → c ≡ chip_in s i → in_range c ≡ true → Records s (suc i) r → Records s i (after (c ∷ []) r)
one_more s i c (all ds) e k (a, b) = ((λ j. e j ∷ a j), both_true' _ _ k b)
one_more s i c (none r at) e k f = tt

onward_records : (s : List ℕ) (i at : ℕ) (go : ℕ → Read) (x : Result (Option Entry) Fault) → at ≡ 12 * i → Gives s at x → ((next : ℕ) → next ≡ 12 * suc i → Records s (suc i) (go next))
    → Records s i (onward at go x)
onward_records s i at go (Ok None) e g f = (refl, refl)
onward_records s i at go (Ok (Some t)) e (k, (c, (d, n))) f =
    one_more s i (set_up_chip t.code t.kind) (go t.next)
    (λ j. set_up_chip ((c ∙ ap (λ (o : ℕ). number_at s (o + 4) 8) e) j) ((d ∙ ap (λ (o : ℕ). number_at s (o + 2) 2) e) j))
    (set_up_range t.code t.kind k) (f t.next (omega arith))
onward_records s i at go (Err r) e g f = tt

read_records : (room : ℕ) (s : List ℕ) (i at : ℕ) → at ≡ 12 * i → Records s i (read_from room s at)
unfolding read_from
read_records zero s i at e = onward_records s i at (λ next. none 1 at) (entry_at s at 0) e (entry_gives s at 0) (λ next f. tt)
read_records (suc room) s i at e =
    onward_records s i at (λ next. read_from room s next) (entry_at s at (suc room)) e (entry_gives s at (suc room)) (λ next f. read_records room s (suc i) next f)

-- what is set up ---------------------------------------------------------------------------------

-- so many records
pub length_chips_from : (card : List ℕ) (i k : ℕ) → length (chips_from card i k) ≡ k
length_chips_from card i zero = refl
length_chips_from card i (suc k) = ap suc (length_chips_from card (suc i) k)

-- their codes, and the chip of each
codes-from : (card : List ℕ) (i k : ℕ) → map (λ (c : Chip). c.code) (chips_from card i k) ≡ codes_from card i k
unfolding set_up_chip
codes-from card i zero = refl
codes-from card i (suc k) = ap (λ (xs : List ℕ). code_in card i ∷ xs) (codes-from card (suc i) k)

chips_from_at : (card : List ℕ) (i j m k : ℕ) → i + j ≡ m → j < k → get_or (chips_from card i k) j no_chip ≡ chip_in card m
chips_from_at card i j m zero e l = absurd (not-suc-le-zero l)
chips_from_at card i zero m (suc k) e l = let f : i ≡ m = omega arith in ap (chip_in card) f
chips_from_at card i (suc j) m (suc k) e l = chips_from_at card (suc i) j m k (omega arith) (omega arith)

-- "eight code bytes": the codes of a card of bytes have 64 bits
byte_more : (x y m : ℕ) → x < 256 → y < m → x + 256 * y < 256 * m
byte_more x y m h k = omega arith

code_below : (card : List ℕ) → Bytes card → (i : ℕ) → code_in card i < 2 ^ 64
code_below card b i =
    let byte = byte_at card b in
    byte_more _ _ (2 ^ 56) (byte _)
    (byte_more _ _ (2 ^ 48) (byte _)
    (byte_more _ _ (2 ^ 40) (byte _)
    (byte_more _ _ (2 ^ 32) (byte _)
    (byte_more _ _ (2 ^ 24) (byte _)
    (byte_more _ _ (2 ^ 16) (byte _)
    (byte_more _ _ (2 ^ 8) (byte _) (byte _)))))))

pub codes_below : (card : List ℕ) → Bytes card → (i k : ℕ) → Codes (codes_from card i k)
codes_below card b i zero = none_below _
codes_below card b i (suc k) = one_below _ (code_in card i) (codes_from card (suc i) k) (code_below card b i) (codes_below card b (suc i) k)

-- what a card sets up that answers k: "a card fills the first places with chips as after power on and answers their number, the other places
-- stay"; so what stood in the table does not matter
pub record SetsUp (places : ℕ) (card : List ℕ) (cs : List Chip) (k : ℕ) (u : SetUp) : Type 0 where
  pub few : k ≤ capped places
  pub count : u.count ≡ k
  pub table : u.table ≡ chips_from card 0 k ++ drop k cs
  pub range : all_in_range (chips_from card 0 k) ≡ true

pub sets_up : (places : ℕ) (card : List ℕ) (n : ℕ) (cs : List Chip) (k : ℕ) → (set_up_of places card n cs).answer ≡ chips k
    → SetsUp places card cs k (set_up_of places card n cs)
unfolding set_up_of
sets_up places card n cs k = from (read_from (capped places) card 0) (read_few (capped places) card 0) (read_records (capped places) card 0 0 refl)
  where
    from : (r : Read) → AtMost (capped places) r → Records card 0 r → (from_read n cs r).answer ≡ chips k → SetsUp places card cs k (from_read n cs r)
    from (all ds) l (e, g) h =
        let c : length ds ≡ k = cc in
        let d : ds ≡ chips_from card 0 k = e ∙ ap (chips_from card 0) c in
        record {
          few = omega arith;
          count = c;
          table = λ j. d j ++ drop (c j) cs;
          range = ap all_in_range (sym d) ∙ g;
        }
    from (none r at) l e h = absurd (no h)
      where
        no : refused r at ≡ chips k → ⊥
        no z = let y : ◌≡◌ {A = ℕ} 0 1 = cc in omega arith

-- the table that a card leaves, with images and scratchpads: with so many places, where n chips stood in the places cs
abbrev pub table_from : ℕ → List ℕ → ℕ → List Chip → List ℕ → List ℕ → Attached
table_from places card n cs ms ss = let u = set_up_of places card n cs in attached u.count u.table ms ss

-- images and scratchpads of the sizes that the table asks for
pub record SizesAsked (l : Attached) : Type 0 where
  pub images : length l.lent.images ≡ images_asked l.count l.lent.chips
  pub pads : length l.lent.pads ≡ pads_asked l.count l.lent.chips

module _ (places : ℕ) (card : List ℕ) (n : ℕ) (cs : List Chip) (ms ss : List ℕ) (k : ℕ) (h : (set_up_of places card n cs).answer ≡ chips k) where
  abbrev left : SetUp
  left = set_up_of places card n cs

  abbrev table : Attached
  table = table_from places card n cs ms ss

  few : left.count ≤ 16
  few = let s = sets_up places card n cs k h in let a = s.few in let b = s.count in let c = (capped_few places).0 in omega arith

  -- its first places
  first_places : take left.count left.table ≡ chips_from card 0 k
  first_places =
      let s = sets_up places card n cs k h in
      (λ j. take (s.count j) (s.table j)) ∙ take_at (chips_from card 0 k) (drop k cs) k (length_chips_from card 0 k)

  -- THEOREM: a card that is not refused, with any number of places, leaves a table that stands well, whatever was there before
  pub set_up_stands : SizesAsked (table_from places card n cs ms ss) → Stands (table_from places card n cs ms ss)
  unfolding table_in_range sizes_fit images_asked pads_asked
  set_up_stands a =
      let s = sets_up places card n cs k h in
      let c = le-leb left.count 16 few in
      record {
        range = pick_true (leb left.count 16) _ false c ∙ ap all_in_range first_places ∙ s.range;
        sizes = both_true' _ _
            (eq-eqb (length ms) (images_size (take left.count left.table)) (a.images ∙ pick_true (leb left.count 16) _ 0 c))
            (eq-eqb (length ss) (pads_size (take left.count left.table)) (a.pads ∙ pick_true (leb left.count 16) _ 0 c));
        places = let d = s.count in let e = length_chips_from card 0 k in rw s.table (simp length-append (omega arith));
      }

  -- the chips of its line
  line_chips : chips_of (line_from table) ≡ chips_from card 0 k
  line_chips = chips_split (take left.count left.table) ms ss ∙ first_places

  -- its codes are those of the card's records, in their order
  pub set_up_codes : codes_of (line_from (table_from places card n cs ms ss)) ≡ codes_from card 0 k
  set_up_codes = codes_chips (line_from table) ∙ ap (map (λ (c : Chip). c.code)) line_chips ∙ codes-from card 0 k

  -- chip i is that of record i
  pub set-up-chip : (i : ℕ) → i < k → (at i (line_from (table_from places card n cs ms ss))).chip ≡ chip_in card i
  set-up-chip i l = at_chip i (line_from table) ∙ ap (λ (ds : List Chip). get_or ds i no_chip) line_chips ∙ chips_from_at card 0 i i k (omega arith) l
