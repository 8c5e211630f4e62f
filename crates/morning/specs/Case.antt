-- The theorems of M-108 are not empty: worked rounds. The request's own three; a code that chips share, whose page is an AND; two memories whose
-- table order is not the list's; kinds that the codes do not tell; and 16 memories.
use Rattle.std.specs.Prelude.{ℕ, [], ◌∷◌, ◌++◌, ◌≡◌, refl, replicate}
use Rattle.std.proofs.Common.{arith, inr, lit≤}
use Rattle.base.specs.Bits.{bit_of, same, both, filled}
use Rattle.base.specs.Pick.{pick}
use Rattle.base.specs.Once.{once_each}
use Rattle.scratchpad.specs.Scratchpad.{registers_in_range}
use Rattle.ds2413.specs.Switch.{switch_in_range}
use Rattle.chip.specs.Kinds.{known_kind, is_ds28ec20, image_size, pad_size}
use Rattle.chip.specs.Range.{in_range}
use Rattle.chip.specs.Chip.{set_up_chip}
use Rattle.line.specs.Attached.{Attached, attached, Stands, line_from}
use Rattle.line.specs.Event.{table_in_range, sizes_fit}
use Rattle.search.specs.Search.{complete, refused, outcome}
use Rattle.rounds.specs.Borne.{borne_in, only_borne, pages_asked}
use Rattle.rounds.specs.Round.{round, round_of}
use Rattle.histories.specs.Below.{Codes, all-below}
use Rattle.histories.specs.Histories.{codes_of}
use Rattle.listing.specs.Order.{branch, branch_order}
use Rattle.morning.specs.Counts.{round_counts}
use Rattle.morning.specs.Refused.{round_refused_5}
use Rattle.morning.specs.Reads.{round_reads}

-- the request's line, with an image of FFh
abbrev pub two : Attached
two = attached 2 (set_up_chip 0x3A 2 ∷ set_up_chip 0x43 1 ∷ []) (replicate 2624 0xFF) (replicate 32 0xFF)

-- 43h on a DS28EC20 with an image of F0h, on a DS2413, and on a DS28EC20 with an image of 3Ch
abbrev pub shared : Attached
shared = attached 3 (set_up_chip 0x43 1 ∷ set_up_chip 0x43 2 ∷ set_up_chip 0x43 1 ∷ []) (replicate 2624 0xF0 ++ replicate 2624 0x3C) (replicate 64 0xFF)

-- 43h before 3Ah, both on DS28EC20s, with images of 11h and 22h
abbrev pub turned : Attached
turned = attached 2 (set_up_chip 0x43 1 ∷ set_up_chip 0x3A 1 ∷ []) (replicate 2624 0x11 ++ replicate 2624 0x22) (replicate 64 0xFF)

-- 43h on a DS2413, and 3Ah on a DS28EC20 with an image of 5Ah
abbrev pub crossed : Attached
crossed = attached 2 (set_up_chip 0x43 2 ∷ set_up_chip 0x3A 1 ∷ []) (replicate 2624 0x5A) (replicate 32 0xFF)

-- case 2 of document 01: four codes, on DS2413s
abbrev pub case_two : Attached
case_two = attached 4 (set_up_chip 0xAC 2 ∷ set_up_chip 0x55 2 ∷ set_up_chip 0xAF 2 ∷ set_up_chip 0x88 2 ∷ []) [] []

-- 16 DS28EC20s
abbrev pub full : Attached
full =
    attached 16 (set_up_chip 1 1 ∷ set_up_chip 2 1 ∷ set_up_chip 3 1 ∷ set_up_chip 4 1 ∷ set_up_chip 5 1 ∷ set_up_chip 6 1 ∷ set_up_chip 7 1 ∷ set_up_chip 8 1
    ∷ set_up_chip 9 1 ∷ set_up_chip 10 1 ∷ set_up_chip 11 1 ∷ set_up_chip 12 1 ∷ set_up_chip 13 1 ∷ set_up_chip 14 1 ∷ set_up_chip 15 1 ∷ set_up_chip 16 1 ∷ [])
    (replicate 41984 0xFF) (replicate 512 0xFF)

pub two_stands : Stands two
unfolding set_up_chip known_kind image_size pad_size in_range registers_in_range switch_in_range table_in_range sizes_fit both pick bit_of
two_stands = record { range = refl; sizes = refl; places = lit≤ tt }

pub shared_stands : Stands shared
unfolding set_up_chip known_kind image_size pad_size in_range registers_in_range switch_in_range table_in_range sizes_fit both pick bit_of
shared_stands = record { range = refl; sizes = refl; places = lit≤ tt }

two_codes : Codes (codes_of (line_from two))
unfolding set_up_chip both pick
two_codes = all-below _ _ refl

shared_codes : Codes (codes_of (line_from shared))
unfolding set_up_chip both pick
shared_codes = all-below _ _ refl

pub turned_stands : Stands turned
unfolding set_up_chip known_kind image_size pad_size in_range registers_in_range switch_in_range table_in_range sizes_fit both pick bit_of
turned_stands = record { range = refl; sizes = refl; places = lit≤ tt }

turned_codes : Codes (codes_of (line_from turned))
unfolding set_up_chip both pick
turned_codes = all-below _ _ refl

pub crossed_stands : Stands crossed
unfolding set_up_chip known_kind image_size pad_size in_range registers_in_range switch_in_range table_in_range sizes_fit both pick bit_of
crossed_stands = record { range = refl; sizes = refl; places = lit≤ tt }

crossed_codes : Codes (codes_of (line_from crossed))
unfolding set_up_chip both pick
crossed_codes = all-below _ _ refl

pub case_two_stands : Stands case_two
unfolding set_up_chip known_kind image_size pad_size in_range registers_in_range switch_in_range table_in_range sizes_fit both pick bit_of
case_two_stands = record { range = refl; sizes = refl; places = lit≤ tt }

case_two_codes : Codes (codes_of (line_from case_two))
unfolding set_up_chip both pick
case_two_codes = all-below _ _ refl

pub full_stands : Stands full
unfolding set_up_chip known_kind image_size pad_size in_range registers_in_range switch_in_range table_in_range sizes_fit both pick bit_of
full_stands = record { range = refl; sizes = refl; places = lit≤ tt }

full_codes : Codes (codes_of (line_from full))
unfolding set_up_chip both pick
full_codes = all-below _ _ refl

-- what the rounds come to, with page buffers of 00h
pub record Example : Type 0 where
  pub two_answer : (round_of (replicate 16 0) (replicate 32 0) two).found.answer ≡ complete
  pub two_list : (round_of (replicate 16 0) (replicate 32 0) two).found.list ≡ 0x3A ∷ 0x43 ∷ replicate 14 0
  pub two_pages : (round_of (replicate 16 0) (replicate 32 0) two).pages ≡ replicate 32 0xFF
  pub two_resets : (round_of (replicate 16 0) (replicate 32 0) two).found.resets ≡ 3
  pub two_slots : (round_of (replicate 16 0) (replicate 32 0) two).found.slots ≡ 752
  -- case 2 with two places: 4, two codes, and the counts are the search's
  pub few_answer : (round_of (replicate 2 0) [] case_two).found.answer ≡ refused 4
  pub few_number : (round_of (replicate 2 0) [] case_two).found.number ≡ 2
  pub few_list : (round_of (replicate 2 0) [] case_two).found.list ≡ 0x88 ∷ 0xAC ∷ []
  pub few_resets : (round_of (replicate 2 0) [] case_two).found.resets ≡ 2
  pub few_slots : (round_of (replicate 2 0) [] case_two).found.slots ≡ 400
  -- a page buffer of 31 bytes: 5, before 4, and nothing changes
  pub wrong : round_of (replicate 1 7) (replicate 31 0) two ≡ round (outcome (refused 5) 0 (replicate 1 7) 0 0 two) (replicate 31 0)
  -- F0h AND 3Ch
  pub shared_list : (round_of (replicate 2 9) (replicate 32 0) shared).found.list ≡ 0x43 ∷ 9 ∷ []
  pub shared_pages : (round_of (replicate 2 9) (replicate 32 0) shared).pages ≡ replicate 32 0x30
  pub shared_resets : (round_of (replicate 2 9) (replicate 32 0) shared).found.resets ≡ 2
  pub shared_slots : (round_of (replicate 2 9) (replicate 32 0) shared).found.slots ≡ 552
  -- the list's order, not the table's
  pub turned_list : (round_of (replicate 2 0) (replicate 64 0) turned).found.list ≡ 0x3A ∷ 0x43 ∷ []
  pub turned_pages : (round_of (replicate 2 0) (replicate 64 0) turned).pages ≡ replicate 32 0x22 ++ replicate 32 0x11
  -- "read off the table, never off the code"
  pub crossed_pages : (round_of (replicate 2 0) (replicate 32 0) crossed).pages ≡ replicate 32 0x5A
  pub crossed_slots : (round_of (replicate 2 0) (replicate 32 0) crossed).found.slots ≡ 752
  -- "at most 8,832 with 16 chips"
  pub full_resets : (round_of (replicate 16 0) (replicate 512 0) full).found.resets ≡ 32
  pub full_slots : (round_of (replicate 16 0) (replicate 512 0) full).found.slots ≡ 8832

pub example : Example
unfolding set_up_chip is_ds28ec20 image_size pad_size borne_in only_borne pages_asked once_each branch_order branch bit_of same both filled pick
example =
    let a = (round_counts (replicate 16 0) (replicate 32 0) two two_stands two_codes refl).enough (lit≤ tt) in
    let b = (round_counts (replicate 2 0) [] case_two case_two_stands case_two_codes refl).short (lit≤ tt) in
    let c = (round_counts (replicate 2 9) (replicate 32 0) shared shared_stands shared_codes refl).enough (lit≤ tt) in
    let d = (round_counts (replicate 2 0) (replicate 64 0) turned turned_stands turned_codes refl).enough (lit≤ tt) in
    let e = (round_counts (replicate 2 0) (replicate 32 0) crossed crossed_stands crossed_codes refl).enough (lit≤ tt) in
    let f = (round_counts (replicate 16 0) (replicate 512 0) full full_stands full_codes refl).enough (lit≤ tt) in
    let five = round_refused_5 (replicate 1 7) (replicate 31 0) two in
    record {
      two_answer = a.answer;
      two_list = a.list;
      two_pages = round_reads (replicate 16 0) (replicate 32 0) two two_stands two_codes refl (lit≤ tt);
      two_resets = a.resets;
      two_slots = a.slots;
      few_answer = b.answer;
      few_number = b.number;
      few_list = b.list;
      few_resets = b.resets;
      few_slots = b.slots;
      wrong = five.leaves (five.exactly.1 (two_stands.range, inr (λ p. let z : ◌≡◌ {A = ℕ} 31 32 = p in omega arith)));
      shared_list = c.list;
      shared_pages = round_reads (replicate 2 9) (replicate 32 0) shared shared_stands shared_codes refl (lit≤ tt);
      shared_resets = c.resets;
      shared_slots = c.slots;
      turned_list = d.list;
      turned_pages = round_reads (replicate 2 0) (replicate 64 0) turned turned_stands turned_codes refl (lit≤ tt);
      crossed_pages = round_reads (replicate 2 0) (replicate 32 0) crossed crossed_stands crossed_codes refl (lit≤ tt);
      crossed_slots = e.slots;
      full_resets = f.resets;
      full_slots = f.slots;
    }
