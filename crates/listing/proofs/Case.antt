-- The theorems of M-111 are not empty: the codes of case 2 on two tables, in different order and one of them twice, with chips of other kinds and
-- other memory; one line in the middle of a copy, with RC set and a switch held low, the other fresh. Each search is computed. After that two
-- statements like `same_codes_same_list` with a weaker premise, proved false.
use Rattle.std.specs.Prelude.{ℕ, ◌^◌, ◌<◌, ◌≤◌, true, List, [], ◌∷◌, ◌++◌, ◌≡◌, refl, length, get_or, replicate}
use Rattle.std.proofs.Common.{arith, ◌∙◌, ap, sym, lit≤}
use Rattle.base.specs.Bits.{bit_of, same, both, filled}
use Rattle.base.specs.Pick.{pick}
use Rattle.rom.specs.Rom.{command_of, command_bit, match_bit, search_bit, search_sends}
use Rattle.scratchpad.specs.Scratchpad.{memory_begins, memory_function, copy_address, copy_end, registers_in_range}
use Rattle.scratchpad.specs.declared.MemoryPhase.TheVariants.{CopyEnd}
use Rattle.ds2413.specs.Switch.{switch_in_range}
use Rattle.chip.specs.Kinds.{known_kind, image_size, pad_size, has_memory, has_switch, takes_outside, knows_of}
use Rattle.chip.specs.Range.{in_range}
use Rattle.chip.specs.Chip.{Whole, rom_slot, function_in, function_slot, memory_slot, takes_of, sends_of, reset_chip, reset_of, outside_chip, outside_of, set_up_chip}
use Rattle.chip.specs.declared.Level.TheVariants.{Memory}
use Rattle.line.specs.Layout.{capped}
use Rattle.line.specs.Event.{plan_event, asked_by, outside_fits, table_in_range, sizes_fit}
use Rattle.line.specs.Events.{reset_event, outside_event}
use Rattle.line.specs.declared.Event.{Event}
use Rattle.search.specs.Host.{bind, play, pass, write, up_to, passes, search_host}
use Rattle.line.specs.Attached.{Attached, attached, Stands, line_from}
use Rattle.search.specs.Search.{Search, complete, from_played, search_of}
use Rattle.histories.specs.Below.{Codes, none_below, one_below, all-below}
use Rattle.histories.specs.Sent.{bits_from, slots, byte_slots}
use Rattle.histories.specs.Histories.{at, codes_of, answer_of, after_of, run, line_wire}
use Rattle.histories.specs.Kept.{run_on_codes}
use Rattle.histories.specs.Joined.{in_table, run_on, run_joined, stands_on, search_joined}
use Rattle.listing.specs.Order.{branch, branch_order, SameMembers}
use Rattle.listing.proofs.Listing.{equal_members, branch-order}
use Rattle.listing.proofs.Public.{search_finds}
use Rattle.listing.proofs.AfterTrouble.{ListedAlike, SameSearch, one_list, same_codes_same_list}
use Rattle.listing.proofs.AfterCalls.{list_after_trouble}

-- the four codes on four DS28EC20s, with memory and scratchpads FFh
abbrev fresh : Attached
fresh = attached 4 (set_up_chip 0xAC 1 ∷ set_up_chip 0x55 1 ∷ set_up_chip 0xAF 1 ∷ set_up_chip 0x88 1 ∷ []) (replicate 10496 0xFF) (replicate 128 0xFF)

-- the same codes in another order, 88h on a DS2413 and on a DS28EC20, with memory and scratchpads 00h
abbrev doubled : Attached
doubled = attached 5 (set_up_chip 0xAF 1 ∷ set_up_chip 0x88 2 ∷ set_up_chip 0x55 2 ∷ set_up_chip 0xAC 1 ∷ set_up_chip 0x88 1 ∷ []) (replicate 7872 0x00) (replicate 96 0x00)

-- both pins of chip 1 are held low; AFh is matched, and 12h written to its scratchpad at 0000h; Resume, Copy with 00h 00h and half of E/S
abbrev trouble : List Event
trouble =
    outside_event 1 0
    ∷ reset_event ∷ byte_slots (0x55 ∷ 0xAF ∷ 0 ∷ 0 ∷ 0 ∷ 0 ∷ 0 ∷ 0 ∷ 0 ∷ 0x0F ∷ 0x00 ∷ 0x00 ∷ 0x12 ∷ [])
    ++ (reset_event ∷ byte_slots (0xA5 ∷ 0x55 ∷ 0x00 ∷ 0x00 ∷ []) ++ slots (bits_from 4 0 0x00))

abbrev troubled : Attached
troubled = run_on trouble doubled

-- what the two searches come to, computed
pub record Example : Type 0 where
  -- the troubled line is in the middle of a copy, with RC set and a switch held low
  pub copying : (at 0 (line_from troubled)).chip.level ≡ Memory (CopyEnd 0 4 0)
  pub rc_set : (at 0 (line_from troubled)).chip.rc ≡ true
  pub low : (at 1 (line_from troubled)).chip.switch.outside ≡ 0
  -- both list 88h, ACh, 55h, AFh, with 800 slots, and keep the rest of their own lists
  pub troubled_answer : (search_of (replicate 6 7) troubled).answer ≡ complete
  pub troubled_number : (search_of (replicate 6 7) troubled).number ≡ 4
  pub troubled_list : (search_of (replicate 6 7) troubled).list ≡ 0x88 ∷ 0xAC ∷ 0x55 ∷ 0xAF ∷ 7 ∷ 7 ∷ []
  pub troubled_resets : (search_of (replicate 6 7) troubled).resets ≡ 4
  pub troubled_slots : (search_of (replicate 6 7) troubled).slots ≡ 800
  pub fresh_answer : (search_of (replicate 6 9) fresh).answer ≡ complete
  pub fresh_number : (search_of (replicate 6 9) fresh).number ≡ 4
  pub fresh_list : (search_of (replicate 6 9) fresh).list ≡ 0x88 ∷ 0xAC ∷ 0x55 ∷ 0xAF ∷ 9 ∷ 9 ∷ []
  pub fresh_resets : (search_of (replicate 6 9) fresh).resets ≡ 4
  pub fresh_slots : (search_of (replicate 6 9) fresh).slots ≡ 800
  -- and the theorems speak of them
  pub alike : ListedAlike (replicate 6 7) (replicate 6 9) (search_of (replicate 6 7) troubled) (search_of (replicate 6 9) fresh)
  pub as_before : SameSearch (search_of (replicate 6 7) troubled) (search_of (replicate 6 7) doubled)

-- codes that come to the same in branch order are the same
same_in_order : (xs ys : List ℕ) → Codes xs → Codes ys → branch_order 64 0 xs ≡ branch_order 64 0 ys → SameMembers xs ys
same_in_order xs ys f g e x =
    let a = (branch-order xs f).members x in
    let b = (branch-order ys g).members x in
    ((λ i. b.0 (rw e at (a.1 i))), (λ i. a.0 (rw (sym e) at (b.1 i))))

fresh_codes : Codes (codes_of (line_from fresh))
unfolding set_up_chip both pick
fresh_codes = all-below _ _ refl

doubled_codes : Codes (codes_of (line_from doubled))
unfolding set_up_chip both pick
doubled_codes = all-below _ _ refl

-- the codes of either table, in branch order
doubled_order : branch_order 64 0 (0xAF ∷ 0x88 ∷ 0x55 ∷ 0xAC ∷ 0x88 ∷ []) ≡ 0x88 ∷ 0xAC ∷ 0x55 ∷ 0xAF ∷ []
unfolding branch_order branch bit_of same pick
doubled_order = refl

fresh_order : branch_order 64 0 (0xAC ∷ 0x55 ∷ 0xAF ∷ 0x88 ∷ []) ≡ 0x88 ∷ 0xAC ∷ 0x55 ∷ 0xAF ∷ []
unfolding branch_order branch bit_of same pick
fresh_order = refl

same_codes : SameMembers (codes_of (line_from doubled)) (codes_of (line_from fresh))
unfolding set_up_chip
same_codes = same_in_order (codes_of (line_from doubled)) (codes_of (line_from fresh)) doubled_codes fresh_codes (doubled_order ∙ sym fresh_order)

-- both tables stand well
fresh_stands : Stands fresh
unfolding set_up_chip known_kind image_size pad_size in_range registers_in_range switch_in_range table_in_range sizes_fit both pick bit_of
fresh_stands = record { range = refl; sizes = refl; places = lit≤ tt }

doubled_stands : Stands doubled
unfolding set_up_chip known_kind image_size pad_size in_range registers_in_range switch_in_range table_in_range sizes_fit both pick bit_of
doubled_stands = record { range = refl; sizes = refl; places = lit≤ tt }

troubled_stands : Stands troubled
troubled_stands = stands_on trouble doubled doubled_stands

-- the search on the troubled line, on the line of whole chips after those events
troubled_is : (list : List ℕ) → search_of list troubled ≡ from_played list (in_table troubled (play line_wire (search_host (length list)) (run trouble (line_from doubled))))
troubled_is list =
    search_joined list troubled troubled_stands
    ∙ ap (λ (L : List Whole). from_played list (in_table troubled (play line_wire (search_host (length list)) L))) (run_joined trouble doubled doubled_stands)

pub example : Example
unfolding bit_of same both filled pick rom_slot function_in function_slot memory_slot memory_begins has_memory has_switch takes_outside knows_of takes_of sends_of reset_chip reset_of outside_chip outside_of set_up_chip capped plan_event outside_fits asked_by command_of command_bit match_bit search_bit search_sends answer_of after_of memory_function copy_address copy_end bind play pass write up_to passes
example = record {
  copying = ap (λ (L : List Whole). (at 0 L).chip.level) (run_joined trouble doubled doubled_stands);
  rc_set = ap (λ (L : List Whole). (at 0 L).chip.rc) (run_joined trouble doubled doubled_stands);
  low = ap (λ (L : List Whole). (at 1 L).chip.switch.outside) (run_joined trouble doubled doubled_stands);
  troubled_answer = ap (λ (s : Search). s.answer) (troubled_is (replicate 6 7));
  troubled_number = ap (λ (s : Search). s.number) (troubled_is (replicate 6 7));
  troubled_list = ap (λ (s : Search). s.list) (troubled_is (replicate 6 7));
  troubled_resets = ap (λ (s : Search). s.resets) (troubled_is (replicate 6 7));
  troubled_slots = ap (λ (s : Search). s.slots) (troubled_is (replicate 6 7));
  fresh_answer = ap (λ (s : Search). s.answer) (search_joined (replicate 6 9) fresh fresh_stands);
  fresh_number = ap (λ (s : Search). s.number) (search_joined (replicate 6 9) fresh fresh_stands);
  fresh_list = ap (λ (s : Search). s.list) (search_joined (replicate 6 9) fresh fresh_stands);
  fresh_resets = ap (λ (s : Search). s.resets) (search_joined (replicate 6 9) fresh fresh_stands);
  fresh_slots = ap (λ (s : Search). s.slots) (search_joined (replicate 6 9) fresh fresh_stands);
  alike = same_codes_same_list (replicate 6 7) (replicate 6 9) troubled fresh troubled_stands fresh_stands
      (rw (run_on_codes trouble doubled doubled_stands) doubled_codes) (rw (run_on_codes trouble doubled doubled_stands) same_codes) refl;
  as_before = list_after_trouble trouble (replicate 6 7) doubled doubled_stands doubled_codes;
}

-- two premises, weakened as the must-fail edits have them: what is left is false --------------------

-- lines of one chip, and of two
abbrev pub one : ℕ → Attached
one code = attached 1 (set_up_chip code 2 ∷ []) [] []

abbrev two : Attached
two = attached 2 (set_up_chip 1 2 ∷ set_up_chip 2 2 ∷ []) [] []

pub one_stands : (code : ℕ) → Stands (one code)
unfolding set_up_chip known_kind image_size pad_size in_range registers_in_range switch_in_range table_in_range sizes_fit both pick bit_of
one_stands code = record { range = refl; sizes = refl; places = lit≤ tt }

two_stands : Stands two
unfolding set_up_chip known_kind image_size pad_size in_range registers_in_range switch_in_range table_in_range sizes_fit both pick bit_of
two_stands = record { range = refl; sizes = refl; places = lit≤ tt }

one_codes : (code : ℕ) → code < 2 ^ 64 → Codes (codes_of (line_from (one code)))
unfolding set_up_chip
one_codes code h = one_below _ code _ h (none_below _)

two_codes : Codes (codes_of (line_from two))
unfolding set_up_chip both pick
two_codes = all-below _ _ refl

-- `same_codes_same_list` with as many codes, in place of the same ones
abbrev AsManyCodes : Type 0
AsManyCodes =
    (list list' : List ℕ) (l k : Attached) → Stands l → Stands k → Codes (codes_of (line_from l))
    → length (codes_of (line_from l)) ≡ length (codes_of (line_from k)) → length list ≡ length list'
    → ListedAlike list list' (search_of list l) (search_of list' k)

pub as_many_codes : AsManyCodes → ⊥
unfolding branch_order branch bit_of same pick set_up_chip
as_many_codes claim =
    let c = claim (7 ∷ []) (7 ∷ []) (one 1) (one 2) (one_stands 1) (one_stands 2) (one_codes 1 (omega arith)) refl refl in
    let l : (search_of (7 ∷ []) (one 1)).list ≡ 1 ∷ [] = (search_finds (7 ∷ []) (one 1) (one_stands 1) (one_codes 1 (omega arith))).list in
    let k : (search_of (7 ∷ []) (one 2)).list ≡ 2 ∷ [] = (search_finds (7 ∷ []) (one 2) (one_stands 2) (one_codes 2 (omega arith))).list in
    let e : ◌≡◌ {A = ℕ} 1 2 = ap (λ (x : List ℕ). get_or x 0 0) (sym l ∙ (one_list (7 ∷ []) _ _ c).list ∙ k) in
    omega arith

-- and with more places in one list than in the other
abbrev MorePlaces : Type 0
MorePlaces =
    (list list' : List ℕ) (l k : Attached) → Stands l → Stands k → Codes (codes_of (line_from l))
    → SameMembers (codes_of (line_from l)) (codes_of (line_from k)) → length list ≤ length list'
    → ListedAlike list list' (search_of list l) (search_of list' k)

pub more_places : MorePlaces → ⊥
unfolding branch_order branch bit_of same pick set_up_chip
more_places claim =
    let c = claim (7 ∷ []) (7 ∷ 7 ∷ []) two two two_stands two_stands two_codes (equal_members _ _ refl) (omega arith) in
    let l : (search_of (7 ∷ []) two).slots ≡ 200 = (search_finds (7 ∷ []) two two_stands two_codes).slots in
    let k : (search_of (7 ∷ 7 ∷ []) two).slots ≡ 400 = (search_finds (7 ∷ 7 ∷ []) two two_stands two_codes).slots in
    let e = c.slots in
    omega arith
