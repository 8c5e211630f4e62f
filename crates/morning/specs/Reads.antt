-- The request M-108: what a round reads. "Pages go into the lent buffer in list order, without gaps"; "Where chips share a code, the byte read is
-- the AND of those of the DS28EC20s that bear it; a DS2413 with that code sends ones."
use Rattle.std.specs.Prelude.{ℕ, zero, suc, ◌+◌, ◌*◌, ◌≤◌, true, ◌≡◌, refl, length, take, drop}
use Rattle.std.proofs.Common.{arith, sym, ◌∙◌, subst, length-append, take_all, le-leb}
use mathlib.Core.List.Memᴰ
use mathlib.Core.List.{List, [], ◌∷◌}
use Rattle.std.proofs.Math.Path.{ap}
use Rattle.std.proofs.lemmas.List.Edits.{sets}
use Rattle.base.specs.Pick.{pick_true, pick_both, pick_if}
use Rattle.base.specs.Once.{is_in}
use Rattle.base.specs.Stores.{sets_all}
use Rattle.chip.specs.Kinds.{image_size, pad_size}
use Rattle.chip.specs.Chip.{Whole}
use Rattle.chip.specs.declared.Chip.{Chip}
use Rattle.line.specs.Attached.{Attached, says_of, leaves_of, Stands, line_from}
use Rattle.line.specs.Layout.{split}
use Rattle.line.specs.Refusals.{in_range_few}
use Rattle.line.proofs.Standing.{AllGood, line_good, line_length}
use Rattle.search.specs.Host.{Host, done, ask, bind, Played, Listed, play, search_host}
use Rattle.search.specs.Counts.{and_then, play_bind}
use Rattle.search.specs.Search.{wire}
use Rattle.rounds.specs.Borne.{only_borne, page_size}
use Rattle.rounds.specs.Host.{Rounded, rounded, read_pages, then_pages, round_host}
use Rattle.rounds.specs.Round.{Round, borne_on, round_of}
use Rattle.histories.specs.Below.{Codes, Bytes, take_bytes, drop_bytes}
use Rattle.histories.specs.Histories.{Stored, codes_of, stores_of, line_wire}
use Rattle.histories.specs.Joined.{play_joined}
use Rattle.histories.specs.Standing.{says_is, line_after, stands_after}
use Rattle.listing.specs.Order.{Lists}
use Rattle.listing.proofs.Listing.{branch-order, listing_of_16}
use Rattle.listing.proofs.Count.{order_distinct}
use Rattle.listing.proofs.Public.{order_of}
use Rattle.morning.specs.Page.{bearing, bearers_of, bytes_at, page_of, pages_of}
use Rattle.morning.specs.Rows.{bears, Longer}
use Rattle.morning.specs.Anded.{own_bytes}
use Rattle.morning.specs.Bearing.{borne_listed}
use Rattle.morning.specs.Counts.{codes_count, Sized, pages_asked_are, round_well}
use Rattle.morning.specs.Reading.{Sound, sound_longer, AllCodes, same_pages, pages_read}

-- a host leaves on a table the line that it leaves on the table's line
host_line : {A : Type 0} (h : Host A) (l : Attached) → Stands l → line_from (play wire h l).line ≡ (play line_wire h (line_from l)).line
unfolding play
host_line (done a) l s = refl
host_line (ask e f) l s =
    host_line (f (says_of e l)) (leaves_of e l) (stands_after l e s) ∙ λ j. (play line_wire (f (says_is l s e j)) (line_after l e s j)).line

-- as many bytes of each page as a page has
bytes_length : (n address : ℕ) (ms : List (List ℕ)) → length (bytes_at n address ms) ≡ n
bytes_length zero address ms = refl
bytes_length (suc n) address ms = ap suc (bytes_length n (address + 1) ms)

pages_length : (codes : List ℕ) (L : List Whole) → length (pages_of codes L) ≡ page_size * length codes
pages_length [] L = refl
pages_length (c ∷ cs) L =
    let a = bytes_length page_size 0 (bearers_of c L) in
    let b = pages_length cs L in
    length-append (page_of c L) (pages_of cs L) ∙ (omega arith)

-- the line of a table that stands well is sound
line_sound : (L : List Whole) → AllGood L → Codes (codes_of L) → Sound (stores_of L)
line_sound [] g c = tt
line_sound (w ∷ L) (a, g) c =
    (record { known = a.range.known; full = a.memory; fits = c w.chip.code (Memᴰ.head refl) }, line_sound L g (λ x m. c x (Memᴰ.tail m)))

-- codes of a list that all have 64 bits, the first of them, and those that are borne
all_codes : (cs : List ℕ) → Codes cs → AllCodes cs
all_codes [] f = tt
all_codes (c ∷ cs) f = (f c (Memᴰ.head refl), all_codes cs (λ x m. f x (Memᴰ.tail m)))

some_codes : (n : ℕ) (cs : List ℕ) → AllCodes cs → AllCodes (take n cs)
some_codes zero cs a = tt
some_codes (suc n) [] a = tt
some_codes (suc n) (c ∷ cs) (h, a) = (h, some_codes n cs a)

borne_codes : (borne cs : List ℕ) → AllCodes cs → AllCodes (only_borne borne cs)
unfolding only_borne
borne_codes borne [] a = tt
borne_codes borne (c ∷ cs) (h, a) = pick_both AllCodes (is_in c borne) _ _ (h, borne_codes borne cs a) (borne_codes borne cs a)

module _ (list pages : List ℕ) (l : Attached) (s : Stands l) (fits : Codes (codes_of (line_from l))) (size : Sized pages l) where
  -- its line, and what the search comes to on it
  abbrev L : List Whole
  L = line_from l

  abbrev p : Played Listed (List Whole)
  p = play line_wire (search_host (length list)) L

  lists : Lists (order_of l) (length list) L p
  lists = let k = in_range_few l.count l.lent.chips s.range in let n = line_length l s in listing_of_16 (length list) L (omega arith) fits

  -- the line after the search is sound, and the codes listed have 64 bits
  sound : Sound (stores_of p.line)
  sound = subst Sound (sym lists.stores) (line_sound L (line_good l s) fits)

  listed_codes : AllCodes p.result.codes
  listed_codes =
      let b = branch-order (codes_of L) fits in
      subst AllCodes (ap (λ (x : Listed). x.codes) (sym lists.result)) (some_codes (length list) (order_of l) (all_codes (order_of l) (λ x m. fits x ((b.members x).0 m))))

  -- what the pages come to that a host reads after the search
  abbrev to_read : List ℕ
  to_read = only_borne (borne_on l) p.result.codes

  read : ((play line_wire (read_pages to_read []) p.line).result ≡ pages_of to_read L) × (stores_of (play line_wire (read_pages to_read []) p.line).line ≡ stores_of L)
  read =
      let r = pages_read to_read [] p.line (borne_codes (borne_on l) p.result.codes listed_codes) sound in
      (r.0 ∙ same_pages to_read L p.line lists.stores, r.1 ∙ lists.stores)

  -- the host of the round on the line
  abbrev q : Played Rounded (List Whole)
  q = play line_wire (round_host (length list) (borne_on l)) L

  by_search : q ≡ and_then line_wire p (then_pages (borne_on l))
  by_search = play_bind line_wire (search_host (length list)) (then_pages (borne_on l)) L

  by_pages : play line_wire (bind (read_pages to_read []) (λ bytes. done (rounded p.result bytes))) p.line
      ≡ and_then line_wire (play line_wire (read_pages to_read []) p.line) (λ bytes. done (rounded p.result bytes))
  by_pages = play_bind line_wire (read_pages to_read []) (λ (bytes : List ℕ). done (rounded p.result bytes)) p.line

  -- code, kind and memory of every chip stay
  line_keeps : stores_of q.line ≡ stores_of L
  unfolding play
  line_keeps =
      ap (λ (x : Played Rounded (List Whole)). stores_of x.line) by_search
      ∙ pick_if (λ (h : Host Rounded). stores_of (play line_wire h p.line).line ≡ stores_of L) p.result.complete _ _
      (λ t. ap (λ (x : Played Rounded (List Whole)). stores_of x.line) by_pages ∙ read.1)
      (λ t. lists.stores)

  -- THEOREM: a round changes no code, no kind and no byte of any memory, under refusal 4 either
  pub round_keeps : stores_of (line_from (round_of list pages l).found.line) ≡ stores_of (line_from l)
  round_keeps =
      ap (λ (r : Round). stores_of (line_from r.found.line)) (round_well list pages l s size)
      ∙ ap stores_of (host_line (round_host (length list) (borne_on l)) l s)
      ∙ line_keeps

  module _ (room : codes_count l ≤ length list) where
    places : length (order_of l) ≤ length list
    places = let e = order_distinct (codes_of L) fits in omega arith

    codes_are : p.result.codes ≡ order_of l
    codes_are = ap (λ (x : Listed). x.codes) lists.result ∙ take_all (length list) (order_of l) places

    whole : p.result.complete ≡ true
    whole = ap (λ (x : Listed). x.complete) lists.result ∙ le-leb (length (order_of l)) (length list) places

    -- the bytes that were read
    bytes_are : q.result.bytes ≡ pages_of (only_borne (borne_on l) (order_of l)) L
    unfolding play
    bytes_are =
        ap (λ (x : Played Rounded (List Whole)). x.result.bytes) by_search
        ∙ ap (λ (h : Host Rounded). (play line_wire h p.line).result.bytes) (pick_true p.result.complete _ _ whole)
        ∙ ap (λ (x : Played Rounded (List Whole)). x.result.bytes) by_pages
        ∙ read.0
        ∙ ap (λ (cs : List ℕ). pages_of (only_borne (borne_on l) cs) L) codes_are

    -- they are as many as the page buffer has
    long : length (pages_of (only_borne (borne_on l) (order_of l)) L) ≡ length pages
    long =
        pages_length (only_borne (borne_on l) (order_of l)) L
        ∙ (let b = borne_listed l fits in let k = pages_asked_are l s.range in omega (arith, size))

    -- THEOREM: where the list has a place for each code, the page buffer holds the page of each code listed that is borne, in list order and
    -- without gaps: of each byte 0000h to 001Fh the AND over the DS28EC20s that bear the code, as the round found them
    pub round_reads : (round_of list pages l).pages ≡ pages_of (only_borne (borne_on l) (order_of l)) (line_from l)
    round_reads =
        ap (λ (r : Round). r.pages) (round_well list pages l s size)
        ∙ ap (λ (x : Played Rounded Attached). sets pages 0 x.result.bytes) (play_joined (round_host (length list) (borne_on l)) l s)
        ∙ ap (sets pages 0) bytes_are
        ∙ sets_all pages (pages_of (only_borne (borne_on l) (order_of l)) L) long

-- ---- one bearer

-- the memories of a line are bytes where the images are
abbrev AllBytes : List Stored → Type 0
AllBytes [] = Unit {0}
AllBytes (c ∷ cs) = Bytes c.memory × AllBytes cs

split_bytes : (cs : List Chip) (ms ss : List ℕ) → Bytes ms → AllBytes (stores_of (split cs ms ss))
split_bytes [] ms ss b = tt
split_bytes (c ∷ cs) ms ss b =
    (take_bytes (image_size c.kind) ms b, split_bytes cs (drop (image_size c.kind) ms) (drop (pad_size c.kind) ss) (drop_bytes (image_size c.kind) ms b))

-- so are those of the bearers of a code, and each has a page
abbrev Paged : List (List ℕ) → Type 0
Paged [] = Unit {0}
Paged (m ∷ ms) = (Bytes m × (page_size ≤ length m)) × Paged ms

bearers_paged : (code : ℕ) (cs : List Stored) → AllBytes cs → Longer code page_size cs → Paged (bearing code cs)
bearers_paged code [] b l = tt
bearers_paged code (c ∷ cs) (a, b) (h, l) = pick_if Paged (bears code c) _ _ (λ e. ((a, h e), bearers_paged code cs b l)) (λ e. bearers_paged code cs b l)

-- THEOREM: "with one bearer, its own": the page of a code that one DS28EC20 bears is that chip's bytes 0000h to 001Fh
pub round_reads_own : (l : Attached) → Stands l → Codes (codes_of (line_from l)) → Bytes l.lent.images → (code : ℕ) (m : List ℕ)
    → bearers_of code (line_from l) ≡ m ∷ [] → page_of code (line_from l) ≡ take page_size m
round_reads_own l s fits images code m e =
    let L = line_from l in
    let own = subst Paged e (bearers_paged code (stores_of L) (split_bytes (take l.count l.lent.chips) l.lent.images l.lent.pads images)
    (sound_longer code (stores_of L) (line_sound L (line_good l s) fits))) in
    ap (bytes_at page_size 0) e ∙ own_bytes page_size 0 m own.0.0 (let h = own.0.1 in omega arith)
