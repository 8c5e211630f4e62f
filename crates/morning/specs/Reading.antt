-- Laws: pages read on a line are the pages of the codes, and code, kind and memory of every chip stay.
use Rattle.std.specs.Prelude.{ℕ, ◌+◌, ◌^◌, ◌<◌, ◌≤◌, Bool, true, ◌≡◌, length}
use native.Mathlib.Omega.{arith}
use Rattle.std.proofs.Common.{true≢false, ◌∙◌, sym, subst}
use mathlib.Core.List.{List, [], ◌∷◌, ◌++◌, map, append_assoc, append-nil}
use Rattle.std.proofs.Math.Path.{refl, ap, ap₂}
use Rattle.base.specs.Pick.{pick, pick_if}
use Rattle.base.specs.Bits.{bit_of, both}
use Rattle.base.specs.Both.{both_holds, both_true'}
use Rattle.chip.specs.Kinds.{is_ds28ec20, image_size}
use Rattle.chip.specs.Chip.{Whole, takes_of, sends_of, reset_of}
use Rattle.search.specs.Host.{Host, bind, Played, more, play, write}
use Rattle.search.specs.Counts.{and_then, play_bind}
use Rattle.histories.specs.Histories.{Stored, stores_of, line_wire}
use Rattle.histories.specs.Fed.{fed, sends_nothing}
use Rattle.histories.specs.Sent.{bits_from}
use Rattle.listing.specs.Slots.{after_reset, reset_played, AllHear, byte_played}
use Rattle.rounds.specs.Borne.{page_size}
use Rattle.rounds.specs.Host.{read_bytes, read_page, read_pages}
use Rattle.morning.specs.Page.{bearing, bytes_at, page_of, pages_of}
use Rattle.morning.specs.Sent.{asked, SoundChip, sends_page}
use Rattle.morning.specs.Streaming.{Streaming, nobody, also, bytes-read}
use Rattle.morning.specs.Rows.{bears, rows_from, Longer, bytes_are}

-- every chip of a line is sound
abbrev pub Sound : List Stored → Type 0
Sound [] = Unit {0}
Sound (c ∷ cs) = SoundChip c × Sound cs

-- so every bearer has a page
pub sound_longer : (code : ℕ) (cs : List Stored) → Sound cs → Longer code page_size cs
unfolding is_ds28ec20 image_size both pick
sound_longer code [] s = tt
sound_longer code (c ∷ cs) (a, s) = (first, sound_longer code cs s)
  where
    size : (b : Bool) → both (is_ds28ec20 c.kind) b ≡ true → image_size c.kind ≡ 2624
    size b e = pick_if (λ (n : ℕ). is_ds28ec20 c.kind ≡ true → n ≡ 2624) (is_ds28ec20 c.kind) 2624 0 (λ p q. refl) (λ p q. absurd (true≢false (sym q ∙ p))) (both_holds (is_ds28ec20 c.kind) b e).0

    first : bears code c ≡ true → page_size ≤ length c.memory
    first e = let k = a.full ∙ size _ e in omega arith

-- ---- the host asks

-- a chip that is silent over some bits and then over others
silent_both : (xs ys : List Bool) (w : Whole) → sends_nothing (xs ++ ys) w ≡ true → (sends_nothing xs w ≡ true) × (sends_nothing ys (fed xs w) ≡ true)
silent_both [] ys w e = (refl, e)
silent_both (x ∷ xs) ys w e =
    let h = both_holds (sends_of w) (sends_nothing (xs ++ ys) (takes_of x w)) e in
    let r = silent_both xs ys (takes_of x w) h.1 in
    (both_true' _ _ h.0 r.0, r.1)

hear_both : (xs ys : List Bool) (L : List Whole) → AllHear (xs ++ ys) L → AllHear xs L × AllHear ys (map (fed xs) L)
hear_both xs ys [] h = (tt, tt)
hear_both xs ys (w ∷ L) (a, h) =
    let one = silent_both xs ys w a in
    let r = hear_both xs ys L h in
    ((one.0, r.0), (one.1, r.1))

-- bits that every chip hears, and how the host goes on
heard_write : {A : Type 0} (n i x : ℕ) (g : Unit {0} → Host A) (L : List Whole) → AllHear (bits_from n i x) L
    → play line_wire (bind (write n i x) g) L ≡ more 0 n (play line_wire (g tt) (map (fed (bits_from n i x)) L))
heard_write n i x g L h =
    play_bind line_wire (write n i x) g L ∙ ap (λ (p : Played (Unit {0}) (List Whole)). and_then line_wire p g) (byte_played n i x L h)

module _ (code : ℕ) where
  -- the line when each part of the bits is in
  abbrev after_command : List Whole → List Whole
  after_command L = map (fed (bits_from 8 0 0x55)) (after_reset L)

  abbrev after_code : List Whole → List Whole
  after_code L = map (fed (bits_from 64 0 code)) (after_command L)

  abbrev after_function : List Whole → List Whole
  after_function L = map (fed (bits_from 8 0 0xF0)) (after_code L)

  abbrev after_low : List Whole → List Whole
  after_low L = map (fed (bits_from 8 0 0x00)) (after_function L)

  abbrev ready : List Whole → List Whole
  ready L = map (fed (bits_from 8 0 0x00)) (after_low L)

  -- the bits in these parts
  abbrev parts : List Bool
  parts = bits_from 8 0 0x55 ++ (bits_from 64 0 code ++ (bits_from 8 0 0xF0 ++ (bits_from 8 0 0x00 ++ (bits_from 8 0 0x00 ++ []))))

  parts_are : parts ≡ asked code
  unfolding bit_of
  parts_are = refl

  module _ (g : code < 2 ^ 64) where
    all_hear : (L : List Whole) → Sound (stores_of L) → AllHear parts (after_reset L)
    all_hear [] s = tt
    all_hear (w ∷ L) (a, s) = (ap (λ (bs : List Bool). sends_nothing bs (reset_of w)) parts_are ∙ (sends_page code w g a).silent, all_hear L s)

    -- every chip then sends what it has from 0000h on
    all_send : (L : List Whole) → Sound (stores_of L) → Streaming (rows_from code 0 (stores_of L)) (ready L)
    unfolding bit_of
    all_send [] s = nobody
    all_send (w ∷ L) (a, s) = also (sends_page code w g a).streams (all_send L s)

    all_stay : (L : List Whole) → Sound (stores_of L) → stores_of (ready L) ≡ stores_of L
    unfolding bit_of
    all_stay [] s = refl
    all_stay (w ∷ L) (a, s) = ap₂ ◌∷◌ (sends_page code w g a).stays (all_stay L s)

    -- a page: what it comes to
    page_goes : (L : List Whole) → Sound (stores_of L) → play line_wire (read_page code) L ≡ more 1 96 (play line_wire (read_bytes page_size []) (ready L))
    unfolding read_page
    page_goes L s =
        let h₁ = hear_both (bits_from 8 0 0x55) (bits_from 64 0 code ++ (bits_from 8 0 0xF0 ++ (bits_from 8 0 0x00 ++ (bits_from 8 0 0x00 ++ [])))) (after_reset L) (all_hear L s) in
        let h₂ = hear_both (bits_from 64 0 code) (bits_from 8 0 0xF0 ++ (bits_from 8 0 0x00 ++ (bits_from 8 0 0x00 ++ []))) (after_command L) h₁.1 in
        let h₃ = hear_both (bits_from 8 0 0xF0) (bits_from 8 0 0x00 ++ (bits_from 8 0 0x00 ++ [])) (after_code L) h₂.1 in
        let h₄ = hear_both (bits_from 8 0 0x00) (bits_from 8 0 0x00 ++ []) (after_function L) h₃.1 in
        let h₅ = hear_both (bits_from 8 0 0x00) [] (after_low L) h₄.1 in
        reset_played _ L
        ∙ ap (more 1 0) (heard_write 8 0 0x55 _ (after_reset L) h₁.0
        ∙ ap (more 0 8) (heard_write 64 0 code _ (after_command L) h₂.0
        ∙ ap (more 0 64) (heard_write 8 0 0xF0 _ (after_code L) h₃.0
        ∙ ap (more 0 8) (heard_write 8 0 0x00 _ (after_function L) h₄.0
        ∙ ap (more 0 8) (heard_write 8 0 0x00 _ (after_low L) h₅.0)))))
        ∙ sums _
      where
        sums : (p : Played (List ℕ) (List Whole)) → more 1 0 (more 0 8 (more 0 64 (more 0 8 (more 0 8 (more 0 8 p))))) ≡ more 1 96 p
        sums p = let a : 0 + (8 + (64 + (8 + (8 + (8 + p.slots))))) ≡ 96 + p.slots = omega arith in let b : 1 + (0 + (0 + (0 + (0 + (0 + p.resets))))) ≡ 1 + p.resets = omega arith in
            λ j. record { result = p.result; line = p.line; resets = b j; slots = a j }

    -- what it reads, and that it leaves code, kind and memory
    page_reads : (L : List Whole) → Sound (stores_of L)
        → ((play line_wire (read_page code) L).result ≡ page_of code L) × (stores_of (play line_wire (read_page code) L).line ≡ stores_of L)
    page_reads L s =
        let e = page_goes L s in
        let r = bytes-read page_size [] (rows_from code 0 (stores_of L)) (ready L) (all_send L s) in (
          ap (λ (p : Played (List ℕ) (List Whole)). p.result) e ∙ r.result ∙ bytes_are page_size code 0 (stores_of L) (sound_longer code (stores_of L) s),
          ap (λ (p : Played (List ℕ) (List Whole)). stores_of p.line) e ∙ r.stores ∙ all_stay L s,
        )

-- every code of a list has 64 bits
abbrev pub AllCodes : List ℕ → Type 0
AllCodes [] = Unit {0}
AllCodes (c ∷ cs) = (c < 2 ^ 64) × AllCodes cs

-- lines that store the same have the same pages
pub same_pages : (codes : List ℕ) (L M : List Whole) → stores_of M ≡ stores_of L → pages_of codes M ≡ pages_of codes L
same_pages [] L M e = refl
same_pages (c ∷ cs) L M e = ap₂ (λ (a b : List ℕ). a ++ b) (ap (λ (s : List Stored). bytes_at page_size 0 (bearing c s)) e) (same_pages cs L M e)

-- the pages of codes
pub pages_read : (codes out : List ℕ) (L : List Whole) → AllCodes codes → Sound (stores_of L)
    → ((play line_wire (read_pages codes out) L).result ≡ out ++ pages_of codes L) × (stores_of (play line_wire (read_pages codes out) L).line ≡ stores_of L)
unfolding play read_pages
pages_read [] out L g s = (sym (append-nil out), refl)
pages_read (c ∷ cs) out L (h, g) s =
    let p = play line_wire (read_page c) L in
    let one = page_reads c h L s in
    let rest = pages_read cs (out ++ page_of c L) p.line g (subst Sound (sym one.1) s) in
    let e : play line_wire (read_pages (c ∷ cs) out) L ≡ more p.resets p.slots (play line_wire (read_pages cs (out ++ page_of c L)) p.line)
    = play_bind line_wire (read_page c) (λ (page : List ℕ). read_pages cs (out ++ page)) L
    ∙ ap (λ (page : List ℕ). more p.resets p.slots (play line_wire (read_pages cs (out ++ page)) p.line)) one.0 in (
      ap (λ (q : Played (List ℕ) (List Whole)). q.result) e ∙ rest.0
          ∙ ap (λ (bytes : List ℕ). (out ++ page_of c L) ++ bytes) (same_pages cs L p.line one.1)
          ∙ append_assoc out (page_of c L) (pages_of cs L),
      ap (λ (q : Played (List ℕ) (List Whole)). stores_of q.line) e ∙ rest.1 ∙ one.1,
    )
