-- Laws: the loops that write a code and read a byte and a page play their hosts.
use Rattle.std.specs.Prelude.{ℕ, zero, suc, ◌+◌, ◌-◌, ◌*◌, ◌/◌, ◌%◌, ◌^◌, ◌<◌, ◌≤◌, Bool, true, List, [], ◌∷◌, ◌++◌, ◌≡◌, refl, length, set}
use Rattle.std.proofs.Common.{arith, sym, ◌∙◌, ap, length-append}
use Rattle.std.proofs.lemmas.List.Edits.{sets}
use Rattle.base.specs.Bits.{bit_of, filled}
use Rattle.base.specs.Low.{bit_low, bit_high}
use Rattle.base.specs.Stores.{sets_append}
use Rattle.line.specs.Attached.{Attached, says_of, leaves_of}
use Rattle.line.specs.Events.{slot_event, reset_event}
use Rattle.search.specs.Host.{Host, ask, bind, Played, played, more, heard, play, write}
use Rattle.search.specs.Search.{wire, played_write}
use Rattle.search.specs.Counts.{more_more, more_none, one_slot, and_then, play_bind}
use Rattle.rounds.specs.Host.{read_bits, read_bytes, read_page}

-- ---- a byte

-- where the loop of a byte stands after i bits
pub record Hearing (l₀ l : Attached) (byte i : ℕ) : Type 0 where
  pub left : more 0 i (play wire (read_bits (8 - i) byte) l) ≡ play wire (read_bits 8 0) l₀
  pub within : i ≤ 8

pub hearing_start : (l : Attached) → Hearing l l 0 0
hearing_start l = record { left = sym (more_none (play wire (read_bits 8 0) l)); within = omega arith }

pub hearing_next : (l₀ l lh : Attached) (byte i : ℕ) (v : Bool) (b : ℕ) → Hearing l₀ l byte i → i < 8
    → v ≡ heard (says_of (slot_event true) l) → lh ≡ leaves_of (slot_event true) l → b ≡ filled 0x80 byte v → Hearing l₀ lh b (i + 1)
unfolding play read_bits
hearing_next l₀ l lh byte i v b g h ev lh-is eb =
    let n : 8 - i ≡ suc (8 - (i + 1)) = omega arith in
    let r = play wire (read_bits (8 - (i + 1)) b) lh in
    let e : play wire (read_bits (8 - i) byte) l ≡ more 0 1 r = rw (n, eb, ev, lh-is) (one_slot true _) in
    record { left = sym (more_more 0 i 0 1 r) ∙ ap (more 0 i) (sym e) ∙ g.left; within = omega arith }

pub hearing_end : (l₀ l : Attached) (byte i : ℕ) → Hearing l₀ l byte i → 8 ≤ i → played byte l 0 8 ≡ play wire (read_bits 8 0) l₀
unfolding play read_bits
hearing_end l₀ l byte i g h =
    let q : i ≡ 8 = let p = g.within in omega arith in
    (rw q at g.left)

-- ---- a code

-- bits from a higher place on are those of a quotient
write_high : (n i x : ℕ) → write n (8 + i) x ≡ write n i (x / 256)
unfolding write
write_high zero i x = refl
write_high (suc n) i x =
    let a : 8 + i + 1 ≡ 8 + (i + 1) = omega arith in
    let rest = ap (λ (k : ℕ). write n k x) a ∙ write_high n (i + 1) x in
    λ j. ask (slot_event (bit_high x 8 i j)) (λ y. rest j)

-- a byte's worth of bits are those of the low byte
write_low : (k i n x : ℕ) → k + i ≡ 8 → write (k + n) i x ≡ bind (write k i (x % 256)) (λ u. write n 8 x)
unfolding write bind
write_low zero i n x e = let a : 0 + n ≡ n = omega arith in let b : i ≡ 8 = omega arith in λ j. write (a j) (b j) x
write_low (suc k) i n x e =
    let a : suc k + n ≡ suc (k + n) = omega arith in
    let b : 2 ^ (k + 1 + i) ≡ 256 = let c : k + 1 + i ≡ 8 = omega arith in ap (λ (z : ℕ). 2 ^ z) c in
    let first : bit_of x i ≡ bit_of (x % 256) i = sym (ap (λ (z : ℕ). bit_of (x % z) i) (sym b) ∙ bit_low x k i) in
    let rest = write_low k (i + 1) n x (omega arith) in
    ap (λ (z : ℕ). write z i x) a ∙ (λ j. ask (slot_event (first j)) (λ y. rest j))

-- the low byte of a number, and then the others
low_first : (n x : ℕ) → write (8 + n) 0 x ≡ bind (write 8 0 (x % 256)) (λ u. write n 0 (x / 256))
low_first n x = write_low 8 0 n x refl ∙ ap (λ (h : Host (Unit {0})). bind (write 8 0 (x % 256)) (λ u. h)) (write_high n 0 x)

-- a byte that was written, and how the host goes on
pub after_write : {A : Type 0} (n i byte : ℕ) (g : Unit {0} → Host A) (l u : Attached) → played_write u n ≡ play wire (write n i byte) l
    → play wire (bind (write n i byte) g) l ≡ more 0 n (play wire (g tt) u)
after_write n i byte g l u e =
    play_bind wire (write n i byte) g l ∙ ap (λ (q : Played (Unit {0}) Attached). and_then wire q g) (sym e)

-- where the loop of a code stands after i bytes
pub record Sending (code : ℕ) (l₀ l : Attached) (rest i : ℕ) : Type 0 where
  pub left : more 0 (8 * i) (play wire (write (64 - 8 * i) 0 rest) l) ≡ play wire (write 64 0 code) l₀
  pub within : i ≤ 8

pub sending_start : (code : ℕ) (l : Attached) → Sending code l l code 0
sending_start code l = record { left = sym (more_none (play wire (write 64 0 code) l)); within = omega arith }

pub sending_next : (code : ℕ) (l₀ l u : Attached) (rest i byte : ℕ) → Sending code l₀ l rest i → i < 8 → byte ≡ rest % 256
    → played_write u 8 ≡ play wire (write 8 0 byte) l → Sending code l₀ u (rest / 256) (i + 1)
sending_next code l₀ l u rest i byte g h eb e =
    let m = 64 - 8 * (i + 1) in
    let n : 64 - 8 * i ≡ 8 + m = omega arith in
    let s : 8 * i + 8 ≡ 8 * (i + 1) = omega arith in
    let r = play wire (write m 0 (rest / 256)) u in
    let f : play wire (write (64 - 8 * i) 0 rest) l ≡ more 0 8 r
    = ap (λ (k : ℕ). play wire (write k 0 rest) l) n
    ∙ ap (λ (k : Host (Unit {0})). play wire k l) (low_first m rest)
    ∙ after_write 8 0 (rest % 256) (λ x. write m 0 (rest / 256)) l u (e ∙ ap (λ (k : ℕ). play wire (write 8 0 k) l) eb) in
    record {
      left = sym (more_more 0 (8 * i) 0 8 r ∙ ap (λ (k : ℕ). more 0 k r) s) ∙ ap (more 0 (8 * i)) (sym f) ∙ g.left;
      within = omega arith;
    }

pub sending_end : (code : ℕ) (l₀ l : Attached) (rest i : ℕ) → Sending code l₀ l rest i → 8 ≤ i → played_write l 64 ≡ play wire (write 64 0 code) l₀
unfolding play write
sending_end code l₀ l rest i g h =
    let q : i ≡ 8 = let p = g.within in omega arith in
    (rw q at g.left)

-- ---- the bytes of a page

-- where their loop stands after i bytes, which go into the page buffer from a place on
pub record Reading (at : ℕ) (l₀ l : Attached) (pages₀ pages : List ℕ) (i : ℕ) : Type 0 where
  pub out : List ℕ
  pub left : more 0 (8 * i) (play wire (read_bytes (32 - i) out) l) ≡ play wire (read_bytes 32 []) l₀
  pub long : length out ≡ i
  pub laid : pages ≡ sets pages₀ at out
  pub within : i ≤ 32

pub reading_start : (at : ℕ) (l : Attached) (pages : List ℕ) → Reading at l l pages pages 0
reading_start at l pages = record { out = []; left = sym (more_none (play wire (read_bytes 32 []) l)); long = refl; laid = refl; within = omega arith }

pub reading_next : (at : ℕ) (l₀ l u : Attached) (pages₀ pages after : List ℕ) (i byte : ℕ) → Reading at l₀ l pages₀ pages i → i < 32
    → played byte u 0 8 ≡ play wire (read_bits 8 0) l → after ≡ set pages (at + i) byte → Reading at l₀ u pages₀ after (i + 1)
unfolding read_bytes
reading_next at l₀ l u pages₀ pages after i byte g h e f =
    let m = 32 - (i + 1) in
    let n : 32 - i ≡ suc m = omega arith in
    let s : 8 * i + 8 ≡ 8 * (i + 1) = omega arith in
    let more_out = g.out ++ (byte ∷ []) in
    let r = play wire (read_bytes m more_out) u in
    let k : play wire (read_bytes (32 - i) g.out) l ≡ more 0 8 r
    = ap (λ (j : ℕ). play wire (read_bytes j g.out) l) n
    ∙ play_bind wire (read_bits 8 0) (λ (b : ℕ). read_bytes m (g.out ++ (b ∷ []))) l
    ∙ ap (λ (q : Played ℕ Attached). and_then wire q (λ (b : ℕ). read_bytes m (g.out ++ (b ∷ [])))) (sym e) in
    record {
      out = more_out;
      left = sym (more_more 0 (8 * i) 0 8 r ∙ ap (λ (j : ℕ). more 0 j r) s) ∙ ap (more 0 (8 * i)) (sym k) ∙ g.left;
      long = length-append g.out (byte ∷ []) ∙ ap (λ (j : ℕ). j + 1) g.long;
      laid = f ∙ ap (λ (p : List ℕ). set p (at + i) byte) g.laid
          ∙ sym (sets_append pages₀ at g.out (byte ∷ []) ∙ ap (λ (j : ℕ). set (sets pages₀ at g.out) (at + j) byte) g.long);
      within = omega arith;
    }

-- what a page came to: its bytes in the page buffer, and the line that is left
abbrev pub PutAt : ℕ → List ℕ → List ℕ → Attached → Played (List ℕ) Attached → Type 0
PutAt at pages₀ pages l p = (pages ≡ sets pages₀ at p.result) × (l ≡ p.line)

pub reading_end : (at : ℕ) (l₀ l : Attached) (pages₀ pages : List ℕ) (i : ℕ) → Reading at l₀ l pages₀ pages i → 32 ≤ i
    → PutAt at pages₀ pages l (play wire (read_bytes 32 []) l₀)
unfolding play read_bytes
reading_end at l₀ l pages₀ pages i g h =
    let q : i ≡ 32 = let p = g.within in omega arith in
    let e : more 0 256 (played g.out l 0 0) ≡ play wire (read_bytes 32 []) l₀ = (rw q at g.left) in
    (g.laid ∙ ap (λ (p : Played (List ℕ) Attached). sets pages₀ at p.result) e, ap (λ (p : Played (List ℕ) Attached). p.line) e)

-- a reset, the match, the command and its address, and then the bytes
pub page_put : (code at : ℕ) (pages₀ pages : List ℕ) (l l₁ l₂ l₃ l₄ l₅ l₆ r : Attached) → l₁ ≡ leaves_of reset_event l
    → played_write l₂ 8 ≡ play wire (write 8 0 0x55) l₁ → played_write l₃ 64 ≡ play wire (write 64 0 code) l₂
    → played_write l₄ 8 ≡ play wire (write 8 0 0xF0) l₃ → played_write l₅ 8 ≡ play wire (write 8 0 0x00) l₄ → played_write l₆ 8 ≡ play wire (write 8 0 0x00) l₅
    → PutAt at pages₀ pages r (play wire (read_bytes 32 []) l₆) → PutAt at pages₀ pages r (play wire (read_page code) l)
unfolding play read_page
page_put code at pages₀ pages l l₁ l₂ l₃ l₄ l₅ l₆ r e₁ e₂ e₃ e₄ e₅ e₆ (p, q) =
    let a = after_write 8 0 0x00 (λ u. read_bytes 32 []) l₅ l₆ e₆ in
    let b = after_write 8 0 0x00 (λ u. bind (write 8 0 0x00) λ u. read_bytes 32 []) l₄ l₅ e₅ ∙ ap (more 0 8) a in
    let c = after_write 8 0 0xF0 (λ u. bind (write 8 0 0x00) λ u. bind (write 8 0 0x00) λ u. read_bytes 32 []) l₃ l₄ e₄ ∙ ap (more 0 8) b in
    let d = after_write 64 0 code (λ u. bind (write 8 0 0xF0) λ u. bind (write 8 0 0x00) λ u. bind (write 8 0 0x00) λ u. read_bytes 32 []) l₂ l₃ e₃ ∙ ap (more 0 64) c in
    let f = after_write 8 0 0x55 (λ u. bind (write 64 0 code) λ u. bind (write 8 0 0xF0) λ u. bind (write 8 0 0x00) λ u. bind (write 8 0 0x00) λ u. read_bytes 32 []) l₁ l₂ e₂ ∙ ap (more 0 8) d in
    let all = ap (λ (k : Attached). more 1 0 (play wire (bind (write 8 0 0x55) λ u. bind (write 64 0 code) λ u. bind (write 8 0 0xF0) λ u. bind (write 8 0 0x00) λ u. bind (write 8 0 0x00) λ u. read_bytes 32 []) k)) (sym e₁) ∙ ap (more 1 0) f in
    (p ∙ ap (λ (x : Played (List ℕ) Attached). sets pages₀ at x.result) (sym all), q ∙ ap (λ (x : Played (List ℕ) Attached). x.line) (sym all))
