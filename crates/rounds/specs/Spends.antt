-- Laws: what hosts put on any line, whatever it answers: a search, and pages.
use Prim.Native.Nat.{ℕ, zero, suc, ◌+◌, ◌-◌, ◌*◌, ◌≤◌}
use Rattle.std.proofs.Common.{arith, ◌∙◌, ap, subst, length-append}
use Rattle.std.specs.Prelude.{Bool, List, [], ◌∷◌, ◌++◌, ◌≡◌, length}
use Rattle.std.proofs.Math.Bool.{true, false}
use Rattle.std.proofs.Math.Path.{refl}
use Rattle.base.specs.Pick.{pick, pick_both}
use Rattle.base.specs.Bits.{bit_of, filled}
use Rattle.line.specs.Layout.{capped}
use Rattle.line.specs.Prefix.{capped_few}
use Rattle.line.specs.Event.{Answered}
use Rattle.line.specs.Events.{slot_event, reset_event}
use Rattle.line.specs.declared.Event.{Event}
use Rattle.search.specs.Host.{Host, done, ask, bind, Wire, resets_of, slots_of, heard, play, write, UnderWay, begun, pass, End, Listed, up_to, passes, search_host}
use Rattle.search.specs.Counts.{play_bind}
use Rattle.rounds.specs.Host.{read_bits, read_bytes, read_page, read_pages}

-- ---- what a host spends

-- numbers compared so that sums compare as their parts do: equal, or at most
pub record Compares (R : ℕ → ℕ → Type 0) : Type 0 where
  pub none : R 0 0
  pub sums : (a b c d : ℕ) → R a c → R b d → R (a + b) (c + d)

pub equal : Compares (λ a b. a ≡ b)
equal = record { none = refl; sums = λ a b c d e f. (λ j. e j + f j) }

pub at_most : Compares (λ a b. a ≤ b)
at_most = record { none = omega arith; sums = λ a b c d e f. omega arith }

-- on every line a host puts so many resets and slots on it, and comes to something that has P
pub record Spends (R : ℕ → ℕ → Type 0) {A : Type 0} (P : A → Type 0) (r s : ℕ) (h : Host A) : Type 1 where
  pub resets : (W : Wire) (l : W.L) → R (play W h l).resets r
  pub slots : (W : Wire) (l : W.L) → R (play W h l).slots s
  pub comes : (W : Wire) (l : W.L) → P (play W h l).result

module _ (R : ℕ → ℕ → Type 0) (c : Compares R) where
  spends_done : {A : Type 0} (P : A → Type 0) (a : A) → P a → Spends R P 0 0 (done a)
  unfolding play
  spends_done P a p = record { resets = λ W l. c.none; slots = λ W l. c.none; comes = λ W l. p }

  spends_ask : {A : Type 0} (P : A → Type 0) (r s x y : ℕ) (e : Event) (f : Answered → Host A) → R (resets_of e) r → R (slots_of e) s
      → ((a : Answered) → Spends R P x y (f a)) → Spends R P (r + x) (s + y) (ask e f)
  unfolding play
  spends_ask P r s x y e f u v k =
      record {
        resets = λ W l. c.sums _ _ _ _ u ((k (W.says e l)).resets W (W.does e l));
        slots = λ W l. c.sums _ _ _ _ v ((k (W.says e l)).slots W (W.does e l));
        comes = λ W l. (k (W.says e l)).comes W (W.does e l);
      }

  spends_bind : {A B : Type 0} (P : A → Type 0) (Q : B → Type 0) (r s x y : ℕ) (h : Host A) (g : A → Host B) → Spends R P r s h
      → ((a : A) → P a → Spends R Q x y (g a)) → Spends R Q (r + x) (s + y) (bind h g)
  spends_bind {A} {B} P Q r s x y h g f k =
      record {
        resets = λ W l. rw (play_bind W h g l) (c.sums _ _ _ _ (f.resets W l) ((k _ (f.comes W l)).resets W (play W h l).line));
        slots = λ W l. rw (play_bind W h g l) (c.sums _ _ _ _ (f.slots W l) ((k _ (f.comes W l)).slots W (play W h l).line));
        comes = λ W l. rw (play_bind W h g l) ((k _ (f.comes W l)).comes W (play W h l).line);
      }

-- with other numbers that are equal
respent : (R : ℕ → ℕ → Type 0) {A : Type 0} (P : A → Type 0) (r s x y : ℕ) (h : Host A) → r ≡ x → s ≡ y → Spends R P r s h → Spends R P x y h
respent R P r s x y h e f g = record { resets = λ W l. subst (R _) e (g.resets W l); slots = λ W l. subst (R _) f (g.slots W l); comes = g.comes }

-- nothing is said of what it comes to
abbrev Anything : {A : Type 0} → A → Type 0
Anything a = Unit {0}

module _ (R : ℕ → ℕ → Type 0) (c : Compares R) (same : (n : ℕ) → R n n) where
  -- one slot
  slot_spends : {A : Type 0} (P : A → Type 0) (n : ℕ) (b : Bool) (f : Answered → Host A) → ((a : Answered) → Spends R P 0 n (f a)) → Spends R P 0 (1 + n) (ask (slot_event b) f)
  unfolding pick
  slot_spends P n true f k = spends_ask R c P 0 1 0 n (slot_event true) f (same 0) (same 1) k
  slot_spends P n false f k = spends_ask R c P 0 1 0 n (slot_event false) f (same 0) (same 1) k

  -- a reset
  reset_spends : {A : Type 0} (P : A → Type 0) (r s : ℕ) (f : Answered → Host A) → ((a : Answered) → Spends R P r s (f a)) → Spends R P (1 + r) (0 + s) (ask reset_event f)
  unfolding pick
  reset_spends P r s f k = spends_ask R c P 1 0 r s reset_event f (same 1) (same 0) k

  -- bits written
  pub write_spends : (n i x : ℕ) → Spends R Anything 0 n (write n i x)
  unfolding write
  write_spends zero i x = spends_done R c Anything tt tt
  write_spends (suc n) i x = respent R Anything 0 (1 + n) 0 (suc n) _ refl (omega arith) (slot_spends Anything n (bit_of x i) _ (λ a. write_spends n (i + 1) x))

-- ---- the pages

-- bits read
bits_spend : (n x : ℕ) → Spends (λ a b. a ≡ b) Anything 0 n (read_bits n x)
unfolding read_bits
bits_spend zero x = spends_done _ equal Anything x tt
bits_spend (suc n) x = respent _ Anything 0 (1 + n) 0 (suc n) _ refl (omega arith) (slot_spends _ equal (λ n. refl) Anything n true _ (λ a. bits_spend n (filled 0x80 x (heard a))))

-- a list has so many numbers
abbrev Long : ℕ → List ℕ → Type 0
Long n xs = length xs ≡ n

bytes_spend : (n : ℕ) (out : List ℕ) → Spends (λ a b. a ≡ b) (Long (length out + n)) 0 (8 * n) (read_bytes n out)
unfolding read_bytes
bytes_spend zero out = spends_done _ equal (Long (length out + 0)) out (omega arith)
bytes_spend (suc n) out =
    respent _ (Long (length out + suc n)) 0 (8 + 8 * n) 0 (8 * suc n) _ refl (omega arith)
    (spends_bind _ equal Anything (Long (length out + suc n)) 0 8 0 (8 * n) (read_bits 8 0) (λ (b : ℕ). read_bytes n (out ++ (b ∷ []))) (bits_spend 8 0)
    (λ b u. subst (λ (k : ℕ). Spends (λ x y. x ≡ y) (Long k) 0 (8 * n) (read_bytes n (out ++ (b ∷ []))))
    (ap (λ (k : ℕ). k + n) (length-append out (b ∷ [])) ∙ next n) (bytes_spend n (out ++ (b ∷ [])))))
  where
    next : (n : ℕ) → length out + 1 + n ≡ length out + suc n
    next n = omega arith

-- bits written, and 32 bytes read in the end
then_bytes : (n i x s : ℕ) (g : Unit {0} → Host (List ℕ)) → Spends (λ a b. a ≡ b) (Long 32) 0 s (g tt) → Spends (λ a b. a ≡ b) (Long 32) 0 (n + s) (bind (write n i x) g)
then_bytes n i x s g k = spends_bind _ equal Anything (Long 32) 0 n 0 s (write n i x) g (write_spends _ equal (λ m. refl) n i x) (λ u p. k)

-- a page: a reset, 352 slots, 32 bytes
pub page_spends : (code : ℕ) → Spends (λ a b. a ≡ b) (Long 32) 1 352 (read_page code)
unfolding read_page
page_spends code =
    reset_spends _ equal (λ m. refl) (Long 32) 0 352 _
    (λ a. then_bytes 8 0 0x55 344 _ (then_bytes 64 0 code 280 _ (then_bytes 8 0 0xF0 272 _ (then_bytes 8 0 0x00 264 _ (then_bytes 8 0 0x00 256 _ (bytes_spend 32 []))))))

-- as many pages as there are codes
pub pages_spend : (codes out : List ℕ) → Spends (λ a b. a ≡ b) (Long (length out + 32 * length codes)) (length codes) (352 * length codes) (read_pages codes out)
unfolding read_pages
pages_spend [] out = spends_done _ equal (Long (length out + 32 * 0)) out (omega arith)
pages_spend (code ∷ codes) out =
    let n = length codes in
    let whole = Long (length out + 32 * suc n) in
    respent _ whole (1 + n) (352 + 352 * n) (suc n) (352 * suc n) _ (omega arith) (omega arith)
    (spends_bind _ equal (Long 32) whole 1 352 n (352 * n) (read_page code) (λ (page : List ℕ). read_pages codes (out ++ page)) (page_spends code)
    (λ page e. subst (λ (k : ℕ). Spends (λ x y. x ≡ y) (Long k) n (352 * n) (read_pages codes (out ++ page)))
    (ap (λ (k : ℕ). k + 32 * n) (length-append out page ∙ ap (λ (k : ℕ). length out + k) e) ∙ next n) (pages_spend codes (out ++ page))))
  where
    next : (n : ℕ) → length out + 32 + 32 * n ≡ length out + 32 * suc n
    next n = omega arith

-- ---- the search

-- a host that is done spends no more than anything
free : {A : Type 0} (P : A → Type 0) (r s : ℕ) (a : A) → P a → Spends (λ x y. x ≤ y) P r s (done a)
unfolding play
free P r s a p = record { resets = λ W l. omega arith; slots = λ W l. omega arith; comes = λ W l. p }

-- a pass, whatever it is answered
pass_spends : (n : ℕ) (p : UnderWay) → Spends (λ a b. a ≤ b) Anything 0 (3 * n) (pass n p)
unfolding pass
pass_spends zero p = free Anything 0 (3 * 0) _ tt
pass_spends (suc n) p =
    respent _ Anything 0 (1 + (1 + (1 + 3 * n))) 0 (3 * suc n) _ refl (omega arith)
    (one (1 + (1 + 3 * n)) true _ (λ x. one (1 + 3 * n) true _ (λ y.
    pick_both (λ (h : Host End). Spends (λ a b. a ≤ b) Anything 0 (1 + 3 * n) h) _ _ _ (free Anything 0 (1 + 3 * n) _ tt) (one (3 * n) _ _ (λ z. pass_spends n _)))))
  where
    one : (k : ℕ) (b : Bool) (f : Answered → Host End) → ((a : Answered) → Spends (λ x y. x ≤ y) Anything 0 k (f a)) → Spends (λ x y. x ≤ y) Anything 0 (1 + k) (ask (slot_event b) f)
    one k b f = slot_spends _ at_most (λ m. omega arith) Anything k b f

-- at most so many codes are listed
abbrev Few : ℕ → Listed → Type 0
Few n f = length f.codes ≤ n

-- the passes of a search with n places left
passes_spend : (n want : ℕ) (out : List ℕ) → Spends (λ a b. a ≤ b) (Few (length out + n)) (n + 1) (200 * n) (passes n want out)
unfolding passes
passes_spend zero want out =
    respent _ (Few (length out + 0)) (1 + 0) (0 + 0) (0 + 1) (200 * 0) _ (omega arith) (omega arith)
    (reset_spends _ at_most (λ m. omega arith) (Few (length out + 0)) 0 0 _
    (λ x. pick_both (λ (h : Host Listed). Spends (λ a b. a ≤ b) (Few (length out + 0)) 0 0 h) _ _ _ (free _ 0 0 _ (omega arith)) (free _ 0 0 _ (omega arith))))
passes_spend (suc n) want out =
    respent _ P (1 + (0 + (0 + (n + 1)))) (0 + (8 + (192 + 200 * n))) (suc n + 1) (200 * suc n) _ (omega arith) (omega arith)
    (reset_spends _ at_most (λ m. omega arith) P (0 + (0 + (n + 1))) (8 + (192 + 200 * n)) _
    (λ x. pick_both (S (0 + (0 + (n + 1))) (8 + (192 + 200 * n))) _ _ _ (free P _ _ _ (omega arith))
    (spends_bind _ at_most Anything P 0 8 (0 + (n + 1)) (192 + 200 * n) (write 8 0 0xF0) _ (write_spends _ at_most (λ m. omega arith) 8 0 0xF0)
    (λ u p. spends_bind _ at_most Anything P 0 192 (n + 1) (200 * n) (pass 64 (begun want)) _ (pass_spends 64 (begun want))
    (λ e q. pick_both (S (n + 1) (200 * n)) _ _ _
    (pick_both (S (n + 1) (200 * n)) _ _ _ (free P _ _ _ (longer e.path))
    (pick_both (S (n + 1) (200 * n)) _ _ _ (free P _ _ _ (longer e.path)) (again (up_to (e.last - 1) e.path) e.path (passes_spend n _ _))))
    (free P _ _ _ (omega arith)))))))
  where
    P : Listed → Type 0
    P = Few (length out + suc n)

    S : ℕ → ℕ → Host Listed → Type 1
    S r s h = Spends (λ a b. a ≤ b) P r s h

    longer : (path : ℕ) → length (out ++ (path ∷ [])) ≤ length out + suc n
    longer path = let e = length-append out (path ∷ []) in omega arith

    again : (w path : ℕ) → Spends (λ a b. a ≤ b) (Few (length (out ++ (path ∷ [])) + n)) (n + 1) (200 * n) (passes n w (out ++ (path ∷ []))) → S (n + 1) (200 * n) (passes n w (out ++ (path ∷ [])))
    again w path s =
        let e : length (out ++ (path ∷ [])) + n ≡ length out + suc n = let k = length-append out (path ∷ []) in omega arith in
        subst (λ (k : ℕ). Spends (λ a b. a ≤ b) (Few k) (n + 1) (200 * n) (passes n w (out ++ (path ∷ [])))) e s

-- THEOREM: on every line, whatever it answers, a search lists at most 16 codes and puts at most 17 resets and 3,200 slots on it
pub search_spends : (places : ℕ) → Spends (λ a b. a ≤ b) (Few 16) 17 3200 (search_host places)
search_spends places =
    let s = passes_spend (capped places) 0 [] in
    let k = (capped_few places).0 in
    record {
      resets = λ W l. let m = s.resets W l in omega arith;
      slots = λ W l. let m = s.slots W l in omega arith;
      comes = λ W l. let m = s.comes W l in omega arith;
    }
