-- Laws: a record put byte by byte at the start of a page.
use Rattle.std.specs.Prelude.{ℕ, zero, suc, ◌+◌, ◌/◌, ◌%◌, ◌<◌, Bool, true, false, List, [], ◌∷◌, ◌++◌, ◌≡◌, refl, ℤ, nat_abs, length, set, Ok, Err}
use Rattle.std.proofs.Common.{arith, ◌∙◌, eq-eqb, ne_eqb, SFits, to_z, of_z}
use Rattle.std.proofs.Math.Path.{ap, sym}
use Rattle.std.proofs.Math.IntN.{pos}
use Rattle.std.proofs.Math.ListN.{drop}
use mir.Syntax.{w64}
use Rattle.std.proofs.lemmas.Int.{to_z-of_z}
use Rattle.base.specs.Pick.{pick_true, pick_false}
use Rattle.setpoints.specs.Kinds.{Form, form_of, allowed}
use Rattle.setpoints.specs.Pages.{page_size, length_of, record_of, wrote, write_page}
use Rattle.setpoints.specs.Judging.{allowed_few, is_allowed}
use Rattle.setpoints.specs.declared.Fault.TheVariants.{WrongLength, OutOfRange}
use Rattle.setpoints.specs.declared.Kind.{Kind}
use Rattle.setpoints.specs.declared.Kind.TheVariants.{Degrees, Tenths}

-- so many bytes of a number put from an offset on
abbrev pub put_bytes : ℕ → ℕ → ℕ → List ℕ → List ℕ
put_bytes zero at n s = s
put_bytes (suc k) at n s = put_bytes k (at + 1) (n / 256) (set s at (n % 256))

-- length and kind, and the body after them
abbrev pub put_head : ℕ → ℕ → List ℕ → List ℕ
put_head size kind s = put_bytes 2 2 kind (put_bytes 2 0 size s)

unfoldable pub put_record : Form → ℕ → List ℕ → List ℕ
put_record f n s = put_bytes f.bytes 4 n (put_head (length_of f) f.kind s)

-- two bytes hold all of a number of 16 bits
pub put_pair : (at n : ℕ) (s : List ℕ) → n < 0x10000 → set (set s at (n % 256)) (at + 1) (n / 256) ≡ put_bytes 2 at n s
put_pair at n s h = let e : n / 256 ≡ n / 256 % 256 = omega arith in ap (λ (b : ℕ). set (set s at (n % 256)) (at + 1) b) e

-- the body of a kind is put last
module _ (kind : Kind) (n : ℕ) (s : List ℕ) (p : List ℕ) (h : p ≡ put_head (length_of (form_of kind)) (form_of kind).kind s) where
  after_head : (k : Kind) → kind ≡ k → put_bytes (form_of k).bytes 4 n p ≡ put_record (form_of kind) n s
  unfolding put_record
  after_head k e = λ j. put_bytes (form_of (sym e j)).bytes 4 n (h j)

  pub put_degrees : kind ≡ Degrees → set p 4 (n % 256) ≡ put_record (form_of kind) n s
  put_degrees e = after_head Degrees e

  pub put_tenths : kind ≡ Tenths → put_bytes 2 4 n p ≡ put_record (form_of kind) n s
  put_tenths e = after_head Tenths e

-- on a page that is the record, and then what stood behind it
pub put_is : (kind : Kind) (n : ℕ) (s : List ℕ) → length s ≡ page_size
    → put_record (form_of kind) n s ≡ record_of (form_of kind) (pos n) ++ drop (4 + (form_of kind).bytes) s
unfolding put_record
put_is Degrees n (a ∷ b ∷ c ∷ d ∷ e ∷ s) h = refl
put_is Tenths n (a ∷ b ∷ c ∷ d ∷ e ∷ f ∷ s) h = refl
put_is Tenths n (a ∷ b ∷ c ∷ d ∷ e ∷ []) h = absurd (let z : 5 ≡ 32 = h in omega arith)
put_is kind n (a ∷ b ∷ c ∷ d ∷ []) h = absurd (let z : 4 ≡ 32 = h in omega arith)
put_is kind n (a ∷ b ∷ c ∷ []) h = absurd (let z : 3 ≡ 32 = h in omega arith)
put_is kind n (a ∷ b ∷ []) h = absurd (let z : 2 ≡ 32 = h in omega arith)
put_is kind n (a ∷ []) h = absurd (let z : 1 ≡ 32 = h in omega arith)
put_is kind n [] h = absurd (let z : 0 ≡ 32 = h in omega arith)

-- ---- what a writer leaves
module _ (kind : Kind) (v : ℤ) (page : List ℕ) where
  pub wrote_nothing : (length page ≡ page_size → ⊥) → wrote (Err WrongLength) page ≡ write_page (form_of kind) v page
  unfolding write_page
  wrote_nothing n = sym (pick_false _ _ _ (ne_eqb (length page) page_size n))

  module _ (r : Bool) (f : SFits w64 v) (e : length page ≡ page_size) (a : r ≡ allowed (form_of kind) (to_z w64 (of_z w64 v))) where
    pub wrote_none : r ≡ false → wrote (Err OutOfRange) page ≡ write_page (form_of kind) v page
    unfolding write_page
    wrote_none t = sym (pick_true _ _ _ (eq-eqb (length page) page_size e) ∙ pick_false _ _ _ (is_allowed kind v r f a ∙ t))

    pub wrote_record : (q : List ℕ) → r ≡ true → q ≡ put_record (form_of kind) (nat_abs (to_z w64 (of_z w64 v))) page → wrote (Ok tt) q ≡ write_page (form_of kind) v page
    unfolding write_page
    wrote_record q t h =
        let p = allowed_few kind v (is_allowed kind v r f a ∙ t) in
        let z : pos (nat_abs (to_z w64 (of_z w64 v))) ≡ v = ap (λ (x : ℤ). pos (nat_abs x)) (to_z-of_z w64 v f) ∙ p.0 in
        ap (wrote (Ok tt)) (h ∙ put_is kind _ page e ∙ ap (λ (x : ℤ). record_of (form_of kind) x ++ drop (4 + (form_of kind).bytes) page) z)
        ∙ sym (pick_true _ _ _ (eq-eqb (length page) page_size e) ∙ pick_true _ _ _ (is_allowed kind v r f a ∙ t))

pub ruleset writings = (wrote_nothing, wrote_none, wrote_record)
