-- Laws: what the code cites of a record that is put, and of bytes that are fewer than a record has.
use Rattle.std.specs.Prelude.{ℕ, zero, suc, ◌+◌, ◌<◌, ◌≤◌, true, List, [], ◌∷◌, ◌++◌, ◌≡◌, refl, leb, ltb, length, take, drop, get_or, replicate}
use Rattle.std.proofs.Common.{◌∙◌, ap, sym, get_or-drop, le-leb}
use Rattle.std.proofs.Math.Seq.{take-length}
use Rattle.std.proofs.lemmas.Bool.{lt-leb, ltb-true}
use Rattle.std.proofs.lemmas.List.{get_or-take}
use Rattle.base.specs.Pick.{pick_true, pick_false}
use Rattle.chip.specs.declared.Chip.{Chip}
use Rattle.packed.specs.Packed.{record_size, packed, unpacked, put_record}

-- a record that was put in the place of the first bytes
pub record_put : (c : Chip) (r s : List ℕ) → r ≡ packed c → record_size ≤ length s → r ++ drop record_size s ≡ put_record c s
unfolding put_record
record_put c r s e h =
    ap (λ (l : List ℕ). l ++ drop record_size s) e
    ∙ sym (pick_true (leb record_size (length s)) (packed c ++ drop record_size s) s (le-leb record_size (length s) h))

pub record_left : (c : Chip) (s : List ℕ) → length s < record_size → s ≡ put_record c s
unfolding put_record
record_left c s h = sym (pick_false (leb record_size (length s)) (packed c ++ drop record_size s) s (lt-leb record_size (length s) h))

-- the first bytes, as many as a record has, stand for the same chip
pub first_unpacked : (s x : List ℕ) → x ≡ take record_size s → unpacked x ≡ unpacked s
unfolding unpacked
first_unpacked s x e =
    let yes : true ≡ true = refl in
    let g : (k : ℕ) → ltb k record_size ≡ true → get_or (take record_size s) k 0 ≡ get_or s k 0 = λ k h. get_or-take record_size s k 0 (ltb-true k record_size h) in
    ap (λ (l : List ℕ). unpacked l) e ∙ (simp (g, yes))

-- bytes with zeros after them stand for the same chip
abbrev pub zeros_of : ℕ → List ℕ
zeros_of n = replicate n 0

zeros : (n j : ℕ) → get_or (zeros_of n) j 0 ≡ 0
zeros zero j = refl
zeros (suc n) zero = refl
zeros (suc n) (suc j) = zeros n j

zeros_after : (s zs : List ℕ) → ((k : ℕ) → get_or zs k 0 ≡ 0) → (k : ℕ) → get_or (s ++ zs) k 0 ≡ get_or s k 0
zeros_after [] zs h k = h k
zeros_after (x ∷ s) zs h zero = refl
zeros_after (x ∷ s) zs h (suc k) = zeros_after s zs h k

pub zeros_unpacked : (s x : List ℕ) → x ≡ take (length s) s ++ drop (length s) (zeros_of record_size) → unpacked x ≡ unpacked s
unfolding unpacked
zeros_unpacked s x e =
    let zs = drop (length s) (zeros_of record_size) in
    let g : (k : ℕ) → get_or (s ++ zs) k 0 ≡ get_or s k 0 = zeros_after s zs (λ k. get_or-drop (length s) (zeros_of record_size) k 0 ∙ zeros record_size (length s + k)) in
    let f : x ≡ s ++ zs = e ∙ ap (λ (l : List ℕ). l ++ zs) (take-length s) in
    ap (λ (l : List ℕ). unpacked l) f ∙ (simp g)
