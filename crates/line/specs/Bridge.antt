-- Laws: a loop over a table and its buffers, which threads the places where a chip's parts begin, is the meaning over whole chips.
use Rattle.std.specs.Prelude.{ℕ, ◌+◌, ◌≤◌, Bool, true, List, ◌++◌, ◌≡◌, leb, length, take, drop}
use Rattle.std.proofs.Common.{arith, append_assoc, ◌∙◌, ap, sym, take-append-drop, length-append, le-leb}
use Rattle.std.proofs.Math.Seq.{take_at, drop_at}
use Rattle.base.specs.Pick.{pick, pick_true}
use Rattle.chip.specs.Chip.{Whole, whole, sends_of}
use Rattle.chip.specs.Kinds.{image_size, pad_size}
use Rattle.chip.specs.declared.Chip.{Chip}

-- a part of a buffer, and the buffer with that part replaced
abbrev pub part_of : List ℕ → ℕ → ℕ → List ℕ
part_of l at n = take n (drop at l)

abbrev pub put_part : List ℕ → ℕ → ℕ → List ℕ → List ℕ
put_part l at n x = take at l ++ (x ++ drop n (drop at l))

-- a chip with its parts of the buffers
abbrev pub whole_at : Chip → ℕ → ℕ → List ℕ → List ℕ → Whole
whole_at c image pad ms ss = whole c (part_of ms image (image_size c.kind)) (part_of ss pad (pad_size c.kind))

-- both parts lie in the buffers
abbrev pub choose {ℓ} : {A : Type ℓ} → Chip → ℕ → ℕ → List ℕ → List ℕ → A → A → A
choose c image pad ms ss a b =
    pick (leb (image + image_size c.kind) (length ms)) (pick (leb (pad + pad_size c.kind) (length ss)) a b) b

module _ (c : Chip) (image pad : ℕ) (A B S T : List ℕ) (p : length A ≡ image) (q : length S ≡ pad) (h : image_size c.kind ≤ length B) (k : pad_size c.kind ≤ length T) where
  parts_fit : {X : Type 0} (a b : X) → choose c image pad (A ++ B) (S ++ T) a b ≡ a
  parts_fit a b =
      let u : leb (image + image_size c.kind) (length (A ++ B)) ≡ true = le-leb (image + image_size c.kind) (length (A ++ B)) (simp length-append (omega arith)) in
      let v : leb (pad + pad_size c.kind) (length (S ++ T)) ≡ true = le-leb (pad + pad_size c.kind) (length (S ++ T)) (simp length-append (omega arith)) in
      simp (u, v, pick_true)

  whole-at : whole_at c image pad (A ++ B) (S ++ T) ≡ whole c (take (image_size c.kind) B) (take (pad_size c.kind) T)
  whole-at = simp (drop_at A B image p, drop_at S T pad q)

module _ (f : Whole → Whole) where
  -- one chip of the loop
  unfoldable pub act_within : Chip → ℕ → ℕ → List ℕ → List ℕ → Whole
  act_within c image pad ms ss =
      let x = f (whole_at c image pad ms ss) in
      whole x.chip (put_part ms image (image_size c.kind) x.memory) (put_part ss pad (pad_size c.kind) x.pad)

  unfoldable pub act_at : Chip → ℕ → ℕ → List ℕ → List ℕ → Whole
  act_at c image pad ms ss = choose c image pad ms ss (act_within c image pad ms ss) (whole c ms ss)

  pub act-at : (c : Chip) (image pad : ℕ) (A B S T : List ℕ) → length A ≡ image → length S ≡ pad → image_size c.kind ≤ length B → pad_size c.kind ≤ length T
      → act_at c image pad (A ++ B) (S ++ T)
      ≡ (let x = f (whole c (take (image_size c.kind) B) (take (pad_size c.kind) T)) in
      whole x.chip (A ++ (x.memory ++ drop (image_size c.kind) B)) (S ++ (x.pad ++ drop (pad_size c.kind) T)))
  unfolding act_at act_within
  act-at c image pad A B S T p q h k =
      parts_fit c image pad A B S T p q h k _ _
      ∙ (simp (take_at A B image p, drop_at A B image p, take_at S T pad q, drop_at S T pad q))

-- one chip of the loop over what is sent
unfoldable pub bit_at : Chip → ℕ → ℕ → List ℕ → List ℕ → Bool
bit_at c image pad ms ss = choose c image pad ms ss (sends_of (whole_at c image pad ms ss)) true

pub bit-at : (c : Chip) (image pad : ℕ) (A B S T : List ℕ) → length A ≡ image → length S ≡ pad → image_size c.kind ≤ length B → pad_size c.kind ≤ length T
    → bit_at c image pad (A ++ B) (S ++ T) ≡ sends_of (whole c (take (image_size c.kind) B) (take (pad_size c.kind) T))
unfolding bit_at
bit-at c image pad A B S T p q h k =
    parts_fit c image pad A B S T p q h k _ _
    ∙ ap (λ (w : Whole). sends_of w) (whole-at c image pad A B S T p q h k)

pub regroup : (A B : List ℕ) (n : ℕ) → A ++ B ≡ A ++ take n B ++ drop n B
regroup A B n = ap (λ (l : List ℕ). A ++ l) (sym (take-append-drop n B)) ∙ sym (append_assoc A (take n B) (drop n B))
