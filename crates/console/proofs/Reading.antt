-- What reads into one buffer, one after the other, have taken of the bytes that a reader has left.
use Rattle.std.proofs.Common.{ℕ, ◌+◌, ◌≤◌, ◌≡◌, ◌∙◌, ap, sym, subst, List, ◌++◌, length, take, drop, append_assoc, length-take-le, Option, None, Some}
use Rattle.std.proofs.Math.Seq.{take-append-add, take-append-le, take-take, drop_at}
use Rattle.std.proofs.Math.ListN.{take-append-drop}
use Rattle.std.specs.Io.KnownBytes.{Consumes}
use borrow.Rule.Slice.PartMut.{put_mid, post_of}

-- two reads, one after the other
pub consumed_on : (a b c : Option (List ℕ)) (xs ys : List ℕ) → Consumes a b xs → Consumes b c ys → Consumes a c (xs ++ ys)
consumed_on None b c xs ys h k = tt
consumed_on (Some x) None c xs ys h k = absurd h
consumed_on (Some x) (Some y) None xs ys h k = absurd k
consumed_on (Some x) (Some y) (Some z) xs ys h k = h ∙ ap (λ (l : List ℕ). xs ++ l) k ∙ sym (append_assoc xs ys z)

-- bytes that a read put behind so many others
module _ (held k n : ℕ) (bytes new : List ℕ) (h : held ≤ length bytes) (l : n ≤ length new) where
  pub taken_on : take (held + n) (put_mid held k bytes new) ≡ take held bytes ++ take n new
  taken_on =
      let front : length (take held bytes) ≡ held = length-take-le held bytes h in
      ap (λ (m : ℕ). take (m + n) (put_mid held k bytes new)) (sym front)
      ∙ take-append-add (take held bytes) (new ++ post_of held k bytes) n
      ∙ ap (λ (m : List ℕ). take held bytes ++ m) (take-append-le n new (post_of held k bytes) l)

  pub dropped_on : drop held (take (held + n) (put_mid held k bytes new)) ≡ take n new
  dropped_on = ap (λ (m : List ℕ). drop held m) taken_on ∙ drop_at (take held bytes) (take n new) held (length-take-le held bytes h)

-- a read that puts its bytes behind those that earlier ones put
pub read_on : (a b c : Option (List ℕ)) (held n : ℕ) (old new : List ℕ) → held ≤ n → take held new ≡ take held old → Consumes a b (take held old) → Consumes b c (drop held (take n new)) → Consumes a c (take n new)
read_on a b c held n old new h e k l =
    let front : take held (take n new) ≡ take held old = take-take held n new h ∙ e in
    let whole : take held old ++ drop held (take n new) ≡ take n new = ap (λ (m : List ℕ). m ++ drop held (take n new)) (sym front) ∙ take-append-drop held (take n new) in
    subst (λ (m : List ℕ). Consumes a c m) whole (consumed_on a b c (take held old) (drop held (take n new)) k l)
