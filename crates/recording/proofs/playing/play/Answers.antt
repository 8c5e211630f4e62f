use borrow.Author.Tests.{eq-eqb, ne_eqb}
use native.Mathlib.Omega.{arith}
use Prim.Native.Nat.{◌*◌}
use mathlib.Core.Path.{◌≡◌, ◌∙◌, ap, sym}
use lib.Dec.{eqb}
use lib.ListN.{length}
use Rattle.base.specs.Pick.{pick_true, pick_false}
use Rattle.recording.specs.Playing.{play_of}
use Rattle.recording.specs.PlayLoop.{handed_by}
use Rattle.recording.proofs.playing.play.Goals.{else-places-eq0-via-then-places-eq0+else-places-s, else-places-eq0-via-else-places-eq0}
use Rattle.recording.proofs.playing.play.Goals as goal

pub returns-then-places-s : goal.returns-then-places-s
unfolding play_of
returns-then-places-s c = let a = c.args in let h = c.if-places-s.true in let k = c.if-places-eq0.true in c.play_all.ensures ∙ sym (pick_true (eqb (length a.out.now) (8 * length a.s.now)) _ _ (eq-eqb (length a.out.now) (8 * length a.s.now) (omega arith)))

-- a text of another length
other_length : (c : goal.After-played) → length c.args.out.now ≡ 8 * length c.args.s.now → ⊥
other_length c e =
    elim c.else-places-eq0.branch [
      | else-places-eq0-via-then-places-eq0+else-places-s w ↦ let h = w.if-places-s.false in let k = w.if-places-eq0.true in h (omega arith)
      | else-places-eq0-via-else-places-eq0 w ↦ let k = w.if-places-eq0.false in k (omega arith)
    ]

pub returns : goal.returns
unfolding play_of
returns c =
    let a = c.args in
    ap (handed_by a.out.now a.ms.now a.ss.now) c.played.ensures
    ∙ sym (pick_false (eqb (length a.out.now) (8 * length a.s.now)) _ _ (ne_eqb (length a.out.now) (8 * length a.s.now) (other_length c)))
