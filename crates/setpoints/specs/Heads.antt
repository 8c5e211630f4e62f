-- A law: the head of the record at a page's first byte gives the length and the kind of the page.
use Rattle.std.specs.Prelude.{ℕ, ◌-◌, false, List, Option, None, Some, ◌≡◌, leb, ltb, length}
use Rattle.std.proofs.Common.{arith, ◌∙◌, le-ltb}
use Rattle.std.proofs.lemmas.Bool.{lt-leb}
use Rattle.base.specs.Pick.{pick_false, pick_of, pick_same}
use Rattle.records.specs.Records.{head_at}
use Rattle.records.specs.declared.Head.{Head}
use Rattle.records.specs.declared.Head.TheVariants.{End, Short, Cut, Whole}
use Rattle.setpoints.specs.Pages.{page_size, length_in, kind_in}

-- the length and the kind that a head gives; nothing and a beginning give none
abbrev pub said_by : Head → Option (ℕ × ℕ)
said_by End = None
said_by Short = None
said_by (Cut size kind) = Some (size, kind)
said_by (Whole size kind body next) = Some (size, kind)

unfoldable pub said_in : List ℕ → Option (ℕ × ℕ)
said_in page = said_by (head_at page 0)

-- a page gives both
pub said_page : (page : List ℕ) → length page ≡ page_size → said_in page ≡ Some (length_in page, kind_in page)
unfolding said_in head_at
said_page page e =
    let n : leb (length page) 0 ≡ false = lt-leb (length page) 0 (omega arith) in
    let m : ltb (length page - 0) 4 ≡ false = le-ltb (length page - 0) 4 (omega arith) in
    pick_of said_by _ _ _ ∙ pick_false _ _ _ n
    ∙ pick_of said_by _ _ _ ∙ pick_false _ _ _ m
    ∙ pick_of said_by _ _ _ ∙ pick_same _ _
