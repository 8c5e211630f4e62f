use Rattle.std.proofs.Common.{ℕ, ◌/◌, ◌%◌, List, ◌∷◌, ◌≡◌, get_or, ap, ◌∙◌, append-nil, rules}
use Rattle.intelhex.specs.Written.{data_record}
use Rattle.intelhex.proofs.writers.data_record_of.Goals as goal

pub returns : goal.returns
unfolding data_record
returns c =
    let a = c.args.address in
    let e = c.to_be_bytes.ensures in
    let fits = c.ranges.address.fits in
    let small : a / 256 % 256 ≡ a / 256 = search (rules, fits) in
    let high : get_or c.to_be_bytes.result 0 0 ≡ a / 256 = ap (λ (bs : List ℕ). get_or bs 0 0) e ∙ small in
    let low : get_or c.to_be_bytes.result 1 0 ≡ a % 256 = ap (λ (bs : List ℕ). get_or bs 1 0) e in
    λ j. 16 ∷ high j ∷ low j ∷ 0 ∷ (append-nil _ ∙ c.copy_from_slice.ensures.after) j
