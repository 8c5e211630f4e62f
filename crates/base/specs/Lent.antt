-- What a caller lends: something behind a reference, wherever it lies. Theorems that there are such calls lend by it.
use Rattle.std.specs.Borrow.{Bor, MutBor}

-- what is lent to be read
abbrev pub lent_as : {X : Type 0} → X → Bor X
lent_as x = record { ref_ptr = (0, 0); now = x }

-- what is lent to be changed
abbrev pub lent_to_change : {X : Type 0} → X → MutBor X
lent_to_change x = record { ref_ptr = (0, 0); ghost_name = 0; now = x }
