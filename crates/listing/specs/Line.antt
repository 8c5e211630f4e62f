-- Laws of a line in a pass: the chips that take part are those whose codes agree with the path.
use Rattle.std.specs.Prelude.{ℕ, ◌+◌, ◌<◌, Bool, true, false, not, List, [], ◌∷◌, ◌≡◌, refl}
use Rattle.std.proofs.Common.{◌∙◌, ap, ap₂}
use Rattle.base.specs.Pick.{pick}
use Rattle.base.specs.Bits.{bit_of, same, both}
use Rattle.chip.specs.Chip.{Whole, takes_of}
use Rattle.line.specs.Line.{absent}
use Rattle.listing.specs.Order.{branch}
use Rattle.listing.specs.Branch.{is_nil}
use Rattle.listing.specs.Chip.{Part, Out, begun, code_takes, bit_sent, bit_taken, not_sent, not_taken, quiet, goes-on, drops_out, out_quiet, out_stays, part_stored, out_stored}
use Rattle.listing.specs.Slots.{sent, taken, opened, code_opened}
use Rattle.histories.specs.Histories.{codes_of, stores_of}

-- the chips of a line that take part have these codes, in this order, and are at slot s of place k; the others dropped out
pub data At (k s : ℕ) : List Whole → List ℕ → Type 0 where
  nobody : At k s [] []
  part : {w : Whole} {x : ℕ} {L : List Whole} {xs : List ℕ} → Part k s w → w.chip.code ≡ x → At k s L xs → At k s (w ∷ L) (x ∷ xs)
  gone : {w : Whole} {L : List Whole} {xs : List ℕ} → Out w → At k s L xs → At k s (w ∷ L) xs

-- after a reset and the command all take part
pub at_opened : (L : List Whole) → At 0 0 (opened L) (codes_of L)
at_opened [] = nobody
at_opened (w ∷ L) = part (begun w) (code_opened w) (at_opened L)

-- a line without chips is one without codes
pub absent_codes : (L : List Whole) → absent L ≡ is_nil (codes_of L)
absent_codes [] = refl
absent_codes (w ∷ L) = refl

-- one more bit in the AND, and one more code in the branch
bit_wired : (b : Bool) (x : ℕ) (xs : List ℕ) → both b (is_nil xs) ≡ is_nil (pick (same b false) (x ∷ xs) xs)
unfolding both same pick
bit_wired true x xs = refl
bit_wired false x xs = refl

-- the same of the complement
not_wired : (b : Bool) (x : ℕ) (xs : List ℕ) → both (not b) (is_nil xs) ≡ is_nil (pick (same b true) (x ∷ xs) xs)
unfolding both same pick
not_wired true x xs = refl
not_wired false x xs = refl

-- a 1 more in the AND
one_wired : (a b c : Bool) → a ≡ true → b ≡ c → both a b ≡ c
unfolding both pick
one_wired a b c e f = rw e f

-- at slot 0 the line is 1 if no code has a 0
pub bits_sent : (k : ℕ) {L : List Whole} {xs : List ℕ} → k < 64 → At k 0 L xs → sent L ≡ is_nil (branch false k xs)
unfolding sent branch
bits_sent k h nobody = refl
bits_sent k h (part {w} {x} {L} {xs} p e r) =
    ap₂ both (bit_sent k w h p ∙ ap (λ (n : ℕ). bit_of n k) e) (bits_sent k h r) ∙ bit_wired (bit_of x k) x (branch false k xs)
bits_sent k h (gone {w} o r) = one_wired _ _ _ (out_quiet w o) (bits_sent k h r)

-- at slot 1 it is 1 if no code has a 1
pub nots_sent : (k : ℕ) {L : List Whole} {xs : List ℕ} → k < 64 → At k 1 L xs → sent L ≡ is_nil (branch true k xs)
unfolding sent branch
nots_sent k h nobody = refl
nots_sent k h (part {w} {x} {L} {xs} p e r) =
    ap₂ both (not_sent k w h p ∙ ap (λ (n : ℕ). not (bit_of n k)) e) (nots_sent k h r) ∙ not_wired (bit_of x k) x (branch true k xs)
nots_sent k h (gone {w} o r) = one_wired _ _ _ (out_quiet w o) (nots_sent k h r)

-- at slot 2 it is 1
pub all_quiet : (k : ℕ) {L : List Whole} {xs : List ℕ} → k < 64 → At k 2 L xs → sent L ≡ true
unfolding sent
all_quiet k h nobody = refl
all_quiet k h (part {w} p e r) = one_wired _ _ _ (quiet k w h p) (all_quiet k h r)
all_quiet k h (gone {w} o r) = one_wired _ _ _ (out_quiet w o) (all_quiet k h r)

-- after slot 0 they are at slot 1
pub bits_taken : (k : ℕ) (v : Bool) {L : List Whole} {xs : List ℕ} → k < 64 → At k 0 L xs → At k 1 (taken v L) xs
bits_taken k v h nobody = nobody
bits_taken k v h (part {w} p e r) = part (bit_taken k v w h p) (code_takes v w ∙ e) (bits_taken k v h r)
bits_taken k v h (gone {w} o r) = gone (out_stays v w o) (bits_taken k v h r)

-- after slot 1 they are at slot 2
pub nots_taken : (k : ℕ) (v : Bool) {L : List Whole} {xs : List ℕ} → k < 64 → At k 1 L xs → At k 2 (taken v L) xs
nots_taken k v h nobody = nobody
nots_taken k v h (part {w} p e r) = part (not_taken k v w h p) (code_takes v w ∙ e) (nots_taken k v h r)
nots_taken k v h (gone {w} o r) = gone (out_stays v w o) (nots_taken k v h r)

-- one chip at slot 2, by whether its bit is the one written
written : (k : ℕ) (v : Bool) (w : Whole) (x : ℕ) (L : List Whole) (xs : List ℕ) (t : Bool) → k < 64 → Part k 2 w → w.chip.code ≡ x
    → same (bit_of w.chip.code k) v ≡ t → At (k + 1) 0 L xs → At (k + 1) 0 (takes_of v w ∷ L) (pick t (x ∷ xs) xs)
unfolding pick
written k v w x L xs true h p e q r = part (goes-on k v w h p q) (code_takes v w ∙ e) r
written k v w x L xs false h p e q r = gone (drops_out k v w h p q) r

-- after slot 2 those of the branch are at the next place
pub bit_written : (k : ℕ) (v : Bool) {L : List Whole} {xs : List ℕ} → k < 64 → At k 2 L xs → At (k + 1) 0 (taken v L) (branch v k xs)
unfolding branch
bit_written k v h nobody = nobody
bit_written k v h (part {w} {x} {L} {xs} p e r) =
    written k v w x (taken v L) (branch v k xs) (same (bit_of x k) v) h p e (ap (λ (n : ℕ). same (bit_of n k) v) e) (bit_written k v h r)
bit_written k v h (gone {w} o r) = gone (out_stays v w o) (bit_written k v h r)

-- a slot of a place leaves what the chips store
pub at_stored : (k s : ℕ) (v : Bool) {L : List Whole} {xs : List ℕ} → k < 64 → At k s L xs → stores_of (taken v L) ≡ stores_of L
at_stored k s v h nobody = refl
at_stored k s v h (part {w} p e r) = ap₂ ◌∷◌ (part_stored k s v w h p) (at_stored k s v h r)
at_stored k s v h (gone {w} o r) = ap₂ ◌∷◌ (out_stored v w o) (at_stored k s v h r)
