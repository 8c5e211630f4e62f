-- Laws: one pass, played on a line, finds the next code, and knows whether another pass is due.
use Rattle.std.specs.Prelude.{ℕ, zero, suc, ◌+◌, ◌*◌, ◌%◌, ◌^◌, ◌<◌, ◌≤◌, Bool, true, false, ◌≡◌, refl}
use Rattle.std.proofs.Common.{arith, mod-eq_of_lt, true≢false, ◌∙◌, ap, sym}
use mathlib.Core.List.{List, [], ◌∷◌, Memᴰ}
use Rattle.base.specs.Pick.{pick, pick_false}
use Rattle.base.specs.Bits.{bit_of, both}
use Rattle.chip.specs.Chip.{Whole}
use Rattle.search.specs.Host.{Host, Played, played, End, end, more, play, under_way, pass, turn, mark, put}
use Rattle.search.specs.Counts.{more_more}
use Rattle.search.specs.Pass.{mark_le}
use Rattle.histories.specs.Below.{Codes}
use Rattle.histories.specs.Histories.{line_wire, codes_of, stores_of}
use Rattle.listing.specs.Order.{branch}
use Rattle.listing.specs.Branch.{is_nil, branch_in, some_branch, Low, low_next}
use Rattle.listing.specs.Rest.{rest, Outcome, ended, at_place}
use Rattle.listing.specs.Slots.{sent, taken, read_played, write-played, codes_taken, opened}
use Rattle.listing.specs.Line.{At, at_opened, bits_sent, nots_sent, all_quiet, bits_taken, nots_taken, bit_written, at_stored}

-- the line after the three slots of a place
abbrev three : Bool → Bool → Bool → List Whole → List Whole
three a b d L = taken d (taken b (taken a L))

-- it has the codes that it had
codes_three : (a b d : Bool) (L : List Whole) → codes_of (three a b d L) ≡ codes_of L
codes_three a b d L = codes_taken d (taken b (taken a L)) ∙ codes_taken b (taken a L) ∙ codes_taken a L

-- one slot and one and one are three
thrice : {A L : Type 0} (p : Played A L) → more 0 1 (more 0 1 (more 0 1 p)) ≡ more 0 3 p
thrice p = ap (more 0 1) (more_more 0 1 0 1 p) ∙ more_more 0 1 0 2 p

-- a place at which a and b are read, not both 1, and d is written
place_played : (n k want path last : ℕ) (L : List Whole) (a b d : Bool)
    → sent L ≡ a → sent (taken a L) ≡ b → sent (taken b (taken a L)) ≡ true → both a b ≡ false → turn a b (bit_of want k) ≡ d
    → play line_wire (pass (suc n) (under_way k want path last)) L
    ≡ more 0 3 (play line_wire (pass n (under_way (k + 1) want (put d k path) (mark a b (bit_of want k) k last))) (three a b d L))
unfolding pass
place_played n k want path last L a b d ea eb eq nt ed =
    read_played a _ L ea
    ∙ ap (more 0 1) (read_played b _ (taken a L) eb
    ∙ ap (more 0 1) (ap (λ (h : Host End). play line_wire h (taken b (taken a L))) (pick_false (both a b) _ _ nt ∙ rw ed)
    ∙ write-played d (λ z. pass n (under_way (k + 1) want (put d k path) (mark a b (bit_of want k) k last))) (taken b (taken a L)) eq))
    ∙ thrice _

-- what a whole pass of n places comes to
abbrev pass_played : ℕ → ℕ → ℕ → List Whole → Played End (List Whole)
pass_played n c m L = played (end c m true) L 0 (3 * n)

-- n more places of a pass, from place k on, on a line where the chips that take part have the codes xs: the code that is found,
-- the mark, and the line that is left
pub record Passed (n k want path last : ℕ) (xs : List ℕ) (L : List Whole) : Type 0 where
  pub found : ℕ
  pub marked : ℕ
  pub after : List Whole
  pub here : Memᴰ found xs
  pub kept : codes_of after ≡ codes_of L
  pub stores : stores_of after ≡ stores_of L
  pub played : play line_wire (pass n (under_way k want path last)) L ≡ pass_played n found marked after
  pub outcome : Outcome n k want last marked found xs

-- in the direction that the host takes there is a code
turn_some : (a b t d : Bool) (k : ℕ) (xs : List ℕ) → is_nil (branch false k xs) ≡ a → is_nil (branch true k xs) ≡ b → both a b ≡ false → turn a b t ≡ d → is_nil (branch d k xs) ≡ false
unfolding both pick
turn_some true b t d k xs ea eb h e = rw (← e) (eb ∙ h)
turn_some false true t d k xs ea eb h e = rw (← e) ea
turn_some false false true d k xs ea eb h e = rw (← e) eb
turn_some false false false d k xs ea eb h e = rw (← e) ea

-- both bits are read as 1 only if nobody takes part
answered : (k : ℕ) (xs : List ℕ) (a b : Bool) → is_nil xs ≡ false → is_nil (branch false k xs) ≡ a → is_nil (branch true k xs) ≡ b → both a b ≡ false
unfolding both pick
answered k xs true true s ea eb = sym (some_branch k xs ea eb) ∙ s
answered k xs true false s ea eb = refl
answered k xs false b s ea eb = refl

-- three slots more
three_more : (n c m : ℕ) (L : List Whole) → more 0 3 (pass_played n c m L) ≡ pass_played (suc n) c m L
three_more n c m L = let e : 3 + 3 * n ≡ 3 * suc n = omega arith in λ i. played (end c m true) L 0 (e i)

-- one place, and what the others come to
place : (n k want path last : ℕ) (xs : List ℕ) (L : List Whole) (a b d : Bool)
    → k < 64 → is_nil (branch false k xs) ≡ a → is_nil (branch true k xs) ≡ b → both a b ≡ false → turn a b (bit_of want k) ≡ d
    → At k 0 L xs → At k 1 (taken a L) xs → At k 2 (taken b (taken a L)) xs
    → Passed n (k + 1) want (put d k path) (mark a b (bit_of want k) k last) (branch d k xs) (three a b d L)
    → Passed (suc n) k want path last xs L
place n k want path last xs L a b d h ea eb some ed at₀ at₁ at₂ r =
    record {
      found = r.found;
      marked = r.marked;
      after = r.after;
      here = branch_in d k r.found xs r.here;
      kept = r.kept ∙ codes_three a b d L;
      stores = r.stores ∙ at_stored k 2 d h at₂ ∙ at_stored k 1 b h at₁ ∙ at_stored k 0 a h at₀;
      played =
          place_played n k want path last L a b d (bits_sent k h at₀ ∙ ea) (nots_sent k h at₁ ∙ eb) (all_quiet k h at₂) some ed
          ∙ ap (more 0 3) r.played ∙ three_more n r.found r.marked r.after;
      outcome = at_place n k want last r.marked r.found xs a b (bit_of want k) d ea eb refl ed r.here r.outcome;
    }

-- a pass from place k on, where somebody takes part
passed : (n k want path last : ℕ) (xs : List ℕ) (L : List Whole)
    → k + n ≡ 64 → last ≤ k → is_nil xs ≡ false → Low k path xs → Codes xs → At k 0 L xs → Passed n k want path last xs L
unfolding play pass rest
passed zero k want path last [] L e l s low fits at = absurd (true≢false s)
passed zero k want path last (x ∷ xs) L e l s low fits at =
    let i : Memᴰ x (x ∷ xs) = mathlib.Core.List.Memᴰ.head refl in
    let q : k ≡ 64 = omega arith in
    let p : path ≡ x = sym (low x i) ∙ ap (λ (z : ℕ). x % 2 ^ z) q ∙ mod-eq_of_lt (fits x i) in
    record {
      found = x;
      marked = last;
      after = L;
      here = i;
      kept = refl;
      stores = refl;
      played = ap (λ (z : ℕ). pass_played 0 z last L) p;
      outcome = ended refl refl;
    }
passed (suc n) k want path last xs L e l s low fits at =
    onward (is_nil (branch false k xs)) (is_nil (branch true k xs)) (turn (is_nil (branch false k xs)) (is_nil (branch true k xs)) (bit_of want k)) refl refl refl
    (λ p q. passed n (k + 1) want p q)
  where
    onward : (a b d : Bool) → is_nil (branch false k xs) ≡ a → is_nil (branch true k xs) ≡ b → turn a b (bit_of want k) ≡ d
        → ((p q : ℕ) (ys : List ℕ) (K : List Whole) → k + 1 + n ≡ 64 → q ≤ k + 1 → is_nil ys ≡ false → Low (k + 1) p ys → Codes ys → At (k + 1) 0 K ys → Passed n (k + 1) want p q ys K)
        → Passed (suc n) k want path last xs L
    onward a b d ea eb ed below =
        let h : k < 64 = omega arith in
        let at₁ = bits_taken k a h at in
        let at₂ = nots_taken k b h at₁ in
        let some = answered k xs a b s ea eb in
        place n k want path last xs L a b d h ea eb some ed at at₁ at₂
        (below (put d k path) (mark a b (bit_of want k) k last) (branch d k xs) (three a b d L)
        (omega arith) (mark_le a b (bit_of want k) k last l) (turn_some a b (bit_of want k) d k xs ea eb some ed) (low_next d k path xs low)
        (λ x m. fits x (branch_in d k x xs m)) (bit_written k d h at₂))

-- a pass after a reset and the command
pub pass_opened : (want : ℕ) (L : List Whole) → is_nil (codes_of L) ≡ false → Codes (codes_of L) → Passed 64 0 want 0 0 (codes_of L) (opened L)
pass_opened want L s fits = passed 64 0 want 0 0 (codes_of L) (opened L) refl (omega arith) s (λ x m. omega arith) fits (at_opened L)
