-- "Recovery after noise", from one set-up on: a card that is not refused, whose codes differ, and images and scratchpads of the sizes asked.
use Rattle.std.specs.Prelude.{ℕ, ◌<◌, List, [], ◌∷◌, ◌++◌, ◌≡◌, refl, replicate}
use Rattle.std.proofs.Common.{arith, ◌∙◌, ap, subst}
use Rattle.std.proofs.lemmas.List.{length-replicate}
use Rattle.base.specs.Pick.{pick}
use Rattle.base.specs.Bits.{both}
use Rattle.chip.specs.Chip.{set_up_chip}
use Rattle.chip.specs.Kinds.{known_kind, image_size, pad_size}
use Rattle.chip.specs.declared.Chip.{Chip}
use Rattle.line.specs.Layout.{capped, images_asked, pads_asked}
use Rattle.line.specs.declared.Event.{Event}
use Rattle.records.specs.Records.{head_at}
use Rattle.card.specs.Card.{chips, whole_entry, entry_at, read_from, set_up_of}
use Rattle.histories.specs.Below.{Bytes, all-below}
use Rattle.histories.specs.SetUp.{kind_in, code_in, codes_from, codes_below, sets_up, table_from, SizesAsked, set_up_stands, set_up_codes, set-up-chip}
use Rattle.line.specs.Attached.{line_from}
use Rattle.histories.specs.Joined.{run_on}
use Rattle.recovery.specs.Sessions.{write, Page}
use Rattle.recovery.specs.CarriedOut.{NoCopy}
use Rattle.recovery.proofs.Installed.{Differ}
use Rattle.recovery.proofs.Public.{TableInstalled, TableRecovered, demand_3_on}

-- one set-up: a card of bytes answers k chips, the codes of its k records differ, and the sizes are those asked. Nothing is asked of the
-- table before
pub record OneSetUp (places : ℕ) (card : List ℕ) (n : ℕ) (cs : List Chip) (ms ss : List ℕ) (k : ℕ) : Type 0 where
  pub answered : (set_up_of places card n cs).answer ≡ chips k
  pub bytes : Bytes card
  pub differ : Differ (codes_from card 0 k)
  pub sizes : SizesAsked (table_from places card n cs ms ss)

-- the kind and the code of a chip as set-up leaves it
set_up_kind : (code kind : ℕ) → (set_up_chip code kind).kind ≡ kind
unfolding set_up_chip
set_up_kind code kind = refl

set_up_code : (code kind : ℕ) → (set_up_chip code kind).code ≡ code
unfolding set_up_chip
set_up_code code kind = refl

module _ (places : ℕ) (card : List ℕ) (n : ℕ) (cs : List Chip) (ms ss : List ℕ) (k : ℕ) (u : OneSetUp places card n cs ms ss k) (i : ℕ) (l : i < k) where
  -- each of its chips of kind 1 meets the premise of demand 3
  pub card_installed : kind_in card i ≡ 1 → TableInstalled i (table_from places card n cs ms ss)
  card_installed h =
      let c = set_up_codes places card n cs ms ss k u.answered in
      record {
        stands = set_up_stands places card n cs ms ss k u.answered u.sizes;
        attached = rw (sets_up places card n cs k u.answered).count l;
        differ = rw c u.differ;
        codes = rw c (codes_below card u.bytes 0 k);
        kind = ap (λ (x : Chip). x.kind) (set-up-chip places card n cs ms ss k u.answered i l) ∙ set_up_kind (code_in card i) (kind_in card i) ∙ h;
      }

  -- THEOREM: demand 3 from the card on. Two histories from one set-up, equal up to some point, then any events in which chip i, that of
  -- record i of the card and of kind 1, carries out no copy; after a reset, a match of that record's code and a write of 32 bytes from offset
  -- 0 its whole state is the same, and from there on every answer is, while each new session opens by matching that code
  pub demand_3_from_card : kind_in card i ≡ 1
      → (start left right : List Event)
      → NoCopy i left (line_from (run_on start (table_from places card n cs ms ss))) → NoCopy i right (line_from (run_on start (table_from places card n cs ms ss)))
      → (t : ℕ) (bytes : List ℕ) → Page t bytes
      → TableRecovered i (code_in card i) (write (code_in card i) t bytes)
      (run_on (start ++ left) (table_from places card n cs ms ss)) (run_on (start ++ right) (table_from places card n cs ms ss))
  demand_3_from_card h start left right p q t bytes g =
      let l₀ = table_from places card n cs ms ss in
      let e = ap (λ (x : Chip). x.code) (set-up-chip places card n cs ms ss k u.answered i l) ∙ set_up_code (code_in card i) (kind_in card i) in
      subst (λ (code : ℕ). TableRecovered i code (write code t bytes) (run_on (start ++ left) l₀) (run_on (start ++ right) l₀)) e
      (demand_3_on i l₀ (card_installed h) start left right p q t bytes g)

-- there is such a set-up, whatever table was there before: a card of a DS28EC20 of code 5 and a DS2413 of code 6
abbrev two_records : List ℕ
two_records = 0x0A ∷ 0 ∷ 1 ∷ 0 ∷ 5 ∷ 0 ∷ 0 ∷ 0 ∷ 0 ∷ 0 ∷ 0 ∷ 0 ∷ 0x0A ∷ 0 ∷ 2 ∷ 0 ∷ 6 ∷ 0 ∷ 0 ∷ 0 ∷ 0 ∷ 0 ∷ 0 ∷ 0 ∷ []

pub two_set_up : (n : ℕ) (cs : List Chip) → OneSetUp 16 two_records n cs (replicate 2624 0xFF) (replicate 32 0xFF) 2
unfolding set_up_of capped read_from entry_at head_at whole_entry known_kind images_asked pads_asked image_size pad_size set_up_chip both pick
two_set_up n cs =
    record {
      answered = refl;
      bytes = all-below 256 two_records refl;
      differ = (((λ e. omega arith), tt), (tt, tt));
      sizes = record { images = length-replicate {A = ℕ} 2624 0xFF; pads = length-replicate {A = ℕ} 32 0xFF };
    }
