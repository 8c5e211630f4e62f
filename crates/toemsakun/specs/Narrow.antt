-- Laws: a range made narrow by a chip at one of its ends that waits.
use Rattle.std.specs.Prelude.{ℕ, suc, ◌+◌, ◌-◌, ◌*◌, ◌<◌, Bool, true, List, [], ◌∷◌, ◌++◌, ◌≡◌, eqb, length, take, drop, get_or}
use Rattle.std.proofs.Common.{arith, ◌∙◌, ap, sym, subst, take-suc, drop-cons}
use Rattle.chip.specs.Kinds.{image_size, pad_size}
use Rattle.chip.specs.With.{no_chip}
use Rattle.chip.specs.declared.Chip.{Chip}
use Rattle.chip.specs.declared.Level.TheVariants.{Waiting}
use Rattle.line.specs.Layout.{sum_of, images_size, pads_size}
use Rattle.line.specs.Carried.{images-most, pads-most}
use Rattle.packed.specs.Packed.{record_size, packed, unpacked, unpacked_table}
use Rattle.packed.specs.declared.Parts.{Parts}
use Rattle.packed.specs.Laws.{unpacked_packed}
use Rattle.packed.specs.Places.{Table16, bytes_length, place_at}
use Rattle.packed.specs.Waiting.{waits_packed}
use Rattle.toemsakun.specs.declared.slots.Range.{Range}
use Rattle.toemsakun.specs.Slots.{Waits, Outside}
use Rattle.toemsakun.specs.InPlace.{record_at}
use Rattle.toemsakun.specs.Ranges.{Near}

abbrev pub range_of : ℕ → Parts → ℕ → Range
range_of first parts past = record { first = first; parts = parts; past = past }

waits_append : (cs ds : List Chip) → Waits cs → Waits ds → Waits (cs ++ ds)
waits_append [] ds g h = h
waits_append (c ∷ cs) ds (g, k) h = (g, waits_append cs ds k h)

sum_append : (size : ℕ → ℕ) (cs ds : List Chip) → sum_of size (cs ++ ds) ≡ sum_of size cs + sum_of size ds
sum_append size [] ds = omega arith
sum_append size (c ∷ cs) ds = let k = sum_append size cs ds in omega arith

-- where a loop stands that makes a range narrow
pub record Narrow (bs : List ℕ) (g : Range) : Type 0 where
  pub table : Table16 bs
  pub outside : Outside g bs
  pub numbers : Near bs g.past g.first g.parts.image g.parts.pad

pub narrow : (bs : List ℕ) (g : Range) → Table16 bs → Outside g bs → Narrow bs g
narrow bs g t o =
    let few = t.few in
    let ordered = o.ordered in
    let within = o.within in
    let size = bytes_length bs t in
    let image_is = o.image in
    let pad_is = o.pad in
    let a = images-most g.first (unpacked_table bs) (omega arith) in
    let b = pads-most g.first (unpacked_table bs) (omega arith) in
    record {
      table = t;
      outside = o;
      numbers = record { within = omega arith; few = omega arith; size = omega arith; images = omega arith; pads = omega arith };
    }

module _ (bs : List ℕ) (t : Table16 bs) where
  abbrev cs : List Chip
  cs = unpacked_table bs

  record_is : (i : ℕ) → i < length cs → record_at i bs ≡ packed (get_or cs i no_chip)
  record_is i h =
      let one : i * record_size + record_size - i * record_size ≡ record_size = omega arith in
      (λ j. take (one j) (drop (i * record_size) (sym t.packs j))) ∙ place_at cs i h

  waits_at : (i : ℕ) → i < length cs → true ≡ eqb (get_or (record_at i bs) 15 0) 0 → (get_or cs i no_chip).level ≡ Waiting
  waits_at i h e = waits_packed (get_or cs i no_chip) (ap (λ (l : List ℕ). eqb (get_or l 15 0) 0) (sym (record_is i h)) ∙ sym e)

  kind_at : (i kind : ℕ) → i < length cs → kind ≡ (unpacked (record_at i bs)).kind → kind ≡ (get_or cs i no_chip).kind
  kind_at i kind h e = e ∙ ap (λ (l : List ℕ). (unpacked l).kind) (record_is i h) ∙ ap (λ (c : Chip). c.kind) (unpacked_packed (get_or cs i no_chip))

-- the first chip of the range is left out
pub front_next : (bs : List ℕ) (g : Range) → Narrow bs g → (waits : Bool) (kind : ℕ) (parts : Parts) → g.first < g.past → waits ≡ eqb (get_or (record_at g.first bs) 15 0) 0 → waits ≡ true
    → kind ≡ (unpacked (record_at g.first bs)).kind → parts.image ≡ g.parts.image + image_size kind → parts.pad ≡ g.parts.pad + pad_size kind
    → Narrow bs (range_of (g.first + 1) parts g.past)
front_next bs g n waits kind parts h e f k a b =
    let first = g.first in
    let t = n.table in
    let o = n.outside in
    let cs = unpacked_table bs in
    let within = o.within in
    let l : first < length cs = omega arith in
    let c = get_or cs first no_chip in
    let is : kind ≡ c.kind = kind_at bs t first kind l k in
    let level : c.level ≡ Waiting = waits_at bs t first l (sym f ∙ e) in
    let next : take (first + 1) cs ≡ take first cs ++ (c ∷ []) = let z : first + 1 ≡ suc first = omega arith in ap (λ (m : ℕ). take m cs) z ∙ take-suc cs first no_chip l in
    let x = sum_append image_size (take first cs) (c ∷ []) in
    let y = sum_append pad_size (take first cs) (c ∷ []) in
    let size_is : image_size kind ≡ image_size c.kind = ap image_size is in
    let room_is : pad_size kind ≡ pad_size c.kind = ap pad_size is in
    let image_is = o.image in
    let pad_is = o.pad in
    narrow bs (range_of (first + 1) parts g.past) t (record {
      ordered = omega arith;
      within = within;
      image = (omega arith) ∙ sym x ∙ ap (λ (ds : List Chip). images_size ds) (sym next);
      pad = (omega arith) ∙ sym y ∙ ap (λ (ds : List Chip). pads_size ds) (sym next);
      before = subst (λ (ds : List Chip). Waits ds) (sym next) (waits_append (take first cs) (c ∷ []) o.before (level, tt));
      after = o.after;
    })

-- the last chip of the range is left out
pub back_next : (bs : List ℕ) (g : Range) → Narrow bs g → (waits : Bool) → g.first < g.past → waits ≡ eqb (get_or (record_at (g.past - 1) bs) 15 0) 0 → waits ≡ true
    → Narrow bs (range_of g.first g.parts (g.past - 1))
back_next bs g n waits h e f =
    let past = g.past in
    let t = n.table in
    let o = n.outside in
    let cs = unpacked_table bs in
    let within = o.within in
    let last = past - 1 in
    let l : last < length cs = omega arith in
    let c = get_or cs last no_chip in
    let level : c.level ≡ Waiting = waits_at bs t last l (sym f ∙ e) in
    let from : drop last cs ≡ c ∷ drop past cs = let z : suc last ≡ past = omega arith in drop-cons cs last no_chip l ∙ ap (λ (m : ℕ). c ∷ drop m cs) z in
    narrow bs (range_of g.first g.parts last) t (record {
      ordered = omega arith;
      within = omega arith;
      image = o.image;
      pad = o.pad;
      before = o.before;
      after = subst (λ (ds : List Chip). Waits ds) (sym from) (level, o.after);
    })
