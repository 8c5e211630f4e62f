-- Laws: a line in three parts: the chips that a loop has passed, those that it still comes to, and those that it leaves out.
use Rattle.std.specs.Prelude.{ℕ, zero, suc, ◌+◌, ◌-◌, ◌*◌, ◌≤◌, Bool, true, List, [], ◌∷◌, ◌++◌, map, ◌≡◌, refl, length, take, drop}
use Rattle.std.proofs.Common.{arith, append_assoc, append-nil, ◌∙◌, ap, sym, subst, length-append, take-append-drop, length-drop, drop-drop, length-take-le}
use Rattle.std.proofs.lemmas.List.{length-map}
use Rattle.std.proofs.Math.Seq.{take-length}
use Rattle.base.specs.Bits.{both}
use Rattle.base.specs.Both.{true_both}
use Rattle.chip.specs.Chip.{Whole, level_takes, takes_of, level_sends, sends_of}
use Rattle.chip.specs.Kinds.{image_size, pad_size}
use Rattle.chip.specs.declared.Chip.{Chip}
use Rattle.chip.specs.declared.Level.{Level}
use Rattle.chip.specs.declared.Level.TheVariants.{Waiting}
use Rattle.line.specs.Line.{bus_from}
use Rattle.line.specs.Layout.{images_size, pads_size, images_most, pads_most, chips_of, images_of, pads_of}
use Rattle.line.specs.Carried.{images-most, pads-most}
use Rattle.packed.specs.Packed.{record_size, unpacked, unpacked_table}
use Rattle.packed.specs.Sends.{sends_in}
use Rattle.packed.specs.Takes.{taken, takes_in}
use Rattle.toemsakun.specs.declared.slots.Range.{Range}
use Rattle.toemsakun.specs.Slots.{Lined, line_in, Waits, Outside}
use Rattle.line.specs.Fitted.{AllFitted, images_length, pads_length}
use Rattle.toemsakun.specs.Held.{Held, line_chips, lined_held, held_count, held_size}
use Rattle.toemsakun.specs.InPlace.{record_at, images_append, pads_append, fitted_there, kind_there, sends_there, held_there}

-- a chip that waits sends 1, and a slot leaves it
waiting_sends : (w : Whole) → w.chip.level ≡ Waiting → sends_of w ≡ true
unfolding sends_of
waiting_sends w e = ap (λ (l : Level). level_sends w l) e

pub waiting_takes : (v : Bool) (w : Whole) → w.chip.level ≡ Waiting → takes_of v w ≡ w
unfolding takes_of
waiting_takes v w e = ap (λ (l : Level). level_takes w v l) e

pub bus_waits : (v : Bool) (L : List Whole) → Waits (chips_of L) → bus_from sends_of v L ≡ v
bus_waits v [] g = refl
bus_waits v (w ∷ L) (g, h) =
    ap (λ (b : Bool). bus_from sends_of b L) (ap (λ (b : Bool). both b v) (waiting_sends w g) ∙ true_both v) ∙ bus_waits v L h

pub takes_waits : (v : Bool) (L : List Whole) → Waits (chips_of L) → map (takes_of v) L ≡ L
takes_waits v [] g = refl
takes_waits v (w ∷ L) (g, h) = λ j. waiting_takes v w g j ∷ takes_waits v L h j

pub bus_append : (v : Bool) (P Q : List Whole) → bus_from sends_of v (P ++ Q) ≡ bus_from sends_of (bus_from sends_of v P) Q
bus_append v [] Q = refl
bus_append v (w ∷ P) Q = bus_append (both (sends_of w) v) P Q

-- parts of a line
chips_take : (n : ℕ) (L : List Whole) → chips_of (take n L) ≡ take n (chips_of L)
chips_take zero L = refl
chips_take (suc n) [] = refl
chips_take (suc n) (w ∷ L) = ap (λ (cs : List Chip). w.chip ∷ cs) (chips_take n L)

chips_drop : (n : ℕ) (L : List Whole) → chips_of (drop n L) ≡ drop n (chips_of L)
chips_drop zero L = refl
chips_drop (suc n) [] = refl
chips_drop (suc n) (w ∷ L) = chips_drop n L

fitted_front : (P Q : List Whole) → AllFitted (P ++ Q) → AllFitted P
fitted_front [] Q g = tt
fitted_front (w ∷ P) Q (g, h) = (g, fitted_front P Q h)

-- a loop has passed P, still comes to R and leaves out Z
pub record Reached (P R Z : List Whole) (bs ms ss : List ℕ) (past i image pad : ℕ) : Type 0 where
  pub held : Held (P ++ (R ++ Z)) bs ms ss
  pub place : length P ≡ i
  pub images : length (images_of P) ≡ image
  pub pads : length (pads_of P) ≡ pad
  pub end : i + length R ≡ past

-- what the code has to know of the numbers
pub record Near (bs : List ℕ) (past i image pad : ℕ) : Type 0 where
  pub within : i ≤ past
  pub few : past ≤ 16
  pub size : past * record_size ≤ length bs
  pub images : image ≤ images_most
  pub pads : pad ≤ pads_most

pub near : (P R Z : List Whole) (bs ms ss : List ℕ) (past i image pad : ℕ) → Reached P R Z bs ms ss past i image pad → Near bs past i image pad
near P R Z bs ms ss past i image pad r =
    let few = r.held.few in
    let n = length-append P (R ++ Z) in
    let k = length-append R Z in
    let place = r.place in
    let end = r.end in
    let z = held_size (P ++ (R ++ Z)) bs ms ss r.held in
    let fitted = fitted_front P (R ++ Z) r.held.fitted in
    let m = length-map P (λ (w : Whole). w.chip) in
    let whole = take-length (chips_of P) in
    let a = images-most (length (chips_of P)) (chips_of P) (omega arith) in
    let b = pads-most (length (chips_of P)) (chips_of P) (omega arith) in
    let x = sym r.images ∙ images_length P fitted ∙ ap (λ (cs : List Chip). images_size cs) (sym whole) in
    let y = sym r.pads ∙ pads_length P fitted ∙ ap (λ (cs : List Chip). pads_size cs) (sym whole) in
    record { within = omega arith; few = omega arith; size = omega arith; images = omega arith; pads = omega arith }

-- one chip further, by the kind that is read there
module _ (P : List Whole) (w : Whole) (R Z : List Whole) (bs ms ss : List ℕ) (past i image pad : ℕ) (r : Reached P (w ∷ R) Z bs ms ss past i image pad) where
  pub further : (kind size room : ℕ) → kind ≡ (unpacked (record_at i bs)).kind → size ≡ image_size kind → room ≡ pad_size kind
      → Reached (P ++ (w ∷ [])) R Z bs ms ss past (i + 1) (image + size) (pad + room)
  further kind size room k a b =
      let is : kind ≡ w.chip.kind = kind_there P w (R ++ Z) bs ms ss i image pad r.held r.place r.images r.pads kind k in
      let own = fitted_there P w (R ++ Z) r.held.fitted in
      let size_is : size ≡ length w.memory = a ∙ ap image_size is ∙ sym own.memory in
      let room_is : room ≡ length w.pad = b ∙ ap pad_size is ∙ sym own.pad in
      let x = r.images in
      let y = r.pads in
      let p = r.place in
      let e = r.end in
      record {
        held = subst (λ (L : List Whole). Held L bs ms ss) (sym (append_assoc P (w ∷ []) (R ++ Z))) r.held;
        place = simp length-append (omega arith);
        images = ap (λ (l : List ℕ). length l) (images_append P (w ∷ [])) ∙ (simp (length-append, append-nil) (omega arith));
        pads = ap (λ (l : List ℕ). length l) (pads_append P (w ∷ [])) ∙ (simp (length-append, append-nil) (omega arith));
        end = omega arith;
      }

  -- what the chip there sends, and what it takes
  pub sent_there : (bit : Bool) → bit ≡ sends_in image pad (record_at i bs) ms ss → bit ≡ sends_of w
  sent_there bit e = sends_there P w (R ++ Z) bs ms ss i image pad r.held r.place r.images r.pads bit e

  pub taken_there : (v : Bool) (x ms' ss' : List ℕ) → taken x ms' ss' ≡ takes_in v image pad (record_at i bs) ms ss
      → Reached P (takes_of v w ∷ R) Z (take (i * record_size) bs ++ (x ++ drop (i * record_size + record_size - i * record_size) (drop (i * record_size) bs))) ms' ss' past i image pad
  taken_there v x ms' ss' e = record {
    held = held_there P w (R ++ Z) bs ms ss i image pad r.held r.place r.images r.pads v x ms' ss' e;
    place = r.place;
    images = r.images;
    pads = r.pads;
    end = r.end;
  }

-- a line, parted by a range outside which every chip waits
pub record Parted (g : Range) (bs ms ss : List ℕ) : Type 0 where
  pub passed : List Whole
  pub rest : List Whole
  pub left : List Whole
  pub reached : Reached passed rest left bs ms ss g.past g.first g.parts.image g.parts.pad
  pub line : passed ++ (rest ++ left) ≡ line_in bs ms ss
  pub before : Waits (chips_of passed)
  pub after : Waits (chips_of left)

module _ (g : Range) (bs ms ss : List ℕ) (h : Lined bs ms ss) (o : Outside g bs) where
  abbrev L : List Whole
  L = line_in bs ms ss

  abbrev first : ℕ
  first = g.first

  abbrev span : ℕ
  span = g.past - g.first

  all : Held L bs ms ss
  all = lined_held bs ms ss h

  joined : take first L ++ (take span (drop first L) ++ drop span (drop first L)) ≡ L
  joined = ap (λ (K : List Whole). take first L ++ K) (take-append-drop span (drop first L)) ∙ take-append-drop first L

  front_chips : chips_of (take first L) ≡ take first (unpacked_table bs)
  front_chips = chips_take first L ∙ ap (λ (cs : List Chip). take first cs) (line_chips bs ms ss)

  back_chips : chips_of (drop span (drop first L)) ≡ drop g.past (unpacked_table bs)
  back_chips =
      let e : first + span ≡ g.past = let k = o.ordered in omega arith in
      ap (λ (K : List Whole). chips_of K) (drop-drop span first L ∙ ap (λ (n : ℕ). drop n L) e)
      ∙ chips_drop g.past L ∙ ap (λ (cs : List Chip). drop g.past cs) (line_chips bs ms ss)

  pub parted : Parted g bs ms ss
  parted =
      let held = subst (λ (K : List Whole). Held K bs ms ss) (sym joined) all in
      let fitted = fitted_front (take first L) (take span (drop first L) ++ drop span (drop first L)) held.fitted in
      let count = held_count L bs ms ss all in
      let a = o.ordered in
      let b = o.within in
      let l = length-drop first L in
      record {
        passed = take first L;
        rest = take span (drop first L);
        left = drop span (drop first L);
        reached = record {
          held = held;
          place = length-take-le first L (omega arith);
          images = images_length (take first L) fitted ∙ ap (λ (cs : List Chip). images_size cs) front_chips ∙ sym o.image;
          pads = pads_length (take first L) fitted ∙ ap (λ (cs : List Chip). pads_size cs) front_chips ∙ sym o.pad;
          end = let k = length-take-le span (drop first L) (omega arith) in omega arith;
        };
        line = joined;
        before = subst (λ (cs : List Chip). Waits cs) (sym front_chips) o.before;
        after = subst (λ (cs : List Chip). Waits cs) (sym back_chips) o.after;
      }
