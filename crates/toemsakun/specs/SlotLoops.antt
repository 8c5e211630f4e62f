-- Laws: the two loops of a slot over a range, a turn and the end of each; what a slot keeps of a range.
use Rattle.std.specs.Prelude.{ℕ, zero, suc, ◌+◌, ◌-◌, ◌*◌, ◌/◌, ◌<◌, ◌≤◌, Bool, List, [], ◌∷◌, ◌++◌, map, ◌≡◌, refl, length, take, drop}
use Rattle.std.proofs.Common.{arith, append_assoc, ◌∙◌, ap, sym, subst, drop_of_length-le}
use Rattle.std.proofs.lemmas.List.{map-append, length-map}
use Rattle.base.specs.Bits.{both}
use Rattle.chip.specs.Chip.{Whole, takes_of, sends_of}
use Rattle.chip.specs.Kinds.{image_size, pad_size}
use Rattle.chip.specs.declared.Chip.{Chip}
use Rattle.chip.specs.declared.Level.TheVariants.{Waiting}
use Rattle.line.specs.Line.{bus_from, value_of}
use Rattle.line.specs.Layout.{sum_of, chips_of}
use Rattle.packed.specs.declared.Parts.{Parts}
use Rattle.packed.specs.Packed.{record_size, unpacked, unpacked_table}
use Rattle.packed.specs.Places.{Table16, bytes_length}
use Rattle.packed.specs.Sends.{sends_in}
use Rattle.packed.specs.Takes.{taken, takes_in}
use Rattle.toemsakun.specs.declared.slots.Range.{Range}
use Rattle.toemsakun.specs.Slots.{Lined, line_in, Waits, OutsideOf, Outside}
use Rattle.toemsakun.specs.Held.{Held, line_chips, held_lined, held_line}
use Rattle.toemsakun.specs.InPlace.{record_at, takes_kind}
use Rattle.toemsakun.specs.Ranges.{waiting_takes, bus_waits, takes_waits, bus_append, Reached, Near, near, further, sent_there, taken_there, parted}

-- where the loop over what is sent stands
pub record Sending (host : Bool) (bs ms ss : List ℕ) (past : ℕ) (value : Bool) (image pad i : ℕ) : Type 0 where
  pub passed : List Whole
  pub rest : List Whole
  pub left : List Whole
  pub reached : Reached passed rest left bs ms ss past i image pad
  pub sent : bus_from sends_of value rest ≡ value_of host (line_in bs ms ss)
  pub numbers : Near bs past i image pad

module _ (host : Bool) (bs ms ss : List ℕ) where
  pub sending_start : (g : Range) → Lined bs ms ss → Outside g bs → Sending host bs ms ss g.past host g.parts.image g.parts.pad g.first
  sending_start g h o =
      let p = parted g bs ms ss h o in
      record {
        passed = p.passed;
        rest = p.rest;
        left = p.left;
        reached = p.reached;
        sent = sym (bus_waits (bus_from sends_of host p.rest) p.left p.after)
            ∙ sym (bus_append host p.rest p.left)
            ∙ ap (λ (b : Bool). bus_from sends_of b (p.rest ++ p.left)) (sym (bus_waits host p.passed p.before))
            ∙ sym (bus_append host p.passed (p.rest ++ p.left))
            ∙ ap (λ (L : List Whole). value_of host L) p.line;
        numbers = near p.passed p.rest p.left bs ms ss g.past g.first g.parts.image g.parts.pad p.reached;
      }

  module _ (past : ℕ) (value : Bool) (image pad i : ℕ) (s : Sending host bs ms ss past value image pad i) where
    sending_more : (bit next : Bool) (kind size room : ℕ) → i < past → bit ≡ sends_in image pad (record_at i bs) ms ss → next ≡ both bit value
        → kind ≡ (unpacked (record_at i bs)).kind → size ≡ image_size kind → room ≡ pad_size kind → Sending host bs ms ss past next (image + size) (pad + room) (i + 1)
    sending_more bit next kind size room h e f k a b = go s.passed s.rest s.left s.reached s.sent
      where
        go : (P R Z : List Whole) → Reached P R Z bs ms ss past i image pad → bus_from sends_of value R ≡ value_of host (line_in bs ms ss)
            → Sending host bs ms ss past next (image + size) (pad + room) (i + 1)
        go P [] Z r t = let z = r.end in absurd (omega arith)
        go P (w ∷ R) Z r t =
            let q = further P w R Z bs ms ss past i image pad r kind size room k a b in
            record {
              passed = P ++ (w ∷ []);
              rest = R;
              left = Z;
              reached = q;
              sent = ap (λ (c : Bool). bus_from sends_of c R) (f ∙ ap (λ (c : Bool). both c value) (sent_there P w R Z bs ms ss past i image pad r bit e)) ∙ t;
              numbers = near (P ++ (w ∷ [])) R Z bs ms ss past (i + 1) (image + size) (pad + room) q;
            }

    pub sending_next : (bit next : Bool) (kind : ℕ) (parts : Parts) → i < past → bit ≡ sends_in image pad (record_at i bs) ms ss → next ≡ both bit value
        → kind ≡ (unpacked (record_at i bs)).kind → parts.image ≡ image + image_size kind → parts.pad ≡ pad + pad_size kind → Sending host bs ms ss past next parts.image parts.pad (i + 1)
    sending_next bit next kind parts h e f k a b =
        subst (λ (n : ℕ). Sending host bs ms ss past next n parts.pad (i + 1)) (sym a)
        (subst (λ (n : ℕ). Sending host bs ms ss past next (image + image_size kind) n (i + 1)) (sym b)
        (sending_more bit next kind (image_size kind) (pad_size kind) h e f k refl refl))

    pub sending_end : past ≤ i → value ≡ value_of host (line_in bs ms ss)
    sending_end h = go s.rest s.reached.end s.sent
      where
        go : (R : List Whole) → i + length R ≡ past → bus_from sends_of value R ≡ value_of host (line_in bs ms ss) → value ≡ value_of host (line_in bs ms ss)
        go [] z t = t
        go (w ∷ R) z t = absurd (omega arith)

-- where the loop over what each chip takes stands; L is the line after it
pub record Taking (v : Bool) (L : List Whole) (bs ms ss : List ℕ) (past image pad i : ℕ) : Type 0 where
  pub passed : List Whole
  pub rest : List Whole
  pub left : List Whole
  pub reached : Reached passed rest left bs ms ss past i image pad
  pub line : passed ++ (map (takes_of v) rest ++ left) ≡ L
  pub numbers : Near bs past i image pad

module _ (v : Bool) where
  pub taking_start : (bs ms ss : List ℕ) (g : Range) → Lined bs ms ss → Outside g bs → Taking v (map (takes_of v) (line_in bs ms ss)) bs ms ss g.past g.parts.image g.parts.pad g.first
  taking_start bs ms ss g h o =
      let p = parted g bs ms ss h o in
      record {
        passed = p.passed;
        rest = p.rest;
        left = p.left;
        reached = p.reached;
        line = (λ j. sym (takes_waits v p.passed p.before) j ++ (map (takes_of v) p.rest ++ sym (takes_waits v p.left p.after) j))
            ∙ ap (λ (K : List Whole). map (takes_of v) p.passed ++ K) (sym (map-append (takes_of v) p.rest p.left))
            ∙ sym (map-append (takes_of v) p.passed (p.rest ++ p.left))
            ∙ ap (λ (K : List Whole). map (takes_of v) K) p.line;
        numbers = near p.passed p.rest p.left bs ms ss g.past g.first g.parts.image g.parts.pad p.reached;
      }

  module _ (L : List Whole) (bs ms ss : List ℕ) (past image pad i : ℕ) (s : Taking v L bs ms ss past image pad i) where
    abbrev put : List ℕ → List ℕ
    put x = take (i * record_size) bs ++ (x ++ drop (i * record_size + record_size - i * record_size) (drop (i * record_size) bs))

    taking_more : (x ms' ss' : List ℕ) (kind size room : ℕ) → i < past → taken x ms' ss' ≡ takes_in v image pad (record_at i bs) ms ss
        → kind ≡ (unpacked (record_at i (put x))).kind → size ≡ image_size kind → room ≡ pad_size kind → Taking v L (put x) ms' ss' past (image + size) (pad + room) (i + 1)
    taking_more x ms' ss' kind size room h e k a b = go s.passed s.rest s.left s.reached s.line
      where
        go : (P R Z : List Whole) → Reached P R Z bs ms ss past i image pad → P ++ (map (takes_of v) R ++ Z) ≡ L → Taking v L (put x) ms' ss' past (image + size) (pad + room) (i + 1)
        go P [] Z r t = let z = r.end in absurd (omega arith)
        go P (w ∷ R) Z r t =
            let u = takes_of v w in
            let after = taken_there P w R Z bs ms ss past i image pad r v x ms' ss' e in
            let q = further P u R Z (put x) ms' ss' past i image pad after kind size room k a b in
            record {
              passed = P ++ (u ∷ []);
              rest = R;
              left = Z;
              reached = q;
              line = append_assoc P (u ∷ []) (map (takes_of v) R ++ Z) ∙ t;
              numbers = near (P ++ (u ∷ [])) R Z (put x) ms' ss' past (i + 1) (image + size) (pad + room) q;
            }

    pub taking_next : (x ms' ss' : List ℕ) (kind : ℕ) (parts : Parts) → i < past → taken x ms' ss' ≡ takes_in v image pad (record_at i bs) ms ss
        → kind ≡ (unpacked (record_at i (put x))).kind → parts.image ≡ image + image_size kind → parts.pad ≡ pad + pad_size kind → Taking v L (put x) ms' ss' past parts.image parts.pad (i + 1)
    taking_next x ms' ss' kind parts h e k a b =
        subst (λ (n : ℕ). Taking v L (put x) ms' ss' past n parts.pad (i + 1)) (sym a)
        (subst (λ (n : ℕ). Taking v L (put x) ms' ss' past (image + image_size kind) n (i + 1)) (sym b)
        (taking_more x ms' ss' kind (image_size kind) (pad_size kind) h e k refl refl))

    pub taking_end : past ≤ i → Held L bs ms ss
    taking_end h = go s.passed s.rest s.left s.reached s.line
      where
        go : (P R Z : List Whole) → Reached P R Z bs ms ss past i image pad → P ++ (map (takes_of v) R ++ Z) ≡ L → Held L bs ms ss
        go P [] Z r t = subst (λ (K : List Whole). Held K bs ms ss) t r.held
        go P (w ∷ R) Z r t = let z = r.end in absurd (omega arith)

-- a slot leaves the kinds and the chips that wait
module _ (v : Bool) where
  sizes_kept : (size : ℕ → ℕ) (n : ℕ) (L : List Whole) → sum_of size (take n (chips_of (map (takes_of v) L))) ≡ sum_of size (take n (chips_of L))
  sizes_kept size zero L = refl
  sizes_kept size (suc n) [] = refl
  sizes_kept size (suc n) (w ∷ L) = λ j. size (takes_kind v w j) + sizes_kept size n L j

  stays : (w : Whole) → w.chip.level ≡ Waiting → (takes_of v w).chip.level ≡ Waiting
  stays w e = ap (λ (u : Whole). u.chip.level) (waiting_takes v w e) ∙ e

  waits_first : (n : ℕ) (L : List Whole) → Waits (take n (chips_of L)) → Waits (take n (chips_of (map (takes_of v) L)))
  waits_first zero L g = tt
  waits_first (suc n) [] g = tt
  waits_first (suc n) (w ∷ L) (g, h) = (stays w g, waits_first n L h)

  waits_last : (n : ℕ) (L : List Whole) → Waits (drop n (chips_of L)) → Waits (drop n (chips_of (map (takes_of v) L)))
  waits_last zero [] g = tt
  waits_last zero (w ∷ L) (g, h) = (stays w g, waits_last zero L h)
  waits_last (suc n) [] g = tt
  waits_last (suc n) (w ∷ L) g = waits_last n L g

  pub outside_kept : (g : Range) (L : List Whole) → OutsideOf g (chips_of L) → OutsideOf g (chips_of (map (takes_of v) L))
  outside_kept g L o =
      record {
        ordered = o.ordered;
        within = let h = o.within in let k = length-map L (λ (w : Whole). w.chip) in let l = length-map (map (takes_of v) L) (λ (w : Whole). w.chip) in let m = length-map L (takes_of v) in omega arith;
        image = o.image ∙ sym (sizes_kept image_size g.first L);
        pad = o.pad ∙ sym (sizes_kept pad_size g.first L);
        before = waits_first g.first L o.before;
        after = waits_last g.past L o.after;
      }

-- what a slot on every chip leaves
pub slot-leaves : (v : Bool) (g : Range) (bs ms ss bs' ms' ss' : List ℕ) → Outside g bs → Held (map (takes_of v) (line_in bs ms ss)) bs' ms' ss'
    → (line_in bs' ms' ss' ≡ map (takes_of v) (line_in bs ms ss)) × (Lined bs' ms' ss' × Outside g bs')
slot-leaves v g bs ms ss bs' ms' ss' o h =
    let M = map (takes_of v) (line_in bs ms ss) in
    let line = held_line M bs' ms' ss' h in
    let chips : chips_of M ≡ unpacked_table bs' = ap (λ (K : List Whole). chips_of K) (sym line) ∙ line_chips bs' ms' ss' in (
      line,
      (
        held_lined M bs' ms' ss' h,
        subst (λ (cs : List Chip). OutsideOf g cs) chips (outside_kept v g (line_in bs ms ss) (subst (λ (cs : List Chip). OutsideOf g cs) (sym (line_chips bs ms ss)) o)),
      ),
    )

-- a range of all chips leaves out none
pub all_outside : (bs : List ℕ) (g : Range) → Table16 bs → g.first ≡ 0 → g.parts.image ≡ 0 → g.parts.pad ≡ 0 → g.past ≡ length bs / record_size → Outside g bs
all_outside bs g t f a b p =
    let k = bytes_length bs t in
    record {
      ordered = omega arith;
      within = omega arith;
      image = a ∙ ap (λ (n : ℕ). sum_of image_size (take n (unpacked_table bs))) (sym f);
      pad = b ∙ ap (λ (n : ℕ). sum_of pad_size (take n (unpacked_table bs))) (sym f);
      before = subst (λ (n : ℕ). Waits (take n (unpacked_table bs))) (sym f) tt;
      after = subst (λ (cs : List Chip). Waits cs) (sym (drop_of_length-le (unpacked_table bs) {i = g.past} (omega arith))) tt;
    }
