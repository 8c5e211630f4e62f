-- Laws: the loops over records in their places are the walks over the chips that they stand for.
use Rattle.std.specs.Prelude.{ℕ, ◌+◌, ◌-◌, ◌*◌, ◌/◌, ◌<◌, ◌≤◌, Bool, List, ◌++◌, ◌≡◌, refl, length, take, drop, get_or, set, Result}
use Rattle.line.specs.declared.Refusal.{Refusal}
use Rattle.std.proofs.Common.{arith, ◌∙◌, ap, sym, length-set}
use Rattle.std.proofs.Math.Nat.{sub-zero}
use Rattle.base.specs.Bits.{both}
use Rattle.chip.specs.declared.Chip.{Chip}
use Rattle.line.specs.Layout.{lent}
use Rattle.chip.specs.With.{no_chip}
use Rattle.line.specs.Event.{bit, outcome}
use Rattle.line.specs.Carrier.{over, over_more, over_done, first_spot, spot_after, puts_at, bus_with, bus_over, turned, turn_of, acts, acts_more, acts_done}
use Rattle.line.specs.Carried.{walked}
use Rattle.line.specs.declared.Plan.{Plan}
use Rattle.line.specs.declared.Spot.{Spot}
use Rattle.line.specs.declared.Bus.{Bus}
use Rattle.packed.specs.Packed.{record_size, unpacked, unpacked_table, put_record}
use Rattle.packed.specs.Places.{Table16, bytes_length, chip-at, chips_put, table_put}
use Rattle.toemsakun.specs.Library.{event_left, answer_number, packed_outcome}

chips_count : (bs : List ℕ) → Table16 bs → length bs / record_size ≡ length (unpacked_table bs)
chips_count bs t = let k = bytes_length bs t in omega arith

-- the bit on the bus that is carried beside where the next chip stands
abbrev pub sum_with : Bool → Spot → Bus
sum_with value spot = record { value = value; spot = spot }

pub sum_is : (d : Plan) (c : Chip) (v : Bool) (p : Spot) (ms ss : List ℕ) (sent w : Bool) (q : Spot) → sent ≡ puts_at d c p ms ss → w ≡ both sent v
    → q ≡ spot_after c.kind p → sum_with w q ≡ bus_with d c (sum_with v p) ms ss
unfolding bus_with
sum_is d c v p ms ss sent w q e f g = λ j. sum_with ((f ∙ ap (λ (b : Bool). both b v) e) j) (g j)

-- where a loop over the records that changes none stands after i of them
module _ {S : Type 0} (f : Chip → S → S) where
  pub record Walking (bs : List ℕ) (first : S) (n i : ℕ) (s : S) : Type 0 where
    pub walked : over f (n - i) i (unpacked_table bs) s ≡ over f n 0 (unpacked_table bs) first
    pub table : Table16 bs
    pub count : n ≡ length (unpacked_table bs)
    pub size : length bs ≡ n * record_size
    pub within : i ≤ n
    pub few : n ≤ 16

  pub walking_start : (bs : List ℕ) (s : S) → Table16 bs → Walking bs s (length bs / record_size) 0 s
  walking_start bs s t =
      let k = bytes_length bs t in
      let f = t.few in
      record { walked = simp sub-zero; table = t; count = chips_count bs t; size = omega arith; within = omega arith; few = omega arith }

  module _ (bs : List ℕ) (first : S) (n i : ℕ) (s : S) (g : Walking bs first n i s) where
    pub walking_next : (c : Chip) (r : S) → i < n → c ≡ unpacked (take (i * record_size + record_size - i * record_size) (drop (i * record_size) bs)) → r ≡ f c s → Walking bs first n (i + 1) r
    walking_next c r h e p =
        let count = g.count in
        let c_is : c ≡ get_or (unpacked_table bs) i no_chip = chip-at bs g.table i (omega arith) c e in
        record {
          walked = sym (over_more f n i (unpacked_table bs) s r h (p ∙ ap (λ (x : Chip). f x s) c_is)) ∙ g.walked;
          table = g.table;
          count = count;
          size = g.size;
          within = omega arith;
          few = g.few;
        }

    pub walking_end : n ≤ i → s ≡ over f (length (unpacked_table bs)) 0 (unpacked_table bs) first
    walking_end h = sym (over_done f n i (unpacked_table bs) s h) ∙ g.walked ∙ ap (λ (k : ℕ). over f k 0 (unpacked_table bs) first) g.count

-- where the loop over what each chip does stands after i records
pub record Acting (d : Plan) (v : Bool) (bs₀ ms₀ ss₀ bs ms ss : List ℕ) (n i : ℕ) (p₀ p : Spot) : Type 0 where
  pub acted : acts d v (n - i) i p (unpacked_table bs) ms ss ≡ acts d v n 0 p₀ (unpacked_table bs₀) ms₀ ss₀
  pub table : Table16 bs
  pub count : n ≡ length (unpacked_table bs)
  pub size : length bs ≡ n * record_size
  pub size₀ : length bs₀ ≡ n * record_size
  pub count₀ : n ≡ length (unpacked_table bs₀)
  pub within : i ≤ n
  pub few : n ≤ 16
  pub images-size : length ms ≡ length ms₀
  pub pads-size : length ss ≡ length ss₀

pub acting_start : (d : Plan) (v : Bool) (bs ms ss : List ℕ) (p : Spot) → Table16 bs → Acting d v bs ms ss bs ms ss (length bs / record_size) 0 p p
acting_start d v bs ms ss p t =
    let k = bytes_length bs t in
    let f = t.few in
    record {
      acted = simp sub-zero;
      table = t;
      count = chips_count bs t;
      size = omega arith;
      size₀ = omega arith;
      count₀ = chips_count bs t;
      within = omega arith;
      few = omega arith;
      images-size = refl;
      pads-size = refl;
    }

module _ (d : Plan) (v : Bool) (bs₀ ms₀ ss₀ bs ms ss : List ℕ) (n i : ℕ) (p₀ p : Spot) (g : Acting d v bs₀ ms₀ ss₀ bs ms ss n i p₀ p) where
  pub acting_next : (c r : Chip) (q : Spot) (x ms' ss' : List ℕ) → i < n → c ≡ unpacked (take (i * record_size + record_size - i * record_size) (drop (i * record_size) bs))
      → turned r q ms' ss' ≡ turn_of d v c p ms ss → x ≡ put_record r (take (i * record_size + record_size - i * record_size) (drop (i * record_size) bs)) → length ms' ≡ length ms → length ss' ≡ length ss
      → Acting d v bs₀ ms₀ ss₀ (take (i * record_size) bs ++ (x ++ drop (i * record_size + record_size - i * record_size) (drop (i * record_size) bs))) ms' ss' n (i + 1) p₀ q
  acting_next c r q x ms' ss' h e t y lm ls =
      let count = g.count in
      let cs = unpacked_table bs in
      let k : i < length cs = omega arith in
      let c_is : c ≡ get_or cs i no_chip = chip-at bs g.table i k c e in
      let put : unpacked_table (take (i * record_size) bs ++ (x ++ drop (i * record_size + record_size - i * record_size) (drop (i * record_size) bs))) ≡ set cs i r = chips_put bs g.table i k r x y in
      let u = table_put bs g.table i k r x y in
      let l = ap (λ (z : List Chip). length z) put ∙ length-set cs i r in
      let b = bytes_length _ u in
      record {
        acted = ap (λ (z : List Chip). acts d v (n - (i + 1)) (i + 1) q z ms' ss') put
            ∙ sym (acts_more d v n i p q cs ms ss r ms' ss' h (t ∙ ap (λ (z : Chip). turn_of d v z p ms ss) c_is))
            ∙ g.acted;
        table = u;
        count = count ∙ sym l;
        size = omega arith;
        size₀ = g.size₀;
        count₀ = g.count₀;
        within = omega arith;
        few = g.few;
        images-size = lm ∙ g.images-size;
        pads-size = ls ∙ g.pads-size;
      }

  pub acting_end : n ≤ i → lent (unpacked_table bs) ms ss ≡ acts d v (length (unpacked_table bs₀)) 0 p₀ (unpacked_table bs₀) ms₀ ss₀
  acting_end h =
      sym (acts_done d v n i p (unpacked_table bs) ms ss h) ∙ g.acted ∙ ap (λ (k : ℕ). acts d v k 0 p₀ (unpacked_table bs₀) ms₀ ss₀) g.count₀

-- what the loops leave, in bytes
pub played : (bs ms ss bs' ms' ss' : List ℕ) (d : Plan) (v : Bool) → Table16 bs' → v ≡ (bus_over d (length (unpacked_table bs)) (unpacked_table bs) ms ss).value
    → lent (unpacked_table bs') ms' ss' ≡ acts d v (length (unpacked_table bs)) 0 first_spot (unpacked_table bs) ms ss
    → event_left (answer_number (bit v)) bs' ms' ss' ≡ packed_outcome (walked (length (unpacked_table bs)) (length (unpacked_table bs)) (unpacked_table bs) ms ss d)
played bs ms ss bs' ms' ss' d v t e f =
    let n = length (unpacked_table bs) in
    ap (λ (b : List ℕ). event_left (answer_number (bit v)) b ms' ss') (sym t.packs)
    ∙ (λ j. packed_outcome (outcome (bit v) n (f j)))
    ∙ ap (λ (b : Bool). packed_outcome (outcome (bit b) n (acts d b n 0 first_spot (unpacked_table bs) ms ss))) e
