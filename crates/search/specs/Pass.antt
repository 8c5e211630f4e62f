-- Laws: the loop of a pass and the loop of a byte play their hosts.
use Rattle.std.specs.Prelude.{ℕ, suc, ◌+◌, ◌-◌, ◌*◌, ◌%◌, ◌<◌, ◌≤◌, ◌^◌, Bool, true, false, None, ◌≡◌}
use Rattle.std.proofs.Common.{arith, one-mul, mod-lt, add-one, shl_exact, pow_mono, pow_pos, sym, ◌∙◌, ap}
use Rattle.std.proofs.Math.Nat.{two-pow-succ}
use Rattle.base.specs.Pick.{pick}
use Rattle.base.specs.Bits.{bit_of, both}
use Rattle.line.specs.Events.{slot_event}
use Rattle.search.specs.Host.{Played, played, End, more, resets_of, slots_of, heard, play, under_way, begun, pass, write, turn, mark, put, up_to}
use Rattle.search.specs.Branch.{ended}
use Rattle.search.specs.Counts.{more_more, more_none, one_slot}
use Rattle.line.specs.Attached.{Attached, says_of, leaves_of}
use Rattle.search.specs.Search.{wire, played_pass, played_write}

-- what a host hears of a slot that it puts on the line
abbrev hears : Bool → Attached → Bool
hears b l = heard (says_of (slot_event b) l)

abbrev slot_leaves : Bool → Attached → Attached
slot_leaves b l = leaves_of (slot_event b) l

-- the worth of the next place
pub pow_next : (k : ℕ) → 2 ^ (k + 1) ≡ 2 ^ k + 2 ^ k
pow_next k = ap (λ (n : ℕ). 2 ^ n) (add-one k) ∙ two-pow-succ k

-- where the loop of a pass stands after k places
pub record Going (want : ℕ) (l₀ l : Attached) (k path last slots : ℕ) : Type 0 where
  pub left : more 0 slots (play wire (pass (64 - k) (under_way k want path last)) l) ≡ play wire (pass 64 (begun want)) l₀
  pub place : k ≤ 64
  pub low : path < 2 ^ k
  pub mark_low : last ≤ k
  pub count : slots ≡ 3 * k

pub going_start : (want : ℕ) (l : Attached) → Going want l l 0 0 0 0
going_start want l = record { left = sym (more_none (play wire (pass 64 (begun want)) l)); place = omega arith; low = omega arith; mark_low = omega arith; count = omega arith }

thrice : {A L : Type 0} (d : Bool) (p : Played A L) → more 0 1 (more 0 1 (more (resets_of (slot_event d)) (slots_of (slot_event d)) p)) ≡ more 0 3 p
thrice d p = ap (λ q. more 0 1 (more 0 1 q)) (one_slot d p) ∙ ap (more 0 1) (more_more 0 1 0 1 p) ∙ more_more 0 1 0 2 p

-- three slots of a place
three : (n k want path last : ℕ) (l la lb lw : Attached) (a b d : Bool)
    → a ≡ hears true l → la ≡ slot_leaves true l → b ≡ hears true la → lb ≡ slot_leaves true la → both a b ≡ false → d ≡ turn a b (bit_of want k) → lw ≡ slot_leaves d lb
    → play wire (pass (suc n) (under_way k want path last)) l ≡ more 0 3 (play wire (pass n (under_way (k + 1) want (put d k path) (mark a b (bit_of want k) k last))) lw)
unfolding play pass pick
three n k want path last l la lb lw a b d ea la-is eb lb-is nt ed lw-is =
    rw (← ea, ← la-is, ← eb, ← lb-is, nt, ← ed, ← lw-is) (thrice d _)

-- two slots, and nobody answers
two : (n k want path last : ℕ) (l la lb : Attached) (a b : Bool)
    → a ≡ hears true l → la ≡ slot_leaves true l → b ≡ hears true la → lb ≡ slot_leaves true la → both a b ≡ true
    → play wire (pass (suc n) (under_way k want path last)) l ≡ played_pass lb path last false 2
unfolding play pass pick
two n k want path last l la lb a b ea la-is eb lb-is nt = rw (← ea, ← la-is, ← eb, ← lb-is, nt)

pub put_low : (d : Bool) (k path : ℕ) → path < 2 ^ k → put d k path < 2 ^ (k + 1)
put_low true k path h = omega (arith, pow_next k)
put_low false k path h = omega (arith, pow_next k)

-- a mark is that of a place gone by
pub mark_le : (a b t : Bool) (k last : ℕ) → last ≤ k → mark a b t k last ≤ k + 1
mark_le true b t k last h = omega arith
mark_le false true t k last h = omega arith
mark_le false false true k last h = omega arith
mark_le false false false k last h = omega arith

pub going_next : (want : ℕ) (l₀ l la lb lw : Attached) (k path last slots : ℕ) (a b t d : Bool) (p m : ℕ)
    → Going want l₀ l k path last slots → k < 64
    → a ≡ hears true l → la ≡ slot_leaves true l → b ≡ hears true la → lb ≡ slot_leaves true la → both a b ≡ false
    → t ≡ bit_of want k → d ≡ turn a b t → lw ≡ slot_leaves d lb → p ≡ put d k path → m ≡ mark a b t k last
    → Going want l₀ lw (k + 1) p m (slots + 2 + 1)
going_next want l₀ l la lb lw k path last slots a b t d p m g h ea la-is eb lb-is nt et ed lw-is ep em =
    let n : 64 - k ≡ suc (64 - (k + 1)) = omega arith in
    let dt : d ≡ turn a b (bit_of want k) = rw (← et) ed in
    let mt : m ≡ mark a b (bit_of want k) k last = rw (← et) em in
    let r = play wire (pass (64 - (k + 1)) (under_way (k + 1) want p m)) lw in
    let e : play wire (pass (64 - k) (under_way k want path last)) l ≡ more 0 3 r = rw (n, ep, mt) (three (64 - (k + 1)) k want path last l la lb lw a b d ea la-is eb lb-is nt dt lw-is) in
    let s : slots + 3 ≡ slots + 2 + 1 = omega arith in
    record {
      left = sym (more_more 0 slots 0 3 r ∙ ap (λ (z : ℕ). more 0 z r) s) ∙ ap (more 0 slots) (sym e) ∙ g.left;
      place = omega arith;
      low = rw ep (put_low d k path g.low);
      mark_low = rw em (mark_le a b t k last g.mark_low);
      count = let c = g.count in omega arith;
    }

pub going_up : (want : ℕ) (l₀ l la lb : Attached) (k path last slots : ℕ) (a b : Bool)
    → Going want l₀ l k path last slots → k < 64
    → a ≡ hears true l → la ≡ slot_leaves true l → b ≡ hears true la → lb ≡ slot_leaves true la → both a b ≡ true
    → played (ended None (play wire (pass 64 (begun want)) l₀).result) lb 0 (slots + 2) ≡ play wire (pass 64 (begun want)) l₀
going_up want l₀ l la lb k path last slots a b g h ea la-is eb lb-is nt =
    let n : 64 - k ≡ suc (64 - (k + 1)) = omega arith in
    let e : play wire (pass (64 - k) (under_way k want path last)) l ≡ played_pass lb path last false 2 = rw n (two (64 - (k + 1)) k want path last l la lb a b ea la-is eb lb-is nt) in
    let f : played_pass lb path last false (slots + 2) ≡ play wire (pass 64 (begun want)) l₀ = ap (more 0 slots) (sym e) ∙ g.left in
    ap (λ (q : Played End Attached). played_pass lb q.result.path q.result.last false (slots + 2)) (sym f) ∙ f

pub going_end : (want : ℕ) (l₀ l : Attached) (k path last slots : ℕ)
    → Going want l₀ l k path last slots → 64 ≤ k → played_pass l path last true slots ≡ play wire (pass 64 (begun want)) l₀
unfolding play pass
going_end want l₀ l k path last slots g h =
    let q : k ≡ 64 = let p = g.place in omega arith in
    let z : slots + 0 ≡ slots = omega arith in
    ap (λ (s : ℕ). played_pass l path last true s) (sym z)
    ∙ (rw q at g.left)

-- a bit put at its place
pub shl_one : (k : ℕ) → k < 64 → 1 * 2 ^ k % 18446744073709551616 ≡ 2 ^ k
shl_one k h = shl_exact 1 k 64 (omega arith) (omega arith) ∙ one-mul (2 ^ k)

pub put_fits : (k path : ℕ) → k < 64 → path < 2 ^ k → path + 1 * 2 ^ k % 18446744073709551616 < 18446744073709551616
put_fits k path h l =
    let m : 2 ^ (k + 1) ≤ 2 ^ 64 = pow_mono {i = k + 1} {j = 64} (omega arith) in
    rw (shl_one k h) (omega (arith, pow_next k))

-- where the loop of a byte stands after i bits
pub record Writing (byte : ℕ) (l₀ l : Attached) (i : ℕ) : Type 0 where
  pub left : more 0 i (play wire (write (8 - i) i byte) l) ≡ play wire (write 8 0 byte) l₀
  pub within : i ≤ 8

pub writing_start : (byte : ℕ) (l : Attached) → Writing byte l l 0
writing_start byte l = record { left = sym (more_none (play wire (write 8 0 byte) l)); within = omega arith }

pub writing_next : (byte : ℕ) (l₀ l lh : Attached) (i : ℕ) (b : Bool) → Writing byte l₀ l i → i < 8 → b ≡ bit_of byte i → lh ≡ slot_leaves b l → Writing byte l₀ lh (i + 1)
unfolding play write
writing_next byte l₀ l lh i b g t eb lh-is =
    let n : 8 - i ≡ suc (8 - (i + 1)) = omega arith in
    let r = play wire (write (8 - (i + 1)) (i + 1) byte) lh in
    let e : play wire (write (8 - i) i byte) l ≡ more 0 1 r = rw (n, ← eb, ← lh-is) (one_slot b r) in
    record { left = sym (more_more 0 i 0 1 r) ∙ ap (more 0 i) (sym e) ∙ g.left; within = omega arith }

pub writing_end : (byte : ℕ) (l₀ l : Attached) (i : ℕ) → Writing byte l₀ l i → 8 ≤ i → played_write l 8 ≡ play wire (write 8 0 byte) l₀
unfolding play write
writing_end byte l₀ l i g h =
    let q : i ≡ 8 = let p = g.within in omega arith in
    (rw q at g.left)

-- what the next pass wants
pub up_code : (k path : ℕ) → k < 64 → path % (1 * 2 ^ k % 18446744073709551616) + 1 * 2 ^ k % 18446744073709551616 ≡ up_to k path
unfolding up_to
up_code k path h = rw (shl_one k h)

-- the path below a parting and a 1 there have no bit past the parting
pub up_lt : (k path : ℕ) → up_to k path < 2 ^ (k + 1)
unfolding up_to
up_lt k path = omega (arith, mod-lt path (pow_pos k), pow_next k)

pub up_fits : (k path : ℕ) → k < 64 → path % (1 * 2 ^ k % 18446744073709551616) + 1 * 2 ^ k % 18446744073709551616 < 18446744073709551616
up_fits k path h =
    let m : 2 ^ (k + 1) ≤ 2 ^ 64 = pow_mono {i = k + 1} {j = 64} (omega arith) in
    rw (up_code k path h) (omega (arith, up_lt k path))

pub pow_some : (k : ℕ) → k < 64 → 0 < 1 * 2 ^ k % 18446744073709551616
pow_some k h = rw (shl_one k h) (pow_pos k)
