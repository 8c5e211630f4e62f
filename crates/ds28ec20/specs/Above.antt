-- The rule of a byte past the map.
use Rattle.std.specs.Prelude.{ℕ, ◌<◌, ◌≡◌}
use Rattle.std.proofs.Common.{arith, le-ltb, ne_eqb}
use Rattle.base.specs.Pick.{pick_false}
use Rattle.scratchpad.specs.Registers.{rule_of_byte}
use Rattle.scratchpad.specs.Map.{rule_by}
use Rattle.ds28ec20.specs.Map.{last_address, is_data, is_control_or_lock, is_read_only, held, only_falls, ds28ec20}

-- THEOREM: "Above 0A3Fh: the byte sent."
pub above : (a byte control sent : ℕ) → last_address < a → rule_by ds28ec20 a byte control sent ≡ sent
unfolding ds28ec20 rule_by rule_of_byte held only_falls is_data is_control_or_lock is_read_only
above a byte control sent h =
    simp (
      le-ltb a 0x0A00 (omega arith),
      le-ltb a 0x0A0A (omega arith),
      le-ltb a 0x0A20 (omega arith),
      le-ltb a 0x0A40 (omega arith),
      ne_eqb a 0x0A1E (λ (e : a ≡ 0x0A1E). omega arith),
      ne_eqb a 0x0A1F (λ (e : a ≡ 0x0A1F). omega arith),
      pick_false,
    )
