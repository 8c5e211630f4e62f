-- Laws: signed numbers as words hold them.
use Rattle.std.specs.Prelude.{ℕ, ◌<◌, ◌≡◌}
use Rattle.std.proofs.Common.{lt-ltb, to_z}
use Rattle.std.specs.Int.{w8, w16}
use Rattle.base.specs.Pick.{pick}
use Rattle.setpoints.specs.Signed.{signed}

-- the signed number of one byte, and of two
pub byte_word : (n : ℕ) → n < 0x100 → to_z w8 n ≡ signed 1 n
unfolding signed pick
byte_word n h = rw (lt-ltb n 0x100 h)

pub pair_word : (n : ℕ) → n < 0x10000 → to_z w16 n ≡ signed 2 n
unfolding signed pick
pair_word n h = rw (lt-ltb n 0x10000 h)
