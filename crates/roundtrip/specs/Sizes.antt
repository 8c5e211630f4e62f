-- The sizes of hex files are those of the chip: "an image not of 2,624 bytes", "a data byte's address above 0A3Fh".
use Rattle.std.specs.Prelude.{suc, ◌≡◌, refl}
use Rattle.base.specs.Pick.{pick}
use Rattle.chip.specs.Kinds as kinds
use Rattle.ds28ec20.specs.Map as map
use Rattle.intelhex.specs.Faults.{image_size, last_address}

-- THEOREM: an image has as many bytes as a chip of kind 1 asks for, the last address is that of the map of a DS28EC20, and it is the last of the image
pub record Same : Type 0 where
  pub size : image_size ≡ kinds.image_size 1
  pub last : last_address ≡ map.last_address
  pub ends : image_size ≡ suc last_address

pub same : Same
unfolding kinds.image_size pick
same = record { size = refl; last = refl; ends = refl }
