-- The checks of a story file by their numbers (own).
use Rattle.std.specs.Prelude.{ℕ}
use Rattle.glulx_image.specs.declared.fault.ImageFault.{ImageFault}
use Rattle.glulx_image.specs.declared.fault.ImageFault.TheVariants.{Short, Magic, Version, Layout}
use Rattle.glulx_image.specs.declared.fault.ImageFault.TheVariants.{TooLarge}

abbrev pub image_fault_number : ImageFault → ℕ
image_fault_number Short = 1
image_fault_number Magic = 2
image_fault_number Version = 3
image_fault_number Layout = 4
image_fault_number TooLarge = 5
