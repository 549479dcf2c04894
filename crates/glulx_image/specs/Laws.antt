-- Which files are images, said of the header alone (Glulx 3.1.3, "The Header").
use Rattle.std.specs.Prelude.{◌≡◌, ◌↔◌, ◌≤◌, ◌%◌, ℕ, List, length, Ok}
use Rattle.glulx_image.specs.Header.{magic, version, ramstart, extstart, endmem, stack_size}
use Rattle.glulx_image.specs.Image.{image_of}

-- a multiple of 256
abbrev pub IsPage : ℕ → Type 0
IsPage n = n % 256 ≡ 0

-- the five checks: the length, the magic number, the version, the memory map, the sizes
pub record IsImage (file : List ℕ) : Type 0 where
  pub whole : (36 ≤ length file) × (extstart file ≤ length file)
  pub named : magic file ≡ 0x476C756C
  pub known : (0x00020000 ≤ version file) × (version file ≤ 0x000301FF)
  pub pages : IsPage (ramstart file) × IsPage (extstart file) × IsPage (endmem file)
      × IsPage (stack_size file)
  pub order : (256 ≤ ramstart file) × (ramstart file ≤ extstart file)
      × (extstart file ≤ endmem file)
  pub sizes : (length file ≤ 67108864) × (endmem file ≤ 16777216) × (stack_size file ≤ 1048576)

-- a file is taken exactly where it keeps the five checks
abbrev pub AcceptsImages : Type 0
AcceptsImages = (file : List ℕ) → (image_of file ≡ Ok file) ↔ IsImage file
