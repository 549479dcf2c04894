-- Which files are images (Glulx 3.1.3, "The Header").
use Rattle.std.specs.Prelude.{ℕ, ◌==◌, ◌&&◌, nat_lt, if◌then◌else◌, List, length, Result, Ok, Err}
use Rattle.glulx_image.specs.Header.{magic, has_version, has_pages, has_order, is_too_large}
use Rattle.glulx_image.specs.Header.{extstart}
use Rattle.glulx_image.specs.declared.fault.ImageFault.{ImageFault}
use Rattle.glulx_image.specs.declared.fault.ImageFault.TheVariants.{Short, Magic, Version, Layout}
use Rattle.glulx_image.specs.declared.fault.ImageFault.TheVariants.{TooLarge}

-- the file, or the first check that it fails
abbrev pub image_of : List ℕ → Result (List ℕ) ImageFault
image_of file =
    if nat_lt (length file) 36 then Err Short
    else (if magic file == 0x476C756C then
    (if has_version file then
    (if has_pages file && has_order file then
    (if is_too_large file then Err TooLarge
    else (if nat_lt (length file) (extstart file) then Err Short else Ok file))
    else Err Layout)
    else Err Version)
    else Err Magic)
