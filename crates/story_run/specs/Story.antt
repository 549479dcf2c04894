-- A story (own).
use Rattle.std.specs.Prelude.{ℕ, List, Result, Ok, Err}
use Rattle.sha2.specs.Sha256.{sha256}
use Rattle.glulx_image.specs.Image.{image_of}
use Rattle.glulx_image.specs.declared.fault.ImageFault.{ImageFault}
use Rattle.story_run.specs.declared.story.Story.{Story}

-- an image with the digest of these bytes
abbrev pub with_digest : List ℕ → Result (List ℕ) ImageFault → Result Story ImageFault
with_digest file (Ok image) = Ok (record { image = image; digest = sha256 file })
with_digest file (Err fault) = Err fault

-- the story of a file, or the first check of the header that it fails
abbrev pub story_of : List ℕ → Result Story ImageFault
story_of file = with_digest file (image_of file)
