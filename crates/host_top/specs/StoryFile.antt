-- The story in a file: a container or an image (Blorb 2.0.4, "Executable Resource Chunks").
use Rattle.std.specs.Prelude.{ℕ, ◌++◌, if◌then◌else◌, List, take, drop, Bool, codes}
use Rattle.std.specs.Prelude.{Result, Ok, Err}
use Rattle.std.specs.Fmt.{decimal}
use Rattle.std.specs.Str.{bytes_eq}
use Rattle.blorb_read.specs.Container as container
use Rattle.blorb_read.specs.Fault as blorb
use Rattle.blorb_read.specs.declared.container.Span.{Span}
use Rattle.blorb_read.specs.declared.fault.BlorbFault.{BlorbFault}
use Rattle.glulx_image.specs.Fault as image
use Rattle.glulx_image.specs.declared.fault.ImageFault.{ImageFault}
use Rattle.story_run.specs.Story as image_story
use Rattle.story_run.specs.declared.story.Story.{Story}
use Rattle.host_top.specs.declared.story_file.StoryFault.{StoryFault}
use Rattle.host_top.specs.declared.story_file.StoryFault.TheVariants.{Image, Blorb}

-- a file that begins with `FORM` is read as a container
abbrev pub is_container : List ℕ → Bool
is_container file = bytes_eq (codes "FORM") (take 4 file)

-- the bytes of a file that a span tells
abbrev pub span_bytes : List ℕ → Span → List ℕ
span_bytes file span = take span.length (drop span.start file)

-- the contents of the story's chunk
abbrev pub chunk_of : List ℕ → Result Span BlorbFault → Result (List ℕ) StoryFault
chunk_of file (Ok span) = Ok (span_bytes file span)
chunk_of file (Err fault) = Err (Blorb fault)

-- the bytes of the image: those of the container's story, or the whole file
abbrev pub image_bytes : List ℕ → Result (List ℕ) StoryFault
image_bytes file = if is_container file then chunk_of file (container.story_span file) else Ok file

-- a story, or the check that its image fails
abbrev pub or_image_fault : Result Story ImageFault → Result Story StoryFault
or_image_fault (Ok story) = Ok story
or_image_fault (Err fault) = Err (Image fault)

-- the story of the image's bytes
abbrev pub story_in : Result (List ℕ) StoryFault → Result Story StoryFault
story_in (Ok bytes) = or_image_fault (image_story.story_of bytes)
story_in (Err fault) = Err fault

-- the story of a file, or the first fault of its container or its image
abbrev pub story_in_file : List ℕ → Result Story StoryFault
story_in_file file = story_in (image_bytes file)

-- the line for an image that is refused, by the story's position and the fault's number
abbrev pub bad_image : ℕ → ℕ → List ℕ
bad_image position number =
    codes "bad " ++ decimal position ++ codes " image " ++ decimal number ++ codes "\n"

-- the line for a container that is refused
abbrev pub bad_container : ℕ → ℕ → List ℕ
bad_container position number =
    codes "bad " ++ decimal position ++ codes " blorb " ++ decimal number ++ codes "\n"

-- the line for a story that is refused, by its position
abbrev pub bad_line : ℕ → StoryFault → List ℕ
bad_line position (Image fault) = bad_image position (image.image_fault_number fault)
bad_line position (Blorb fault) = bad_container position (blorb.container_fault_number fault)
