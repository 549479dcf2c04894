-- Values that the standard gives, so that a wrong rule in the specs doesn't check.
use Rattle.std.specs.Prelude.{◌≡◌, ◌++◌, ℕ, refl, List, [], ◌∷◌, codes, replicate, Ok, Err}
use Rattle.blorb_read.specs.Container.{name, story_span}
use Rattle.blorb_read.specs.declared.fault.BlorbFault.TheVariants.{Cut, NoExec, NotBlorb, NotGlulx}

pub letters : name (codes "FORM") ≡ 0x464F524D
letters = refl

pub index_name : name (codes "RIdx") ≡ 0x52496478
index_name = refl

pub form_alone_is_no_container : story_span (codes "FORM") ≡ Err NotBlorb
form_alone_is_no_container = refl

-- the head of a container of 300 bytes, with the number of its entry and the name of its chunk
pub container : ℕ → List ℕ → List ℕ
container number chunk =
    (0x46 ∷ 0x4F ∷ 0x52 ∷ 0x4D ∷ 0x00 ∷ 0x00 ∷ 0x01 ∷ 0x24 ∷ 0x49 ∷ 0x46 ∷ 0x52 ∷ 0x53
    ∷ 0x52 ∷ 0x49 ∷ 0x64 ∷ 0x78 ∷ 0x00 ∷ 0x00 ∷ 0x00 ∷ 0x10 ∷ 0x00 ∷ 0x00 ∷ 0x00 ∷ 0x01
    ∷ 0x45 ∷ 0x78 ∷ 0x65 ∷ 0x63 ∷ 0x00 ∷ 0x00 ∷ 0x00 ∷ number ∷ 0x00 ∷ 0x00 ∷ 0x00 ∷ 0x24 ∷ [])
    ++ chunk ++ 0x00 ∷ 0x00 ∷ 0x01 ∷ 0x00 ∷ []

pub story_is_found : story_span (container 0 (codes "GLUL") ++ replicate 256 0)
    ≡ Ok (record { start = 44; length = 256 })
unfolding container
story_is_found = refl

pub a_byte_is_missing : story_span (container 0 (codes "GLUL") ++ replicate 255 0) ≡ Err (Cut 36)
unfolding container
a_byte_is_missing = refl

pub another_story : story_span (container 0 (codes "ZCOD") ++ replicate 256 0) ≡ Err NotGlulx
unfolding container
another_story = refl

pub another_number : story_span (container 1 (codes "GLUL") ++ replicate 256 0) ≡ Err NoExec
unfolding container
another_number = refl

-- the first twelve bytes of a container, and the name of its index
pub front : List ℕ
front =
    0x46 ∷ 0x4F ∷ 0x52 ∷ 0x4D ∷ 0x00 ∷ 0x00 ∷ 0x01 ∷ 0x24 ∷ 0x49 ∷ 0x46 ∷ 0x52 ∷ 0x53 ∷ 0x52 ∷ 0x49
    ∷ 0x64 ∷ 0x78 ∷ []

pub no_index : story_span front ≡ Err (Cut 12)
unfolding front
no_index = refl

-- a count of entries that no file holds
pub a_count_of_all_ones :
    story_span (front ++ 0 ∷ 0 ∷ 0 ∷ 0x10 ∷ 0xFF ∷ 0xFF ∷ 0xFF ∷ 0xFF ∷ replicate 276 0) ≡ Err (Cut 12)
unfolding front
a_count_of_all_ones = refl
