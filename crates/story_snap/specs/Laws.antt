-- What ties worlds to bytes (own).
use Rattle.std.specs.Prelude.{◌≡◌, ℕ, List, Some}
use Rattle.story_run.specs.World.{WorldState}
use Rattle.story_snap.specs.Bytes.{HasBytes, IsWorldOf}
use Rattle.story_snap.specs.Fields.{fields_of}
use Rattle.story_snap.specs.Made.{world_made}

-- the fields of a world make that world
abbrev pub GivesBackWorld : Type 0
GivesBackWorld =
    (image : List ℕ) (w : WorldState) → IsWorldOf image w
    → world_made image (fields_of w) ≡ Some w

-- no two worlds of a story have the same bytes
abbrev pub HasOneWorld : Type 0
HasOneWorld =
    (image bytes : List ℕ) (v w : WorldState) → HasBytes image bytes v → HasBytes image bytes w
    → v ≡ w

-- no world of a story has two spellings
abbrev pub WorldsHaveOneSpelling : Type 0
WorldsHaveOneSpelling =
    (image a b : List ℕ) (w : WorldState) → HasBytes image a w → HasBytes image b w → a ≡ b
