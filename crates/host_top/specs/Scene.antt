-- What the program sees, and a scene that is told (own).
use Rattle.std.specs.Prelude.{◌≡◌, ℕ, List, map, Some}
use Rattle.line_talk.specs.Streams.{SourceState, SinkState}
use Rattle.host_top.specs.Files.{OutsideState, There}

-- what the program sees at one moment: the files, disks and doors outside, its input and its output
pub record Scene (D : Type 0) : Type 0 where
  pub outside : OutsideState D
  pub input : SourceState
  pub output : SinkState

abbrev pub scene : {D : Type 0} → OutsideState D → SourceState → SinkState → Scene D
scene outside input output = record { outside = outside; input = input; output = output }

-- told is what the files of these names hold, what is left of the input, and what the output holds
pub record IsTold {D : Type 0} (names : List (List ℕ)) (seen : Scene D) (files : List (List ℕ))
    (bytes held : List ℕ) : Type 0 where
  pub are_there : map seen.outside.file names ≡ map There files
  pub left : seen.input.left ≡ Some bytes
  pub holds : seen.output.held ≡ Some held
