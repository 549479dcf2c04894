-- How `pack` is asked to pack (own).
use Rattle.std.specs.Prelude.{◌≡◌, false}
use Rattle.std.specs.Str.{bytes_eq}
use Rattle.clap.specs.Walk.{Text}
use Rattle.command_words.specs.declared.words.Action.{Action}
use Rattle.command_words.specs.declared.words.Action.TheVariants.{Pack}

-- an action that packs no folder
abbrev pub IsNoPacking : Action → Type 0
IsNoPacking action = action ≡ Pack → ⊥

-- where a folder is packed, the other one has another name
abbrev pub HaveOtherNames : Action → Text → Text → Type 0
HaveOtherNames action folder into = action ≡ Pack → bytes_eq folder into ≡ false
