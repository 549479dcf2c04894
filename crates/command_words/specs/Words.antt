-- What the words of the command line ask for (own).
use Rattle.std.specs.Prelude.{ℕ, if◌then◌else◌, List, [], ◌∷◌, length, map}
use Rattle.std.specs.Prelude.{nat_le, option_and_then, option_map, Option, None, Some, codes}
use Rattle.std.specs.Str.{bytes_eq}
use Rattle.clap.specs.Faults.{fault_of}
use Rattle.clap.specs.Kinds.{Kinds}
use Rattle.clap.specs.Simple.{subcommand_of}
use Rattle.clap.specs.Walk.{Row, Text, all_of, first_of}
use Rattle.clap.specs.declared.error.kind.ErrorKind.{ErrorKind}
use Rattle.clap.specs.declared.error.kind.ErrorKind.TheVariants.{DisplayHelp, DisplayVersion}
use Rattle.command_words.specs.CommandLine.{storyhost_app}
use Rattle.command_words.specs.Help.{topic_of}
use Rattle.command_words.specs.Numbers.{budget_given, drill_number_of}
use Rattle.command_words.specs.Serving.{serving_in}
use Rattle.command_words.specs.declared.help.Topic.{Topic}
use Rattle.command_words.specs.declared.words.Action.{Action}
use Rattle.command_words.specs.declared.words.Action.TheVariants.{Run, Check, Pipe, Init, Help}
use Rattle.command_words.specs.declared.words.Action.TheVariants.{Serve, Replay, Pack, Drill}
use Rattle.command_words.specs.declared.words.Action.TheVariants.{Version}
use Rattle.command_words.specs.declared.words.Serving.{Serving}
use Rattle.command_words.specs.declared.command.Command.{Command}

-- what the program is asked to do, with the folder, the one that it is packed into, the names of its
-- story files and the budget of a turn
pub record Asked : Type 0 where
  pub action : Action
  pub folder : Text
  pub into : Text
  pub names : List Text
  pub budget : ℕ

-- what a command asks for
abbrev pub command_asked : Command → Asked
command_asked command = record {
  action = command.action;
  folder = command.folder.now;
  into = command.into.now;
  names = map (λ name. name.now) command.names.items;
  budget = command.budget;
}

-- this folder, these story files, at most 64, and this budget
abbrev pub asked_for : Action → Option Text → Option (List Text) → Option ℕ → Option Asked
asked_for action None names budget = None
asked_for action (Some folder) None budget = None
asked_for action (Some folder) (Some names) None = None
asked_for action (Some folder) (Some names) (Some budget) =
    if nat_le (length names) 64
    then Some (record {
      action = action;
      folder = folder;
      into = [];
      names = names;
      budget = budget;
    })
    else None

-- what an action is given: the folder, the files of an argument, and the budget
abbrev pub asked_with : Action → Option Text → Text → List Row → Option Asked
asked_with action folder files rows =
    asked_for action folder (all_of files rows) (budget_given (first_of (codes "budget") rows))

-- the folder that is given
abbrev pub folder_in : List Row → Option Text
folder_in rows = first_of (codes "DIR") rows

-- a folder alone, with no story
abbrev pub asked_on : Action → Option Text → Option Asked
asked_on action None = None
asked_on action (Some folder) =
    Some (record { action = action; folder = folder; into = []; names = []; budget = 50000000 })

-- one folder into another, which aren't named by the same word
abbrev pub asked_between : Option Text → Option Text → Option Asked
asked_between None new = None
asked_between (Some old) None = None
asked_between (Some old) (Some new) =
    if bytes_eq old new then None
    else Some (record { action = Pack; folder = old; into = new; names = []; budget = 50000000 })

-- the old folder and the new one that are given
abbrev pub asked_packing : List Row → Option Asked
asked_packing rows = asked_between (first_of (codes "OLD") rows) (first_of (codes "NEW") rows)

-- a folder and its story files, served so
abbrev pub asked_serving : Option Serving → List Row → Option Asked
asked_serving None rows = None
asked_serving (Some serving) rows =
    asked_with (Serve serving) (folder_in rows) (codes "STORY") rows

-- an action that needs neither a folder nor files
abbrev pub asked_alone : Option Action → Option Asked
asked_alone None = None
asked_alone (Some action) =
    Some (record { action = action; folder = []; into = []; names = []; budget = 50000000 })

-- the drill of the number that is given
abbrev pub drill_in : List Row → Option Action
drill_in rows =
    option_map Drill (option_and_then drill_number_of (first_of (codes "N") rows))

-- what a command of the program asks for, by its name and what it is given
abbrev pub asked_in : Text × List Row → Option Asked
asked_in given =
    if bytes_eq given.0 (codes "run") then asked_with Run (Some []) (codes "FILE") given.1 else
    (if bytes_eq given.0 (codes "check")
    then asked_with Check (Some []) (codes "FILE") given.1 else
    (if bytes_eq given.0 (codes "init") then asked_on Init (folder_in given.1) else
    (if bytes_eq given.0 (codes "pipe")
    then asked_with Pipe (folder_in given.1) (codes "STORY") given.1 else
    (if bytes_eq given.0 (codes "serve")
    then asked_serving (serving_in given.1) given.1 else
    (if bytes_eq given.0 (codes "replay")
    then asked_with Replay (folder_in given.1) (codes "STORY") given.1 else
    (if bytes_eq given.0 (codes "pack") then asked_packing given.1 else
    (if bytes_eq given.0 (codes "drill") then asked_alone (drill_in given.1) else None)))))))

-- the action that shows a text where `clap` says that one is wanted
abbrev pub shown_by : Topic → ErrorKind → Option Action
shown_by topic DisplayHelp = Some (Help topic)
shown_by topic DisplayVersion = Some Version
shown_by topic kind = None

-- what words ask for, by what `clap` has against them
abbrev pub asked_after : Kinds → List Text → Option Asked
asked_after [] words = option_and_then asked_in (subcommand_of storyhost_app words)
asked_after (kind ∷ more) words = asked_alone (shown_by (topic_of words) kind)

-- what words ask for, where they are taken
abbrev pub asked_by : List Text → Option Asked
asked_by words = asked_after (fault_of storyhost_app words) words
