-- The texts that the program shows of itself (own).
use Rattle.std.specs.Prelude.{ℕ, if◌then◌else◌, List, [], ◌∷◌, codes}
use Rattle.std.specs.Str.{bytes_eq}
use Rattle.command_words.specs.declared.help.TheConstants.{PROGRAM_HELP, RUN_HELP, CHECK_HELP}
use Rattle.command_words.specs.declared.help.TheConstants.{INIT_HELP, PIPE_HELP, SERVE_HELP}
use Rattle.command_words.specs.declared.help.TheConstants.{REPLAY_HELP, PACK_HELP, DRILL_HELP}
use Rattle.command_words.specs.declared.help.TheConstants.{VERSION_TEXT}
use Rattle.command_words.specs.declared.help.Topic.{Topic}
use Rattle.command_words.specs.declared.help.Topic.TheVariants.{Program, Run, Check, Init}
use Rattle.command_words.specs.declared.help.Topic.TheVariants.{Pipe, Serve, Replay, Pack, Drill}

-- the text for a topic
abbrev pub help_text : Topic → List ℕ
help_text Program = PROGRAM_HELP.now
help_text Run = RUN_HELP.now
help_text Check = CHECK_HELP.now
help_text Init = INIT_HELP.now
help_text Pipe = PIPE_HELP.now
help_text Serve = SERVE_HELP.now
help_text Replay = REPLAY_HELP.now
help_text Pack = PACK_HELP.now
help_text Drill = DRILL_HELP.now

-- the text of the version
abbrev pub version_text : List ℕ
version_text = VERSION_TEXT.now

-- what a word is the name of
abbrev pub topic_named : List ℕ → Topic
topic_named word =
    if bytes_eq word (codes "run") then Run else
    (if bytes_eq word (codes "check") then Check else
    (if bytes_eq word (codes "init") then Init else
    (if bytes_eq word (codes "pipe") then Pipe else
    (if bytes_eq word (codes "serve") then Serve else
    (if bytes_eq word (codes "replay") then Replay else
    (if bytes_eq word (codes "pack") then Pack else
    (if bytes_eq word (codes "drill") then Drill else Program)))))))

-- what help is asked of: the command that the first word names, or else the program
abbrev pub topic_of : List (List ℕ) → Topic
topic_of [] = Program
topic_of (word ∷ words) = topic_named word
