-- What the players of games were shown, as texts (own: docs/FORMATS.md, "Transcripts").
use Rattle.std.specs.Prelude.{ℕ, zero, suc, ◌+◌, if◌then◌else◌, List, [], ◌∷◌, ◌++◌, codes, length}
use Rattle.std.specs.Prelude.{take}
use Rattle.std.specs.List.{flat_map}
use Rattle.gate_journal.specs.declared.command.Command.{Command}
use Rattle.gate_journal.specs.declared.row.Row.{Row}
use Rattle.line_words.specs.Reply.{print_reply}
use Rattle.line_words.specs.Spelling.{number_field}
use Rattle.line_words.specs.declared.reply.No.TheVariants.{Changed}
use Rattle.line_words.specs.declared.reply.Reply.{Reply}
use Rattle.line_words.specs.declared.reply.Reply.TheVariants.{Show, No}
use Rattle.session_core.specs.Answer.{game_show}
use Rattle.session_core.specs.Checks.{is_other_story}
use Rattle.story_run.specs.declared.story.Story.{Story}
use Rattle.story_replay.specs.Games.{games_of}
use Rattle.story_replay.specs.declared.game.Game.{Game}

-- the show of a number: that of the game once so many commands were accepted behind its OPEN
abbrev pub show_at : List Story → List Command → ℕ → List ℕ
show_at stories game n = game_show stories (take (n + 1) game)

-- the reply with the show of a number
abbrev pub shown : List Story → Game → ℕ → Reply
shown stories game n = Show game.session n (show_at stories game.commands n)

-- the first shows of a game, each as a reply is written
abbrev pub shows_below : List Story → Game → ℕ → List ℕ
shows_below stories game zero = []
shows_below stories game (suc n) =
    shows_below stories game n ++ print_reply (shown stories game n)

-- its line: the session, and the place of its OPEN
abbrev pub game_line : Game → List ℕ
game_line game =
    codes "GAME" ++ (number_field game.session ++ (number_field game.place ++ 10 ∷ []))

-- all its shows; or `NO 13` in their place, where its story isn't there or the file is another
unfoldable pub game_body : List Story → Game → List ℕ
game_body stories game =
    if is_other_story stories game.commands then print_reply (No Changed)
    else shows_below stories game (length game.commands)

-- a game's text
unfoldable pub game_text : List Story → Game → List ℕ
game_text stories game = game_line game ++ game_body stories game

-- the texts of a journal's games, and the line `done`
unfoldable pub transcript : List Story → List Row → List ℕ
transcript stories rows = flat_map (game_text stories) (games_of rows) ++ codes "done\n"
