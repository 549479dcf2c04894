-- The games of a journal's rows (own: docs/FORMATS.md, "Transcripts").
use Rattle.std.specs.Prelude.{ℕ, zero, suc, ◌==◌, ◌&&◌, Bool, if◌then◌else◌, List, [], ◌∷◌, ◌++◌}
use Rattle.gate_journal.specs.Rows.{is_open}
use Rattle.gate_journal.specs.declared.command.Command.{Command}
use Rattle.gate_journal.specs.declared.row.Row.{Row}
use Rattle.story_replay.specs.declared.game.Game.{Game}

-- a session's commands up to its next OPEN
abbrev pub commands_from : ℕ → List Row → List Command
commands_from session [] = []
commands_from session (r ∷ rows) =
    if r.session == session
    then (if is_open r.command then [] else r.command ∷ commands_from session rows)
    else commands_from session rows

-- the game that a row opens, before these
abbrev pub game_from : Row → List Row → Game
game_from r rows = record {
  session = r.session;
  place = r.place;
  commands = r.command ∷ commands_from r.session rows;
}

-- the row opens a game of this session
abbrev pub opens_game : ℕ → Row → Bool
opens_game session r = r.session == session && is_open r.command

-- the games of one session, in their order
abbrev pub games_in : ℕ → List Row → List Game
games_in session [] = []
games_in session (r ∷ rows) =
    if opens_game session r then game_from r rows ∷ games_in session rows
    else games_in session rows

-- those of the sessions below a number, by ascending session
abbrev pub games_below : ℕ → List Row → List Game
games_below zero rows = []
games_below (suc session) rows = games_below session rows ++ games_in session rows

-- one game for each OPEN, by ascending session and then in the order of the rows
unfoldable pub games_of : List Row → List Game
games_of rows = games_below 256 rows
