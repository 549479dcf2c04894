-- What a spectator is answered (own: docs/FORMATS.md, "Spectators").
use Rattle.std.specs.Prelude.{ℕ, zero, suc, ◌+◌, ◌-◌, Bool, false, ◌&&◌, ◌||◌, not, nat_lt, nat_le}
use Rattle.std.specs.Prelude.{min, List, [], ◌∷◌, ◌++◌, Option, Some, None}
use Rattle.std.specs.Str.{bytes_eq}
use Rattle.gate_journal.specs.declared.command.Command.{Command}
use Rattle.gate_journal.specs.declared.command.Command.TheVariants.{Open}
use Rattle.line_words.specs.Reply.{print_show}
use Rattle.line_words.specs.declared.reply.No.{No}
use Rattle.line_words.specs.declared.reply.No.TheVariants.{NoSession, Changed, Early}
use Rattle.line_words.specs.declared.reply.Reply.{Reply}
use Rattle.line_words.specs.declared.reply.Reply.TheVariants as replies
use Rattle.story_run.specs.declared.story.Story.{Story}
use Rattle.session_core.specs.History.{command_count, game_of, is_in_use}
use Rattle.session_core.specs.Checks.{is_other_story}
use Rattle.session_core.specs.Answer.{first_refusal, solo_show}
use Rattle.story_watch.specs.Word.{watch_word}

-- the game was opened with a key whose word this is
abbrev pub has_word : List Command → List ℕ → Bool
has_word (Open key story digest seed cols rows budget ∷ after) word =
    bytes_eq (watch_word key) word
has_word _ word = false

-- NO 2: no such session number, or the session is free or has another word
abbrev pub is_hidden : List Command → ℕ → List ℕ → Bool
is_hidden game s word = nat_le 64 s || not (is_in_use game && has_word game word)

-- the checks of a spectator's request, in their order: NO 13 as of any other request; NO 5: the
-- show is past that of the last command
abbrev pub watch_checks : List Story → List Command → ℕ → List ℕ → ℕ → List (Bool × No)
watch_checks stories game s word from =
    (is_hidden game s word, NoSession)
    ∷ (is_other_story stories game, Changed)
    ∷ (nat_lt (command_count game) from, Early (command_count game))
    ∷ []

-- so many shows of a game, from this number on, as they are written
abbrev pub shows_from : List Story → List Command → ℕ → ℕ → ℕ → List ℕ
shows_from stories game s n zero = []
shows_from stories game s n (suc more) =
    print_show s n (solo_show stories game n) ++ shows_from stories game s (n + 1) more

-- the last show of a reply, which has at most eight: that of the last command, or an earlier one
abbrev pub last_watched : List Command → ℕ → ℕ
last_watched game from = min (command_count game) (from + 7)

-- the shows of a game from this number on to the last one of the reply
abbrev pub seen_reply : List Story → List Command → ℕ → ℕ → Reply
seen_reply stories game s from =
    replies.Seen s from (last_watched game from)
    (shows_from stories game s from (last_watched game from + 1 - from))

-- a refusal, or else the shows
abbrev pub reply_unless : Option No → Reply → Reply
reply_unless (Some why) seen = replies.No why
reply_unless None seen = seen

-- what a session with these commands answers to a spectator
abbrev pub watch_reply : List Story → List Command → ℕ → List ℕ → ℕ → Reply
watch_reply stories commands s word from =
    reply_unless (first_refusal (watch_checks stories (game_of commands) s word from))
    (seen_reply stories (game_of commands) s from)
