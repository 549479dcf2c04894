-- What a drill tells of its eight sessions (own: docs/FORMATS.md, "The drill").
use Rattle.std.specs.Prelude.{ℕ, List, [], ◌∷◌, ◌++◌, codes, decimal, length, map}
use Rattle.std.specs.List.{flat_map, range_with_len}
use Rattle.hex.specs.Hex.{encode_lower}
use Rattle.sha2.specs.Sha256.{sha256}
use Rattle.line_talk.specs.Conversation.{texts_joined}
use Rattle.line_talk.specs.Lines.{lines}
use Rattle.line_words.specs.Reply.{print_reply}
use Rattle.line_words.specs.declared.reply.Reply.{Reply}
use Rattle.reply_tally.specs.Refusals.{refusals_in}
use Rattle.session_core.specs.Turning.{commands_in}
use Rattle.session_core.specs.declared.entry.Entry.{Entry}
use Rattle.story_make.specs.Echo.{echo_bytes}
use Rattle.story_make.specs.Script.{script_bytes}
use Rattle.story_run.specs.declared.story.Story.{Story}
use Rattle.host_drill.specs.Alone.{history_alone, replies_alone}

-- the Echo story: its image, and the digest of its file
abbrev pub echo : Story
echo = record { image = echo_bytes; digest = sha256 echo_bytes }

-- the lines of a session: those of its script of 1,000 turns
unfoldable pub lines_of : ℕ → ℕ → List (List ℕ)
lines_of number s = lines (script_bytes number s 1000)

-- the replies to them, from an empty history on, with 50,000,000 ticks a turn
unfoldable pub drilled_replies : ℕ → ℕ → List Reply
drilled_replies number s = replies_alone (echo ∷ []) 50000000 [] (lines_of number s)

-- the history behind them
unfoldable pub drilled_history : ℕ → ℕ → List Entry
drilled_history number s = history_alone (echo ∷ []) 50000000 [] (lines_of number s)

-- so many commands were accepted, so many replies are refusals, and the digest of the replies
abbrev pub counts_line : ℕ → ℕ → ℕ → List ℕ → List ℕ
counts_line s accepted refused digest =
    decimal s ++ codes " " ++ decimal accepted ++ codes " " ++ decimal refused ++ codes " "
    ++ digest ++ codes "\n"

-- what is told of a session; the digest is of the replies as they are written
abbrev pub session_line : ℕ → ℕ → List ℕ
session_line number s =
    counts_line s (length (commands_in (drilled_history number s)))
    (length (refusals_in (drilled_replies number s)))
    (encode_lower (sha256 (texts_joined (map print_reply (drilled_replies number s)))))

-- what a drill tells: its sessions from 0 to 7, and that it is done
unfoldable pub drill_text : ℕ → List ℕ
drill_text number = flat_map (session_line number) (range_with_len 0 8) ++ codes "done\n"
