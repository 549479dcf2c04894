-- The refusals among replies, and their lines (own: docs/FORMATS.md, "Requests of a connection").
use Rattle.std.specs.Prelude.{ℕ, Bool, true, false, ◌||◌, nat_eq, List, ◌++◌, codes}
use Rattle.std.specs.Prelude.{Option, Some, None}
use Rattle.std.specs.List.{filter_map, starts_with}
use Rattle.std.specs.Str.{bytes_eq}
use Rattle.line_words.specs.Reply.{number_of_no, numbers_of_no}
use Rattle.line_words.specs.Spelling.{number_field}
use Rattle.line_words.specs.declared.reply.No.{No}
use Rattle.line_words.specs.declared.reply.No.TheVariants.{DiskFault, NoMemory}
use Rattle.line_words.specs.declared.reply.Reply.{Reply}
use Rattle.line_words.specs.declared.reply.Reply.TheVariants as replies

-- the refusal that a reply is, if it is one
abbrev pub refusal_of_reply : Reply → Option No
refusal_of_reply (replies.Show s n body) = None
refusal_of_reply (replies.No why) = Some why
refusal_of_reply (replies.Seen s from to text) = None

-- the refusals among replies, in their order
abbrev pub refusals_in : List Reply → List No
refusals_in replies = filter_map refusal_of_reply replies

-- a refusal says that the host failed: its disk, or its memory
abbrev pub is_failure : No → Bool
is_failure (DiskFault from to) = true
is_failure NoMemory = true
is_failure _ = false

-- the line of a refusal, without its LF
abbrev pub line_of_no : No → List ℕ
line_of_no why = codes "NO" ++ (number_field (number_of_no why) ++ numbers_of_no why)

-- a line begins with `NO `
abbrev pub begins_refusal : List ℕ → Bool
begins_refusal line = starts_with nat_eq line (codes "NO ")

-- a line is `NO 12`, or begins with `NO 11 `
abbrev pub says_failure : List ℕ → Bool
says_failure line = bytes_eq line (codes "NO 12") || starts_with nat_eq line (codes "NO 11 ")
