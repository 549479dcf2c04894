-- A line as a host reads it (own).
use Rattle.std.specs.Prelude.{◌≡◌, ◌⊎◌, ℕ, if◌then◌else◌, List, Some, None}
use Rattle.line_words.specs.Play.{is_long}
use Rattle.line_words.specs.Request.{request_of}
use Rattle.line_words.specs.declared.reply.No.{No}
use Rattle.line_words.specs.declared.reply.No.TheVariants.{BadLine, LongLine, NoMemory}
use Rattle.line_words.specs.declared.request.Request.{Request}
use Rattle.session_core.specs.Sessions.{with_budget}
use Rattle.session_desk.specs.Commit.{IsInRange}

-- the request of a line, with the host's budget, whose command a journal may keep
pub record LineIsReadAs (budget : ℕ) (line : List ℕ) (request : Request) : Type 0 where
  pub given : Request
  pub spelled : request_of line ≡ Some given
  pub budgeted : request ≡ with_budget budget given
  pub ranges : IsInRange request

-- why a line isn't read: it spells no request, or memory ran out
abbrev pub IsUnread : List ℕ → No → Type 0
IsUnread line why =
    (request_of line ≡ None) × (why ≡ (if is_long line then LongLine else BadLine))
    ⊎ (why ≡ NoMemory)
