-- What a tally says of replies (own).
use Rattle.std.specs.Prelude.{◌≡◌, ℕ, ◌+◌, ◌||◌, if◌then◌else◌, List, length}
use Rattle.std.specs.List.{list_any}
use Rattle.line_words.specs.declared.reply.Reply.{Reply}
use Rattle.reply_tally.specs.Refusals.{refusals_in, is_failure, begins_refusal, says_failure}
use Rattle.reply_tally.specs.declared.tally.Tally.{Tally}

-- a tally with one line more
pub record AddsLine (line : List ℕ) (before after : Tally) : Type 0 where
  pub refusals : after.refusals ≡ before.refusals + (if begins_refusal line then 1 else 0)
  pub failed : after.failed ≡ (before.failed || says_failure line)

-- a tally counts the refusals among replies, and says whether the host failed in one
pub record IsTallyOf (replies : List Reply) (tally : Tally) : Type 0 where
  pub refusals : tally.refusals ≡ length (refusals_in replies)
  pub failed : tally.failed ≡ list_any is_failure (refusals_in replies)
