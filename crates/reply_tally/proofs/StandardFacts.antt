-- Lines that docs/FORMATS.md gives, so that a wrong rule in the specs doesn't check.
use Rattle.std.proofs.Common.{◌≡◌, ℕ, List, [], ◌∷◌, ◌++◌, map, filter, true, false, refl, ap, sym}
use Rattle.std.proofs.Common.{append_assoc}
use Rattle.std.specs.Prelude.{codes}
use Rattle.std.specs.Fmt.{digits}
use Rattle.line_words.specs.Reply.{number_of_no, numbers_of_no, print_no, print_reply}
use Rattle.line_words.specs.Spelling.{number_field}
use Rattle.line_words.specs.declared.reply.No.{No}
use Rattle.line_words.specs.declared.reply.No.TheVariants.{Other, DiskFault}
use Rattle.line_words.specs.declared.reply.Reply.{Reply}
use Rattle.line_words.specs.declared.reply.Reply.TheVariants as replies
use Rattle.line_talk.specs.Conversation.{texts_joined}
use Rattle.line_talk.specs.Lines.{lines}
use Rattle.reply_tally.specs.ShowLines.{begins_show}
use Rattle.reply_tally.specs.Refusals.{refusals_in, is_failure, line_of_no, begins_refusal}
use Rattle.reply_tally.specs.Refusals.{says_failure}

-- a refusal, a show and the disk's fault
abbrev three : List Reply
three =
    replies.No Other
    ∷ replies.Show 0 1 (codes "W 1 3 0 0 80 24\n")
    ∷ replies.No (DiskFault 0 1)
    ∷ []

pub as_they_are_written :
    texts_joined (map print_reply three)
    ≡ codes "NO 7\nSHOW 0 1\nW 1 3 0 0 80 24\n.\nNO 11 0 1\n"
unfolding digits
as_they_are_written = refl

pub refusals_of_three :
    filter begins_refusal (lines (codes "NO 7\nSHOW 0 1\nW 1 3 0 0 80 24\n.\nNO 11 0 1\n"))
    ≡ codes "NO 7" ∷ codes "NO 11 0 1" ∷ []
refusals_of_three = refl

pub failures_of_three : map is_failure (refusals_in three) ≡ false ∷ true ∷ []
failures_of_three = refl

pub a_line_and_its_lf : (why : No) → print_no why ≡ line_of_no why ++ 10 ∷ []
a_line_and_its_lf why =
    ap (λ (more : List ℕ). codes "NO" ++ more)
    (sym (append_assoc (number_field (number_of_no why)) (numbers_of_no why) (10 ∷ [])))

pub failures_only :
    map says_failure
    (codes "NO 11 0 1" ∷ codes "NO 12" ∷ codes "NO 1" ∷ codes "NO 10" ∷ codes "NO 13" ∷ [])
    ≡ true ∷ true ∷ false ∷ false ∷ false ∷ []
failures_only = refl

pub letters_of_shows :
    map begins_show
    (codes "E closed" ∷ codes "T 1 0 =Hi" ∷ codes "NO 7" ∷ codes "SHOW 0 1" ∷ codes "." ∷ [])
    ≡ true ∷ true ∷ false ∷ false ∷ false ∷ []
letters_of_shows = refl
