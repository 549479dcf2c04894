use Rattle.story_text.proofs.EscapeLemmas.{is_bad_utf8, is_good_utf8}
use Rattle.story_text.proofs.read.utf8_of.Goals as goal

pub returns-in-Ok-clause-some : goal.returns-in-Ok-clause-some
returns-in-Ok-clause-some c = is_good_utf8 c.in-Ok.utf8 c.args.bytes c.in-Ok.ensures.ok

pub returns-clause-none : goal.returns-clause-none
returns-clause-none c =
    is_bad_utf8 c.args.bytes.items c.from_utf8.result c.in-Err.field-0 c.in-Err.is
    c.from_utf8.ensures.succeeds
