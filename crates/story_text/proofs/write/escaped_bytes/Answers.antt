use Rattle.story_text.proofs.EscapeLemmas.{Escapes-adding}
use Rattle.story_text.proofs.write.escaped_bytes.Goals as goal

pub returns : goal.returns
returns c =
    Escapes-adding c.add.result c.add-2.result c.add.ensures.added c.add.ensures.others
    c.add-2.ensures.added c.add-2.ensures.others
