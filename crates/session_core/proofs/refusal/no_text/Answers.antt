use Rattle.std.proofs.Common.{◌∙◌}
use Rattle.std.proofs.lemmas.Str.{chars-nil}
use Rattle.session_core.proofs.refusal.no_text.Goals as goal

pub returns : goal.returns
returns c = c.of.ensures ∙ rw c.new.ensures.bytes chars-nil
