use Rattle.std.proofs.Common.{◌∙◌}
use Rattle.std.proofs.lemmas.Str.{IsUtf8-string_bytes}
use Rattle.story_text.proofs.SameLemmas.{bytes_eq-views}
use Rattle.story_text.proofs.text.Text.is_same.Goals as goal

pub returns : goal.returns
returns c =
    c.eq.ensures
    ∙ bytes_eq-views _ _ _ _ (IsUtf8-string_bytes c.self.inside.utf8)
    (IsUtf8-string_bytes c.other.inside.utf8) c.self.view_is c.other.view_is
