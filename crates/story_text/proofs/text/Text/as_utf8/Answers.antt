use Rattle.std.proofs.Common.{◌≡◌, true, sym, ◌∙◌, ap, subst}
use Rattle.std.specs.Str.{encode_utf8_all, all_scalars}
use Rattle.std.proofs.lemmas.Str.{encodes-chars, scalars-chars, IsUtf8-string_bytes}
use Rattle.story_text.proofs.text.Text.as_utf8.Goals as goal

pub returns-clause-value : goal.returns-clause-value
returns-clause-value c =
    c.as_bytes.ensures.value
    ∙ sym (encodes-chars _ (IsUtf8-string_bytes c.self.inside.utf8))
    ∙ ap encode_utf8_all c.self.view_is

pub returns-clause-scalars : goal.returns-clause-scalars
returns-clause-scalars c =
    subst (λ cs. all_scalars cs ≡ true) c.self.view_is
    (scalars-chars _ (IsUtf8-string_bytes c.self.inside.utf8))
