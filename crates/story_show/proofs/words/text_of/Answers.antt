use Rattle.std.proofs.Common.{◌∙◌, sym}
use Rattle.std.proofs.lemmas.Str.{chars_from_encodes, IsUtf8-string_bytes}
use Rattle.story_show.proofs.words.text_of.Goals as goal

pub returns : goal.returns
returns c =
    c.of.ensures ∙ sym (chars_from_encodes _ _ (IsUtf8-string_bytes c.in_ok-utf8.utf8)
    (sym c.in_ok-utf8.ensures))
