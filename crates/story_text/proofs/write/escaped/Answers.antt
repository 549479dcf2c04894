use Rattle.std.proofs.Common.{refl}
use Rattle.story_text.specs.Escape.{escaped}
use Rattle.story_text.proofs.EscapeLemmas.{percent_encode-own}
use Rattle.story_text.proofs.write.escaped.Goals as goal

pub returns : goal.returns
unfolding escaped lib.Utf8.encode
returns c =
    rw (
      c.in_ok-append_to.ensures.ok,
      c.in_ok-push.ensures.bytes,
      c.new-word.ensures.bytes,
      c.percent_encode.ensures.text,
      percent_encode-own c.escaped_bytes.result _ c.escaped_bytes.ensures,
      c.as_utf8.ensures.value,
    ) refl
