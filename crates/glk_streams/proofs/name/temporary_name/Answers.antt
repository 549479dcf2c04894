use Rattle.std.proofs.Common.{◌++◌, ◌∙◌, ap, List, ℕ}
use Rattle.std.specs.Prelude.{codes}
use Rattle.glk_streams.proofs.NameLemmas.{temp_chars}
use Rattle.glk_streams.proofs.name.temporary_name.Goals as goal

pub returns : goal.returns
returns c =
    rw (
      c.of.ensures,
      c.in_ok-push_str-2.ensures.bytes,
      c.in_ok-push_str.ensures.bytes,
      c.new-name.ensures.bytes,
    )
    (temp_chars _ c.format.ensures.ascii
    ∙ ap (λ (d : List ℕ). codes ".temp" ++ d) c.format.ensures.text)
