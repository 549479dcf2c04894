use Rattle.std.proofs.Common.{◌∙◌, ap, arith}
use Rattle.std.proofs.lemmas.Grind.{common_steps}
use Rattle.glk_streams.specs.Names.{name_cut}
use Rattle.glk_streams.proofs.NameLemmas.{null_of}
use Rattle.glk_streams.proofs.name.clean_name.Goals as goal

pub returns : goal.returns
returns c =
    rw (c.of.ensures, c.in_ok-push_str.ensures.bytes, c.new-null.ensures.bytes)
    (null_of c.args.name.now c.of-clean.result (c.of-clean.ensures ∙ c.in_ok-cut.ensures
    ∙ ap (name_cut 64) c.as_str.ensures)
    (grind (
      arith,
      common_steps,
      c.as_utf8.ensures.value,
      c.is_empty.ensures,
      c.if-not-is_empty.false,
    )))
