use Rattle.std.proofs.lemmas.Str.{IsUtf8-string_bytes}
use Rattle.std.proofs.Common.{sym, ◌∙◌}
use Rattle.glk_streams.proofs.NameLemmas.{pushed}
use Rattle.glk_streams.proofs.name.append.Goals as goal

pub returns-clause-rest : goal.returns-clause-rest
returns-clause-rest c = λ rest.
    pushed _ _ c.args.c _ rest
    (IsUtf8-string_bytes c.args.clean.now) c.ranges.c.0 c.in_ok-push.ensures.bytes
    (sym c.is_taken_out.ensures ∙ c.if-is_taken_out.false) c.requires.no_period c.requires.room
