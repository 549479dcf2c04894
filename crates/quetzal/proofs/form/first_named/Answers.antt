use Rattle.std.proofs.Common.{sym, ◌∙◌, length, arith}
use Rattle.std.proofs.lemmas.Bool.Decides.{nat_tests}
use Rattle.quetzal.proofs.ChunkLemmas.{named_step}
use Rattle.quetzal.proofs.form.first_named.Goals as goal

pub loop-preserved : goal.loop-preserved
loop-preserved c =
    sym (named_step c.args.name
    (length c.args.bytes.now) c.loop.counter c.loop.rest.now _ c.loop-test.true
    (λ none. grind (arith, nat_tests, none, c.is_empty.ensures, c.if-is_empty.false))
    c.in-Some.ensures c.if-found-name.false)
    ∙ c.loop.invariant
