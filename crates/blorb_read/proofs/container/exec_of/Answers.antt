use Rattle.std.proofs.Common.{ℕ, Some, ap, sym, ◌∙◌}
use Rattle.blorb_read.proofs.EntryLemmas.{entry}
use Rattle.blorb_read.proofs.container.exec_of.Goals as goal

pub returns-then-names_story-clause-value : goal.returns-then-names_story-clause-value
returns-then-names_story-clause-value c =
    let step = entry c.args.count c.loop-index.index c.args.bytes.now c.loop-index-test.true in
    let here = rw (sym c.names_story.ensures ∙ c.if-names_story.true) at step in
    ap (λ (start : ℕ). Some start) c.word.ensures ∙ sym here ∙ c.loop-index.invariant

pub loop-index-preserved : goal.loop-index-preserved
loop-index-preserved c =
    let step = entry c.args.count c.loop-index.index c.args.bytes.now c.loop-index-test.true in
    let later = rw (sym c.names_story.ensures ∙ c.if-names_story.false) at step in
    sym later ∙ c.loop-index.invariant
