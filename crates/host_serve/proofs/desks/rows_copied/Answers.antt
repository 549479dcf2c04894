use Rattle.std.proofs.Common.{List, [], ◌∷◌, ◌++◌, take, ap, sym, ◌∙◌}
use Rattle.gate_journal.specs.Log.{rows_of}
use Rattle.gate_journal.specs.declared.row.Row.{Row}
use Rattle.host_serve.proofs.ListLemmas.{take_more}
use Rattle.host_serve.proofs.desks.rows_copied.Goals as goal

pub loop-at-preserved : goal.loop-at-preserved
loop-at-preserved g c = let rows = rows_of c.args.journal.now.entries in
    c.in_ok-push.ensures.items
    ∙ (ap (λ (l : List Row). l ++ c.in_ok-copy_of.field-0 ∷ []) c.loop-at.invariant
    ∙ (ap (λ (r : Row). take c.loop-at.at rows ++ r ∷ []) c.in_ok-copy_of.ensures
    ∙ sym (take_more rows c.loop-at.at c.in-Some.row.now c.in-Some.ensures)))
