use Rattle.std.proofs.Common.{◌≡◌, ◌∙◌, ap, List, rules, sym}
use Rattle.gate_journal.specs.declared.row.Row.{Row}
use Rattle.gate_journal.specs.Log.{rows_kept, rows_of}
use Rattle.gate_journal.specs.Rows.{SpellsRows}
use Rattle.gate_journal.proofs.LogLemmas.{rows_of-all}
use Rattle.gate_journal.proofs.parse.parse.Goals as goal

pub returns-clause-ok : goal.returns-clause-ok
returns-clause-ok c =
    let rows = c.list.inside.list.items in
    let spells : SpellsRows c.args.bytes.now c.list.inside.list.items = search rules in
    let same : rows ≡ rows_of c.in_ok-history.history.list =
    sym (ap rows_of c.in_ok-history.ensures ∙ rows_of-all rows) in
    rw (← same) (spells, c.list.invariant.1)

pub returns-clause-fresh : goal.returns-clause-fresh
returns-clause-fresh c =
    let rows = c.list.inside.list.items in
    c.in_ok-history.ensures
    ∙ ap (λ (l : List Row). rows_kept l)
    (sym (ap rows_of c.in_ok-history.ensures ∙ rows_of-all rows))
