use Rattle.std.proofs.Common.{◌≡◌, ◌++◌, ◌∷◌, [], ◌∙◌, ap, List, rules, vec_len, vec_capacity}
use Rattle.gate_journal.specs.declared.row.Row.{Row}
use Rattle.gate_journal.specs.declared.mark.Mark.{Mark}
use Rattle.gate_journal.specs.declared.mark.Mark.TheVariants as marks
use Rattle.gate_journal.specs.declared.entry.Entry.TheVariants.{Faulted}
use Rattle.gate_journal.specs.History.{Entries, rows_woven, count_rows}
use Rattle.gate_journal.proofs.HistoryLemmas.{rooms, count-fault, woven-fault}
use Rattle.gate_journal.proofs.history.History.note_fault.Goals as goal

pub invariant_of-self : goal.invariant_of-self
invariant_of-self c =
    let room =
    rooms (vec_len c.self.inside.rows) (vec_capacity c.self.inside.rows)
    (vec_len c.self.inside.marks) (vec_capacity c.self.inside.marks)
    (ap (λ (e : Entries). e.room) c.self.view_is ∙ c.requires) in
    let fine = c.push.ensures.succeeds room.1 in
    let pushed : c.push.new.self.items
    ≡ c.self.inside.marks.items ++ marks.Fault c.of-asked.result c.args.from c.args.to ∷ [] =
    search rules in
    ap count_rows pushed
    ∙ count-fault c.self.inside.marks.items c.of-asked.result c.args.from c.args.to
    ∙ c.self.invariant

pub returns-clause-entry : goal.returns-clause-entry
returns-clause-entry c =
    let room =
    rooms (vec_len c.self.inside.rows) (vec_capacity c.self.inside.rows)
    (vec_len c.self.inside.marks) (vec_capacity c.self.inside.marks)
    (ap (λ (e : Entries). e.room) c.self.view_is ∙ c.requires) in
    let fine = c.push.ensures.succeeds room.1 in
    let pushed : c.push.new.self.items
    ≡ c.self.inside.marks.items ++ marks.Fault c.of-asked.result c.args.from c.args.to ∷ [] =
    search rules in
    ap (λ (l : List Mark). rows_woven l c.self.inside.rows.items) pushed
    ∙ woven-fault c.self.inside.marks.items c.self.inside.rows.items c.of-asked.result c.args.from
    c.args.to c.self.invariant
    ∙ ap (λ (r : Row).
    rows_woven c.self.inside.marks.items c.self.inside.rows.items
    ++ Faulted r c.args.from c.args.to ∷ []) c.of-asked.ensures
    ∙ ap (λ (e : Entries). e.list ++ Faulted c.args.row.now c.args.from c.args.to ∷ [])
    c.self.view_is
