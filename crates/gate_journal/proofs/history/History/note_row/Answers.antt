use Rattle.std.proofs.Common.{◌≡◌, ◌++◌, ◌∷◌, [], ◌∙◌, ap, length}
use Rattle.std.proofs.Common.{List, rules, vec_len, vec_capacity, arith}
use Rattle.std.proofs.lemmas.List.{length_push}
use Rattle.gate_journal.specs.declared.row.Row.{Row}
use Rattle.gate_journal.specs.declared.mark.Mark.{Mark}
use Rattle.gate_journal.specs.declared.mark.Mark.TheVariants as marks
use Rattle.gate_journal.specs.declared.entry.Entry.TheVariants.{Kept}
use Rattle.gate_journal.specs.History.{Entries, rows_woven, count_rows}
use Rattle.gate_journal.proofs.HistoryLemmas.{rooms, count-row, woven-row}
use Rattle.gate_journal.proofs.history.History.note_row.Goals as goal

pub invariant_of-self : goal.invariant_of-self
invariant_of-self c =
    let room =
    rooms (vec_len c.self.inside.rows) (vec_capacity c.self.inside.rows)
    (vec_len c.self.inside.marks) (vec_capacity c.self.inside.marks)
    (ap (λ (e : Entries). e.room) c.self.view_is ∙ c.requires) in
    let fine = c.push.ensures.succeeds room.1 in
    let marked : c.push.new.self.items ≡ c.self.inside.marks.items ++ marks.Row ∷ [] =
    search rules in
    let fine_row = c.push-2.ensures.succeeds room.0 in
    let pushed : c.push-2.new.self.items ≡ c.self.inside.rows.items ++ c.args.row ∷ [] =
    search rules in
    ap count_rows marked ∙ count-row c.self.inside.marks.items
    ∙ (omega
    (arith, c.self.invariant, ap length pushed, length_push c.self.inside.rows.items c.args.row))

pub returns : goal.returns
returns c =
    let room =
    rooms (vec_len c.self.inside.rows) (vec_capacity c.self.inside.rows)
    (vec_len c.self.inside.marks) (vec_capacity c.self.inside.marks)
    (ap (λ (e : Entries). e.room) c.self.view_is ∙ c.requires) in
    let fine = c.push.ensures.succeeds room.1 in
    let marked : c.push.new.self.items ≡ c.self.inside.marks.items ++ marks.Row ∷ [] =
    search rules in
    let fine_row = c.push-2.ensures.succeeds room.0 in
    let pushed : c.push-2.new.self.items ≡ c.self.inside.rows.items ++ c.args.row ∷ [] =
    search rules in
    ap (λ (l : List Mark). rows_woven l c.push-2.new.self.items) marked
    ∙ ap (λ (l : List Row). rows_woven (c.self.inside.marks.items ++ marks.Row ∷ []) l) pushed
    ∙ woven-row c.self.inside.marks.items c.self.inside.rows.items c.args.row c.self.invariant
    ∙ ap (λ (e : Entries). e.list ++ Kept c.args.row ∷ []) c.self.view_is
