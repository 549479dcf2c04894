use Rattle.std.proofs.Common.{◌≡◌, ◌∙◌, ◌++◌, ◌-◌, ap, arith, length}
use Rattle.std.proofs.Common.{List, replicate, rules, take, ℕ}
use Rattle.disk_model.proofs.PieceLaws.{written_behind}
use Rattle.disk_model.proofs.note.put_piece.Goals as goal

pub returns-clause-ok : goal.returns-clause-ok
returns-clause-ok c =
    let old = c.args.bytes.now.items in
    let piece = c.args.piece.now in
    let at = c.args.place in
    let grown : c.resize.new.self.items ≡ take at old ++ replicate (at - length old) 0 =
    search rules in
    let longer : c.extend_from_slice.new.self.items ≡ c.resize.new.self.items ++ piece =
    search rules in
    longer ∙ ap (λ (l : List ℕ). l ++ piece) grown
    ∙ written_behind old piece at (omega (arith, c.if-end-len.false))
