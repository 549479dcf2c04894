use Rattle.std.proofs.Common.{◌≡◌, ◌≤◌, length, take, vec_len}
use Rattle.std.specs.Prelude.{vec_capacity}
use Rattle.turn_cell.specs.Passes.{IsOutside, KeepsNumbers, seen, pass_numbers}
use Rattle.turn_cell_uses.specs.Answers.{AnswersEachTurn}
use Rattle.turn_cell_uses.proofs.link.serve.Given as goal

abbrev pub invariant-loop-text : goal.invariant-loop-text
invariant-loop-text g l = record {
  cell : l.pass.known.place.table_id ≡ l.fn.pass.known.place.table_id;
  outside : IsOutside l.pass;
  same : KeepsNumbers l.fn.pass l.pass;
  made : l.pass.known.made ≡ l.fn.pass.known.made;
  room : (vec_len l.answers ≡ l.text-index) × (length l.texts ≤ vec_capacity l.answers);
  serves : AnswersEachTurn (pass_numbers l.fn.pass) l.fn.pass.known.number (seen l.fn.pass)
      (take l.text-index l.texts) l.answers.items (seen l.pass);
}
