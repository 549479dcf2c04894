use Rattle.std.proofs.lemmas.List.{get_or-replicate}
use Rattle.gate_journal.proofs.seats.Seats.new.Goals as goal

pub returns : goal.returns
returns c = record {
  count = λ s lt. get_or-replicate 64 s 0 0 lt;
  used = λ s lt. get_or-replicate 64 s 0 0 lt;
}
