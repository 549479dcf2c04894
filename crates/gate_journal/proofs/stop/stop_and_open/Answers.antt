use Rattle.std.proofs.Common.{true, rules}
use Rattle.std.specs.Prelude.{IsTrue}
use Rattle.disk_model.specs.Memory.{disk_state_in}
use Rattle.gate_journal.specs.Log.{rows_of}
use Rattle.gate_journal.proofs.StopLemmas.{found_in, refused_of_disk}
use Rattle.gate_journal.proofs.stop.stop_and_open.Goals as goal

pub returns-in-Ok-open-clause-ok : goal.returns-in-Ok-open-clause-ok
returns-in-Ok-open-clause-ok c =
    let yes : IsTrue true = search rules in
    let left = (disk_state_in c.in-Ok.disk).seen in
    found_in (rows_of c.args.journal.entries) c.args.journal.uncertain
    (rows_of c.in-Ok-open.opened.entries) left
    (c.into_disk.ensures.images yes left c.in-Ok.ensures.ok) (c.in-Ok-open.ensures.ok yes)

pub returns-clause-err : goal.returns-clause-err
returns-clause-err c =
    let yes : IsTrue true = search rules in
    let left = (disk_state_in c.in-Ok.disk).seen in
    refused_of_disk (rows_of c.args.journal.entries) c.args.journal.uncertain left c.in-Err.fault
    (c.into_disk.ensures.images yes left c.in-Ok.ensures.ok) (c.in-Err.ensures.exact yes)
