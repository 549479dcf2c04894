use Rattle.std.proofs.Common.{◌≡◌, false, List, None, rules, subst}
use Rattle.gate_journal.specs.declared.row.Row.{Row}
use Rattle.host_world.specs.Reading.{row_behind_gate, rows_in}
use Rattle.host_world.specs.Starts.{down_over, rows_or_none, IsStart}
use Rattle.host_world.specs.declared.state.JournalHost.{JournalHost}
use Rattle.host_world.specs.declared.state.Step.TheVariants.{Idle}
use Rattle.host_world.proofs.GateLemmas.{down_starts}
use Rattle.host_world.proofs.state.JournalHost.down.Goals as goal

pub returns-clause-start : goal.returns-clause-start
returns-clause-start c =
    let value :
    down_over c.args.journal.now (rows_or_none (rows_in c.args.journal.now))
    (row_behind_gate c.args.journal.now (rows_in c.args.journal.now)) ≡ record {
      up = false;
      sessions = c.of.result;
      given = c.of-2.result;
      disk = c.in_ok-settled.field-0;
      faults = 0;
      rows = c.of-3.result;
      uncertain = c.in_ok-uncertain.uncertain;
      holder = None;
      step = Idle;
    } = search rules in
    λ (rows : List Row) all may. subst (λ (w : JournalHost). IsStart w) value
    (down_starts c.args.journal.now rows all may)
