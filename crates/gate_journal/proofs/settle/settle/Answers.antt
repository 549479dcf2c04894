use Rattle.std.proofs.Common.{◌≡◌, false, rules}
use Rattle.std.specs.Prelude.{None, is_none}
use Rattle.disk_model.proofs.WorkLaws.{failed, nothing}
use Rattle.disk_model.proofs.CountLaws.{good_none}
use Rattle.gate_journal.proofs.LogLemmas.{repaired}
use Rattle.gate_journal.proofs.StageLemmas.{two_calls}
use Rattle.gate_journal.proofs.settle.settle.Goals as goal

pub returns-then-is_none-clause-triple : goal.returns-then-is_none-clause-triple
returns-then-is_none-clause-triple g c rows ends =
    let none : c.args.uncertain.now ≡ None = search rules in
    rw none (nothing {disks = g.D.Disk} (g.met.D.Disk.only_now c.args.disk.now))

pub returns-in_default-clause-triple : goal.returns-in_default-clause-triple
returns-in_default-clause-triple g c rows ends =
    let some : is_none c.args.uncertain.now ≡ false = search rules in
    failed (repaired c.args.end c.args.uncertain.now rows some ends c.repair.ensures.triple)

pub returns-clause-triple : goal.returns-clause-triple
returns-clause-triple g c rows ends =
    let some : is_none c.args.uncertain.now ≡ false = search rules in
    repaired c.args.end c.args.uncertain.now rows some ends c.in-Ok.ensures.triple

pub returns-then-is_none-clause-calls : goal.returns-then-is_none-clause-calls
returns-then-is_none-clause-calls g c told =
    let none : c.args.uncertain.now ≡ None = search rules in rw none (good_none c.args.disk.now)

pub returns-in_default-clause-calls : goal.returns-in_default-clause-calls
returns-in_default-clause-calls g c told =
    let some : is_none c.args.uncertain.now ≡ false = search rules in
    let at = c.in_default.ensures.calls told in
    (at.0, rw (two_calls c.args.uncertain.now some) at.1, at.2)

pub returns-clause-calls : goal.returns-clause-calls
returns-clause-calls g c told =
    let some : is_none c.args.uncertain.now ≡ false = search rules in
    rw (two_calls c.args.uncertain.now some) (c.in-Ok.ensures.calls told)
