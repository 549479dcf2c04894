use Rattle.std.proofs.Common.{Some, rules}
use Rattle.turn_cell.specs.Passes.{view}
use Rattle.session_desk.specs.Shared.{met_by}
use Rattle.session_desk.proofs.CommitLemmas.{writes}
use Rattle.session_desk.proofs.SharedLemmas.{appended, commands_of-since, has_risen, leaves, others}
use Rattle.session_desk.proofs.desk.commit.write_in_turn.Goals as goal

pub write_down-done-requires : goal.write_down-done-requires
write_down-done-requires g c =
    c.requires.stands _ c.row_count-count.ensures.journal
    (commands_of-since _ _ _ c.row_count-count.ensures.journal
    (others _ _ _ c.requires.pass c.enter-journal.ensures.value))

pub leave-requires-clause-value : goal.leave-requires-clause-value
leave-requires-clause-value g c =
    leaves (view c.enter-journal.new.pass) c.args.session c.enter-journal.result
    c.write_down-done.new.journal (Some c.args.command.now) (met_by c.write_down-done.result)
    c.enter-journal.ensures.seen (search rules) (search rules)
    c.write_down-done.ensures.kept
    (appended g.D.Disk.faults _ _ _ _ _ c.write_down-done.ensures.ok
    c.write_down-done.ensures.err)

pub returns-clause-value : goal.returns-clause-value
returns-clause-value g c =
    writes g.D.Disk.faults c.args.session c.enter-journal.result c.write_down-done.new.journal
    _ _ c.args.command.now c.write_down-done.result c.row_count-count.ensures.journal
    (others _ _ _ c.requires.pass c.enter-journal.ensures.value)
    c.leave.ensures.seen c.write_down-done.ensures.ok c.write_down-done.ensures.err
    c.write_down-done.ensures.place

pub returns-clause-rose : goal.returns-clause-rose
returns-clause-rose g c =
    has_risen g.D.Disk.faults _ _ _ _ c.write_down-done.result c.write_down-done.ensures.err
