use Rattle.std.proofs.Common.{arith}
use Rattle.vm_undo.proofs.LayLemmas.{laid_start, laid_run, laid_zero, laid_change}
use Rattle.vm_undo.proofs.contents.lay.Goals as goal
use Rattle.vm_undo.proofs.contents.lay.Goals.{then-due+else-size-at, else-due+then-byte-eq0}
use Rattle.vm_undo.proofs.contents.lay.Goals.{else-due+else-byte-eq0+else-at-size+in_ok-write_change1}

pub loop-byte-init : goal.loop-byte-init
loop-byte-init c =
    laid_start c.args.memory.now c.args.runs.now c.size-size.result c.ramstart-at.result
    c.ramstart-at.ensures.value c.size-size.ensures.value (omega arith) c.requires.first

pub loop-byte-preserved : goal.loop-byte-preserved
loop-byte-preserved c =
    let old = c.args.memory.now in
    let runs = c.args.runs.now in
    let m = c.loop-byte.memory in
    let size = c.size-size.result in
    let at = c.loop-byte.at in
    let i = c.loop-byte.byte-index in
    elim c.if-due.branch [
      | then-due+else-size-at w ↦
          rw (w.memory-is, w.at-is, w.due-is, w.from-run.ensures)
          (laid_run old m runs size at i c.loop-byte-test.true
          (rw w.if-due.true at c.loop-byte.invariant) (omega (arith, w.if-size-at.false)))
      | else-due+then-byte-eq0 w ↦
          rw (w.memory-is, w.at-is, w.due-is)
          (laid_zero old m runs size at i c.loop-byte-test.true
          (rw w.if-due.false at c.loop-byte.invariant) w.if-byte-eq0.true)
      | else-due+else-byte-eq0+else-at-size+in_ok-write_change1 w ↦
          rw (w.memory-is, w.at-is, w.due-is)
          (rw w.if-due.false (laid_change old m w.write_change1.new.self runs size at i
          c.loop-byte-test.true
          (rw w.if-due.false at c.loop-byte.invariant) w.if-byte-eq0.false w.if-at-size.false
          w.in_ok-write_change1.ensures.ok))
    ]
