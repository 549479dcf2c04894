use Rattle.std.proofs.Common.{arith, refl}
use Rattle.vm_exec.specs.declared.step.Out.TheVariants as out
use Rattle.vm_exec.proofs.RunLemmas.{kept_behind, none_gone, one_more}
use Rattle.vm_exec.proofs.machine.Machine.run_on.Goals as goal

pub loop-done-init : goal.loop-done-init
loop-done-init c = (omega arith, none_gone c.args.self.now)

pub loop-done-preserved : goal.loop-done-preserved
loop-done-preserved c =
    let more = c.loop-done-test.true in
    let text = c.if-is_quiet.ensures.quiet refl in
    let does = rw c.in-Ok-On.field-0-is at c.in-Ok-On.ensures.does in
    let fit = rw c.in-Ok-On.field-0-is at c.in-Ok-On.ensures.fit in (
      omega (arith, more),
      one_more c.loop-done.done c.args.self.now c.loop-done.self c.quick_step.new.self
          c.loop-done.invariant.1 text does fit,
    )

pub returns-in-Ok-Quits-clause-kept : goal.returns-in-Ok-Quits-clause-kept
returns-in-Ok-Quits-clause-kept c =
    let does = rw c.in-Ok-Quits.field-0-is at c.in-Ok-Quits.ensures.does in
    (kept_behind _ _ _ c.quick_step.new.self out.Quit c.loop-done.invariant.1 does).0

pub returns-in-Ok-Quits-clause-over : goal.returns-in-Ok-Quits-clause-over
returns-in-Ok-Quits-clause-over c =
    let does = rw c.in-Ok-Quits.field-0-is at c.in-Ok-Quits.ensures.does in
    (kept_behind _ _ _ c.quick_step.new.self out.Quit c.loop-done.invariant.1 does).1
