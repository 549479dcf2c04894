use Rattle.std.proofs.Common.{rules}
use Rattle.glulx_image.specs.Header.{stack_size}
use Rattle.vm_exec.proofs.KeepingCalls.{none_within, started_over}
use Rattle.vm_exec.proofs.machine.Machine.start.Goals as goal

pub returns-clause-over : goal.returns-clause-over
returns-clause-over c =
    let over =
    started_over c.args.image.now c.in_ok-memory.memory c.in_ok-stack.stack c.begin.new.stack
    c.start_function.result c.in_ok-pc.pc
    c.in_ok-memory.ensures.value c.in_ok-stack.ensures c.in_ok-pc.ensures.does in
    record {
      origin = over.0;
      limit = over.1;
      verified = search rules;
      start_function = search rules;
      first_table = search rules;
      within = rw c.no_states-undo.ensures.value (none_within (stack_size c.args.image.now));
    }
