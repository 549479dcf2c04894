use Rattle.vm_exec.proofs.FetchLemmas.{take_refused}
use Rattle.vm_exec.proofs.machine.Machine.take.Goals as goal

pub returns-in-Err-clause-does : goal.returns-in-Err-clause-does
returns-in-Err-clause-does c =
    let e = c.refusal-in-Err.ensures in
    take_refused c.args.self.now c.load_word.new.self c.args.number c.args.at (
      c.in-Some.load,
      c.in-Some.next,
    ) c.in-Err.trap c.refusal-in-Err.result
    c.load_word.ensures.memory c.load_word.ensures.pc c.in-Some.ensures.found c.in-Err.ensures.does
    c.in-Err.ensures.refusal e.unread e.read e.want
