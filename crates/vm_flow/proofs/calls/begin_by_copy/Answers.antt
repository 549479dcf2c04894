use Rattle.std.proofs.Common.{◌≡◌, ◌+◌, drop, Ok}
use Rattle.vm_flow.specs.Function.{format_in}
use Rattle.vm_flow.proofs.CallLemmas.{gives_called}
use Rattle.vm_flow.proofs.calls.begin_by_copy.Goals as goal

pub returns-clause-ok : goal.returns-clause-ok
returns-clause-ok c =
    let list : format_in c.args.at (c.args.at + 1) (drop (c.args.at + 1) c.args.memory.now.bytes)
    ≡ Ok c.deref.result.now =
    rw c.deref.ensures.value c.in_ok-format.ensures.ok in
    gives_called c.args.memory.now c.args.stack.now c.begin.new.stack c.args.at c.args.args.now
    c.args.kind c.deref.result.now c.begin.result
    (record { reads = c.requires.reads; kinds = c.requires.kind; list = list })
    c.begin.ensures.ok
