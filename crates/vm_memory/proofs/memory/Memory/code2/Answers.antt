use Rattle.std.proofs.Common.{Ok, ap, sym, ◌∙◌}
use Rattle.vm_memory.proofs.CodeLemmas.{code_holds, code_number}
use Rattle.vm_memory.proofs.memory.Memory.code2.Goals as goal

pub two_of-requires : goal.two_of-requires
two_of-requires c =
    code_holds c.args.self.now c.args.start c.args.code.now c.args.at 2 c.requires.here
    c.requires.low c.requires.high

pub returns-clause-value : goal.returns-clause-value
returns-clause-value c =
    code_number c.args.self.now c.args.start c.args.code.now c.args.at 2 c.requires.here
    c.requires.low c.requires.high
    ∙ ap Ok (sym c.two_of.ensures.value)
