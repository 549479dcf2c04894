use Rattle.std.proofs.Common.{arith, Ok, ap, sym, ◌∙◌}
use Rattle.vm_memory.proofs.CodeLemmas.{code_holds, code_one}
use Rattle.vm_memory.proofs.memory.Memory.code1.Goals as goal

pub bounds-code-at : goal.bounds-code-at
bounds-code-at c =
    let held =
    code_holds c.args.self.now c.args.start c.args.code.now c.args.at 1 c.requires.here
    c.requires.low c.requires.high in
    omega (arith, held)

pub returns-clause-value : goal.returns-clause-value
returns-clause-value c =
    code_one c.args.self.now c.args.start c.args.code.now c.args.at c.requires.here
    c.requires.low c.requires.high
    ∙ ap Ok (sym c.from.ensures)
