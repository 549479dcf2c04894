use Rattle.std.proofs.Common.{Ok, ap, sym, ◌∙◌}
use Rattle.vm_memory.proofs.CodeLemmas.{code_holds, code_number}
use Rattle.vm_memory.proofs.memory.Memory.code4.Goals as goal

pub four_of-requires : goal.four_of-requires
four_of-requires c =
    code_holds c.args.self.now c.args.start c.args.code.now c.args.at 4 c.requires.here
    c.requires.low c.requires.high

pub returns : goal.returns
returns c =
    record {
      value =
          code_number c.args.self.now c.args.start c.args.code.now c.args.at 4 c.requires.here
          c.requires.low c.requires.high
          ∙ ap Ok (sym c.four_of.ensures);
    }
