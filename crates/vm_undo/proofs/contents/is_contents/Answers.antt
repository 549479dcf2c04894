use Rattle.std.proofs.Common.{sym, ◌∙◌, arith}
use Rattle.vm_undo.proofs.ContentsLemmas.{tells}
use Rattle.vm_undo.proofs.contents.is_contents.Goals as goal

pub returns-clause-only : goal.returns-clause-only
returns-clause-only c = λ t rom low high.
    tells.only (record { ramstart = c.args.ramstart; rom = rom; endmem = c.args.endmem })
    c.args.bytes.now (record { ram = low; extent = high })
    (λ k. omega (arith, c.type_inv.bytes k))
    (sym c.passes.ensures ∙ t)

pub returns-clause-found : goal.returns-clause-found
returns-clause-found c = λ rom is.
    c.passes.ensures
    ∙ tells.found (record { ramstart = c.args.ramstart; rom = rom; endmem = c.args.endmem })
    c.args.bytes.now is
