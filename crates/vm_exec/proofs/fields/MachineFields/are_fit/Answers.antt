use Rattle.std.proofs.Common.{◌∙◌, arith, sym}
use Rattle.vm_exec.proofs.FieldsLemmas.{fit_by, undo_of}
use Rattle.vm_exec.proofs.fields.MachineFields.are_fit.Goals as goal

pub returns-then-not-is_of-clause-found : goal.returns-then-not-is_of-clause-found
returns-then-not-is_of-clause-found c =
    λ fit over. sym c.if-not-is_of.true ∙ c.is_of.ensures.found over.origin

pub returns-then-not-has_size-clause-found : goal.returns-then-not-has_size-clause-found
returns-then-not-has_size-clause-found c =
    λ fit over. sym c.if-not-has_size.true ∙ c.has_size.ensures.found fit.map.size

pub returns-then-not-has_heap-clause-found : goal.returns-then-not-has_heap-clause-found
returns-then-not-has_heap-clause-found c =
    λ fit over. sym c.if-not-has_heap.true ∙ c.has_heap.ensures.found fit.map.heap

pub returns-then-not-has_stack_size-clause-found : goal.returns-then-not-has_stack_size-clause-found
returns-then-not-has_stack_size-clause-found c = λ fit over.
    sym c.if-not-has_stack_size.true ∙ c.has_stack_size.ensures.found over.limit

pub returns-then-not-is_framed-clause-found : goal.returns-then-not-is_framed-clause-found
returns-then-not-is_framed-clause-found c = λ fit over.
    sym c.if-not-is_framed.true ∙ c.is_framed.ensures.found fit.frames fit.frame

pub returns-then-self-gt2-clause-found : goal.returns-then-self-gt2-clause-found
returns-then-self-gt2-clause-found c = λ fit over.
    let system = over.within.system in
    let above = c.if-self-gt2.true in
    absurd (omega (arith, system, above))

pub returns-clause-only : goal.returns-clause-only
returns-clause-only c = λ yes.
    let most = c.if-self-gt2.false in
    fit_by c.args.image.now c.args.self.now c.endmem-endmem.ensures.kept
    (c.is_of.ensures.only c.if-not-is_of.false)
    (c.has_size.ensures.only c.if-not-has_size.false)
    (c.has_heap.ensures.only c.if-not-has_heap.false)
    (c.has_stack_size.ensures.only c.if-not-has_stack_size.false)
    (c.is_framed.ensures.only c.if-not-is_framed.false)
    (omega (arith, most)) (c.has_undo.ensures.only yes) c.has_undo.ensures.within

pub returns-clause-found : goal.returns-clause-found
returns-clause-found c =
    λ fit over. c.has_undo.ensures.found (undo_of c.args.image.now c.args.self.now fit over)
