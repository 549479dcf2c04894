use Rattle.std.proofs.Common.{◌∙◌, arith, sym}
use Rattle.vm_string.proofs.FrontLemmas.{walk_end, walk_one, walk_run}
use Rattle.vm_string.proofs.descent.leaf_at.Goals as goal

pub returns-in-1 : goal.returns-in-1
returns-in-1 c = λ n root.
    let h =
    walk_end n c.front_of-front.result.now c.args.memory.now root c.args.way
    c.front_of-front.ensures.value (omega arith) (sym c.byte_of.ensures ∙ c.in-1.is) in
    cc (h, c.cursor_at.ensures)

pub returns-in-2 : goal.returns-in-2
returns-in-2 c = λ n root.
    let h =
    walk_one n c.front_of-front.result.now c.args.memory.now root c.args.way
    c.front_of-front.ensures.value (omega arith) (sym c.byte_of.ensures ∙ c.in-2.is) in
    cc (h, c.cursor_at-in-2.ensures, c.byte_of-in-2.ensures)

pub returns-in_ok-code-in-3 : goal.returns-in_ok-code-in-3
returns-in_ok-code-in-3 c = λ n root.
    let is = c.in_ok-code-in-3.ensures.value in
    let h =
    walk_run n c.front_of-front.result.now c.args.memory.now root c.args.way
    c.front_of-front.ensures.value (omega arith) (sym c.byte_of.ensures ∙ c.in-3.is)
    c.in_ok-code-in-3.ensures.inside (omega (arith, is, c.in_ok-code-in-3.ensures.some)) in
    cc (h, c.cursor_at-in-3.ensures, is)
