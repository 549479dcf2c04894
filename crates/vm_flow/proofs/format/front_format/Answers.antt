use Rattle.std.proofs.Common.{◌≡◌, ◌+◌, ◌-◌, ℕ, List, length, take, drop, arith, ap, sym, ◌∙◌}
use Rattle.std.proofs.Common.{IsOk, refl, subst}
use Rattle.std.proofs.lemmas.List.{take_all, length-drop, length-take-le}
use Rattle.vm_memory.specs.MemoryMap.{KeepsRom}
use Rattle.vm_flow.specs.Function.{format_in, IsInFront}
use Rattle.vm_flow.proofs.FormatLemmas.{front_is}
use Rattle.vm_flow.proofs.format.front_format.Goals as goal

-- a range up to the end is what follows its start
to_end : (n : ℕ) (xs : List ℕ) → take (length xs - n) (drop n xs) ≡ drop n xs
to_end n xs = take_all (length xs - n) (drop n xs) (omega (arith, length-drop n xs))

pub returns-clause-ok : goal.returns-clause-ok
returns-clause-ok c =
    let f = c.args.function in
    let front = take c.ramstart.result c.rom.result.now in
    let bytes = take (length front - (f + 1)) (drop (f + 1) front) in
    let kept : KeepsRom c.ramstart.result c.rom.result.now c.args.memory.now.bytes =
    rw (c.ramstart.ensures.value, c.rom.ensures.value) c.rom.ensures.kept in
    let size = length-take-le c.ramstart.result c.rom.result.now kept.within in
    let begin = c.if-front-begin.false in
    front_is f (f + 1) c.ramstart.result (f + 1) c.rom.result.now c.args.memory.now.bytes
    (take c.in_ok-count.count bytes) kept.same kept.within (omega (arith, size, begin))
    (ap (λ (xs : List ℕ). format_in f (f + 1) xs) (sym (to_end (f + 1) front))
    ∙ c.in_ok-count.ensures.ok f (f + 1))

pub returns-in_err-count-clause-none : goal.returns-in_err-count-clause-none
returns-in_err-count-clause-none c =
    let f = c.args.function in
    let front = take c.ramstart.result c.rom.result.now in
    let same : front ≡ take c.args.memory.now.ramstart c.args.memory.now.rom =
    rw (c.ramstart.ensures.value, c.rom.ensures.value) refl in
    let bytes : drop (f + 1) (take c.args.memory.now.ramstart c.args.memory.now.bytes)
    ≡ take (length front - (f + 1)) (drop (f + 1) front) =
    ap (λ (xs : List ℕ). drop (f + 1) xs) (c.rom.ensures.kept.same ∙ sym same)
    ∙ sym (to_end (f + 1) front) in
    let none : IsInFront c.args.memory.now f → ⊥ =
    λ good. c.in_err-count.ensures.none f (f + 1)
    (subst (λ (xs : List ℕ). IsOk (format_in f (f + 1) xs)) bytes good) in
    rw c.from_residual.ensures none
