use Rattle.std.proofs.Common.{◌≡◌, ◌≤◌, ◌+◌, ◌-◌, ℕ, ap, arith, sym, take, drop, subst}
use Rattle.vm_memory.specs.Code.{IsCode}
use Rattle.vm_memory.specs.MemoryMap.{MemoryMap}
use Rattle.vm_memory.proofs.LaidLemmas.{code_below}
use Rattle.vm_memory.proofs.memory.Memory.front_code.Goals as goal

pub returns-clause-found : goal.returns-clause-found
returns-clause-found c =
    let i = c.self.inside in
    let inv = c.self.invariant in
    let within = inv.0 in
    let extent = inv.1.0 in
    let least = inv.1.1.1.0 in
    let low : c.args.at + 32 ≤ i.ramstart =
    subst (λ (m : MemoryMap). c.args.at + 32 ≤ m.ramstart) (sym c.self.view_is) c.requires in
    let count : c.args.at + 32 - c.args.at ≡ 32 = omega arith in
    subst (λ (m : MemoryMap).
    IsCode m c.args.at (take (c.args.at + 32 - c.args.at) (drop c.args.at i.rom.now)))
    c.self.view_is
    (code_below i.rom.now i.ramstart i.rows.items i.size i.endmem c.args.at _ low within
    (omega (arith, within, extent, least))
    (ap (λ (n : ℕ). take n (drop c.args.at i.rom.now)) count))
