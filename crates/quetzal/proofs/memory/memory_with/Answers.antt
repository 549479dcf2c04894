use Rattle.std.proofs.Common.{◌≡◌, ◌≤◌, ◌∙◌, ap, arith, length, subst, sym}
use Rattle.vm_memory.specs.MemoryMap.{MemoryMap, resized, with_ram}
use Rattle.vm_undo.specs.Contents.{IsMemoryOf, memory_with}
use Rattle.quetzal.specs.Save.{origin}
use Rattle.quetzal.proofs.MemoryLemmas.{loaded, memory_is}
use Rattle.quetzal.proofs.memory.memory_with.Goals as goal

pub returns-clause-value : goal.returns-clause-value
returns-clause-value c =
    let image = c.args.image.now in
    let o = origin image in
    let ram = c.args.ram.now in
    let same = ap length c.story_rom-rom.ensures.value in
    let low : o.ramstart ≤ length o.rom = omega (arith, same, c.story_rom-rom.ensures.least) in
    let all : o.ramstart ≤ c.args.size = omega (arith, c.requires.ram) in
    c.in_ok-load_ram.ensures.ok
    ∙ ap (λ (m : MemoryMap). with_ram m ram)
    (c.in_ok-resize.ensures.ok ∙ ap (λ (m : MemoryMap). resized m c.args.size)
    c.in_ok-memory.ensures.value)
    ∙ loaded o c.args.size ram low all

pub returns-clause-memory : goal.returns-clause-memory
returns-clause-memory c =
    let image = c.args.image.now in
    let o = origin image in
    let ram = c.args.ram.now in
    let same = ap length c.story_rom-rom.ensures.value in
    let low : o.ramstart ≤ length o.rom = omega (arith, same, c.story_rom-rom.ensures.least) in
    let most : length o.rom ≤ o.endmem = omega (arith, same, c.story_rom-rom.ensures.most) in
    let all : o.ramstart ≤ c.args.size = omega (arith, c.requires.ram) in
    let e : c.load_ram.new.self ≡ memory_with o ram =
    c.in_ok-load_ram.ensures.ok
    ∙ ap (λ (m : MemoryMap). with_ram m ram)
    (c.in_ok-resize.ensures.ok ∙ ap (λ (m : MemoryMap). resized m c.args.size)
    c.in_ok-memory.ensures.value)
    ∙ loaded o c.args.size ram low all in
    subst (IsMemoryOf o) (sym e) (memory_is o c.args.size ram low most c.requires.size c.requires.ram)
