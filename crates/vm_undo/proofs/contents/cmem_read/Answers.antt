use Rattle.std.proofs.Common.{◌∙◌, Ok, Some, ap, arith}
use Rattle.vm_memory.specs.MemoryMap.{Origin}
use Rattle.vm_undo.specs.Contents.{memory_over}
use Rattle.vm_undo.proofs.LayLemmas.{first_memory, first_of, first_decoded, laid_memory}
use Rattle.vm_undo.proofs.LayLemmas.{laid_is, runs_of_contents}
use Rattle.vm_undo.proofs.contents.cmem_read.Goals as goal

pub lay-requires : goal.lay-requires
lay-requires c =
    let o : Origin = record { ramstart = c.args.ramstart; rom = c.args.rom.now; endmem = c.args.endmem } in
    let size = c.read_u32-size.result in
    let s = c.is_size.ensures.only c.if-not-is_size.false in
    let least = s.least in
    record {
      first = first_of o size c.resize.new.self (omega (arith, least))
          (first_memory c.args.rom.now c.args.ramstart c.args.endmem size c.in_ok-memory.memory
          c.resize.new.self c.requires.extent least c.in_ok-memory.ensures.value
          c.in_ok-resize.ensures.ok);
    }

pub returns-then-not-branch : goal.returns-then-not-branch
returns-then-not-branch c =
    let o : Origin = record { ramstart = c.args.ramstart; rom = c.args.rom.now; endmem = c.args.endmem } in
    let size = c.read_u32-size.result in
    let s = c.is_size.ensures.only c.if-not-is_size.false in
    let least = s.least in
    let first = first_memory c.args.rom.now c.args.ramstart c.args.endmem size
    c.in_ok-memory.memory c.resize.new.self c.requires.extent least
    c.in_ok-memory.ensures.value c.in_ok-resize.ensures.ok in
    record {
      exact =
          runs_of_contents o c.args.bytes.now size c.if-bytes-lt4.false c.read_u32-size.ensures s
          ∙ ap (memory_over o)
          (first_decoded o size c.resize.new.self c.split_at.result.1.now c.args.bytes.now
          (omega (arith, least)) first c.split_at.ensures.back
          ∙ c.in_ok-lay.ensures.bad (ap Ok c.if-not-branch.true));
      memory = tt;
    }

pub returns : goal.returns
returns c =
    let o : Origin = record { ramstart = c.args.ramstart; rom = c.args.rom.now; endmem = c.args.endmem } in
    let size = c.read_u32-size.result in
    let s = c.is_size.ensures.only c.if-not-is_size.false in
    let least = s.least in
    let first = first_memory c.args.rom.now c.args.ramstart c.args.endmem size
    c.in_ok-memory.memory c.resize.new.self c.requires.extent least
    c.in_ok-memory.ensures.value c.in_ok-resize.ensures.ok in
    record {
      exact =
          runs_of_contents o c.args.bytes.now size c.if-bytes-lt4.false c.read_u32-size.ensures s
          ∙ ap (memory_over o)
          (first_decoded o size c.resize.new.self c.split_at.result.1.now c.args.bytes.now
          (omega (arith, least)) first c.split_at.ensures.back
          ∙ c.in_ok-lay.ensures.ok (ap Ok c.if-not-branch.false))
          ∙ ap Some (laid_memory o size c.resize.new.self c.lay.new.memory first
          c.in_ok-lay.ensures.kept c.rom-rom.ensures.kept);
      memory = laid_is o size c.resize.new.self c.lay.new.memory c.requires.extent first
          c.in_ok-lay.ensures.kept c.rom-rom.ensures.kept s;
    }
