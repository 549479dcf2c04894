use Rattle.std.proofs.Common.{◌≡◌, drop, true}
use Rattle.vm_memory.specs.MemoryMap.{KeepsMap}
use Rattle.story_run.specs.Saves as saves
use Rattle.story_run.proofs.save.put_bytes.Given as goal

-- what is left to put gives what was to put
abbrev pub invariant-loop-byte : goal.invariant-loop-byte
invariant-loop-byte l = record {
  sofar : saves.put_save_bytes l.glk l.memory l.stream l.kept (drop l.byte-index l.bytes)
      ≡ saves.put_save_bytes l.fn.glk l.fn.memory l.stream true l.bytes;
  map : KeepsMap l.fn.memory l.memory;
}
