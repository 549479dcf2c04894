-- What ends a write of memory, as what ends a call on streams (own).
use Rattle.vm_memory.specs.declared.fault.MemStop.{MemStop}
use Rattle.vm_memory.specs.declared.fault.MemStop.TheVariants as mem
use Rattle.glk_streams.specs.declared.fault.StreamStop.{StreamStop}
use Rattle.glk_streams.specs.declared.fault.StreamStop.TheVariants.{Memory, NoMemory}

abbrev pub of_stop : MemStop → StreamStop
of_stop (mem.Fault f) = Memory f
of_stop mem.NoMemory = NoMemory
