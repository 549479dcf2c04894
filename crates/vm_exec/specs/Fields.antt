-- The machine of its fields (own).
use Rattle.std.specs.Prelude.{◌≢◌, ℕ, List}
use Rattle.glulx_image.specs.Checksum.{verified}
use Rattle.glulx_image.specs.Header.{start_function, string_table}
use Rattle.vm_operand.specs.declared.operand.Dest.{Dest}
use Rattle.vm_operand.specs.declared.operand.Dest.TheVariants.{Discard, At, Local, Push}
use Rattle.vm_exec.specs.declared.fields.MachineFields.{MachineFields}
use Rattle.vm_exec.specs.declared.machine.Machine.{Machine}
use Rattle.vm_exec.specs.declared.step.Waiting.TheVariants.{Store}
use Rattle.vm_exec.specs.declared.text.Text.TheVariants.{Off}

-- the machine of the story with this image that has these fields: it waits for a result, no text is
-- in progress, and what verify stores and what a restart goes back to are the image's
abbrev pub machine_of : List ℕ → MachineFields → Machine
machine_of image f = record {
  memory = f.memory;
  stack = f.stack;
  pc = f.pc;
  mode = f.mode;
  rock = f.rock;
  string_table = f.string_table;
  text = Off;
  waiting = Store f.store;
  verified = verified image;
  heap = f.heap;
  undo = f.undo;
  protection = f.protection;
  random = f.random;
  start_function = start_function image;
  first_table = string_table image;
}

-- DestType and DestAddr of a store (Glulx 3.1.3, "Call Stubs")
abbrev pub store_fields : Dest → ℕ × ℕ
store_fields Discard = (0, 0)
store_fields (At a) = (1, a)
store_fields (Local o) = (2, o)
store_fields Push = (3, 0)

-- no store has these
abbrev pub IsNoStore : ℕ → ℕ → Type 0
IsNoStore kind at = (to : Dest) → store_fields to ≢ (kind, at)
