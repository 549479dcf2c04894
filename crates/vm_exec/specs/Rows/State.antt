-- The game's state (Glulx 3.1.3, "Game State").
use Rattle.std.specs.Prelude.{ℕ, ◌/◌, length}
use Rattle.vm_operand.specs.declared.opcode.State.{State}
use Rattle.vm_operand.specs.declared.opcode.State.TheVariants.{Quit, Verify, Restart, Save, Restore}
use Rattle.vm_operand.specs.declared.opcode.State.TheVariants.{Saveundo, Restoreundo, Protect}
use Rattle.vm_operand.specs.declared.opcode.State.TheVariants.{Hasundo, Discardundo}
use Rattle.vm_operand.specs.declared.operand.Dest as d
use Rattle.vm_exec.specs.Rows.Work.{Work, Free, Costs}
use Rattle.vm_exec.specs.Rules.{puts, tells_out}
use Rattle.vm_exec.specs.Rows.Undo.{pages, restarts, asks_save, asks_restore, saves_undo}
use Rattle.vm_exec.specs.Rows.Undo.{restores_undo, protects, tells_undo, discards}
use Rattle.vm_exec.specs.declared.machine.Machine.{Machine}
use Rattle.vm_exec.specs.declared.step.Out.TheVariants as out

unfoldable pub state_work : State → Machine → (ℕ → ℕ) → (ℕ → d.Dest) → Work
state_work Quit m l d = Free (tells_out m out.Quit)
state_work Verify m l d = Costs (length m.memory.rom / 256) (puts m (d 0) m.verified)
state_work Restart m l d = Costs (pages m) (restarts m)
state_work Saveundo m l d = Costs (pages m) (saves_undo m (d 0))
state_work Restoreundo m l d = Costs (pages m) (restores_undo m (d 0))
state_work Protect m l d = Free (protects m (l 0) (l 1))
state_work Hasundo m l d = Free (tells_undo m (d 0))
state_work Discardundo m l d = Free (discards m)
state_work Save m l d = Costs (pages m) (asks_save m (l 0) (d 0))
state_work Restore m l d = Costs (pages m) (asks_restore m (l 0) (d 0))
