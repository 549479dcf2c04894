-- A desk may go to another thread where its journal's disk may.
use denote.RattleType.{RattleType}
use denote.Ref.{NamedLft}
use denote.Struct.Declared.{shape}
use denote.Param.Send.{IsSend, recorded_send, struct_send, sendable, view_send}
use Rattle.std.proofs.alloc.Global.TheSendSync as global
use Rattle.std.below.std_heap.proofs.GlobalAllocator.TheSendSync as heap
use Rattle.std.specs.contracts.vec.Vec as vec_type
use Rattle.std.specs.contracts.alloc.Global as global_type
use Rattle.std.specs.contracts.impls.GlobalAllocator.TheImpl as heap_type
use Rattle.std.proofs.vec.Vec.TheSendSync as vec
use Rattle.turn_cell.proofs.pass.Pass.TheSendSync as pass_shares
use Rattle.disk_model.specs.declared.disk.Disk.{Ghosts}
use Rattle.gate_journal.specs.contracts.journal.Journal as journal
use Rattle.gate_journal.specs.contracts.history.History as history
use Rattle.gate_journal.specs.contracts.command.Command as command_type
use Rattle.gate_journal.specs.contracts.mark.Mark as entry_mark
use Rattle.gate_journal.specs.contracts.moments.Moments as moments
use Rattle.gate_journal.proofs.command.Command.TheSendSync as command
use Rattle.gate_journal.proofs.room.Room.TheSendSync as room
use Rattle.gate_journal.proofs.row.Row.TheSendSync as row
use Rattle.gate_journal.specs.contracts.row.Row as row_type
use Rattle.snap_store.specs.contracts.store.Store as store
use Rattle.story_run.proofs.story.Story.TheSendSync as story
use Rattle.session_saves.specs.contracts.saves.Saves as saves
use Rattle.session_saves.proofs.saves.Point.TheSendSync as point
use Rattle.session_desk.specs.contracts.desk.Desk as desk
use Rattle.session_desk.specs.contracts.desk.Desk.TheInside as inside
use Rattle.session_desk.specs.contracts.desk.mark.Mark as mark_type
use Rattle.session_desk.proofs.desk.mark.Mark.TheSendSync as mark
use Rattle.session_desk.proofs.held.Held.TheSendSync as held

entry_mark_send : IsSend entry_mark.the_row
entry_mark_send = search (sendable, view_send, row.the_send) depth 30

entry_marks_send :
    IsSend (vec_type.the_field entry_mark.the_row global_type.the_row heap_type.ghosts).row
entry_marks_send =
    search (sendable, entry_mark_send, vec.the_send, global.the_send, heap.the_frees) depth 20

rows_send : IsSend (vec_type.the_field row_type.the_row global_type.the_row heap_type.ghosts).row
rows_send = search (sendable, row.the_send, vec.the_send, global.the_send, heap.the_frees) depth 20

history_send : IsSend history.the_row
history_send = search (sendable, view_send, rows_send, entry_marks_send) depth 30

moments_send : (T : RattleType) → IsSend T → IsSend (moments.the_row T)
moments_send T s =
    search (sendable, view_send, vec.the_send, global.the_send, heap.the_frees) depth 40

pub journal_send : (T : RattleType) (g : Ghosts T.Denot) → IsSend T → IsSend (journal.the_row T g)
journal_send T g s =
    search (sendable, view_send, history_send, moments_send, room.the_send, row.the_send) depth 30

commands_send :
    IsSend (vec_type.the_field command_type.the_row global_type.the_row heap_type.ghosts).row
commands_send =
    search (sendable, command.the_send, vec.the_send, global.the_send, heap.the_frees) depth 20

marks_send : IsSend (vec_type.the_field mark_type.the_row global_type.the_row heap_type.ghosts).row
marks_send =
    search (sendable, mark.the_send, vec.the_send, global.the_send, heap.the_frees) depth 20

store_send : (T : RattleType) (g : Ghosts T.Denot) → IsSend T → IsSend (store.the_row T g)
store_send T g s = search (sendable, view_send) depth 30

pub saves_send : (T : RattleType) (g : Ghosts T.Denot) → IsSend T → IsSend (saves.the_row T g)
saves_send T g s = search (sendable, view_send, store_send, point.the_send) depth 30

pub inside_send : (κ : NamedLft) (T : RattleType) (g : Ghosts T.Denot)
    → IsSend T → IsSend (inside.the_row κ T g)
inside_send κ T g s =
    recorded_send _ _ _ (inside.the_type κ T g).to_one
    (struct_send (shape (inside.the_type κ T g)) (
      search (sendable, global.the_send) depth 20,
      (
        search sendable depth 20,
        (
          search (sendable, story.the_sync) depth 20,
          (
            search sendable depth 20,
            (
              commands_send,
              (
                search sendable depth 20,
                (
                  held.the_field_send κ,
                  (
                    marks_send,
                    (
                      search (sendable, pass_shares.the_field_send, journal_send) depth 20,
                      (
                        search (sendable, saves_send) depth 20,
                        (
                          search sendable depth 20,
                          (search sendable depth 20, (search sendable depth 20, tt)),
                        ),
                      ),
                    ),
                  ),
                ),
              ),
            ),
          ),
        ),
      ),
    ))

pub desk_send : (κ : NamedLft) (T : RattleType) (g : Ghosts T.Denot)
    → IsSend T → IsSend (desk.the_row κ T g)
desk_send κ T g s = view_send (inside.the_row κ T g) _ _ _ _ (inside_send κ T g s)
