-- Threads may share a host, and its passes may go to another thread.
use denote.RattleType.{RattleType}
use denote.Ref.{NamedLft}
use denote.Struct.Struct.{Struct}
use denote.Struct.Declared.{shape}
use denote.Param.Send.{IsSend, IsSync, part_keyless, recorded_send, recorded_sync, struct_send}
use denote.Param.Send.{struct_sync, sendable}
use Rattle.atomic_table.specs.contracts.shared.Seat as seat
use Rattle.atomic_table.proofs.shared.Seat.TheSendSync as seat_shares
use Rattle.std.proofs.alloc.Global.TheSendSync as global
use Rattle.std.below.std_heap.proofs.GlobalAllocator.TheSendSync as heap
use Rattle.std.below.core.proofs.snapshot.Sent.{snapshot_sync}
use Rattle.std.proofs.sync.Mutex.TheSendSync as mutex
use Rattle.std.proofs.vec.Vec.TheSendSync as vec
use Rattle.turn_cell.specs.contracts.pass.Known as known
use Rattle.turn_cell.specs.contracts.pass.Pass as pass
use Rattle.turn_cell.proofs.cell.Cell.TheSendSync as cell
use Rattle.turn_cell.proofs.pass.Pass.TheSendSync as pass_shares
use Rattle.disk_model.specs.declared.disk.Disk.{Ghosts}
use Rattle.gate_journal.specs.contracts.entry.Entry as journal_entry
use Rattle.gate_journal.specs.contracts.journal.Journal as journal
use Rattle.story_run.proofs.story.Story.TheSendSync as story
use Rattle.session_desk.proofs.SharingLemmas.{desk_send, journal_send}
use Rattle.host_serve.specs.contracts.host.Host as host
use Rattle.host_serve.specs.contracts.host.Passes as passes
use Rattle.host_serve.specs.contracts.shift.Shift as shift

pub seat_sync : (S V : RattleType) → IsSend S → IsSync (seat.the_row S V)
seat_sync S V s = record {
  shared = λ d b o ν q. part_keyless (seat.the_row S V) (seat_shares.the_send S V s) q d b o;
}

pub known_sync : (T E : RattleType) → IsSend T → IsSync (known.the_field T E).row
known_sync T E s = search (sendable, seat_sync) depth 20

pub pass_fields : (T E : RattleType) → IsSend T → IsSync (Struct (shape (pass.the_type T E)))
pass_fields T E s = struct_sync (shape (pass.the_type T E)) (known_sync T E s, tt)

pub host_fields : (κ : NamedLft) (T : RattleType) (g : Ghosts T.Denot) → IsSend T → IsSync T
    → IsSync (Struct (shape (host.the_type κ T g)))
host_fields κ T g s y = struct_sync (shape (host.the_type κ T g)) (
  search (sendable, story.the_sync) depth 20,
  (
    search sendable depth 20,
    (
      search (sendable, cell.the_field_sync, journal_send) depth 20,
      (
        pass_fields (journal.the_row T g) journal_entry.the_row (journal_send T g s),
        (
          search (sendable, vec.the_sync, cell.the_sync, desk_send) depth 20,
          (
            search (sendable, snapshot_sync) depth 20,
            (search (sendable, vec.the_sync) depth 20, tt),
          ),
        ),
      ),
    ),
  ),
)

pub host_sync : (κ : NamedLft) (T : RattleType) (g : Ghosts T.Denot) → IsSend T → IsSync T
    → IsSync (host.the_row κ T g)
host_sync κ T g s y =
    recorded_sync _ _ _ (host.the_type κ T g).to_one (host_fields κ T g s y)

pub shift_fields : (κ ι : NamedLft) (T R O P : RattleType) (g : Ghosts T.Denot) → IsSend T
    → IsSync T → IsSync R → IsSync O → IsSync P
    → IsSync (Struct (shape (shift.the_type κ ι T R O P g)))
shift_fields κ ι T R O P g s y r o p = struct_sync (shape (shift.the_type κ ι T R O P g)) (
  search (sendable, host_sync) depth 20,
  (
    search sendable depth 20,
    (
      search sendable depth 20,
      (
        search sendable depth 20,
        (search sendable depth 20, (search (sendable, mutex.the_sync) depth 20, tt)),
      ),
    ),
  ),
)

-- threads may share a host at a door
pub shift_sync : (κ ι : NamedLft) (T R O P : RattleType) (g : Ghosts T.Denot) → IsSend T
    → IsSync T → IsSync R → IsSync O → IsSync P → IsSync (shift.the_row κ ι T R O P g)
shift_sync κ ι T R O P g s y r o p = recorded_sync _ _ _ (shift.the_type κ ι T R O P g).to_one
    (shift_fields κ ι T R O P g s y r o p)

pub passes_fields : (κ : NamedLft) (T : RattleType) (g : Ghosts T.Denot) → IsSend T
    → IsSend (Struct (shape (passes.the_type κ T g)))
passes_fields κ T g s = struct_send (shape (passes.the_type κ T g)) (
  search (
    sendable,
    vec.the_send,
    global.the_send,
    heap.the_frees,
    pass_shares.the_send,
    desk_send,
  ) depth 20,
  tt,
)

-- passes of a host may go to another thread
pub passes_send : (κ : NamedLft) (T : RattleType) (g : Ghosts T.Denot) → IsSend T
    → IsSend (passes.the_row κ T g)
passes_send κ T g s =
    recorded_send _ _ _ (passes.the_type κ T g).to_one (passes_fields κ T g s)
