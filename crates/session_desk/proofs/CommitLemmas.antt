-- A command that a desk commits: what the turn of its append leaves, and what the desk is then.
use Rattle.std.proofs.Common.{◌≡◌, ℕ, ◌+◌, ◌<◌, IsTrue, length, List, [], ◌∷◌, ◌++◌, Some, Result}
use Rattle.std.proofs.Common.{Ok, Err, refl, ◌∙◌}
use Rattle.std.specs.Prelude.{IfErr, IfOk, OnErr, OnOk}
use Rattle.turn_cell.specs.History.{Continues, IsForeign}
use Rattle.gate_journal.specs.Log.{entry_number, Log, rows_of}
use Rattle.gate_journal.specs.Rows.{IsJournal, journal_bytes}
use Rattle.gate_journal.specs.declared.command.Command.{Command}
use Rattle.gate_journal.specs.declared.entry.Entry.{Entry as JournalEntry}
use Rattle.line_words.specs.declared.request.Request.{Request}
use Rattle.session_core.specs.Checks.{command_of}
use Rattle.session_core.specs.History.{last_of}
use Rattle.session_desk.specs.declared.held.Held.{Held}
use Rattle.session_desk.specs.declared.refused.Refused.{Refused}
use Rattle.session_desk.specs.Commit.{Extends, RefusalLeaves, Writes}
use Rattle.session_desk.specs.Desk.{aside, committed, DeskState, game, IsDesk, is_to_run}
use Rattle.session_desk.specs.Shared.{met_by}
use Rattle.session_desk.proofs.AlikeLemmas.{IsReadyFor}
use Rattle.session_desk.proofs.HeldLemmas.{is_desk-committed}
use Rattle.session_desk.proofs.OpensLemmas.{opens_by}
use Rattle.session_desk.proofs.RunLemmas.{to_run}
use Rattle.session_desk.proofs.SharedLemmas.{appended, Commits, history_in-behind}

pub writes : {D : Type 0} (faults : D → ℕ) (session : ℕ) (old new : Log D)
    (seen next : List JournalEntry) (c : Command) (done : Result ℕ Refused)
    → IsJournal (rows_of old.entries)
    → Continues (IsForeign entry_number ((session + 1) ∷ [])) old.entries seen
    → next ≡ new.entries
    → OnOk done (Extends session c old new)
    → IfErr done (λ why. RefusalLeaves faults session c old new why)
    → IfOk done (λ place. place ≡ length (journal_bytes (rows_of old.entries)))
    → Writes session c done seen next
writes faults session old new seen next c done journal on saw ok err at =
    let adds = saw ∙ appended faults session old new c done ok err in
    record {
      journal = record { before = old.entries; since = on; adds = adds };
      history = history_in-behind session old.entries seen next c (met_by done) journal on adds;
      opens = opens_by session old.entries seen next c done journal on adds at;
    }

-- the desk, where the command was taken down behind its row, or wasn't
pub commits : (request : Request) (desk : DeskState) (c : Command) (done : Result ℕ Refused)
    (commands : List Command) (held : Held) (seen next : List JournalEntry)
    → command_of desk.stories request ≡ Some c
    → OnOk done ((commands ≡ desk.commands ++ c ∷ []) × (held ≡ aside c desk.held))
    → OnErr done ((commands ≡ desk.commands) × (held ≡ desk.held))
    → Writes desk.session c done seen next
    → Commits request done desk (record desk { commands = commands; held = held }) seen next
commits request desk c (Ok row) commands held seen next asked ok err writes =
    record { command = c; asked = asked; taken = rw (ok.0, ok.1) refl; left = tt; writes = writes }
commits request desk c (Err why) commands held seen next asked ok err writes =
    record { command = c; asked = asked; taken = tt; left = rw (err.0, err.1) refl; writes = writes }

pub is_desk-by : {T : Type 0} (done : Result T Refused) (old new : DeskState) (c : Command)
    → OnOk done (new ≡ committed old c) → OnErr done (new ≡ old)
    → IsDesk old → length old.commands < 8192
    → IsDesk new
is_desk-by (Ok x) old new c ok err is room = rw ok (is_desk-committed old c is room)
is_desk-by (Err why) old new c ok err is room = rw err is

pub runs-by : {T : Type 0} (done : Result T Refused) (old new : DeskState) (c : Command)
    → OnOk done (new ≡ committed old c) → IsReadyFor old c
    → OnOk done (IsTrue (is_to_run new.held (last_of (game new))))
runs-by (Ok x) old new c ok ready = rw ok (to_run old c ready)
runs-by (Err why) old new c ok ready = tt
