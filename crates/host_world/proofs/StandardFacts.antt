-- Hosts that there are, and what an opening makes of the least journal.
use Rattle.std.proofs.Common.{List, None, Some, [], ap, arith, get_or, refl, replicate, subst, sym}
use Rattle.std.proofs.Common.{true, ℕ, ◌++◌, ◌∷◌, ◌≡◌}
use Rattle.disk_model.proofs.StateLaws.{only_settled, settled_image}
use Rattle.disk_model.specs.Disk.{Holds}
use Rattle.disk_model.specs.DiskState.{IsDiskImage, settled}
use Rattle.gate_journal.specs.Gate.{IsShut}
use Rattle.gate_journal.specs.Rows.{header_with, journal_header, journal_bytes}
use Rattle.session_core.specs.Turning.{commands_in}
use Rattle.host_world.specs.Reading.{rows_in}
use Rattle.host_world.specs.Starts.{IsOpenedState, down_over}
use Rattle.host_world.specs.declared.state.JournalHost.{JournalHost}
use Rattle.host_world.specs.declared.turn.Session.{Session}
use Rattle.host_world.proofs.Reopening.{found_at}

-- the bytes of a journal without rows
abbrev empty : List ℕ
empty = journal_header ++ 0 ∷ []

-- an opened host over it
abbrev new_host : JournalHost
new_host = record (down_over empty [] None) { up = true }

holds_itself : (l : List ℕ) → Holds l 0 l
holds_itself l =
    record { within = omega arith; each = λ i lt. ap (λ (k : ℕ). get_or l k 0) (omega arith) }

empty_shut : (c : List ℕ) → IsDiskImage (settled empty) c → IsShut (journal_bytes []) c
empty_shut c image =
    subst (λ (l : List ℕ). IsShut (journal_bytes []) l) (sym (only_settled empty c image))
    (holds_itself empty)

-- so the headline is of hosts that there are
new_host_is_opened : IsOpenedState new_host
new_host_is_opened = record {
  up = refl;
  quiet = record {
    journal = tt;
    reads = settled_image empty;
    idle = refl;
    silent = refl;
    sessions = refl;
    each = λ s x at.
        let f = found_at [] s x at in
        (ap (λ (z : Session). z.turn) (sym f.1), ap (λ (z : Session). commands_in z.history) f.1);
  };
  certain = refl;
  nobody = refl;
  shut = empty_shut;
}

-- the least journal has no rows, and no bytes have none
empty_rows : rows_in empty ≡ Some []
unfolding rows_in
empty_rows = refl

-- and so has the least one of version 1, but not one whose header has another byte
older_rows : rows_in (header_with 0 ++ 0 ∷ []) ≡ Some []
unfolding rows_in
older_rows = refl

other_header : rows_in (83 ∷ 84 ∷ 72 ∷ 74 ∷ 0 ∷ 0 ∷ 0 ∷ 1 ∷ 1 ∷ 1 ∷ replicate 7 0) ≡ None
unfolding rows_in
other_header = refl

no_rows : rows_in [] ≡ None
unfolding rows_in
no_rows = refl

-- a row of CLOSE behind an open gate can't come first: the session isn't open
no_close : rows_in (journal_header ++ 1 ∷ 0 ∷ 5 ∷ 0 ∷ 0 ∷ 0 ∷ []) ≡ None
unfolding rows_in
no_close = refl
