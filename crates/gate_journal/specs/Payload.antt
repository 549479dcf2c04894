-- Payloads and the commands that they are of (own: docs/FORMATS.md, "The journal").
use Rattle.std.specs.Prelude.{◌≡◌, ℕ, List, take, drop, slice_index}
use Rattle.std.specs.Str.{chars}
use Rattle.byteorder.specs.Endian.{big_number}
use Rattle.gate_journal.specs.declared.command.Command.{Command}
use Rattle.gate_journal.specs.declared.command.Command.TheVariants.{Open, Line, Char, File, Size}
use Rattle.gate_journal.specs.Command.{IsCommand}
use Rattle.gate_journal.specs.Rows.{command_kind, payload_of}

-- a row of this kind with this payload is one of this command
pub record IsPayload (kind : ℕ) (payload : List ℕ) (command : Command) : Type 0 where
  pub ranges : IsCommand command
  pub number : command_kind command ≡ kind
  pub bytes : payload_of command ≡ payload

-- no command has such a row
abbrev pub IsNoPayload : ℕ → List ℕ → Type 0
IsNoPayload kind payload = (command : Command) → IsPayload kind payload command → ⊥

-- the OPEN that these bytes behind a key give
abbrev pub open_in : List ℕ → List ℕ → Command
open_in key after =
    Open key (big_number 2 after) (take 32 (drop 2 after)) (big_number 8 (drop 34 after))
    (slice_index after 42) (slice_index after 43) (big_number 8 (drop 44 after))

-- the fields of the other kinds
abbrev pub line_in : List ℕ → Command
line_in payload =
    Line (big_number 4 payload) (big_number 4 (drop 4 payload)) (chars (drop 8 payload))

abbrev pub char_in : List ℕ → Command
char_in payload = Char (big_number 4 payload) (big_number 4 (drop 4 payload))

abbrev pub file_in : List ℕ → Command
file_in payload = File (chars payload)

abbrev pub screen_in : List ℕ → Command
screen_in payload = Size (slice_index payload 0) (slice_index payload 1)
