-- The ranges of a command's fields (own).
use Rattle.std.specs.Prelude.{◌≡◌, ℕ, ◌≤◌, true, length}
use Rattle.story_text.specs.Text.{IsText}
use Rattle.line_words.specs.Field.{is_key}
use Rattle.line_words.specs.Keycode.{is_code}
use Rattle.line_words.specs.Spelling.{IsTerminator}
use Rattle.gate_journal.specs.declared.command.Command.{Command}
use Rattle.gate_journal.specs.declared.command.Command.TheVariants.{Open, Line, Char, File, Close}
use Rattle.gate_journal.specs.declared.command.Command.TheVariants.{Size}

-- a turn's budget in ticks
abbrev pub IsBudget : ℕ → Type 0
IsBudget budget = (1 ≤ budget) × (budget ≤ 1000000000000)

-- the fields are those that a request may name
abbrev pub IsCommand : Command → Type 0
IsCommand (Open key story digest seed cols rows budget) =
    (is_key key ≡ true) × (story ≤ 65535) × (length digest ≡ 32)
    × (seed ≤ 18446744073709551615)
    × (1 ≤ cols) × (cols ≤ 255) × (1 ≤ rows) × (rows ≤ 255) × IsBudget budget
IsCommand (Line win term text) = (win ≤ 4294967295) × IsTerminator term × IsText text
IsCommand (Char win code) = (win ≤ 4294967295) × (is_code code ≡ true)
IsCommand (File name) = IsText name
IsCommand Close = Unit {0}
IsCommand (Size cols rows) = (1 ≤ cols) × (cols ≤ 255) × (1 ≤ rows) × (rows ≤ 255)

-- an OPEN has a digest of 32 bytes
abbrev pub HasDigest : Command → Type 0
HasDigest (Open key story digest seed cols rows budget) = length digest ≡ 32
HasDigest command = Unit {0}
