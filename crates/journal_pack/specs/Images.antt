-- What a stop may leave of a journal while it is written whole (own).
use Rattle.std.specs.Prelude.{◌≡◌, ◌⊎◌, ℕ, List, [], ◌∷◌, ◌++◌, length, slice_index, replicate}
use Rattle.gate_journal.specs.declared.row.Row.{Row}
use Rattle.gate_journal.specs.Rows.{journal_bytes, SpellsRows, IsCorrupt, HasNoHeader}

-- the bytes are refused by a reader of journals
abbrev pub IsRefused : List ℕ → Type 0
IsRefused bytes = HasNoHeader bytes ⊎ ((place : ℕ) × IsCorrupt bytes place)

-- the bytes spell the rows, and their closing gate is 0
pub record SpellsClosed (rows : List Row) (bytes : List ℕ) : Type 0 where
  pub spells : SpellsRows bytes rows
  pub gate : slice_index bytes (length (journal_bytes rows)) ≡ 0

-- zeros in the header's place
abbrev pub blank : List ℕ
blank = replicate 16 0

-- none of the rows or all of them
abbrev pub NoneOrAll : List Row → List ℕ → Type 0
NoneOrAll rows bytes = IsRefused bytes ⊎ SpellsClosed rows bytes

-- a journal of these rows, its closing gate closed
abbrev pub closed_journal : List Row → List ℕ
closed_journal rows = journal_bytes rows ++ 0 ∷ []
