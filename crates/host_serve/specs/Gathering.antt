-- The desks' passes of the journal, joined into its root one after the other, and the disks of
-- their stores (own).
use Rattle.std.specs.Prelude.{◌≡◌, ℕ, ◌+◌, ◌<◌, List, [], ◌∷◌, ◌++◌, length, map, Option, Some}
use Rattle.std.specs.Prelude.{None, get_or, slice_get}
use Rattle.disk_model.specs.declared.disk.Disk.{Ghosts as DiskWords}
use Rattle.turn_cell.specs.History.{Continues, IsAmong, IsForeign}
use Rattle.turn_cell.specs.declared.pass.Pass.{Pass}
use Rattle.turn_cell.specs.Passes.{pass_numbers, pass_number, sample, seen}
use Rattle.gate_journal.specs.Log.{Log, entry_number, rows_of}
use Rattle.gate_journal.specs.declared.entry.Entry.{Entry as JournalEntry}
use Rattle.session_core.specs.declared.entry.Entry.{Entry}
use Rattle.session_desk.specs.Shared.{DeskTag, unnumbered}
use Rattle.session_desk.specs.Sound.{IsSoundDesk}
use Rattle.session_desk.specs.Turn.{history_in}
use Rattle.host_serve.specs.Ending.{EndsAt, GivesBack, IsAgreedDisk, KeepsFileOf}
use Rattle.host_serve.specs.Holders.{Holder, holder_at, seen_at}

-- a session's history as its desk has it, what that desk's pass has seen of the journal, and what
-- has come since
pub record Heard (s : ℕ) (journal : List JournalEntry) (final : List Entry) : Type 0 where
  pub seen : List JournalEntry
  pub since : Continues (IsForeign entry_number ((s + 1) ∷ [])) journal seen
  pub entries : map unnumbered final ≡ history_in seen s

module _ {D : Type 0} where
  -- the root holds these numbers more; what it has seen goes on by entries of others
  pub record KeepsRoot (more : List ℕ) (old new : Pass (Log D) JournalEntry) : Type 0 where
    pub holds_both : pass_numbers new ≡ pass_numbers old ++ more
    pub since : Continues (IsForeign entry_number (pass_numbers old)) (seen new) (seen old)
    pub kept : (pass_number new ≡ pass_number old) × (sample new ≡ sample old)

  module _ (words : DiskWords D)
    where
      -- The disk of the store of a desk with this tag comes back. On a sound desk it agrees with the
      -- rows that its pass has seen, and did since it was opened; entries of others have come since.
      pub record Returns (s : ℕ) (tag : DeskTag D) (back : D) (journal : List JournalEntry)
          : Type 0 where
        pub gives : GivesBack words tag.store back
        pub seen : List JournalEntry
        pub since : Continues (IsForeign entry_number ((s + 1) ∷ [])) journal seen
        pub agreed : IsSoundDesk words tag → IsAgreedDisk words tag.stories (rows_of seen) s back
        pub file : IsSoundDesk words tag
            → KeepsFileOf words tag.stories tag.rows (rows_of seen) s tag.store back

      -- the session's desk was entered, by this holder, and its pass joined into the root
      pub record BringsIn (s : ℕ) (h : Holder) (old : List Entry) (tag : Option (DeskTag D))
          (root : Pass (Log D) JournalEntry) (back : D) : Type 0 where
        pub final : List Entry
        pub ends : EndsAt h old final
        pub heard : Heard s (seen root) final
        pub returns : (its : DeskTag D) → tag ≡ Some its → Returns s its back (seen root)

      -- the sessions below this number were brought in
      pub record Gathers (n : ℕ) (holders : List Holder) (old : List (List Entry))
          (tags : List (Option (DeskTag D))) (first root : Pass (Log D) JournalEntry)
          (backs : List D) : Type 0 where
        pub finals : List (List Entry)
        pub many : length finals ≡ n
        pub ends :
            (s : ℕ) → s < n → EndsAt (holder_at holders s) (seen_at old s) (seen_at finals s)
        pub heard : (s : ℕ) → s < n → Heard s (seen root) (seen_at finals s)
        pub held : (s : ℕ) → s < n → IsAmong (s + 1) (pass_numbers root)
        pub grows : (rest : List ℕ) × KeepsRoot rest first root
        pub disks : length backs ≡ n
        pub returns :
            (s : ℕ) (tag : DeskTag D) (back : D) → s < n → get_or tags s None ≡ Some tag
            → slice_get backs s ≡ Some back → Returns s tag back (seen root)
