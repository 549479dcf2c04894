-- One entry more, and what the images of a journal spell.
use Rattle.std.proofs.Common.{◌≡◌, ◌⊎◌, inl, inr, ℕ, ◌+◌, ◌≤◌, List, [], ◌∷◌, ◌++◌}
use Rattle.std.proofs.Common.{length, get_or, refl, sym, ap, arith, length-append}
use Rattle.std.specs.Prelude.{false, Option, Some, None, IfSome, is_none, Result}
use Rattle.disk_model.specs.Work.{Triple}
use Rattle.std.proofs.lemmas.Bool.{cases_eq}
use Rattle.disk_model.specs.Disk.{Rose}
use Rattle.disk_model.specs.declared.disk.Disk.{Ghosts as DiskWords}
use Rattle.gate_journal.specs.declared.row.Row.{Row}
use Rattle.gate_journal.specs.declared.entry.Entry.{Entry}
use Rattle.gate_journal.specs.declared.entry.Entry.TheVariants.{Kept, Faulted}
use Rattle.gate_journal.specs.Gate.{IsShut, IsUnsure}
use Rattle.gate_journal.specs.Rows.{row_body, journal_bytes, IsJournal, IsNext}
use Rattle.gate_journal.specs.Rows.{journal_front, version_byte}
use Rattle.gate_journal.specs.Log.{rows_of, rows_kept, Rises, StandsInEither, StandsInImage}
use Rattle.gate_journal.specs.Log.{IsClosedWell, MaySpell, MayOpen}
use Rattle.gate_journal.proofs.RowLemmas.{shut_zero, spells_shut, spells_not_open}
use Rattle.gate_journal.proofs.RowLemmas.{opens, journal_push, spelled-push}
use Rattle.gate_journal.proofs.VersionLemmas.{are_front, stands_either}

pub rises-kept : (entries : List Entry) (r : Row) (low high now : ℕ)
    → Rises low entries high → high ≤ now
    → Rises low (entries ++ Kept r ∷ []) now
rises-kept [] r low high now rises le = omega arith
rises-kept (Kept x ∷ entries) r low high now rises le = rises-kept entries r low high now rises le
rises-kept (Faulted q from to ∷ entries) r low high now rises le =
    (rises.0, rises.1, rises.2, rises-kept entries r to high now rises.3 le)

pub rises-faulted : (entries : List Entry) (r : Row) (from to low : ℕ)
    → Rises low entries from → from ≤ to → Rose from to
    → Rises low (entries ++ Faulted r from to ∷ []) to
rises-faulted [] r from to low rises le rose = (rises, le, rose, omega arith)
rises-faulted (Kept x ∷ entries) r from to low rises le rose =
    rises-faulted entries r from to low rises le rose
rises-faulted (Faulted q f t ∷ entries) r from to low rises le rose =
    (rises.0, rises.1, rises.2, rises-faulted entries r from to t rises.3 le rose)

-- what is spelled where rows and a closed gate stand
well_shut : (rows : List Row) (c : List ℕ)
    → IsJournal rows → StandsInEither rows None c → IsClosedWell rows c
well_shut rows c all stands = record {
  spells = spells_shut rows c all stands;
  gate = inl (shut_zero (journal_front (version_byte c) rows) c stands.1);
}

-- and where nothing is known of the gate: with the row behind it exactly where it is open
pub closed_either : (rows : List Row) (uncertain : Option Row) (c : List ℕ)
    → IsJournal rows → IfSome uncertain (IsNext rows)
    → StandsInEither rows uncertain c → MaySpell rows uncertain c
closed_either rows None c all next stands = well_shut rows c all stands
closed_either rows (Some r) c all next stands =
    elim (cases_eq (get_or c (length (journal_bytes rows)) 0) 1) [
      | inl is_open ↦
          inr (well_shut (rows ++ r ∷ []) c (journal_push rows r all next)
          (opens rows r c stands is_open))
      | inr shut ↦ inl (record {
        spells = spells_not_open rows r c all stands shut;
        gate = inr (
          r,
          next,
          (are_front (version_byte c) rows r stands.0).1,
          stands.1.behind,
        );
      })
    ]

pub stands_well : (rows : List Row) (uncertain : Option Row) (c : List ℕ)
    → IsJournal rows → IfSome uncertain (IsNext rows)
    → StandsInImage rows uncertain c → MaySpell rows uncertain c
stands_well rows uncertain c all next stands =
    closed_either rows uncertain c all next (stands_either rows uncertain c stands)

pub closed_shut : (rows : List Row) (c : List ℕ)
    → IsJournal rows → IsShut (journal_bytes rows) c
    → IsClosedWell rows c
closed_shut rows c all shut = stands_well rows None c all tt shut

pub closed_unsure : (rows : List Row) (r : Row) (c : List ℕ)
    → IsJournal rows → IsNext rows r
    → IsUnsure (journal_bytes rows) (row_body r ++ 0 ∷ []) c
    → IsClosedWell rows c ⊎ IsClosedWell (rows ++ r ∷ []) c
closed_unsure rows r c all next unsure = stands_well rows (Some r) c all next unsure

-- the end behind one row more
pub end_push : (rows : List Row) (r : Row) (end : ℕ)
    → end ≡ length (journal_bytes rows)
    → end + length (row_body r ++ 0 ∷ []) ≡ length (journal_bytes (rows ++ r ∷ []))
end_push rows r end is =
    omega (
      arith,
      is,
      ap length (spelled-push rows r),
      length-append (journal_bytes rows) (1 ∷ row_body r),
      length-append (row_body r) (0 ∷ []),
    )

pub rows_of-all : (rows : List Row) → rows_of (rows_kept rows) ≡ rows
rows_of-all [] = refl
rows_of-all (r ∷ rows) = ap (λ (l : List Row). r ∷ l) (rows_of-all rows)

pub rises-all : (rows : List Row) (low high : ℕ) → low ≤ high → Rises low (rows_kept rows) high
rises-all [] low high le = le
rises-all (r ∷ rows) low high le = rises-all rows low high le

pub stands_closed : (rows : List Row) (uncertain : Option Row) (c : List ℕ)
    → IfSome uncertain (IsNext rows)
    → StandsInImage rows uncertain c → MayOpen rows c
stands_closed rows None c next stands = inl (stands_either rows None c stands)
stands_closed rows (Some r) c next stands =
    inr (r, next, stands_either rows (Some r) c stands)

-- the repair of a gate that is uncertain, said of the rows
pub repaired :
    {D T E : Type 0} {disks : DiskWords D} {result : Result T E} {old new : D} (end : ℕ)
    (uncertain : Option Row) (rows : List Row)
    → is_none uncertain ≡ false
    → end ≡ length (journal_bytes rows)
    → ((front past : List ℕ) → length front ≡ end
    → Triple disks result old new (IsUnsure front past) (IsUnsure front past) (IsShut front))
    → Triple disks result old new (StandsInImage rows uncertain)
    (StandsInImage rows uncertain) (StandsInImage rows None)
repaired end None rows some ends triple = absurd (cc)
repaired end (Some r) rows some ends triple =
    triple (journal_bytes rows) (row_body r ++ 0 ∷ []) (sym ends)
