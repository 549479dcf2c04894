-- What is found after a stop.
use Rattle.std.proofs.Common.{inl, inr, ⊎_elim, ℕ, List, [], ◌∷◌, ◌++◌}
use Rattle.std.specs.Prelude.{Option, Some, None}
use Rattle.disk_model.proofs.Torn.{holds_front}
use Rattle.gate_journal.specs.declared.row.Row.{Row}
use Rattle.gate_journal.specs.declared.fault.JournalFault.{JournalFault}
use Rattle.gate_journal.specs.declared.fault.JournalFault.TheVariants.{NotJournal}
use Rattle.gate_journal.specs.declared.fault.JournalFault.TheVariants.{Corrupt, NoMemory}
use Rattle.gate_journal.specs.declared.fault.JournalFault.TheVariants.{DiskFault as on_disk}
use Rattle.gate_journal.specs.Faults.{Explains, IsOfDisk}
use Rattle.gate_journal.specs.Rows.{header_with, version_byte, rows_behind_open_gates}
use Rattle.gate_journal.specs.Rows.{SpellsRows, IsJournal}
use Rattle.gate_journal.specs.Log.{MaySpell, MayFind, MayOpen}
use Rattle.gate_journal.specs.Laws.{FindsRows, FindsThese}
use Rattle.gate_journal.proofs.RowLemmas.{one_list, never_both, spells_shut}
use Rattle.gate_journal.proofs.LogLemmas.{closed_either}

-- what an image spells is what is found in it
pub found_in : (rows : List Row) (u : Option Row) (found : List Row) (c : List ℕ)
    → MaySpell rows u c → SpellsRows c found
    → MayFind rows u found
found_in rows None found c well spells = one_list c found rows spells well.spells
found_in rows (Some r) found c (inl well) spells = inl (one_list c found rows spells well.spells)
found_in rows (Some r) found c (inr well) spells =
    inr (one_list c found (rows ++ r ∷ []) spells well.spells)

-- such an image spells some rows
pub spells_some : (rows : List Row) (u : Option Row) (c : List ℕ)
    → MaySpell rows u c
    → (found : List Row) × SpellsRows c found
spells_some rows None c well = (rows, well.spells)
spells_some rows (Some r) c (inl well) = (rows, well.spells)
spells_some rows (Some r) c (inr well) = (rows ++ r ∷ [], well.spells)

-- bytes that spell rows are refused for nothing that they hold
refused_of_rows : (rows : List Row) (c : List ℕ) (e : JournalFault)
    → SpellsRows c rows → Explains c e → IsOfDisk e
refused_of_rows rows c NotJournal spells no_header =
    absurd (no_header
    (holds_front (header_with (version_byte c)) (rows_behind_open_gates rows) spells.front))
refused_of_rows rows c (Corrupt place) spells corrupt =
    absurd (never_both c rows place spells corrupt)
refused_of_rows rows c (on_disk fault) spells said = tt
refused_of_rows rows c NoMemory spells said = tt

-- and neither is such an image
pub refused_of_disk : (rows : List Row) (u : Option Row) (c : List ℕ) (e : JournalFault)
    → MaySpell rows u c → Explains c e → IsOfDisk e
refused_of_disk rows u c e spells said =
    let some = spells_some rows u c spells in refused_of_rows some.0 c e some.1 said

-- what an opening may meet spells the rows, or these and one more
finds_these : (rows : List Row) (c : List ℕ) → IsJournal rows → MayOpen rows c → FindsThese rows c
finds_these rows c all (inl shut) = inl (spells_shut rows c all shut)
finds_these rows c all (inr (r, next, unsure)) =
    ⊎_elim (λ well. inl well.spells) (λ well. inr (r, next, well.spells))
    (closed_either rows (Some r) c all next unsure)

pub finds_rows : FindsRows
finds_rows rows c all met = (found, λ e said. refused found e said)
  where
    found : FindsThese rows c
    found = finds_these rows c all met

    refused : FindsThese rows c → (e : JournalFault) → Explains c e → IsOfDisk e
    refused (inl spells) e said = refused_of_rows rows c e spells said
    refused (inr one) e said = refused_of_rows (rows ++ one.0 ∷ []) c e one.2 said
