-- A journal that was just begun has no row, and a new snapshot file has no area that may open.
use Rattle.std.proofs.Common.{◌≡◌, ℕ, zero, suc, List, [], ◌∷◌, ◌++◌, length}
use Rattle.std.proofs.Common.{refl, sym, ap, ◌∙◌, subst, arith, inl, inr}
use Rattle.std.proofs.lemmas.Bool.{cases_lt}
use Rattle.std.proofs.lemmas.List.{get_or_past}
use Rattle.std.specs.Prelude.{slice_get, slice_index, Bool, IsTrue, true, false, ◌&&◌, None, Some}
use Rattle.std.specs.Prelude.{if◌then◌else◌}
use Rattle.turn_cell.specs.History.{Each}
use Rattle.disk_model.specs.Disk.{Holds}
use Rattle.disk_model.specs.declared.disk.Disk.{Ghosts as DiskWords}
use Rattle.gate_journal.specs.Log.{rows_kept}
use Rattle.gate_journal.specs.Rows.{SpellsRows, journal_header}
use Rattle.gate_journal.specs.declared.row.Row.{Row}
use Rattle.gate_journal.proofs.RowLemmas.{one_list, spells_shut}
use Rattle.gate_journal.proofs.VersionLemmas.{stands_either}
use Rattle.host_serve.specs.Holders.{seen_at}
use Rattle.host_serve.specs.Opening.{AreAgreed, histories_in_rows}
use Rattle.host_serve.proofs.AloneLemmas.{history_there, many_histories}
use Rattle.host_serve.proofs.ListLemmas.{none_some, same_some}
use Rattle.gate_journal.specs.declared.command.Command.{Command}
use Rattle.session_core.specs.declared.entry.Entry.{Entry}
use Rattle.session_saves.specs.Agreement.{IsAgreedFile}
use Rattle.session_desk.specs.Turn.{history_in}
use Rattle.snap_store.specs.File.{area_on_side, empty_snapshot_file, gate_byte, has_header, is_whole}
use Rattle.snap_store.specs.File.{openable_area, Stored}
use Rattle.snap_store.specs.declared.side.Side.{Side}
use Rattle.snap_store.specs.declared.side.Side.TheVariants.{A, B}
use Rattle.story_run.specs.declared.story.Story.{Story}
use Rattle.host_drill.specs.Drilled.{AreMade, IsNewFile}

whole : (bytes : List ℕ) → Holds bytes 0 bytes
whole bytes = record {
  within = omega arith;
  each = λ i below. ap (λ (k : ℕ). slice_index bytes k) (omega arith);
}

-- it spells none
pub no_rows : (bytes : List ℕ) (rows : List Row)
    → bytes ≡ journal_header ++ 0 ∷ [] → SpellsRows bytes rows
    → rows ≡ []
no_rows bytes rows is spells =
    one_list bytes rows [] spells (spells_shut [] bytes tt (stands_either [] None bytes
    (subst (λ (c : List ℕ). Holds c 0 (journal_header ++ 0 ∷ [])) (sym is)
    (whole (journal_header ++ 0 ∷ [])))))

-- so nothing was seen of any session
pub none_seen : (rows : List Row) (seens : List (List Entry))
    → rows ≡ [] → seens ≡ histories_in_rows rows → (k : ℕ)
    → seen_at seens k ≡ []
none_seen rows seens none is k = elim (cases_lt k 64) [
  | inl below ↦
      ap (λ (h : List (List Entry)). seen_at h k) is
      ∙ history_there rows k below
      ∙ ap (λ (r : List Row). history_in (rows_kept r) k) none
  | inr past ↦
      get_or_past seens k []
      (omega (arith, past, ap (λ (h : List (List Entry)). length h) is, many_histories rows))
]

-- ---- disks without areas

gate_shut : (side : Side) → gate_byte side empty_snapshot_file ≡ 0
unfolding gate_byte empty_snapshot_file
gate_shut A = refl
gate_shut B = refl

none_where_shut : (has whole : Bool) (area : Stored)
    → (if has && false && whole then Some area else None) ≡ None
none_where_shut true whole area = refl
none_where_shut false whole area = refl

no_area : (side : Side) → openable_area side empty_snapshot_file ≡ None
no_area side =
    rw (gate_shut side)
    (none_where_shut (has_header empty_snapshot_file) (is_whole side empty_snapshot_file)
    (area_on_side side empty_snapshot_file))

agrees : (stories : List Story) (rows : List ℕ) (game : List Command) (file : List ℕ)
    → file ≡ empty_snapshot_file → IsAgreedFile stories rows game file
agrees stories rows game file is side area there =
    absurd
    (none_some area (sym (ap (λ (f : List ℕ). openable_area side f) is ∙ no_area side) ∙ there))

module _ {A : Type 0} (P : A → Type 0) where
  each_got : (xs : List A) (s : ℕ) (x : A) → Each P xs → slice_get xs s ≡ Some x → P x
  each_got [] s x each is = absurd (none_some x is)
  each_got (y ∷ ys) zero x each is = subst P (same_some y x is) each.0
  each_got (y ∷ ys) (suc s) x each is = each_got ys s x each.1 is

-- so they agree with the rows of any journal
pub made_agree : {D : Type 0} (words : DiskWords D) (stories : List Story) (rows : List Row)
    (disks : List D) → AreMade words disks → AreAgreed words stories rows disks
made_agree words stories rows disks made s disk there =
    let one = each_got (IsNewFile words) disks s disk made.each there in
    (one.0, agrees stories _ _ (words.seen disk) one.1)

-- disks in memory tell what they hold
pub each_told : {A : Type 0} (P : A → Type 0) (xs : List A)
    → Each P xs → Each (λ (x : A). IsTrue true × P x) xs
each_told P [] each = tt
each_told P (x ∷ xs) each = ((refl, each.0), each_told P xs each.1)
