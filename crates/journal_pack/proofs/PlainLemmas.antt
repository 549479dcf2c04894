-- The numbers of rows have no part in what is live.
use Rattle.std.proofs.Common.{◌≡◌, ℕ, suc, Bool, true, false, List, [], ◌∷◌, ◌++◌, length, map, refl}
use Rattle.std.proofs.Common.{sym, ◌∙◌, ap, subst}
use Rattle.std.specs.Prelude.{if◌then◌else◌, ◌&&◌, ◌==◌, not}
use Rattle.gate_journal.specs.declared.command.Command.{Command}
use Rattle.gate_journal.specs.declared.row.Row.{Row}
use Rattle.gate_journal.specs.Rows.{commands_of, is_free, row_body, rows_behind_open_gates, IsJournal}
use Rattle.gate_journal.specs.Scan.{unnumbered}
use Rattle.journal_pack.specs.Live.{has_open, is_live, live_rows, HaveRanges}
use Rattle.journal_pack.proofs.LiveLemmas.{AreInRange, in_range, live_in_range}

plain_commands : (rows : List Row) (s : ℕ)
    → commands_of (map unnumbered rows) s ≡ commands_of rows s
plain_commands [] s = refl
plain_commands (r ∷ rows) s =
    ap (λ (l : List Command). if r.session == s then r.command ∷ l else l) (plain_commands rows s)

plain_live : (r : Row) (rows : List Row)
    → is_live (unnumbered r) (map unnumbered rows) ≡ is_live r rows
plain_live r rows =
    ap (λ (l : List Command). not (has_open l) && not (is_free (r.command ∷ l)))
    (plain_commands rows r.session)

plain_step : (b : Bool) (r : Row) (l : List Row)
    → (if b then unnumbered r ∷ map unnumbered l else map unnumbered l)
    ≡ map unnumbered (if b then r ∷ l else l)
plain_step true r l = refl
plain_step false r l = refl

-- the live rows are the same
pub plain_rows : (rows : List Row) → live_rows (map unnumbered rows) ≡ map unnumbered (live_rows rows)
plain_rows [] = refl
plain_rows (r ∷ rows) =
    ap (λ (b : Bool). if b then unnumbered r ∷ live_rows (map unnumbered rows)
    else live_rows (map unnumbered rows)) (plain_live r rows)
    ∙ ap (λ (l : List Row). if is_live r rows then unnumbered r ∷ l else l) (plain_rows rows)
    ∙ plain_step (is_live r rows) r (live_rows rows)

-- and so are their bytes
pub plain_bytes : (rows : List Row)
    → rows_behind_open_gates (map unnumbered rows) ≡ rows_behind_open_gates rows
plain_bytes [] = refl
plain_bytes (r ∷ rows) = ap (λ (l : List ℕ). 1 ∷ row_body r ++ l) (plain_bytes rows)

pub plain_length : (rows : List Row) → length (map unnumbered rows) ≡ length rows
plain_length [] = refl
plain_length (r ∷ rows) = ap (λ (n : ℕ). suc n) (plain_length rows)

have_ranges : (rows : List Row) → AreInRange rows → HaveRanges (map unnumbered rows)
have_ranges [] are = tt
have_ranges (r ∷ rows) are = (are.0.ranges, have_ranges rows are.1)

-- and their fields are in their ranges
pub plain_ranges : (rows : List Row) → IsJournal rows → HaveRanges (live_rows (map unnumbered rows))
plain_ranges rows all =
    subst (λ (l : List Row). HaveRanges l) (sym (plain_rows rows))
    (have_ranges (live_rows rows) (live_in_range rows (in_range [] rows all)))
