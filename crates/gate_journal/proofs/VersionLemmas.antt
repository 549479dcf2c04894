-- The two versions of a journal, and a version byte that is being written.
use Rattle.std.proofs.Common.{◌≡◌, ◌≢◌, ◌⊎◌, inl, inr, ℕ, ◌+◌, ◌<◌, zero, suc, List, []}
use Rattle.std.proofs.Common.{subst, ◌∷◌, ◌++◌, get_or, refl, arith}
use Rattle.std.specs.Prelude.{Option, Some, None}
use Rattle.std.proofs.lemmas.Bool.{cases_eq}
use Rattle.disk_model.specs.Disk.{Holds, Torn}
use Rattle.disk_model.proofs.Torn.{holds_both, holds_front, holds_kept, holds_rest}
use Rattle.gate_journal.specs.declared.command.Command.{Command}
use Rattle.gate_journal.specs.declared.command.Command.TheVariants.{Size}
use Rattle.gate_journal.specs.declared.row.Row.{Row}
use Rattle.gate_journal.specs.Gate.{IsShut, IsUnsure}
use Rattle.gate_journal.specs.Rows.{rows_behind_open_gates, header_with, journal_front, row_body}
use Rattle.gate_journal.specs.Rows.{version_byte, IsInVersion, AreInVersion}
use Rattle.gate_journal.specs.Log.{StandsInEither, StandsInImage}

-- version 2 has all rows
pub in_second : (c : Command) → IsInVersion 1 c
in_second (Size cols rows) = refl
in_second c = tt

pub are_second : (rows : List Row) → AreInVersion 1 rows
are_second [] = tt
are_second (r ∷ rows) = (in_second r.command, are_second rows)

-- and those of version 1 are in both
pub in_either : (v w : ℕ) (c : Command) → v ≢ 1 → IsInVersion v c → IsInVersion w c
in_either v w (Size cols rows) first is = absurd (first is)
in_either v w c first is = tt

pub are_either : (v w : ℕ) (rows : List Row) → v ≢ 1 → AreInVersion v rows → AreInVersion w rows
are_either v w [] first are = tt
are_either v w (r ∷ rows) first are =
    (in_either v w r.command first are.0, are_either v w rows first are.1)

-- a version has a command, or not
pub has_it : (v : ℕ) (c : Command) → IsInVersion v c ⊎ (IsInVersion v c → ⊥)
has_it v (Size cols rows) = cases_eq v 1
has_it v c = inl tt

-- one row more
pub are_push : (v : ℕ) (rows : List Row) (r : Row)
    → AreInVersion v rows → IsInVersion v r.command → AreInVersion v (rows ++ r ∷ [])
are_push v [] r are one = (one, tt)
are_push v (x ∷ rows) r are one = (are.0, are_push v rows r are.1 one)

pub are_front : (v : ℕ) (rows : List Row) (r : Row)
    → AreInVersion v (rows ++ r ∷ []) → AreInVersion v rows × IsInVersion v r.command
are_front v [] r are = (tt, are.0)
are_front v (x ∷ rows) r are =
    let rest = are_front v rows r are.1 in ((are.0, rest.0), rest.1)

-- the version byte of a file with a header
pub version_of : (v : ℕ) (rest c : List ℕ) → Holds c 0 (header_with v ++ rest) → version_byte c ≡ v
version_of v rest c holds = holds.each 8 (omega arith)

-- what stands in an image of version 2 stands in one of either
pub stands_either : (rows : List Row) (u : Option Row) (c : List ℕ)
    → StandsInImage rows u c → StandsInEither rows u c
stands_either rows None c shut =
    rw (version_of 1 (rows_behind_open_gates rows ++ 0 ∷ []) c shut) (are_second rows, shut)
stands_either rows (Some r) c unsure =
    rw (version_of 1 (rows_behind_open_gates rows) c unsure.before)
    (are_second (rows ++ r ∷ []), unsure)

-- and the other way, where its byte is that of version 2
pub second_stands : (rows : List Row) (u : Option Row) (c : List ℕ)
    → StandsInEither rows u c → version_byte c ≡ 1 → StandsInImage rows u c
second_stands rows None c stands second =
    subst (λ (v : ℕ). IsShut (journal_front v rows) c) second stands.1
second_stands rows (Some r) c stands second =
    subst (λ (v : ℕ). IsUnsure (journal_front v rows) (row_body r ++ 0 ∷ []) c) second stands.1

-- a header whose version byte may be another one
pub header_torn : (v : ℕ) (rest s c : List ℕ)
    → Holds s 0 (header_with v ++ rest) → Torn 8 1 s c
    → Holds c 0 (header_with (version_byte c) ++ rest)
header_torn v rest s c holds torn =
    let first : List ℕ = 83 ∷ 84 ∷ 72 ∷ 74 ∷ 0 ∷ 0 ∷ 0 ∷ 1 ∷ [] in
    let last : List ℕ = 0 ∷ 0 ∷ 0 ∷ 0 ∷ 0 ∷ 0 ∷ 0 ∷ rest in
    let behind : Holds s 9 last =
    holds_rest {p = 8} (v ∷ []) last refl (holds_rest {p = 0} first (v ∷ last) refl holds) in
    holds_both {p = 0} {q = 8} first (version_byte c ∷ last) refl
    (holds_kept (holds_front first (v ∷ last) holds) torn (inl (omega arith)))
    (holds_both {p = 8} {q = 9} (version_byte c ∷ []) last refl
    (record {
      within = omega (arith, holds.within, torn.no_shorter);
      each = one;
    })
    (holds_kept behind torn (inr (omega arith))))
  where
    one : (i : ℕ) → i < 1 → get_or c (8 + i) 0 ≡ get_or (version_byte c ∷ []) i 0
    one zero lt = refl
    one (suc i) lt = absurd (omega arith)

-- a write of that byte, where a file is of version 1, leaves what stands in it
pub version_torn : (rows : List Row) (u : Option Row) (s c : List ℕ)
    → StandsInEither rows u s → version_byte s ≢ 1 → Torn 8 1 s c → StandsInEither rows u c
version_torn rows None s c stands first torn = (
  are_either (version_byte s) (version_byte c) rows first stands.0,
  header_torn (version_byte s) (rows_behind_open_gates rows ++ 0 ∷ []) s c stands.1 torn,
)
version_torn rows (Some r) s c stands first torn = (
  are_either (version_byte s) (version_byte c) (rows ++ r ∷ []) first stands.0,
  record {
    before =
        header_torn (version_byte s) (rows_behind_open_gates rows) s c stands.1.before torn;
    behind = holds_kept stands.1.behind torn (inr (omega arith));
  },
)
