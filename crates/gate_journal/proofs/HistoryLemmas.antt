-- Rows and marks as one list.
use Rattle.std.proofs.Common.{◌≡◌, ℕ, zero, suc, List, [], ◌∷◌, ◌++◌}
use Rattle.std.proofs.Common.{length, replicate, ◌+◌, ◌∙◌, refl, ap, arith, true, ◌<◌}
use Rattle.std.specs.Prelude.{nat_lt, ◌&&◌}
use Rattle.std.proofs.lemmas.Bool.Decides.{nat_tests}
use Rattle.std.specs.declared.snapshot.Snapshot.{Snapshot}
use Rattle.gate_journal.specs.declared.row.Row.{Row}
use Rattle.gate_journal.specs.declared.mark.Mark.{Mark}
use Rattle.gate_journal.specs.declared.mark.Mark.TheVariants as marks
use Rattle.gate_journal.specs.declared.entry.Entry.{Entry}
use Rattle.gate_journal.specs.declared.entry.Entry.TheVariants.{Kept, Faulted}
use Rattle.gate_journal.specs.History.{rows_woven, count_rows}
use Rattle.gate_journal.specs.Log.{rows_of, rows_kept}

-- there is room for a row and for a mark
pub rooms : (a b c d : ℕ) → (nat_lt a b && nat_lt c d) ≡ true → (a < b) × (c < d)
rooms a b c d is = grind (arith, nat_tests)

pub count-fault : (l : List Mark) (asked : Snapshot Row) (from to : ℕ)
    → count_rows (l ++ marks.Fault asked from to ∷ []) ≡ count_rows l
count-fault [] asked from to = refl
count-fault (marks.Row ∷ l) asked from to = ap suc (count-fault l asked from to)
count-fault (marks.Fault a f t ∷ l) asked from to = count-fault l asked from to

pub count-row : (l : List Mark) → count_rows (l ++ marks.Row ∷ []) ≡ suc (count_rows l)
count-row [] = refl
count-row (marks.Row ∷ l) = ap suc (count-row l)
count-row (marks.Fault a f t ∷ l) = count-row l

pub woven-fault : (l : List Mark) (rows : List Row) (asked : Snapshot Row) (from to : ℕ)
    → count_rows l ≡ length rows
    → rows_woven (l ++ marks.Fault asked from to ∷ []) rows
    ≡ rows_woven l rows ++ Faulted asked.value from to ∷ []
woven-fault [] rows asked from to is = refl
woven-fault (marks.Row ∷ l) [] asked from to is = absurd (omega (arith, is))
woven-fault (marks.Row ∷ l) (r ∷ rows) asked from to is =
    ap (λ (m : List Entry). Kept r ∷ m) (woven-fault l rows asked from to (omega (arith, is)))
woven-fault (marks.Fault a f t ∷ l) rows asked from to is =
    ap (λ (m : List Entry). Faulted a.value f t ∷ m) (woven-fault l rows asked from to is)

pub woven-row : (l : List Mark) (rows : List Row) (r : Row)
    → count_rows l ≡ length rows
    → rows_woven (l ++ marks.Row ∷ []) (rows ++ r ∷ []) ≡ rows_woven l rows ++ Kept r ∷ []
woven-row [] [] r is = refl
woven-row (marks.Row ∷ l) (x ∷ rows) r is =
    ap (λ (m : List Entry). Kept x ∷ m) (woven-row l rows r (omega (arith, is)))
woven-row (marks.Fault a f t ∷ l) rows r is =
    ap (λ (m : List Entry). Faulted a.value f t ∷ m) (woven-row l rows r is)
woven-row l rows r is = absurd (omega (arith, is))

pub rows_of-woven : (l : List Mark) (rows : List Row)
    → count_rows l ≡ length rows
    → rows_of (rows_woven l rows) ≡ rows
rows_of-woven [] [] is = refl
rows_of-woven (marks.Row ∷ l) (x ∷ rows) is =
    ap (λ (m : List Row). x ∷ m) (rows_of-woven l rows (omega (arith, is)))
rows_of-woven (marks.Fault a f t ∷ l) rows is = rows_of-woven l rows is
rows_of-woven l rows is = absurd (omega (arith, is))

pub length-woven : (l : List Mark) (rows : List Row)
    → count_rows l ≡ length rows
    → length (rows_woven l rows) ≡ length l
length-woven [] rows is = refl
length-woven (marks.Row ∷ l) [] is = absurd (omega (arith, is))
length-woven (marks.Row ∷ l) (x ∷ rows) is = ap suc (length-woven l rows (omega (arith, is)))
length-woven (marks.Fault a f t ∷ l) rows is = ap suc (length-woven l rows is)

pub one_mark_more : (n : ℕ)
    → replicate n marks.Row ++ marks.Row ∷ [] ≡ replicate (n + 1) marks.Row
one_mark_more n =
    let next : suc n ≡ n + 1 = omega arith in
    behind n ∙ ap (λ (k : ℕ). replicate k marks.Row) next
  where
    behind : (n : ℕ) → replicate n marks.Row ++ marks.Row ∷ [] ≡ replicate (suc n) marks.Row
    behind zero = refl
    behind (suc n) = ap (λ (l : List Mark). marks.Row ∷ l) (behind n)

pub count-all : (n : ℕ) → count_rows (replicate n marks.Row) ≡ n
count-all zero = refl
count-all (suc n) = ap suc (count-all n)

pub woven-all : (rows : List Row)
    → rows_woven (replicate (length rows) marks.Row) rows ≡ rows_kept rows
woven-all [] = refl
woven-all (r ∷ rows) = ap (λ (m : List Entry). Kept r ∷ m) (woven-all rows)
