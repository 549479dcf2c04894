use Rattle.std.proofs.Common.{◌≡◌, ℕ, ◌+◌, ◌-◌, ◌<◌, List, [], ◌∷◌, ◌++◌, length, get_or, take}
use Rattle.std.proofs.Common.{drop, map, sym, ◌∙◌, ap, arith, append_assoc}
use Rattle.std.specs.Prelude.{slice_set}
use Rattle.std.proofs.lemmas.List.{take_more, drop_more, set_at, get_or-append_right, length-take}
use Rattle.std.proofs.lemmas.List.{length-map, map-append}
use Rattle.gate_journal.specs.declared.row.Row.{Row}
use Rattle.gate_journal.specs.Scan.{unnumbered}
use Rattle.gate_journal.proofs.look.clear_numbers.Goals as goal

one_more :
    (all rows : List Row) (i : ℕ) (d : Row) → i < length all
    → rows ≡ map unnumbered (take i all) ++ drop i all
    → slice_set rows i (unnumbered (get_or rows i d))
    ≡ map unnumbered (take (i + 1) all) ++ drop (i + 1) all
one_more all rows i d lt is =
    let front = map unnumbered (take i all) in
    let x = get_or all i d in
    let rest = drop (i + 1) all in
    let size : length front ≡ i =
    length-map (take i all) unnumbered ∙ (omega (arith, length-take i all, lt)) in
    let split : rows ≡ front ++ x ∷ rest =
    is ∙ ap (λ (l : List Row). front ++ l) (drop_more all i d lt) in
    let none : i - i ≡ 0 = omega arith in
    let item : get_or rows i d ≡ x =
    ap (λ (l : List Row). get_or l i d) split
    ∙ get_or-append_right front (x ∷ rest) i i d size (omega arith)
    ∙ ap (λ (k : ℕ). get_or (x ∷ rest) k d) none in
    ap (λ (r : Row). slice_set rows i (unnumbered r)) item
    ∙ ap (λ (l : List Row). slice_set l i (unnumbered x)) split
    ∙ set_at front x rest (unnumbered x) i size
    ∙ sym (append_assoc front (unnumbered x ∷ []) rest)
    ∙ ap (λ (l : List Row). l ++ rest)
    (sym (map-append unnumbered (take i all) (x ∷ []))
    ∙ ap (λ (l : List Row). map unnumbered l) (sym (take_more all i d lt)))

pub loop-row-preserved : goal.loop-row-preserved
loop-row-preserved c =
    one_more c.args.rows.now c.loop-row.rows c.loop-row.row-index c.row-item.result
    (omega arith) c.loop-row.invariant
