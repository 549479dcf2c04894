use Rattle.std.proofs.Common.{◌≡◌, ◌∙◌, sym, ap, arith, true, false, length, ℕ, get_or, Bool}
use Rattle.std.specs.Prelude.{nat_le, nat_eq, ◌&&◌}
use Rattle.std.specs.List.{starts_with}
use Rattle.std.proofs.lemmas.Bool.Decides.{nat_tests}
use Rattle.snap_store.specs.File.{has_header, snapshot_header}
use Rattle.std.proofs.Math.Bool.{and-false, and-true}
use Rattle.snap_store.proofs.FileLemmas.{starts_same}
use Rattle.snap_store.proofs.outline.is_header.Goals as goal

pub returns-then-size : goal.returns-then-size
unfolding has_header
returns-then-size c file size reads =
    let starts =
    starts_same c.args.bytes.now file (omega arith) (omega arith)
    (λ i lt. reads i (omega arith) ∙ ap (λ (k : ℕ). get_or file k 0) (omega arith)) in
    let long : nat_le 4096 (length file) ≡ true = grind (arith, nat_tests) in
    c.starts_with.ensures.value ∙ starts
    ∙ sym (and-true (starts_with nat_eq file snapshot_header))
    ∙ ap (λ (b : Bool). starts_with nat_eq file snapshot_header && b) (sym long)

pub returns-else-size : goal.returns-else-size
unfolding has_header
returns-else-size c file size reads =
    let short : nat_le 4096 (length file) ≡ false = grind (arith, nat_tests) in
    let is : nat_le 4096 c.args.size ≡ false = grind (arith, nat_tests) in
    is
    ∙ sym (and-false (starts_with nat_eq file snapshot_header))
    ∙ ap (λ (b : Bool). starts_with nat_eq file snapshot_header && b) (sym short)
