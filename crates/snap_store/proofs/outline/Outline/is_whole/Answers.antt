use Rattle.std.proofs.Common.{◌≡◌, ◌∙◌, ap, refl, arith, true, false, length}
use Rattle.std.specs.Prelude.{nat_le}
use Rattle.std.proofs.lemmas.Bool.Decides.{nat_tests}
use Rattle.snap_store.specs.declared.outline.Head.{Head}
use Rattle.snap_store.specs.declared.outline.Outline.{Outline}
use Rattle.snap_store.specs.File.{is_whole, length_at, side_start}
use Rattle.snap_store.proofs.outline.Outline.is_whole.Goals as goal

pub returns-then-length-le-MAX_SNAPSHOT : goal.returns-then-length-le-MAX_SNAPSHOT
unfolding is_whole
returns-then-length-le-MAX_SNAPSHOT c file is =
    let many : c.head-length.result.length ≡ length_at c.args.side file =
    ap (λ (h : Head). h.length) (c.head-length.ensures file is) in
    let size : c.into.result ≡ length file = c.into.ensures ∙ ap (λ (o : Outline). o.size) is in
    let enough : nat_le (length_at c.args.side file) 8388608 ≡ true = grind (arith, nat_tests) in
    let start : c.from.result ≡ side_start c.args.side = c.from.ensures ∙ c.start.ensures in
    let length_is : c.from-then-length-le-MAX_SNAPSHOT.result ≡ length_at c.args.side file =
    c.from-then-length-le-MAX_SNAPSHOT.ensures ∙ many in
    rw (start, length_is, size, enough) refl

pub returns-else-length-le-MAX_SNAPSHOT : goal.returns-else-length-le-MAX_SNAPSHOT
unfolding is_whole
returns-else-length-le-MAX_SNAPSHOT c file is =
    let many : c.head-length.result.length ≡ length_at c.args.side file =
    ap (λ (h : Head). h.length) (c.head-length.ensures file is) in
    let past : nat_le (length_at c.args.side file) 8388608 ≡ false = grind (arith, nat_tests) in
    rw (many, past) refl
