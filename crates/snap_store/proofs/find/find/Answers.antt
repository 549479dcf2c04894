use Rattle.std.proofs.Common.{◌≡◌, ◌+◌, ◌∙◌, ap, arith, length, List, ℕ, true, take, drop}
use Rattle.std.specs.Prelude.{Some, Option}
use Rattle.snap_store.specs.declared.outline.Head.{Head}
use Rattle.snap_store.specs.File.{Stored, area_on_side, count_at, length_at}
use Rattle.snap_store.specs.File.{side_start, is_whole, newest_area, area_given}
use Rattle.snap_store.specs.Outline.{outline_of}
use Rattle.snap_store.proofs.FileLemmas.{whole_ends}
use Rattle.snap_store.proofs.find.find.Goals as goal

pub returns-clause-ok : goal.returns-clause-ok
unfolding area_on_side
returns-clause-ok g c told =
    let file = g.D.Disk.seen c.args.disk.now in
    let side = c.in-Some.side in
    let told_read = rw (← c.outline_in.ensures.kept.same.telling) at told in
    let is : c.in-Ok.outline ≡ outline_of file = c.in-Ok.ensures.ok told in
    let value : Some (area_on_side side file) ≡ newest_area c.args.place c.args.most file =
    c.in-Some.ensures.value file is in
    let whole : is_whole side file ≡ true = c.in-Some.ensures.whole file is in
    let count : c.head-head.result.count ≡ count_at side file =
    ap (λ (h : Head). h.count) (c.head-head.ensures file is) in
    let many : c.head-head.result.length ≡ length_at side file =
    ap (λ (h : Head). h.length) (c.head-head.ensures file is) in
    let same : g.D.Disk.seen c.outline_in.new.disk ≡ file = c.in-Ok.ensures.seen told in
    let ends = whole_ends side file whole in
    let bytes : c.in_ok-bytes.bytes
    ≡ take (length_at side file) (drop (side_start side + 16) file) =
    c.in_ok-bytes.ensures.ok told_read (omega (arith, ends, many, c.start.ensures, ap length same))
    ∙ ap (λ (l : List ℕ). take c.head-head.result.length (drop (c.start.result + 16) l)) same
    ∙ ap (λ (n : ℕ). take n (drop (c.start.result + 16) file)) many
    ∙ ap (λ (n : ℕ). take (length_at side file) (drop (n + 16) file)) c.start.ensures in
    rw (count, bytes) (ap (λ (x : Option Stored). area_given x) value)
