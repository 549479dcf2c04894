use Rattle.std.proofs.Common.{arith, inl, inr, ⊎_elim}
use Rattle.std.proofs.lemmas.Result.{MatchResult-from_err}
use Rattle.disk_model.proofs.CountLaws.{answered_ok, refused}
use Rattle.std.proofs.Common.{◌≡◌, ◌∙◌, arith, ◌+◌}
use Rattle.byteorder.specs.Endian.{big_from}
use Rattle.disk_model.specs.Disk.{ReadsFile}
use Rattle.snap_store.specs.File.{side_start, area_place, count_at, length_at}
use Rattle.snap_store.proofs.FileLemmas.{number_read, first_number_read}
use Rattle.snap_store.proofs.outline.read_head.Goals as goal

pub returns-clause-ok : goal.returns-clause-ok
unfolding area_place count_at length_at
returns-clause-ok g c told =
    let file = g.D.Disk.seen c.args.disk.now in
    let bytes = c.read_at.new.into in
    let at = side_start c.args.side in
    let reads : ReadsFile file at bytes =
    rw c.start.ensures at (c.in_ok-read_at.ensures.ok told) in
    let place : c.read_u64.result ≡ big_from at 8 file =
    c.read_u64.ensures ∙ first_number_read 8 at file bytes reads (omega arith) in
    let count : c.read_u32.result ≡ big_from (at + 8) 4 file =
    c.read_u32.ensures ∙ number_read 4 8 8 at file bytes reads (omega arith) (omega arith) in
    let many : c.read_u32-2.result ≡ big_from (at + 12) 4 file =
    c.read_u32-2.ensures ∙ number_read 4 12 4 at file bytes reads (omega arith) (omega arith) in
    cc

pub returns-in_err-read_at-clause-calls : goal.returns-in_err-read_at-clause-calls
returns-in_err-read_at-clause-calls g c told =
    MatchResult-from_err _ _ _ c.from_residual.ensures.0
    (λ e. (
      0,
      omega arith,
      (refused 0 (λ found. found.clock)
          (⊎_elim (λ found. inl found) (λ listed. inr (inl listed))
          (c.in_err-read_at.ensures.only told)) (c.read_at.ensures.clock told) c.read_at.ensures.listed),
    ))

pub returns-clause-calls : goal.returns-clause-calls
returns-clause-calls g c told =
    answered_ok c.in_ok-read_at.ensures.err
    (c.in_ok-read_at.ensures.clock told) c.read_at.ensures.listed
