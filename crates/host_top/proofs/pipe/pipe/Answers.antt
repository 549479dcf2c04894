use Rattle.std.proofs.Common.{inl, inr, sym}
use Rattle.host_top.proofs.FolderLemmas.{folder_used}
use Rattle.host_top.proofs.StoodLemmas.{fetch_stood, pipe_stood}
use Rattle.host_top.proofs.pipe.pipe.Goals as goal

pub returns-in-Err-clause-value : goal.returns-in-Err-clause-value
returns-in-Err-clause-value g c =
    inl (rw (sym c.of_fetch.ensures) at (c.in-Err.ensures.err
    (g.S.Source.source c.args.input.now) (g.K.Sink.sink c.args.output.now)))

pub pipe_over-status-requires-clause-many : goal.pipe_over-status-requires-clause-many
pipe_over-status-requires-clause-many g c = c.in-Ok.ensures.ok.1.many

pub put_folder_back-requires-clause-out : goal.put_folder_back-requires-clause-out
put_folder_back-requires-clause-out g c = λ κ within. (
  _,
  _,
  _,
  c.in-Ok.ensures.ok.1,
  c.pipe_over-status.ensures.kept,
)

pub returns-clause-value : goal.returns-clause-value
returns-clause-value g c =
    inr (folder_used g.O.Disk.Disk _ c.in-Ok.ensures.ok.0 c.in-Ok.ensures.ok.1
    (c.put_folder_back.ensures.back _ _ _ c.in-Ok.ensures.ok.1
    c.pipe_over-status.ensures.kept) c.pipe_over-status.ensures.value)

pub returns-in-Err-clause-stood : goal.returns-in-Err-clause-stood
returns-in-Err-clause-stood g c = λ stand.
    fetch_stood c.in-Err.why _ c.of_fetch.ensures
    (c.in-Err.ensures.unlisted stand.unlisted stand.none_out)

pub returns-clause-stood : goal.returns-clause-stood
returns-clause-stood g c = λ stand.
    pipe_stood g.O.Disk.Disk c.args.folder.now _ _ _ _ _
    (folder_used g.O.Disk.Disk _ c.in-Ok.ensures.ok.0 c.in-Ok.ensures.ok.1
    (c.put_folder_back.ensures.back _ _ _ c.in-Ok.ensures.ok.1
    c.pipe_over-status.ensures.kept) c.pipe_over-status.ensures.value)
    stand.none_failed
