use Rattle.std.proofs.Common.{◌+◌, drop, sym, ◌∙◌, ap}
use Rattle.std.proofs.lemmas.List.{drop_more}
use Rattle.vm_undo.specs.RunsTest.{are_runs_behind, are_runs_from}
use Rattle.vm_undo.proofs.runs.are_runs.Goals as goal

pub returns-in-None : goal.returns-in-None
returns-in-None c =
    let bytes = c.args.bytes.now in
    let i = c.loop-byte.byte-index in
    sym (sym c.loop-byte.invariant
    ∙ ap (are_runs_behind c.loop-byte.behind c.loop-byte.left)
    (drop_more bytes i 0 c.loop-byte-test.true)
    ∙ c.behind_next.ensures (drop (i + 1) bytes)
    ∙ ap (λ p. are_runs_from p (drop (i + 1) bytes)) c.in-None.is)
