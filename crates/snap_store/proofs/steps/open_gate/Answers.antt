use Rattle.std.proofs.Common.{◌∷◌, [], sym}
use Rattle.std.specs.Prelude.{Some}
use Rattle.disk_model.proofs.WorkLaws.{through}
use Rattle.snap_store.proofs.LaidLemmas.{laid_gate_torn, laid_opened}
use Rattle.snap_store.proofs.steps.open_gate.Goals as goal

pub returns-clause-triple : goal.returns-clause-triple
returns-clause-triple g c area beside_area beside =
    let side = c.args.side in
    through c.gate.result (1 ∷ []) _ (g.met.D.Disk.seen_may_stay c.args.disk.now)
    c.write_through.ensures.ok c.write_through.ensures.crash
    (λ f d laid torn.
    laid_gate_torn side (Some area) beside beside_area f d (rw c.gate.ensures at torn) laid)
    (λ d laid. rw c.gate.ensures (laid_opened side beside beside_area area d laid))

pub returns-clause-calls : goal.returns-clause-calls
returns-clause-calls g c told = rw (sym c.gate.ensures) (c.write_through.ensures.calls told)
