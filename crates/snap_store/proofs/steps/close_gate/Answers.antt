use Rattle.std.proofs.Common.{◌∙◌, ◌∷◌, [], arith, inl, inr, sym, ⊎_elim}
use Rattle.std.proofs.lemmas.Result.{MatchResult-from_err}
use Rattle.disk_model.proofs.CountLaws.{answered, failed_farther, refused}
use Rattle.disk_model.proofs.WorkLaws.{through}
use Rattle.snap_store.proofs.LaidLemmas.{laid_loosened, laid_closing, laid_shut}
use Rattle.snap_store.proofs.CallLemmas.{calls_open, calls_shut, closing_some}
use Rattle.snap_store.proofs.steps.close_gate.Goals as goal

pub returns-clause-triple : goal.returns-clause-triple
returns-clause-triple g c area beside_area beside =
    let side = c.args.side in
    let slot = c.args.slot in
    let open_gate = sym c.is_closed.ensures ∙ c.if-is_closed.false in
    through c.gate.result (0 ∷ []) _ (g.met.D.Disk.seen_may_stay c.args.disk.now)
    c.write_through.ensures.ok c.write_through.ensures.crash
    (λ f d laid torn. laid_closing side area beside beside_area slot f d open_gate
    (rw c.gate.ensures at torn)
    (laid_loosened side slot area beside beside_area d laid))
    (λ d laid. rw c.gate.ensures
    (laid_shut side area beside beside_area slot d open_gate
    (laid_loosened side slot area beside beside_area d laid)))

pub returns-in_err-sync-clause-calls : goal.returns-in_err-sync-clause-calls
returns-in_err-sync-clause-calls g c told =
    MatchResult-from_err _ _ _ c.from_residual.ensures.0
    (λ e. (
      0,
      closing_some c.args.slot,
      failed_farther (omega arith)
          (refused 0 (λ found. found.clock)
          (⊎_elim (λ found. inl found) (λ listed. inr (inl listed))
          (c.in_err-sync.ensures.only told)) (c.sync.ensures.clock told) c.sync.ensures.listed),
    ))

pub returns-then-is_closed-clause-calls : goal.returns-then-is_closed-clause-calls
returns-then-is_closed-clause-calls g c told =
    rw (calls_shut c.args.slot (sym c.is_closed.ensures ∙ c.if-is_closed.true))
    (answered (λ is_err. absurd (cc)) c.in_ok-sync.ensures.err (c.in_ok-sync.ensures.clock told)
    c.sync.ensures.listed)

pub returns-clause-calls : goal.returns-clause-calls
returns-clause-calls g c told =
    rw (
      calls_open c.args.slot (sym c.is_closed.ensures ∙ c.if-is_closed.false),
      sym c.gate.ensures,
    ) (c.write_through.ensures.calls told)
