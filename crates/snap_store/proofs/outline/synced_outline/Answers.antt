use Rattle.std.proofs.Common.{Bool, arith, inl, inr, subst, sym, ⊎_elim}
use Rattle.std.specs.Prelude.{IsTrue}
use Rattle.std.proofs.lemmas.Result.{MatchResult-from_err}
use Rattle.disk_model.proofs.CountLaws.{among_then, answered_ok, good_then, refused}
use Rattle.snap_store.proofs.outline.synced_outline.Goals as goal

pub returns-in_err-sync-clause-calls : goal.returns-in_err-sync-clause-calls
returns-in_err-sync-clause-calls g c told =
    MatchResult-from_err _ _ _ c.from_residual.ensures.0
    (λ e. (
      0,
      omega arith,
      (refused 0 (λ found. found.clock)
          (⊎_elim (λ found. inl found) (λ listed. inr (inl listed))
          (c.in_err-sync.ensures.only told)) (c.sync.ensures.clock told) c.sync.ensures.listed),
    ))

pub returns-in_err-outline-clause-calls : goal.returns-in_err-outline-clause-calls
returns-in_err-outline-clause-calls g c told =
    MatchResult-from_err _ _ _ c.from_residual-in_err-outline.ensures.0
    (λ e. among_then 1 4 0 0
    (answered_ok c.in_ok-sync.ensures.err
    (c.in_ok-sync.ensures.clock told) c.sync.ensures.listed)
    c.sync.ensures.kept.size (omega arith)
    (c.in_err-outline.ensures.calls
    (subst (λ (b : Bool). IsTrue b) (sym c.sync.ensures.kept.telling) told)))

pub returns-clause-calls : goal.returns-clause-calls
returns-clause-calls g c told =
    good_then 1 4
    (answered_ok c.in_ok-sync.ensures.err
    (c.in_ok-sync.ensures.clock told) c.sync.ensures.listed)
    (c.in_ok-outline.ensures.calls
    (subst (λ (b : Bool). IsTrue b) (sym c.sync.ensures.kept.telling) told))
