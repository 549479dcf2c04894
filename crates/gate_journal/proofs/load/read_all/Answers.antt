use Rattle.std.proofs.Common.{inl, inr, ⊎_elim, arith}
use Rattle.disk_model.proofs.CountLaws.{good_then, failed_then, answered, refused}
use Rattle.gate_journal.proofs.load.read_all.Goals as goal

pub returns-in_default-clause-calls : goal.returns-in_default-clause-calls
returns-in_default-clause-calls g c told is_fault = (
  0,
  omega arith,
  refused 0 (λ found. found.clock)
      (⊎_elim (λ found. inl found) (λ listed. inr (inl listed)) (c.in_default.ensures.only told))
      (c.size.ensures.clock told) c.size.ensures.listed,
)

pub returns-in_default-read_at-clause-calls : goal.returns-in_default-read_at-clause-calls
returns-in_default-read_at-clause-calls g c told is_fault =
    let told_then = rw (← c.size.ensures.kept.telling) at told in (
      1,
      omega arith,
      failed_then 1 0 0 0
          (answered (λ is_err. absurd (cc)) c.in-Ok.ensures.err (c.in-Ok.ensures.clock told)
          c.size.ensures.listed)
          c.size.ensures.kept.size (omega arith)
          (refused 0 (λ found. found.clock)
          (⊎_elim (λ found. inl found) (λ listed. inr (inl listed))
          (c.in_default-read_at.ensures.only told_then)) (c.read_at.ensures.clock told_then)
          c.read_at.ensures.listed),
    )

pub returns-clause-calls : goal.returns-clause-calls
returns-clause-calls g c told =
    let told_then = rw (← c.size.ensures.kept.telling) at told in
    good_then 1 1
    (answered (λ is_err. absurd (cc)) c.in-Ok.ensures.err (c.in-Ok.ensures.clock told)
    c.size.ensures.listed)
    (answered (λ is_err. absurd (cc)) c.in-Ok-read_at.ensures.err
    (c.in-Ok-read_at.ensures.clock told_then) c.read_at.ensures.listed)
