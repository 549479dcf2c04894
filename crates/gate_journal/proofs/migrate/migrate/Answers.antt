use Rattle.std.proofs.Common.{inl, inr, arith, ◌∙◌}
use Rattle.disk_model.proofs.WorkLaws.{failed, looser, then_}
use Rattle.disk_model.proofs.CountLaws.{failed_then, good_then}
use Rattle.gate_journal.specs.Opening.{with_byte}
use Rattle.gate_journal.proofs.Opening.{version_with}
use Rattle.gate_journal.proofs.migrate.migrate.Goals as goal

-- the gate's write failed, or its sync
pub returns-in_default-clause-triple : goal.returns-in_default-clause-triple
returns-in_default-clause-triple g c bytes gate version =
    failed (looser (λ f is. inl is) (c.set_byte.ensures.triple bytes gate))

pub returns-in_default-clause-calls : goal.returns-in_default-clause-calls
returns-in_default-clause-calls g c told =
    let at = c.in_default.ensures.calls told in (at.0, omega (arith, at.1), at.2)

-- that of the version
pub returns-in_default-set_byte-clause-triple : goal.returns-in_default-set_byte-clause-triple
returns-in_default-set_byte-clause-triple g c bytes gate version =
    failed (then_ (looser (λ f is. inl is) (c.in-Ok.ensures.triple bytes gate))
    c.set_byte.ensures.ran.same.telling
    (looser (λ f is. inr is) (c.set_byte-2.ensures.triple (with_byte bytes c.args.end 0)
    (version_with bytes c.args.end 0 c.requires ∙ version))))

pub returns-in_default-set_byte-clause-calls : goal.returns-in_default-set_byte-clause-calls
returns-in_default-set_byte-clause-calls g c told =
    let told_then = rw (← c.set_byte.ensures.ran.same.telling) at told in
    let at = c.in_default-set_byte.ensures.calls told_then in (
      _,
      omega (arith, at.1),
      failed_then _ at.0 _ _ (c.in-Ok.ensures.calls told) c.set_byte.ensures.ran.same.size
          (omega (arith, c.requires)) at.2,
    )

-- and both were durable
pub returns-clause-triple : goal.returns-clause-triple
returns-clause-triple g c bytes gate version =
    then_ (looser (λ f is. inl is) (c.in-Ok.ensures.triple bytes gate))
    c.set_byte.ensures.ran.same.telling
    (looser (λ f is. inr is) (c.in-Ok-set_byte.ensures.triple (with_byte bytes c.args.end 0)
    (version_with bytes c.args.end 0 c.requires ∙ version)))

pub returns-clause-calls : goal.returns-clause-calls
returns-clause-calls g c told =
    let told_then = rw (← c.set_byte.ensures.ran.same.telling) at told in
    good_then _ _ (c.in-Ok.ensures.calls told) (c.in-Ok-set_byte.ensures.calls told_then)
