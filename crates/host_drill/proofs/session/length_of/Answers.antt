use Rattle.std.proofs.Common.{◌≡◌, List, arith, subst, sym, Some}
use Rattle.std.specs.Prelude.{slice_get}
use Rattle.host_serve.specs.declared.mark.Mark.{Mark}
use Rattle.host_drill.proofs.PlayLemmas.{length_told, others}
use Rattle.host_drill.proofs.session.length_of.Goals as goal

pub returns-in-Some-clause-value : goal.returns-in-Some-clause-value
returns-in-Some-clause-value g c =
    length_told _ _ _ _ c.requires.drilled _ _ _ c.in_ok-answered.ensures.value
    c.args.number c.args.session 0 c.requires.below c.ranges.number.fits
    (omega arith) c.in_ok-lines.ensures c.in-Some.mark.now
    (subst (λ (ms : List Mark). slice_get ms 0 ≡ Some c.in-Some.mark.now) c.deref.ensures.value
    (sym c.in-Some.ensures.value)) c.if-mark-session.true

pub returns-in-Some-clause-others : goal.returns-in-Some-clause-others
returns-in-Some-clause-others g c =
    others _ _ _ _ c.requires.drilled _ _ _ c.in_ok-answered.ensures.value c.args.number
    c.args.session 0 c.requires.below c.ranges.number.fits
    (omega arith) c.in_ok-lines.ensures
