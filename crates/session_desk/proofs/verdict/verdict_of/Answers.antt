use Rattle.std.proofs.Common.{sym, ◌∙◌}
use Rattle.session_desk.proofs.AlikeLemmas.{plain}
use Rattle.session_desk.proofs.VerdictLemmas.{told-again, told-fresh, told-refused}
use Rattle.session_desk.proofs.verdict.verdict_of.Goals as goal

pub returns-in-Some : goal.returns-in-Some
returns-in-Some c =
    told-refused _ _ _ _
    (rw c.requires.game at (sym c.lacks_world.ensures ∙ c.if-lacks_world.false)) c.in-Some.why
    (rw c.requires.game at (sym c.refusal_in.ensures ∙ c.in-Some.is))

pub returns-then-not-is_fresh : goal.returns-then-not-is_fresh
returns-then-not-is_fresh c =
    told-again _ _ _ _
    (rw c.requires.game at (sym c.lacks_world.ensures ∙ c.if-lacks_world.false))
    (rw c.requires.game at (sym c.refusal_in.ensures ∙ c.in_default.is))
    (rw c.requires.game at (sym c.is_fresh.ensures ∙ c.if-not-is_fresh.true))

pub returns : goal.returns
returns c =
    let told = rw c.requires.game at (sym c.refusal_in.ensures ∙ c.in_default.is) in
    told-fresh _ _ _ _
    (rw c.requires.game at (sym c.lacks_world.ensures ∙ c.if-lacks_world.false))
    told (plain _ _ _ _ _ told)
    (rw c.requires.game at (sym c.is_fresh.ensures ∙ c.if-not-is_fresh.false))
