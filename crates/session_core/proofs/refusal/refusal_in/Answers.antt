use Rattle.std.proofs.Common.{◌≡◌, true, false, sym, ◌∙◌}
use Rattle.session_core.specs.Checks.{is_fresh}
use Rattle.session_core.proofs.AnswerLemmas.{refusal_in-plain}
use Rattle.session_core.proofs.RefusalLemmas.{declined, full_refuses, room_passes, stale-passes}
use Rattle.session_core.proofs.refusal.refusal_in.Goals as goal

pub returns-in-Some : goal.returns-in-Some
returns-in-Some c =
    refusal_in-plain _ _ _ _ _ c.in-Some.why (sym c.plain_refusal.ensures ∙ c.in-Some.is)

pub returns-then-not-is_fresh : goal.returns-then-not-is_fresh
returns-then-not-is_fresh c =
    let stale : is_fresh c.args.game.now c.args.request.now ≡ false = cc in
    sym (stale-passes _ _ _ _ _ (sym c.plain_refusal.ensures ∙ c.in_default.is) stale)

pub returns-in-Some-declines : goal.returns-in-Some-declines
returns-in-Some-declines c =
    let fresh : is_fresh c.args.game.now c.args.request.now ≡ true = cc in
    declined _ _ _ _ _ c.in-Some-declines.why (sym c.plain_refusal.ensures ∙ c.in_default.is) fresh
    (sym c.declines.ensures ∙ c.in-Some-declines.is)

pub returns-then-history-ge-MAX_COMMANDS : goal.returns-then-history-ge-MAX_COMMANDS
returns-then-history-ge-MAX_COMMANDS c =
    let fresh : is_fresh c.args.game.now c.args.request.now ≡ true = cc in
    full_refuses _ _ _ _ _ (sym c.plain_refusal.ensures ∙ c.in_default.is) fresh
    (sym c.declines.ensures ∙ c.in_default-declines.is) c.if-history-ge-MAX_COMMANDS.true

pub returns : goal.returns
returns c =
    let fresh : is_fresh c.args.game.now c.args.request.now ≡ true = cc in
    room_passes _ _ _ _ _ (sym c.plain_refusal.ensures ∙ c.in_default.is) fresh
    (sym c.declines.ensures ∙ c.in_default-declines.is) c.if-history-ge-MAX_COMMANDS.false
