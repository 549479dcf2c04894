use Rattle.std.proofs.Common.{rules, ◌≡◌, ℕ, ◌-◌, arith, subst}
use Rattle.glk_dispatch.specs.Answer.{glk_call}
use Rattle.story_run.specs.Step.{Advances, call_charged, machine_after_call}
use Rattle.story_run.proofs.TurnLemmas.{charged_advances}
use Rattle.story_run.proofs.step.call_glk.Goals as goal

pub returns-clause-does : goal.returns-clause-does
returns-clause-does c =
    let m = machine_after_call c.args.machine.now
    (glk_call c.call.new.glk c.call.new.memory c.call.new.stack) in
    let n : ℕ = c.saturating_sub-chars.result in
    let chars : n ≡ c.call.new.glk.chars - c.args.glk.now.chars = search rules in
    rw c.in_ok-answer.ensures.does
    (subst (λ (k : ℕ). Advances
    (call_charged c.args.left k c.call.new.glk m c.in_ok-answer.answer) c.call.new.glk
    c.follow.new.machine c.follow.result) chars
    (charged_advances c.args.left n c.call.new.glk m c.follow.new.machine c.in_ok-answer.answer
    c.follow.result (omega (arith, c.if-chars-left.false)) c.follow.ensures.does))
