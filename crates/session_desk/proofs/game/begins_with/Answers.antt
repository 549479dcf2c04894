use Rattle.std.proofs.Common.{ℕ, sym, subst, ◌∙◌, arith}
use Rattle.session_desk.specs.Desk.{BeginsAt}
use Rattle.session_desk.proofs.GameLemmas.{begins-none, begins-on, begins-open}
use Rattle.session_desk.proofs.game.begins_with.Goals as goal

pub returns-then-is_open : goal.returns-then-is_open
returns-then-is_open c =
    begins-open c.args.commands.now c.args.command.now (sym c.is_open.ensures ∙ c.if-is_open.true)

pub returns-then-begins-count : goal.returns-then-begins-count
returns-then-begins-count c =
    begins-none c.args.commands.now c.args.command.now (sym c.is_open.ensures ∙ c.if-is_open.false)
    (subst (λ (n : ℕ). BeginsAt n c.args.commands.now) c.if-begins-count.true c.requires)

pub returns-else-begins-count : goal.returns-else-begins-count
returns-else-begins-count c =
    let within = c.requires.0 in
    let other = c.if-begins-count.false in
    begins-on c.args.commands.now c.args.begins c.args.command.now
    (sym c.is_open.ensures ∙ c.if-is_open.false) (omega (arith, within, other)) c.requires
