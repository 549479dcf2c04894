use Rattle.std.proofs.Common.{ap, ◌∙◌}
use Rattle.glk_input.specs.Delivery as delivery
use Rattle.glk_dispatch.specs.Answer.{glk_call}
use Rattle.glk_dispatch.proofs.CalledLemmas.{echo_asks}
use Rattle.glk_dispatch.proofs.ScreenLemmas.{screen_asks}
use Rattle.glk_dispatch.proofs.waiting.answer_event.Goals as goal

pub deliver-requires : goal.deliver-requires
deliver-requires c =
    ap (λ rs. delivery.wants rs c.args.input.now)
    (echo_asks (glk_call c.take_screen.new.glk c.args.memory.now c.args.stack.now) c.args.input.now
    c.echo_input.new.glk c.echo_input.new.memory c.in_ok-echo_input.ensures
    ∙ screen_asks c.args.input.now c.rest.new.self c.take_screen.new.glk
    c.in_ok-take_screen.ensures
    ∙ ap (λ g. g.requests) c.rest.ensures) ∙ c.requires
