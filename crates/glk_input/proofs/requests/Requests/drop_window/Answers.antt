use Rattle.std.proofs.Common.{rules, not, ◌==◌}
use Rattle.std.proofs.lemmas.Fn.{filter_same}
use Rattle.glk_input.proofs.requests.Requests.drop_window.Goals as goal

pub returns : goal.returns
returns c =
    rw (← c.self.view_is)
    (filter_same _ (λ w. not (w.win == c.args.win)) _
    (λ x b f' k. search rules) _ _ c.retain.ensures.filtered)
