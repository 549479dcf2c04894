use Rattle.std.proofs.Common.{◌≡◌, drop}
use Rattle.glk_input.specs.Request.{next_asking}
use Rattle.glk_input.proofs.requests.next_asking.Given as goal

abbrev pub invariant-loop-window : goal.invariant-loop-window
invariant-loop-window l =
    next_asking l.windows l.number ≡ next_asking (drop l.window-index l.windows) l.number
