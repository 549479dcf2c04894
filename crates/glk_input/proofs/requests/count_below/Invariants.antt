use Rattle.std.proofs.Common.{◌≡◌, ◌+◌, drop}
use Rattle.glk_input.specs.Request.{count_below}
use Rattle.glk_input.proofs.requests.count_below.Given as goal

abbrev pub invariant-loop-at : goal.invariant-loop-at
invariant-loop-at l = count_below l.windows l.win ≡ l.at + count_below (drop l.at l.windows) l.win
