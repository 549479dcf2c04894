use Rattle.std.proofs.Common.{◌≡◌, drop}
use Rattle.glk_input.specs.Request.{window_request}
use Rattle.glk_input.proofs.requests.request_at.Given as goal

abbrev pub invariant-loop-window : goal.invariant-loop-window
invariant-loop-window l =
    window_request l.windows l.win ≡ window_request (drop l.window-index l.windows) l.win
