use Rattle.std.proofs.Common.{◌≡◌, drop}
use Rattle.disk_model.specs.Calls.{landed_from}
use Rattle.disk_model.proofs.landed.landed.Given as goal

abbrev pub invariant-loop-call : goal.invariant-loop-call
invariant-loop-call l =
    landed_from l.seen.items l.landed.items (drop l.call-index l.calls)
    ≡ landed_from l.start l.start l.calls
