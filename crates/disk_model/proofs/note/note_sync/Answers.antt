use Rattle.std.proofs.Common.{◌∙◌, ap, List}
use Rattle.disk_model.specs.declared.call.Call.{Call}
use Rattle.disk_model.specs.declared.call.Call.TheVariants.{Sync}
use Rattle.disk_model.specs.DiskState.{settled}
use Rattle.disk_model.specs.Calls.{state_after}
use Rattle.disk_model.proofs.CallLaws.{after_calls-push, well_push}
use Rattle.disk_model.proofs.note.note_sync.Goals as goal

pub returns-clause-state : goal.returns-clause-state
returns-clause-state c start =
    ap (λ (l : List Call). state_after start l) c.in_ok-push.ensures.items
    ∙ after_calls-push c.args.calls.now.items (settled start) (Sync c.args.good)

pub returns-clause-well : goal.returns-clause-well
returns-clause-well c start =
    well_push start c.args.calls.now.items c.push.new.self.items
    (Sync c.args.good) c.in_ok-push.ensures.items
