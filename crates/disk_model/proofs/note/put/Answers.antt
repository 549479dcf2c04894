use Rattle.std.proofs.Common.{◌≡◌, ◌∙◌, ◌++◌, ◌∷◌, [], ap, List, ℕ, rules}
use Rattle.disk_model.specs.declared.call.Call.{Call}
use Rattle.disk_model.specs.declared.call.Call.TheVariants.{Write}
use Rattle.disk_model.specs.DiskState.{settled, after_write}
use Rattle.disk_model.specs.Calls.{state_after}
use Rattle.disk_model.proofs.CallLaws.{after_calls-push, elapses_push, well_push}
use Rattle.disk_model.proofs.note.put.Goals as goal

pub returns-clause-state : goal.returns-clause-state
returns-clause-state c start =
    let call = Write c.args.place c.in_ok-piece_kept.piece_kept c.args.good in
    let same : c.in_ok-piece_kept.piece_kept.items ≡ c.args.piece.now = search rules in
    let later : c.push.new.self.items ≡ c.args.calls.now.items ++ call ∷ [] = search rules in
    ap (λ (l : List Call). state_after start l) later
    ∙ after_calls-push c.args.calls.now.items (settled start) call
    ∙ ap (λ (l : List ℕ).
    after_write c.args.good c.args.place l (state_after start c.args.calls.now.items)) same

pub returns-clause-time : goal.returns-clause-time
returns-clause-time c start =
    let call = Write c.args.place c.in_ok-piece_kept.piece_kept c.args.good in
    let later : c.push.new.self.items ≡ c.args.calls.now.items ++ call ∷ [] = search rules in
    elapses_push start c.args.calls.now.items call c.push.new.self.items later

pub returns-clause-well : goal.returns-clause-well
returns-clause-well c start =
    let call = Write c.args.place c.in_ok-piece_kept.piece_kept c.args.good in
    let later : c.push.new.self.items ≡ c.args.calls.now.items ++ call ∷ [] = search rules in
    well_push start c.args.calls.now.items c.push.new.self.items call later
