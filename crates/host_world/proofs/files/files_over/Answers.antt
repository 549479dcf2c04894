use Rattle.std.proofs.Common.{◌∙◌, ◌++◌, ◌∷◌, [], List, ap, map, sym, take, ℕ}
use Rattle.std.proofs.lemmas.List.{map_more}
use Rattle.store_events.specs.declared.state.StoreState.{StoreState}
use Rattle.host_world.specs.Whole.{file_over}
use Rattle.host_world.proofs.files.files_over.Goals as goal

pub loop-file-preserved : goal.loop-file-preserved
loop-file-preserved c =
    let before = map file_over (take c.loop-file.file-index c.args.files.now) in
    c.in_ok-push.ensures.items
    ∙ ap (λ (l : List StoreState). l ++ c.in_ok-store.store ∷ []) c.loop-file.invariant
    ∙ ap (λ (x : StoreState). before ++ x ∷ []) c.in_ok-store.ensures.value
    ∙ ap (λ (b : List ℕ). before ++ file_over b ∷ []) c.file-item.is
    ∙ sym (map_more file_over c.args.files.now c.loop-file.file-index c.file-item.result
    c.loop-file-test.true)
