use Rattle.std.proofs.Common.{◌∙◌, ◌++◌, ◌∷◌, [], List, ap, map, sym, take}
use Rattle.std.proofs.lemmas.List.{map_more}
use Rattle.vm_undo.specs.declared.kept.KeptState.{KeptState}
use Rattle.snap_fields.specs.declared.fields.UndoState.{UndoState}
use Rattle.snap_machine.specs.Fields.{kept_state}
use Rattle.snap_machine.proofs.undo.undo_of.Goals as goal

pub loop-state-preserved : goal.loop-state-preserved
loop-state-preserved c =
    let before = map kept_state (take c.loop-state.state-index c.args.fields.now) in
    c.in_ok-push.ensures.items
    ∙ ap (λ (l : List KeptState). l ++ c.in_ok-kept.kept ∷ []) c.loop-state.invariant
    ∙ ap (λ (x : KeptState). before ++ x ∷ []) c.in_ok-kept.ensures
    ∙ ap (λ (s : UndoState). before ++ kept_state s ∷ []) c.state-item.is
    ∙ sym (map_more kept_state c.args.fields.now c.loop-state.state-index c.state-item.result
    c.loop-state-test.true)
