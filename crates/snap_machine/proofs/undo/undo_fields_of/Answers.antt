use Rattle.std.proofs.Common.{◌∙◌, ◌++◌, ◌∷◌, [], List, ap, map, sym, take}
use Rattle.std.proofs.lemmas.List.{map_more}
use Rattle.vm_undo.specs.declared.kept.KeptState.{KeptState}
use Rattle.snap_fields.specs.declared.fields.UndoState.{UndoState}
use Rattle.snap_machine.specs.Parts.{kept_fields}
use Rattle.snap_machine.proofs.undo.undo_fields_of.Goals as goal

pub loop-state-preserved : goal.loop-state-preserved
loop-state-preserved c =
    let before = map kept_fields (take c.loop-state.state-index c.args.states.now) in
    c.in_ok-push.ensures.items
    ∙ ap (λ (l : List UndoState). l ++ c.in_ok-field.field ∷ []) c.loop-state.invariant
    ∙ ap (λ (x : UndoState). before ++ x ∷ []) c.in_ok-field.ensures
    ∙ ap (λ (k : KeptState). before ++ kept_fields k ∷ []) c.state-item.is
    ∙ sym (map_more kept_fields c.args.states.now c.loop-state.state-index c.state-item.result
    c.loop-state-test.true)
