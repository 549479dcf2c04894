-- The fields of the states that undo keeps.
use Rattle.std.proofs.Common.{◌≡◌, ℕ, List, [], ◌∷◌, map, Option, Some, None, refl, ap, sym, ◌∙◌}
use Rattle.std.specs.Prelude.{All}
use Rattle.vm_memory.specs.MemoryMap.{Origin}
use Rattle.vm_undo.specs.UndoList as kept
use Rattle.vm_undo.specs.UndoList.{IsOfImage, KeepLimits, UndoList, kept_of}
use Rattle.vm_undo.specs.declared.kept.KeptState.{KeptState}
use Rattle.vm_undo.proofs.ListLemmas.{list_back}
use Rattle.quetzal.specs.Save.{origin}
use Rattle.snap_machine.specs.Fields.{kept_state, undo_of}
use Rattle.snap_machine.specs.Parts.{kept_fields}

pub same_some : {A : Type 0} {x y : A} → Some x ≡ Some y → x ≡ y
same_some {A} {x} {y} e = ap (λ (o : Option A). or_else x o) e where
  or_else : A → Option A → A
  or_else d None = d
  or_else d (Some z) = z

fields_again : (ks : List KeptState) → map kept_state (map kept_fields ks) ≡ ks
fields_again [] = refl
fields_again (k ∷ ks) = ap (λ (js : List KeptState). k ∷ js) (fields_again ks)

pub undo_back : (image : List ℕ) (u : UndoList) → u.origin ≡ origin image
    → All (IsOfImage u.origin) u.states → KeepLimits u.states
    → undo_of image (map kept_fields (map kept_of u.states)) ≡ Some u
undo_back image u same are limits =
    ap (kept.undo_of (origin image)) (fields_again (map kept_of u.states))
    ∙ ap (λ (o : Origin). kept.undo_of o (map kept_of u.states)) (sym same)
    ∙ list_back u are limits
