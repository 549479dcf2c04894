use Rattle.std.proofs.Common.{◌≡◌, ◌≤◌, ◌<◌, ◌∙◌, ℕ, Bool, List, ap, arith, get_or, length, subst, sym}
use Rattle.std.proofs.Common.{take, true}
use Rattle.std.specs.Prelude.{◌&&◌, All}
use Rattle.std.specs.List.{list_all}
use Rattle.std.proofs.lemmas.List.{take_all}
use Rattle.std.proofs.lemmas.List.Elements.{All-more}
use Rattle.std.proofs.lemmas.List.Folds.{list_all_more}
use Rattle.vm_memory.specs.MemoryMap.{Origin}
use Rattle.vm_undo.specs.UndoList.{IsKept, is_kept}
use Rattle.vm_undo.specs.declared.kept.KeptState.{KeptState}
use Rattle.vm_undo.proofs.kept.are_kept.Goals as goal

pub loop-state-preserved : goal.loop-state-preserved
loop-state-preserved c =
    let ks = c.args.states.now in
    let i = c.loop-state.state-index in
    let k = c.state-item.result in
    let p : KeptState → Bool = is_kept c.args.ramstart c.args.endmem in
    let room : i < length ks = omega (arith, c.loop-state-test.true) in
    let yes : p k ≡ true = sym c.is_kept.ensures.value ∙ c.if-not-is_kept.false in
    record {
      value = list_all_more p ks i k room
          ∙ ap (λ (b : Bool). b && p (get_or ks i k)) c.loop-state.invariant.value
          ∙ ap p (sym c.state-item.is) ∙ yes;
      only = λ rom low high.
          All-more (IsKept _) ks i k room (c.loop-state.invariant.only rom low high)
          (subst (IsKept _) c.state-item.is
          (c.is_kept.ensures.only c.if-not-is_kept.false rom low high));
    }

pub returns-clause-only : goal.returns-clause-only
returns-clause-only c = λ yes rom low high.
    let ks = c.args.states.now in
    let i = c.loop-state.state-index in
    let o : Origin = record { ramstart = c.args.ramstart; rom = rom; endmem = c.args.endmem } in
    let all : length ks ≤ i = omega (arith, c.loop-state-test.false) in
    subst (λ (xs : List KeptState). All (IsKept o) xs) (take_all i ks all)
    (c.loop-state.invariant.only rom low high)
