use Rattle.std.proofs.Common.{◌≡◌, List, refl, subst, sym}
use Rattle.std.specs.Prelude.{All}
use Rattle.vm_memory.specs.MemoryMap.{Origin, origin_of}
use Rattle.vm_undo.specs.KeptList.{kept_in}
use Rattle.vm_undo.specs.UndoList.{IsHeld, KeepsOf, UndoList}
use Rattle.vm_undo.specs.declared.kept.KeptState.{KeptState}
use Rattle.vm_undo.proofs.UndoLemmas.{all_held, all_saved}
use Rattle.vm_undo.proofs.undo.Undo.are_of.Goals as goal

pub returns-then-is_memory_of-clause-only : goal.returns-then-is_memory_of-clause-only
returns-then-is_memory_of-clause-only c = λ yes.
    let i = c.self.inside in
    let o : Origin = record { ramstart = i.ramstart; rom = i.rom.now; endmem = i.endmem } in
    let n = c.args.stack_size in
    let same : origin_of c.args.memory.now ≡ o =
    c.is_memory_of.ensures.only c.if-is_memory_of.true in
    subst (λ (x : Origin). KeepsOf x n c.args.self.now) (sym same)
    (subst (λ (u : UndoList). KeepsOf o n u) c.self.view_is (record {
      image = refl;
      states = all_saved o (kept_in i.kept) n c.self.invariant.all
          (subst (λ (ks : List KeptState). All (IsHeld o.endmem n) ks) c.states_in.ensures
          (c.are_held.ensures.only yes));
    }))

pub returns-then-is_memory_of-clause-found : goal.returns-then-is_memory_of-clause-found
returns-then-is_memory_of-clause-found c = λ keeps.
    let i = c.self.inside in
    let o : Origin = record { ramstart = i.ramstart; rom = i.rom.now; endmem = i.endmem } in
    let n = c.args.stack_size in
    let same : origin_of c.args.memory.now ≡ o =
    c.is_memory_of.ensures.only c.if-is_memory_of.true in
    let here = subst (λ (u : UndoList). KeepsOf o n u) (sym c.self.view_is)
    (subst (λ (x : Origin). KeepsOf x n c.args.self.now) same keeps) in
    c.are_held.ensures.found
    (subst (λ (ks : List KeptState). All (IsHeld o.endmem n) ks) (sym c.states_in.ensures)
    (all_held o (kept_in i.kept) n c.self.invariant.all here.states))
