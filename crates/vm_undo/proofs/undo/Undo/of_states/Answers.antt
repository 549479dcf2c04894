use Rattle.std.proofs.Common.{◌≡◌, ◌∙◌, Bool, List, ap, false, refl, subst, sym, true}
use Rattle.std.specs.Prelude.{All}
use Rattle.std.specs.List.{list_all}
use Rattle.vm_memory.specs.MemoryMap.{Origin}
use Rattle.vm_undo.specs.UndoList.{IsKept, are_within, is_kept, kept_weight, undo_of}
use Rattle.vm_undo.specs.declared.kept.KeptState.{KeptState}
use Rattle.vm_undo.proofs.undo.Undo.of_states.Goals as goal

pub returns-then-not-are_kept : goal.returns-then-not-are_kept
unfolding undo_of
returns-then-not-are_kept c =
    let p : KeptState → Bool = is_kept c.args.ramstart c.args.endmem in
    let no : list_all p c.args.states.items ≡ false =
    ap (list_all p) (sym c.as_slice.ensures.value) ∙ sym c.are_kept.ensures.value
    ∙ c.if-not-are_kept.true in
    record { value = rw no refl }

pub returns-then-not-are_within : goal.returns-then-not-are_within
unfolding undo_of
returns-then-not-are_within c =
    let p : KeptState → Bool = is_kept c.args.ramstart c.args.endmem in
    let yes : list_all p c.args.states.items ≡ true =
    ap (list_all p) (sym c.as_slice.ensures.value) ∙ sym c.are_kept.ensures.value
    ∙ c.if-not-are_kept.false in
    let no : are_within kept_weight c.args.states.items ≡ false =
    ap (are_within kept_weight) (sym c.as_slice-2.ensures.value) ∙ sym c.are_within.ensures
    ∙ c.if-not-are_within.true in
    record { value = rw (yes, no) refl }

pub invariant_of-result : goal.invariant_of-result
invariant_of-result c =
    let o : Origin = record {
      ramstart = c.args.ramstart;
      rom = c.args.rom.now;
      endmem = c.args.endmem;
    } in
    record {
      ram = c.requires.ram;
      extent = c.requires.extent;
      some = c.requires.some;
      limit = c.requires.limit;
      all = subst (λ (ks : List KeptState). All (IsKept o) ks) c.as_slice.ensures.value
          (c.are_kept.ensures.only c.if-not-are_kept.false c.args.rom.now c.requires.ram
          c.requires.extent);
      within = ap (are_within kept_weight) (sym c.as_slice-2.ensures.value)
          ∙ sym c.are_within.ensures ∙ c.if-not-are_within.false;
    }

pub returns : goal.returns
unfolding undo_of
returns c =
    let p : KeptState → Bool = is_kept c.args.ramstart c.args.endmem in
    let yes : list_all p c.args.states.items ≡ true =
    ap (list_all p) (sym c.as_slice.ensures.value) ∙ sym c.are_kept.ensures.value
    ∙ c.if-not-are_kept.false in
    let within : are_within kept_weight c.args.states.items ≡ true =
    ap (are_within kept_weight) (sym c.as_slice-2.ensures.value) ∙ sym c.are_within.ensures
    ∙ c.if-not-are_within.false in
    record { value = rw (yes, within) refl }
