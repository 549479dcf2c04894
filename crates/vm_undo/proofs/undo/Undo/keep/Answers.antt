use Rattle.std.proofs.Common.{◌≡◌, ◌<◌, ◌≤◌, sym, ◌∙◌, ap, subst, arith, refl}
use Rattle.vm_memory.specs.MemoryMap.{Origin}
use Rattle.vm_undo.specs.KeptList.{kept_in}
use Rattle.vm_undo.specs.UndoList.{IsKept, UndoList, saved, state_of}
use Rattle.vm_undo.specs.declared.undo.TheConstants.{MAX_WEIGHT}
use Rattle.vm_undo.proofs.UndoLemmas.{kept_keeps, kept_list, not_heavy, too_heavy, weight_of_kept}
use Rattle.vm_undo.proofs.undo.Undo.keep.Goals as goal

pub returns-then-weight-from-clause-value : goal.returns-then-weight-from-clause-value
returns-then-weight-from-clause-value c =
    let k = c.args.state in
    let w = weight_of_kept c.args.self.now.origin k c.weight_of-weight.result c.as_slice.result.now
    c.as_slice-2.result.now c.as_slice-3.result.now c.requires c.weight_of-weight.ensures.value
    c.as_slice.ensures.value c.as_slice-2.ensures.value c.as_slice-3.ensures.value in
    let from = c.from.ensures in
    let l : MAX_WEIGHT < c.weight_of-weight.result = omega (arith, from, c.if-weight-from.true) in
    rw (too_heavy (state_of c.args.self.now.origin k) c.weight_of-weight.result w l) refl

pub returns-then-weight-from-clause-ok : goal.returns-then-weight-from-clause-ok
returns-then-weight-from-clause-ok c =
    let k = c.args.state in
    let w = weight_of_kept c.args.self.now.origin k c.weight_of-weight.result c.as_slice.result.now
    c.as_slice-2.result.now c.as_slice-3.result.now c.requires c.weight_of-weight.ensures.value
    c.as_slice.ensures.value c.as_slice-2.ensures.value c.as_slice-3.ensures.value in
    let from = c.from.ensures in
    let l : MAX_WEIGHT < c.weight_of-weight.result = omega (arith, from, c.if-weight-from.true) in
    rw (too_heavy (state_of c.args.self.now.origin k) c.weight_of-weight.result w l) refl

pub invariant_of-self-2 : goal.invariant_of-self-2
invariant_of-self-2 c =
    let i = c.self.inside in
    let o : Origin = record { ramstart = i.ramstart; rom = i.rom.now; endmem = i.endmem } in
    let same : c.args.self.now.origin ≡ o = ap (λ (u : UndoList). u.origin) (sym c.self.view_is) in
    let k = c.args.state in
    let is = subst (λ (x : Origin). IsKept x k) same c.requires in
    kept_keeps o (kept_in i.kept) (kept_in c.add.new.slot) k c.self.invariant is
    c.in_ok-add.ensures.ok

pub returns-clause-value : goal.returns-clause-value
returns-clause-value c =
    let k = c.args.state in
    let w = weight_of_kept c.args.self.now.origin k c.weight_of-weight.result c.as_slice.result.now
    c.as_slice-2.result.now c.as_slice-3.result.now c.requires c.weight_of-weight.ensures.value
    c.as_slice.ensures.value c.as_slice-2.ensures.value c.as_slice-3.ensures.value in
    let from = c.from.ensures in
    let l : c.weight_of-weight.result ≤ MAX_WEIGHT = omega (arith, from, c.if-weight-from.false) in
    rw (not_heavy (state_of c.args.self.now.origin k) c.weight_of-weight.result w l) refl

pub returns-clause-ok : goal.returns-clause-ok
returns-clause-ok c =
    let i = c.self.inside in
    let o : Origin = record { ramstart = i.ramstart; rom = i.rom.now; endmem = i.endmem } in
    let same : c.args.self.now.origin ≡ o = ap (λ (u : UndoList). u.origin) (sym c.self.view_is) in
    let k = c.args.state in
    let is = subst (λ (x : Origin). IsKept x k) same c.requires in
    let w = weight_of_kept o k c.weight_of-weight.result c.as_slice.result.now
    c.as_slice-2.result.now c.as_slice-3.result.now is c.weight_of-weight.ensures.value
    c.as_slice.ensures.value c.as_slice-2.ensures.value c.as_slice-3.ensures.value in
    let from = c.from.ensures in
    let l : c.weight_of-weight.result ≤ MAX_WEIGHT = omega (arith, from, c.if-weight-from.false) in
    kept_list o (kept_in i.kept) (kept_in c.add.new.slot) k c.args.self.now c.self.view_is
    c.self.invariant is c.in_ok-add.ensures.ok
    (not_heavy (state_of o k) c.weight_of-weight.result w l)
    ∙ ap (λ (x : Origin). saved c.args.self.now (state_of x k)) (sym same)
