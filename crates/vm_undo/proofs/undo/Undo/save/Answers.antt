use Rattle.std.proofs.Common.{◌≡◌, sym, ◌∙◌, ap, subst, arith}
use Rattle.std.specs.Prelude.{IfOk, OnOk}
use Rattle.vm_undo.specs.Contents.{IsMemoryOf}
use Rattle.vm_undo.specs.UndoList.{IsKept, answer, saved, state_of}
use Rattle.vm_undo.specs.declared.saved.Saved.{Saved}
use Rattle.vm_undo.specs.declared.undo.Kept.{Kept}
use Rattle.vm_undo.proofs.UndoLemmas.{is_kept, kept_is, memory_of_image, state_again}
use Rattle.vm_undo.proofs.undo.Undo.save.Goals as goal

pub keep-requires : goal.keep-requires
keep-requires c =
    let s = c.args.state.now in
    let o = c.args.self.now.origin in
    let size = c.size-size.ensures.value in
    let least = c.size-size.ensures.least in
    let most = c.size-size.ensures.within in
    let is : IsMemoryOf o s.memory =
    memory_of_image o s.memory c.requires.image c.rom-rom.ensures.kept c.rom-rom.ensures.extent
    (record {
      pages = c.requires.pages;
      least = omega (arith, size, least);
      limit = omega (arith, size, most);
    }) in
    let k = kept_is s c.of.result c.in_ok-copy_of.field-0 c.in_ok-copy_of-2.field-0
    (c.of.ensures.value ∙ c.in_ok-contents.ensures.value) c.in_ok-copy_of.ensures.ok
    c.in_ok-copy_of-2.ensures.ok in
    subst (IsKept o) (sym k) (is_kept o s is c.requires.heap)

pub returns : goal.returns
returns c =
    let s = c.args.state.now in
    let o = c.args.self.now.origin in
    let size = c.size-size.ensures.value in
    let least = c.size-size.ensures.least in
    let most = c.size-size.ensures.within in
    let is : IsMemoryOf o s.memory =
    memory_of_image o s.memory c.requires.image c.rom-rom.ensures.kept c.rom-rom.ensures.extent
    (record {
      pages = c.requires.pages;
      least = omega (arith, size, least);
      limit = omega (arith, size, most);
    }) in
    let k = kept_is s c.of.result c.in_ok-copy_of.field-0 c.in_ok-copy_of-2.field-0
    (c.of.ensures.value ∙ c.in_ok-contents.ensures.value) c.in_ok-copy_of.ensures.ok
    c.in_ok-copy_of-2.ensures.ok in
    let same = ap (state_of o) k ∙ state_again o s is in
    record {
      value = subst (λ (t : Saved). IfOk c.keep.result (λ (kept : Kept). kept ≡ answer t)) same
          c.keep.ensures.value;
      ok = subst (λ (t : Saved). OnOk c.keep.result (c.keep.new.self ≡ saved c.args.self.now t))
          same c.keep.ensures.ok;
      err = c.keep.ensures.err;
    }
