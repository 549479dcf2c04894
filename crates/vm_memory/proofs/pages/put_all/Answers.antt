use Rattle.std.proofs.Common.{◌+◌, ◌/◌, [], ℕ, refl, subst, arith}
use Rattle.std.proofs.lemmas.List.{take_all, length-take, length-drop}
use Rattle.vm_memory.specs.Pages.{PutsBytes}
use Rattle.vm_memory.proofs.PutLemmas.{puts_take}
use Rattle.vm_memory.proofs.pages.put_all.Goals as goal

pub loop-done-preserved : goal.loop-done-preserved
loop-done-preserved c =
    let to = c.args.at + c.loop-done.done in
    let was = c.requires.held (to / 256) (omega arith) (omega arith) in
    let held = c.put_at.ensures.held (omega (arith, length-take {A = ℕ}, length-drop {A = ℕ}))
    ((c.loop-done.invariant.puts []).held (to / 256) was) in
    record {
      within = omega arith;
      puts = λ rom.
          puts_take rom c.args.rows.now.items c.loop-done.rows.items
          c.put_at.new.rows.items c.args.at to
          c.loop-done.done (c.loop-done.done + c.span.result) c.args.new.now
          (c.loop-done.invariant.puts rom) (omega arith) (omega arith) refl
          (c.put_at.ensures.puts held rom);
    }

pub returns : goal.returns
returns c = λ rom.
    subst (PutsBytes rom c.args.rows.now.items c.loop-done.rows.items c.args.at)
    (take_all c.loop-done.done c.args.new.now (omega arith)) (c.loop-done.invariant.puts rom)
