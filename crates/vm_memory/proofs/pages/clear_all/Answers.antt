use Rattle.std.proofs.Common.{◌≡◌, ◌+◌, ◌/◌, ℕ, [], replicate, refl, subst, arith}
use Rattle.std.proofs.lemmas.List.{length-take, length-replicate}
use Rattle.vm_memory.specs.Pages.{PutsBytes}
use Rattle.vm_memory.proofs.PutLemmas.{puts_zeros}
use Rattle.vm_memory.proofs.pages.clear_all.Goals as goal

pub loop-done-preserved : goal.loop-done-preserved
loop-done-preserved c =
    let to = c.args.at + c.loop-done.done in
    let was = c.requires.held (to / 256) (omega arith) (omega arith) in
    let held = c.put_at.ensures.held (omega
    (arith, length-take {A = ℕ}, length-replicate {A = ℕ}))
    ((c.loop-done.invariant.puts []).held (to / 256) was) in
    record {
      within = omega arith;
      puts = λ rom.
          puts_zeros rom c.args.rows.now.items c.loop-done.rows.items
          c.put_at.new.rows.items c.args.at to
          c.loop-done.done c.span-some.result (c.loop-done.invariant.puts rom) refl (omega arith)
          (c.put_at.ensures.puts held rom);
    }

pub returns : goal.returns
returns c = λ rom.
    let e : c.loop-done.done ≡ c.args.count = omega arith in
    subst (λ n. PutsBytes rom c.args.rows.now.items c.loop-done.rows.items c.args.at
    (replicate {A = ℕ} n 0)) e
    (c.loop-done.invariant.puts rom)
