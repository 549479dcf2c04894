use Rattle.std.proofs.Common.{arith, rules, ◌∙◌, length, ◌≤◌, ◌≡◌, ◌^◌, []}
use Rattle.disk_model.specs.DiskState.{greatest_end, IsWell}
use Rattle.disk_model.specs.Calls.{state_after}
use Rattle.disk_model.proofs.StateLaws.{well_settled}
use Rattle.disk_model.proofs.LandedLaws.{landed_well}
use Rattle.disk_model.proofs.memory.MemDisk.after_stop.Goals as goal

pub draw_image-requires-clause-landed : goal.draw_image-requires-clause-landed
draw_image-requires-clause-landed c =
    let m = c.args.self.now in
    rw (
      c.deref-5.ensures.value ∙ c.in_ok-landed.ensures,
      c.deref.ensures.value,
      c.deref-2.ensures.value,
      c.deref-3.ensures.value ∙ m.holds,
      c.deref-4.ensures.value ∙ m.reads,
      c.deref-6.ensures.value ∙ m.writes,
    ) (landed_well m.start.items m.calls.items)

pub invariant_of-result : goal.invariant_of-result
invariant_of-result c =
    let m = c.args.self.now in
    let ends : greatest_end c.deref-6.result.now (length c.deref-3.result.now) ≤ 2 ^ 40 =
    rw (c.deref-6.ensures.value ∙ m.writes, c.deref-3.ensures.value ∙ m.holds) m.well.ends in
    let none : c.new.result.items ≡ [] = search rules in
    let start = c.in_ok-start.start.items in
    let well : IsWell (state_after start c.new.result.items) =
    rw none (well_settled start (omega (arith, c.in_ok-start.ensures.image.no_longer, ends))) in
    record { well = well; reads = search rules; holds = search rules; writes = search rules }
