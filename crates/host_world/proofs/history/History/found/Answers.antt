use Rattle.std.proofs.Common.{ap, arith, length, List}
use Rattle.gate_journal.specs.declared.row.Row.{Row}
use Rattle.host_world.proofs.ReadCode.{found_few}
use Rattle.host_world.proofs.history.History.found.Goals as goal

pub invariant_of-result : goal.invariant_of-result
invariant_of-result c =
    found_few c.args.rows.now c.args.s c.loop-row.row-index c.loop-row.entries.items
    c.as_slice-row-items.ensures.journal
    (omega (
      arith,
      c.loop-row-test.false,
      ap (λ (l : List Row). length l) c.as_slice-row-items.ensures.value,
    ))
    c.loop-row.invariant
