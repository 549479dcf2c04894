use Rattle.std.proofs.Common.{arith}
use Rattle.disk_model.proofs.RangeLaws.{greatest_end_least}
use Rattle.disk_model.proofs.stop.image_size.Goals as goal

pub returns-then-choice-eq1-clause-low : goal.returns-then-choice-eq1-clause-low
returns-then-choice-eq1-clause-low c =
    omega (arith, c.last_end.ensures, greatest_end_least c.args.ranges.now c.args.size)

pub returns-clause-high : goal.returns-clause-high
returns-clause-high c = greatest_end_least c.args.ranges.now c.args.size
