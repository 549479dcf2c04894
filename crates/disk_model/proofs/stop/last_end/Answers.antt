use Rattle.std.proofs.Common.{arith}
use Rattle.disk_model.proofs.RangeLaws.{greatest_end_least}
use Rattle.disk_model.proofs.stop.last_end.Goals as goal

pub loop-range-init : goal.loop-range-init
loop-range-init c = (omega arith, omega (arith, greatest_end_least c.args.ranges.now c.args.size))
