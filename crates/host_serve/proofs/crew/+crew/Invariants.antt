use Rattle.std.proofs.Common.{length, ◌+◌, ◌-◌, ◌*◌}
use Rattle.host_serve.proofs.crew.+crew.Given as goal

abbrev pub decreases-all_run : goal.decreases-all_run
decreases-all_run g l = 4 * length l.members.now

abbrev pub decreases-both_run : goal.decreases-both_run
decreases-both_run g l = 4 * (length l.front.now + length l.back.now) - 1

abbrev pub decreases-both_run-first : goal.decreases-both_run-first
decreases-both_run-first g l = 4 * length l.front.now + 1

abbrev pub decreases-both_run-second : goal.decreases-both_run-second
decreases-both_run-second g l = 4 * length l.back.now + 1
