use Rattle.std.proofs.Common.{length}
use Rattle.glk_dispatch.proofs.reference.+refer_all.Given as goal

abbrev pub decreases-refer_all : goal.decreases-refer_all
decreases-refer_all l = length l.values.now
