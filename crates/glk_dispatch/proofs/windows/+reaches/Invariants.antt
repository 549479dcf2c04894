use Rattle.glk_dispatch.proofs.windows.+reaches.Given as goal

abbrev pub decreases-reaches : goal.decreases-reaches
decreases-reaches l = l.steps
