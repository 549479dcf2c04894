use Rattle.glk_windows.proofs.placing.+place_at.Given as goal

abbrev pub decreases-place_at : goal.decreases-place_at
decreases-place_at l = l.depth
