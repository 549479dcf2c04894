use Rattle.glk_windows.proofs.valid.+count_at.Given as goal

abbrev pub decreases-count_at : goal.decreases-count_at
decreases-count_at l = l.depth
