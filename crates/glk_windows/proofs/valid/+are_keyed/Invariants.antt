use Rattle.glk_windows.proofs.valid.+are_keyed.Given as goal

abbrev pub decreases-are_keyed : goal.decreases-are_keyed
decreases-are_keyed l = l.depth
