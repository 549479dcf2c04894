use Rattle.glk_windows.proofs.closing.+remove_all.Given as goal

abbrev pub decreases-remove_all : goal.decreases-remove_all
decreases-remove_all l = l.depth
