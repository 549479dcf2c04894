use Rattle.glk_dispatch.proofs.opening.+drop_all.Given as goal

abbrev pub decreases-drop_all : goal.decreases-drop_all
decreases-drop_all l = l.depth
