use Rattle.glk_windows.proofs.RectangleLemmas as lemmas
use Rattle.glk_windows.proofs.laws.never_overlaps.Goals as goal

pub returns : goal.returns
returns c = lemmas.never_overlaps
