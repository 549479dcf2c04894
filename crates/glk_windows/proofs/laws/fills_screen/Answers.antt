use Rattle.glk_windows.proofs.RectangleLemmas as lemmas
use Rattle.glk_windows.proofs.laws.fills_screen.Goals as goal

pub returns : goal.returns
returns c = lemmas.fills_screen
