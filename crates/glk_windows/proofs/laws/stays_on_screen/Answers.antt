use Rattle.glk_windows.proofs.RectangleLemmas as lemmas
use Rattle.glk_windows.proofs.laws.stays_on_screen.Goals as goal

pub returns : goal.returns
returns c = lemmas.stays_on_screen
