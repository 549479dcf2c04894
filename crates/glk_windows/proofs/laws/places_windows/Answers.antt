use Rattle.glk_windows.proofs.AreaLemmas as lemmas
use Rattle.glk_windows.proofs.laws.places_windows.Goals as goal

pub returns : goal.returns
returns c = lemmas.places_windows
