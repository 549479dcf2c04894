use Rattle.glk_windows.proofs.SpellingLemmas as lemmas
use Rattle.glk_windows.proofs.laws.runs_spell_output.Goals as goal

pub returns : goal.returns
returns c = lemmas.spells_output
