use Rattle.session_saves.proofs.GameLemmas.{wanted_inputs_are_turns}
use Rattle.session_saves.proofs.laws.wanted_inputs_are_turns.Goals as goal

pub returns : goal.returns
returns c = wanted_inputs_are_turns
