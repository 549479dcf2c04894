use Rattle.glk_numbers.proofs.PlaceLemmas.{not_found, is_found, is_changed, is_left, none_is_left}
use Rattle.glk_streams.proofs.find.find.Goals as goal

pub returns-clause-none : goal.returns-clause-none
returns-clause-none g c = not_found _ _ _ _ c.place_of.ensures.value

pub returns-clause-some : goal.returns-clause-some
returns-clause-some g c = is_found _ _ _ _ c.place_of.ensures.value

pub returns-clause-changed : goal.returns-clause-changed
returns-clause-changed g c = is_changed _ _ _ _ c.place_of.ensures.value

pub returns-clause-left : goal.returns-clause-left
returns-clause-left g c = is_left _ _ _ _ c.place_of.ensures.value

pub returns-clause-nothing : goal.returns-clause-nothing
returns-clause-nothing g c = none_is_left _ _ _ _ c.place_of.ensures.value
