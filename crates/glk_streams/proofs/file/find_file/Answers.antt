use Rattle.glk_streams.proofs.FileLemmas.{is_had, no_content, is_content, is_changed, is_left}
use Rattle.glk_streams.proofs.FileLemmas.{none_is_left}
use Rattle.glk_streams.proofs.file.find_file.Goals as goal

pub returns-clause-has : goal.returns-clause-has
returns-clause-has c = is_had _ _ _ _ c.seat_of.ensures.value

pub returns-clause-none : goal.returns-clause-none
returns-clause-none c = no_content _ _ _ _ c.seat_of.ensures.value

pub returns-clause-some : goal.returns-clause-some
returns-clause-some c = is_content _ _ _ _ c.seat_of.ensures.value

pub returns-clause-changed : goal.returns-clause-changed
returns-clause-changed c = is_changed _ _ _ _ c.seat_of.ensures.value

pub returns-clause-left : goal.returns-clause-left
returns-clause-left c = is_left _ _ _ _ c.seat_of.ensures.value

pub returns-clause-nothing : goal.returns-clause-nothing
returns-clause-nothing c = none_is_left _ _ _ _ c.seat_of.ensures.value
