use Rattle.session_desk.proofs.JournalLemmas as journals
use Rattle.session_desk.proofs.laws.reads_in_range.Goals as goal

pub returns : goal.returns
returns c = journals.read_in_range
