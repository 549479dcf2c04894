use Rattle.session_desk.proofs.JournalLemmas as journals
use Rattle.session_desk.proofs.laws.journals_fit.Goals as goal

pub returns : goal.returns
returns c = journals.journal_fits
