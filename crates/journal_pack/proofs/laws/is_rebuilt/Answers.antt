use Rattle.journal_pack.proofs.LiveLemmas.{live_journal}
use Rattle.journal_pack.proofs.laws.is_rebuilt.Goals as goal

pub returns : goal.returns
returns c = live_journal
