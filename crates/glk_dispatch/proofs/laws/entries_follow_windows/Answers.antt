use Rattle.glk_dispatch.proofs.EntryLemmas.{entries_follow}
use Rattle.glk_dispatch.proofs.laws.entries_follow_windows.Goals as goal

pub returns : goal.returns
returns c = entries_follow
