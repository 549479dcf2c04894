use Rattle.glk_dispatch.proofs.EntryLemmas.{streams_follow}
use Rattle.glk_dispatch.proofs.laws.streams_follow_windows.Goals as goal

pub returns : goal.returns
returns c = streams_follow
