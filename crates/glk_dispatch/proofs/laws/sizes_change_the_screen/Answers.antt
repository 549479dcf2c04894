use Rattle.glk_dispatch.proofs.ScreenLemmas.{size_changes}
use Rattle.glk_dispatch.proofs.laws.sizes_change_the_screen.Goals as goal

pub returns : goal.returns
returns c = size_changes
