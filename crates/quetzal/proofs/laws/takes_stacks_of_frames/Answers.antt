use Rattle.quetzal.proofs.ReadLemmas.{stacks_of_frames}
use Rattle.quetzal.proofs.laws.takes_stacks_of_frames.Goals as goal

pub returns : goal.returns
returns c = stacks_of_frames
