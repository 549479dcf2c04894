use Rattle.glulx_image.proofs.CheckLemmas as lemmas
use Rattle.glulx_image.proofs.laws.accepts_images.Goals as goal

pub returns : goal.returns
returns c = lemmas.accepts_images
