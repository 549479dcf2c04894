use Rattle.disk_model.proofs.PlainLaws.{image_is, image_told}
use Rattle.host_world.proofs.ReadingLemmas.{reads_rows, found_rows}
use Rattle.host_world.proofs.Runs.{starts_over}
use Rattle.host_world.proofs.law.definitions.Goals as goal

pub returns-clause-images : goal.returns-clause-images
returns-clause-images c = λ p image. (image_is p image, image_told p image)

pub returns-clause-rows : goal.returns-clause-rows
returns-clause-rows c = λ bytes rows. (found_rows bytes rows, reads_rows bytes rows)

pub returns-clause-starts : goal.returns-clause-starts
returns-clause-starts c = starts_over
