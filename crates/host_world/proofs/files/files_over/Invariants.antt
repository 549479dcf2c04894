use Rattle.std.proofs.Common.{◌≡◌, map, take}
use Rattle.host_world.specs.Whole.{file_over}
use Rattle.host_world.proofs.files.files_over.Given as goal

abbrev pub invariant-loop-file : goal.invariant-loop-file
invariant-loop-file l = l.stores.items ≡ map file_over (take l.file-index l.files)
