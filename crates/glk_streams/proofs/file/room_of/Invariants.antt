use Rattle.std.proofs.Common.{◌≡◌, ◌-◌, ◌≤◌, drop}
use Rattle.glk_streams.specs.Files.{sum_of_bytes, room_of}
use Rattle.glk_streams.proofs.file.room_of.Given as goal

abbrev pub invariant-loop-file : goal.invariant-loop-file
invariant-loop-file l = record {
  sofar : l.room - sum_of_bytes (drop l.file-index l.list) ≡ room_of l.list;
  bound : l.room ≤ 1048576;
}
