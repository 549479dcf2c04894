use Rattle.std.proofs.Common.{◌≡◌, drop}
use Rattle.glk_numbers.specs.Numbered.{behind}
use Rattle.glk_streams.specs.Files.{seat_of}
use Rattle.glk_streams.proofs.file.seat_of.Given as goal

abbrev pub invariant-loop-index : goal.invariant-loop-index
invariant-loop-index l = record {
  sofar : seat_of l.list l.usage l.name
      ≡ behind l.index (seat_of (drop l.index l.list) l.usage l.name);
}
