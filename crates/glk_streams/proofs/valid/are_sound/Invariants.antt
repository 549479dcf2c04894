use Rattle.std.proofs.Common.{◌≡◌, drop}
use Rattle.glk_streams.specs.Valid.{are_sound_streams}
use Rattle.glk_streams.proofs.valid.are_sound.Given as goal

abbrev pub invariant-loop-stream : goal.invariant-loop-stream
invariant-loop-stream l = record {
  sofar : are_sound_streams l.streams ≡ are_sound_streams (drop l.stream-index l.streams);
}
