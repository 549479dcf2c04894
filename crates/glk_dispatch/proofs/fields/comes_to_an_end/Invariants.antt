use Rattle.std.proofs.Common.{◌≡◌, ◌+◌, length}
use Rattle.glk_dispatch.specs.Links.{echoes_end}
use Rattle.glk_dispatch.specs.Output.{echo_from}
use Rattle.glk_dispatch.proofs.fields.comes_to_an_end.Given as goal

abbrev pub invariant-loop-left : goal.invariant-loop-left
invariant-loop-left l = record {
  sofar : echoes_end (length l.glk.windows.slots + 1) (echo_from l.glk) l.stream
      ≡ echoes_end l.left (echo_from l.glk) l.at;
}

abbrev pub decreases-loop-left : goal.decreases-loop-left
decreases-loop-left l = l.left
