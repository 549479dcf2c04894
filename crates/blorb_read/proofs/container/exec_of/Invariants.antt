use Rattle.std.proofs.Common.{◌≡◌, ◌+◌, ◌-◌, ◌*◌}
use Rattle.blorb_read.specs.Container.{story_start}
use Rattle.blorb_read.proofs.container.exec_of.Given as goal

abbrev pub invariant-loop-index : goal.invariant-loop-index
invariant-loop-index l =
    story_start (l.count - l.index) (24 + 12 * l.index) l.bytes ≡ story_start l.count 24 l.bytes
