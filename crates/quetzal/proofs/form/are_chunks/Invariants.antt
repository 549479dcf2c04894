use Rattle.std.proofs.Common.{◌≡◌, ◌-◌, length}
use Rattle.quetzal.specs.Chunks.{are_chunks}
use Rattle.quetzal.proofs.form.are_chunks.Given as goal

abbrev pub invariant-loop : goal.invariant-loop
invariant-loop l =
    are_chunks (length l.bytes - l.counter) l.rest ≡ are_chunks (length l.bytes) l.bytes
