use Rattle.std.proofs.Common.{◌≡◌, ◌-◌, length}
use Rattle.quetzal.specs.Chunks.{first_named}
use Rattle.quetzal.proofs.form.first_named.Given as goal

abbrev pub invariant-loop : goal.invariant-loop
invariant-loop l =
    first_named l.name (length l.bytes - l.counter) l.rest
    ≡ first_named l.name (length l.bytes) l.bytes
