use Rattle.std.proofs.Common.{arith}
use Rattle.snap_fields.proofs.WholeLaws.{found, exact, reads_fields}
use Rattle.snap_fields.proofs.read.read_fields.Goals as goal

pub returns-clause-found : goal.returns-clause-found
returns-clause-found c =
    found c.args.bytes.now c.all.result
    (reads_fields c.args.bytes.now c.all.result (λ i. omega (arith, c.type_inv.bytes i))
    c.all.ensures)

pub returns-clause-exact : goal.returns-clause-exact
returns-clause-exact c =
    exact c.args.bytes.now c.all.result
    (reads_fields c.args.bytes.now c.all.result (λ i. omega (arith, c.type_inv.bytes i))
    c.all.ensures)
