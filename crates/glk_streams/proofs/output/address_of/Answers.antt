use Rattle.std.proofs.Common.{arith, ◌*◌, ◌^◌}
use Rattle.std.proofs.lemmas.Grind.{common_steps}
use Rattle.std.proofs.Math.Nat.{add-mod-mod}
use Rattle.glk_streams.proofs.output.address_of.Goals as goal

pub returns : goal.returns
returns c =
    let f = add-mod-mod c.args.buf (c.args.place * c.unit.result) (2 ^ 32) in
    grind (arith, common_steps, f)
