use Rattle.snap_machine.proofs.StoreLemmas.{dest_told}
use Rattle.snap_machine.proofs.fields.dest_of.Goals as goal

pub returns : goal.returns
returns c =
    dest_told c.args.store c.store_of_fields.result c.store_of_fields.ensures.found
    c.store_of_fields.ensures.only
