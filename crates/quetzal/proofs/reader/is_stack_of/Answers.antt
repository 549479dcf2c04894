use Rattle.std.proofs.Common.{rules}
use Rattle.quetzal.proofs.ReadLemmas.{stack_tested}
use Rattle.quetzal.proofs.reader.is_stack_of.Goals as goal

pub returns-then-bytes-stack_size : goal.returns-then-bytes-stack_size
returns-then-bytes-stack_size c =
    stack_tested c.args.image.now c.args.bytes.now c.is_chain.result c.stack_size.ensures.kept
    (search rules) (c.is_chain.ensures.only, c.is_chain.ensures.found)
