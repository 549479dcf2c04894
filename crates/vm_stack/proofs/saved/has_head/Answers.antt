use Rattle.std.proofs.Common.{drop, ◌++◌, arith, length-append}
use Rattle.byteorder.specs.Endian.{big_bytes}
use Rattle.byteorder.specs.Numbers.{length-bytes_high_first}
use Rattle.vm_stack.proofs.SavedLemmas.{turned, head_whole, part_stands}
use Rattle.vm_stack.proofs.saved.has_head.Goals as goal

pub returns-clause-only : goal.returns-clause-only
returns-clause-only c = λ yes.
    head_whole c.args.bytes.now (big_bytes 4 c.args.size)
    (big_bytes 4 c.args.head) c.args.format.now c.requires
    (turned c.args.bytes.now c.to_be_bytes.result (big_bytes 4 c.args.size) c.to_be_bytes.ensures
    (c.stands.ensures.only c.if-not-stands.false))
    (turned (drop 4 c.args.bytes.now) c.to_be_bytes-2.result (big_bytes 4 c.args.head)
    c.to_be_bytes-2.ensures (c.stands-2.ensures.only c.if-not-stands-2.false))
    (c.stands-3.ensures.only yes)

pub returns-clause-found : goal.returns-clause-found
returns-clause-found c = λ whole.
    c.stands-3.ensures.found
    (part_stands c.args.bytes.now
    (big_bytes 4 c.args.size ++ big_bytes 4 c.args.head) c.args.format.now 8 whole
    (let a = length-append (big_bytes 4 c.args.size) (big_bytes 4 c.args.head) in
    let d = length-bytes_high_first 4 c.args.size in
    let e = length-bytes_high_first 4 c.args.head in
    omega (arith, a, d, e)))
