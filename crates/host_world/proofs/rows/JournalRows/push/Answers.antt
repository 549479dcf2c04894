use Rattle.std.proofs.Common.{◌≡◌, ◌++◌, ◌∷◌, [], ap, arith, length, length-append, List, rules}
use Rattle.gate_journal.specs.Rows.{payload_of}
use Rattle.gate_journal.specs.declared.row.Row.{Row}
use Rattle.host_world.proofs.ReadCode.{spelled_more}
use Rattle.host_world.proofs.rows.JournalRows.push.Goals as goal

pub invariant_of-self-2 : goal.invariant_of-self-2
invariant_of-self-2 c =
    let added = c.self.inside.added.items in
    let grown : c.push.new.self.items ≡ c.self.inside.added.items ++ c.args.row ∷ [] =
    search rules in
    let size : c.payload_len.result ≡ length (payload_of c.args.row.command) = search rules in
    let more = spelled_more c.self.inside.found added c.push.new.self.items c.args.row grown in (
      omega (arith, c.self.invariant.0, more, size),
      omega (
        arith,
        c.self.invariant.1,
        c.payload_len.ensures.within,
        ap (λ (l : List Row). length l) grown,
        length-append added (c.args.row ∷ []),
      ),
    )
