use Rattle.std.proofs.Common.{◌≡◌, ◌+◌, ◌*◌, ◌-◌, ℕ, List, length}
use Rattle.std.proofs.Common.{get_or, take, drop, sym, ◌∙◌, ap, arith}
use Rattle.std.proofs.lemmas.List.{take_rest}
use Rattle.gate_journal.specs.Rows.{payload_of}
use Rattle.gate_journal.proofs.RowLemmas.{body_parts}
use Rattle.gate_journal.proofs.parse.next_row.Goals as goal

pub returns-in_default-2 : goal.returns-in_default-2
returns-in_default-2 c rows counts at r rest next in_version is =
    let past = c.args.past.now in
    let none = rw c.in_default-2.is at c.in_ok-command.ensures in
    let parts = body_parts r rest past next.stands.ranges is in
    let size : 256 * c.from.result + c.from-2.result ≡ 256 * get_or past 2 0 + get_or past 3 0 =
    omega (arith, c.from.ensures, c.from-2.ensures) in
    let bytes : take (256 * c.from.result + c.from-2.result) (take (length past - 4) (drop 4 past))
    ≡ payload_of r.command =
    ap (λ (l : List ℕ). take (256 * c.from.result + c.from-2.result) l) (take_rest past 4)
    ∙ ap (λ (n : ℕ). take n (drop 4 past)) size
    ∙ parts.2 in
    none r.command (record { ranges = next.stands.ranges; number = sym parts.0; bytes = sym bytes })
