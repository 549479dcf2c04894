use Rattle.std.proofs.Common.{◌≡◌, List, None, Option, Some, IfOk, ℕ, ap, arith, drop, length}
use Rattle.std.proofs.Common.{subst, take, ◌-◌, ◌∙◌}
use Rattle.std.proofs.lemmas.List.{take_rest}
use Rattle.std.specs.Prelude.{if◌then◌else◌}
use Rattle.gate_journal.specs.Parsing.{BeginsWithRow, IsNoNext}
use Rattle.gate_journal.specs.declared.row.Row.{Row}
use Rattle.host_world.specs.Reading.{begins_with, past_gate}
use Rattle.host_world.proofs.GateLemmas.{unsure_found, unsure_none}
use Rattle.host_world.proofs.opening.unsure_row.Goals as goal

pub returns-in_default-2 : goal.returns-in_default-2
returns-in_default-2 c =
    let none = rw c.in_default-2.is at c.in_ok-row.ensures in
    unsure_none c.args.version c.args.rows.now c.args.bytes.now
    (omega (arith, c.in-len1-up.len_at_least)) c.if-gate-eq0.false
    (subst (λ (l : List ℕ). IsNoNext c.args.version c.args.rows.now l)
    (take_rest c.args.bytes.now 1) none)

pub returns : goal.returns
returns c =
    let v = c.args.version in
    let rows = c.args.rows.now in
    let bytes = c.args.bytes.now in
    let same : take (length bytes - 1) (drop 1 bytes) ≡ drop 1 bytes = take_rest bytes 1 in
    let row = rw c.in-Some.is at c.in_ok-row.ensures in
    let found = unsure_found v rows bytes c.in-Some.row (omega (arith, c.in-len1-up.len_at_least))
    c.if-gate-eq0.false
    (subst (λ (l : List ℕ). BeginsWithRow v rows l c.in-Some.row) same row) in
    subst (λ (o : Option Row). IfOk c.before_gate.result (λ found. found ≡ o))
    (ap (λ (l : List ℕ). if begins_with l (past_gate c.of.result) then Some c.of.result else None)
    same
    ∙ ap (λ (q : Row). if begins_with (drop 1 bytes) (past_gate q) then Some q else None)
    c.of.ensures
    ∙ found) c.before_gate.ensures
