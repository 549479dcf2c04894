use Rattle.std.proofs.Common.{◌≡◌, ℕ, false, rules, subst}
use Rattle.std.specs.Prelude.{nat_eq}
use Rattle.std.specs.List.{starts_with}
use Rattle.disk_model.specs.Disk.{Holds}
use Rattle.gate_journal.specs.Rows.{header_with, version_byte}
use Rattle.gate_journal.proofs.CorruptLemmas.{no_header}
use Rattle.gate_journal.proofs.parse.version_in.Goals as goal

pub returns-else-starts_with : goal.returns-else-starts_with
returns-else-starts_with c =
    let bytes = c.args.bytes.now in
    let v = c.in-Some.version.now in
    let here : v ≡ version_byte bytes = search rules in
    let other : starts_with nat_eq bytes (header_with v) ≡ false = search rules in
    subst (λ (k : ℕ). Holds bytes 0 (header_with k) → ⊥) here (no_header v bytes other)
