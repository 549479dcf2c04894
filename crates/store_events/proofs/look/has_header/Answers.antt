use Rattle.std.proofs.Common.{◌∙◌, sym, ap, length, Bool}
use Rattle.std.specs.Prelude.{nat_le, ◌&&◌}
use Rattle.snap_store.specs.File.{has_header}
use Rattle.store_events.proofs.look.has_header.Goals as goal

pub returns-then-starts_with : goal.returns-then-starts_with
unfolding has_header
returns-then-starts_with c =
    sym (ap (λ (b : Bool). b && nat_le 4096 (length c.args.file.now))
    (sym c.starts_with.ensures.value ∙ c.if-starts_with.true))

pub returns-else-starts_with : goal.returns-else-starts_with
unfolding has_header
returns-else-starts_with c =
    c.if-starts_with.false
    ∙ sym (ap (λ (b : Bool). b && nat_le 4096 (length c.args.file.now))
    (sym c.starts_with.ensures.value ∙ c.if-starts_with.false))
