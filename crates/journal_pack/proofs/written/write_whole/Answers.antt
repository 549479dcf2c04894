use Rattle.std.proofs.Common.{◌≡◌, inl, ◌+◌, ◌++◌, List, ℕ, length, ◌∙◌, arith}
use Rattle.disk_model.proofs.CountLaws.{good_then, failed_farther, failed_then}
use Rattle.disk_model.proofs.WorkLaws.{through, then_, failed, on_ok}
use Rattle.gate_journal.specs.Rows.{journal_header}
use Rattle.journal_pack.specs.Images.{blank}
use Rattle.journal_pack.proofs.CallLemmas.{calls_then}
use Rattle.journal_pack.proofs.ImageLemmas.{first_torn, first_written, second_torn}
use Rattle.journal_pack.proofs.ImageLemmas.{second_written, third_torn, third_written, whole}
use Rattle.journal_pack.proofs.written.write_whole.Goals as goal

-- the zeros failed
pub returns-in_default-clause-triple : goal.returns-in_default-clause-triple
returns-in_default-clause-triple g c rows all bytes =
    failed {after = λ (f : List ℕ). f ≡ blank}
    (through 0 blank _ (g.met.D.Disk.seen_may_stay c.args.disk.now)
    c.write_through.ensures.ok c.write_through.ensures.crash
    (λ f d is torn. inl (first_torn f d is torn)) first_written)

-- the rows failed
pub returns-in_default-write_through-clause-triple :
    goal.returns-in_default-write_through-clause-triple
returns-in_default-write_through-clause-triple g c rows all bytes =
    let body = c.args.body.now in
    failed {after = λ (f : List ℕ). f ≡ blank ++ body}
    (then_ {S = Unit {0}} {F = Unit {0}} {first = tt}
    (through 0 blank _ (g.met.D.Disk.seen_may_stay c.args.disk.now)
    c.in-Ok.ensures.ok c.write_through.ensures.crash
    (λ f d is torn. inl (first_torn f d is torn)) first_written)
    c.write_through.ensures.kept.telling
    (through 16 body _ (g.met.D.Disk.seen_may_stay c.write_through.new.disk)
    c.write_through-2.ensures.ok c.write_through-2.ensures.crash
    (λ f d is torn. inl (second_torn (length body) f d is torn)) (second_written body)))

-- the header was written, or failed
pub returns-clause-triple : goal.returns-clause-triple
returns-clause-triple g c rows all bytes =
    let body = c.args.body.now in
    then_ {S = Unit {0}} {F = Unit {0}} {first = tt}
    (then_ {S = Unit {0}} {F = Unit {0}} {first = tt}
    (through 0 blank _ (g.met.D.Disk.seen_may_stay c.args.disk.now)
    c.in-Ok.ensures.ok c.write_through.ensures.crash
    (λ f d is torn. inl (first_torn f d is torn)) first_written)
    c.write_through.ensures.kept.telling
    (through 16 body _ (g.met.D.Disk.seen_may_stay c.write_through.new.disk)
    c.in-Ok-write_through.ensures.ok c.write_through-2.ensures.crash
    (λ f d is torn. inl (second_torn (length body) f d is torn)) (second_written body)))
    (c.write_through-2.ensures.kept.telling ∙ c.write_through.ensures.kept.telling)
    (through 0 journal_header _ (g.met.D.Disk.seen_may_stay c.write_through-2.new.disk)
    c.write_through-3.ensures.ok c.write_through-3.ensures.crash
    (third_torn rows all body bytes)
    (λ d is. third_written body d is ∙ whole rows body bytes))

pub returns-clause-ok : goal.returns-clause-ok
returns-clause-ok g c =
    let body = c.args.body.now in
    on_ok c.write_through-3.result
    (λ only rows bytes told empty f now.
    let told_then = rw (← c.write_through.ensures.kept.telling) at told in
    let told_last = rw (← c.write_through-2.ensures.kept.telling) at told_then in
    let first = first_written _ empty in
    let zeros : g.D.Disk.seen c.write_through.new.disk ≡ blank =
    c.in-Ok.ensures.ok told _ (g.met.D.Disk.seen_may_stay c.write_through.new.disk) ∙ first in
    let behind : g.D.Disk.seen c.write_through-2.new.disk ≡ blank ++ body =
    c.in-Ok-write_through.ensures.ok told_then _
    (g.met.D.Disk.seen_may_stay c.write_through-2.new.disk) ∙ second_written body _ zeros in
    only told_last f now ∙ third_written body _ behind ∙ whole rows body bytes)
    c.write_through-3.ensures.ok

-- the device calls
pub returns-in_default-clause-calls : goal.returns-in_default-clause-calls
returns-in_default-clause-calls g c told =
    let at = c.in_default.ensures.calls told in (
      at.0,
      omega (arith, at.1),
      failed_farther (omega arith) at.2,
    )

pub returns-in_default-write_through-clause-calls :
    goal.returns-in_default-write_through-clause-calls
returns-in_default-write_through-clause-calls g c told =
    let told_then = rw (← c.write_through.ensures.kept.telling) at told in
    let at = c.in_default-write_through.ensures.calls told_then in (
      2 + at.0,
      omega (arith, at.1),
      failed_then 2 at.0 _ _ (c.in-Ok.ensures.calls told) c.write_through.ensures.kept.size
          (omega arith) at.2,
    )

pub returns-clause-calls : goal.returns-clause-calls
returns-clause-calls g c told =
    let told_then = rw (← c.write_through.ensures.kept.telling) at told in
    let told_last = rw (← c.write_through-2.ensures.kept.telling) at told_then in
    calls_then g.D.Disk c.write_through-3.new.disk c.write_through-3.result 4 2 _ _
    (good_then 2 2 (c.in-Ok.ensures.calls told) (c.in-Ok-write_through.ensures.calls told_then))
    (c.write_through-2.ensures.kept.size ∙ c.write_through.ensures.kept.size) (omega arith)
    (c.write_through-3.ensures.calls told_last)
