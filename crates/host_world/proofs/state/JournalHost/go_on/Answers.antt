use Rattle.std.proofs.Common.{◌≡◌, ◌∙◌, ap, Bool, refl, sym, subst, true, OnOk}
use Rattle.std.specs.Prelude.{if◌then◌else◌}
use Rattle.disk_model.specs.DiskState.{DiskState}
use Rattle.store_events.specs.Disk.{disk_after}
use Rattle.host_world.specs.Events.{call_next}
use Rattle.host_world.specs.Journal.{call_ended}
use Rattle.host_world.specs.declared.state.JournalHost.{JournalHost}
use Rattle.host_world.specs.declared.state.Step.{Step}
use Rattle.host_world.specs.declared.state.Step.TheVariants.{Idle}
use Rattle.host_world.proofs.CallCode.{call_made, call_not_made}
use Rattle.host_world.proofs.state.JournalHost.go_on.Goals as goal

pub returns-then-not-branch : goal.returns-then-not-branch
returns-then-not-branch c =
    let w = c.args.self.now in
    let call = c.in-Some.call in
    let good = c.args.good in
    let reads = c.args.reads.now in
    let same : c.make_call.new.disk ≡ c.args.self.now.disk =
    c.in_ok-make_call.ensures.disk
    ∙ ap (λ (b : Bool). if b then disk_after call good reads w.disk else w.disk)
    c.if-not-branch.true in
    ap (λ (d : DiskState). record c.args.self.now { disk = d }) same
    ∙ call_not_made w w good reads call (sym c.in_ok-call.ensures ∙ c.in-Some.is)
    (sym c.in_ok-make_call.ensures.made ∙ c.if-not-branch.true)

pub returns : goal.returns
returns c =
    let w = c.args.self.now in
    let call = c.in-Some.call in
    let good = c.args.good in
    let reads = c.args.reads.now in
    let made : c.in_ok-make_call.field-0 ≡ true = c.if-not-branch.false in
    let disk : c.make_call.new.disk
    ≡ disk_after c.in-Some.call c.args.good c.args.reads.now c.args.self.now.disk =
    c.in_ok-make_call.ensures.disk
    ∙ ap (λ (b : Bool). if b then disk_after call good reads w.disk else w.disk) made in
    let there : JournalHost =
    record c.args.self.now { disk = c.make_call.new.disk; step = c.replace-step.new.dest } in
    let alike : there ≡ record c.args.self.now {
      disk = disk_after c.in-Some.call c.args.good c.args.reads.now c.args.self.now.disk;
      step = Idle;
    } =
    rw (disk, c.replace-step.ensures.after) refl in
    let ends : call_ended there good c.replace-step.result ≡ call_next w w good reads =
    ap (λ (s : Step). call_ended there good s) c.replace-step.ensures.value
    ∙ call_made w w there good reads call (sym c.in_ok-call.ensures ∙ c.in-Some.is)
    (sym c.in_ok-make_call.ensures.made ∙ made) alike in
    subst (λ (z : JournalHost). OnOk c.end_call.result (c.end_call.new.self ≡ z))
    ends c.end_call.ensures
