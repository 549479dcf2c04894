use Rattle.std.proofs.Common.{◌≡◌, ◌∙◌, ap, Bool, sym, subst, true, OnOk}
use Rattle.std.specs.Prelude.{if◌then◌else◌}
use Rattle.disk_model.specs.DiskState.{DiskState}
use Rattle.store_events.specs.Disk.{disk_after}
use Rattle.host_world.specs.Events.{begun_with, call_next}
use Rattle.host_world.specs.Journal.{call_ended, next_call, sessions_with}
use Rattle.host_world.specs.declared.state.JournalHost.{JournalHost}
use Rattle.host_world.specs.declared.state.Step.{Step}
use Rattle.host_world.specs.declared.state.Step.TheVariants.{Idle}
use Rattle.host_world.specs.declared.turn.Phase.TheVariants.{Begun}
use Rattle.host_world.proofs.CallCode.{call_made, call_not_made}
use Rattle.host_world.proofs.state.JournalHost.begin.Goals as goal

pub returns-then-not-branch : goal.returns-then-not-branch
returns-then-not-branch c =
    let w = c.args.self.now in
    let call = c.in-Some.call in
    let good = c.args.good in
    let reads = c.args.reads.now in
    let same : c.make_call.new.disk ≡ c.args.self.now.disk =
    c.in_ok-make_call.ensures.disk
    ∙ ap (λ (b : Bool). if b then disk_after call good reads w.disk else w.disk)
    c.if-not-branch.true in
    ap (λ (d : DiskState). record c.args.self.now { disk = d }) same
    ∙ call_not_made w (begun_with w c.args.row) good reads call
    (ap (λ (s : Step). next_call w.rows s) (sym c.first_step-step.ensures)
    ∙ sym c.in_ok-call.ensures ∙ c.in-Some.is)
    (sym c.in_ok-make_call.ensures.made ∙ c.if-not-branch.true)

pub returns : goal.returns
returns c =
    let w = c.args.self.now in
    let call = c.in-Some.call in
    let good = c.args.good in
    let reads = c.args.reads.now in
    let made : c.in_ok-make_call.field-0 ≡ true = c.if-not-branch.false in
    let disk : c.make_call.new.disk
    ≡ disk_after c.in-Some.call c.args.good c.args.reads.now c.args.self.now.disk =
    c.in_ok-make_call.ensures.disk
    ∙ ap (λ (b : Bool). if b then disk_after call good reads w.disk else w.disk) made in
    let after = disk_after c.in-Some.call c.args.good c.args.reads.now c.args.self.now.disk in
    let alike : c.go_to.new.self
    ≡ record c.args.self.now {
      disk = after;
      sessions = sessions_with c.args.self.now c.args.row.session Begun;
      step = Idle;
    } =
    rw (sym disk, sym c.session-s.ensures, sym c.requires) c.go_to.ensures in
    let ends : call_ended c.go_to.new.self good c.first_step-step.result
    ≡ call_next w (begun_with w c.args.row) good reads =
    ap (λ (s : Step). call_ended c.go_to.new.self good s) c.first_step-step.ensures
    ∙ call_made w (begun_with w c.args.row) c.go_to.new.self good reads call
    (ap (λ (s : Step). next_call w.rows s) (sym c.first_step-step.ensures)
    ∙ sym c.in_ok-call.ensures ∙ c.in-Some.is)
    (sym c.in_ok-make_call.ensures.made ∙ made) alike in
    subst (λ (z : JournalHost). OnOk c.end_call.result (c.end_call.new.self ≡ z))
    ends c.end_call.ensures
