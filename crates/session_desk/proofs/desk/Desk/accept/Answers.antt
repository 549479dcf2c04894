use Rattle.std.proofs.Common.{◌≡◌, ap, false, Option, Some, sym, subst}
use Rattle.turn_cell.specs.Passes.{seen}
use Rattle.gate_journal.specs.declared.command.Command.{Command}
use Rattle.session_core.specs.declared.decision.Decision.{Decision}
use Rattle.session_core.specs.declared.entry.Outcome.TheVariants.{DiskFailed, OutOfMemory}
use Rattle.session_desk.specs.Desk.{DeskState, is_cold, ran}
use Rattle.session_desk.specs.Laws.{decision_by_desk}
use Rattle.session_desk.specs.Shared.{GoesOn}
use Rattle.session_desk.proofs.SharedTurnLemmas.{fresh-goes, fresh-shown}
use Rattle.session_desk.proofs.WarmLemmas.{stays_warm}
use Rattle.session_desk.proofs.desk.Desk.accept.Goals as goal

pub shown_after-requires-clause-warm : goal.shown_after-requires-clause-warm
shown_after-requires-clause-warm g c =
    let t = c.in-Ok.ensures.ok in
    subst (λ (d : DeskState). is_cold (ran d) ≡ false) (sym t.taken)
    ((stays_warm c.args.self.now.desk c.args.request.now).1 t.command c.requires.fresh t.asked)

pub returns-in-Ok-clause-turn : goal.returns-in-Ok-clause-turn
returns-in-Ok-clause-turn g c =
    fresh-shown c.args.request.now c.args.by c.args.self.now c.commit.new.self
    c.shown_after.new.self c.shown_after.result
    (c.shows_fresh.ensures c.args.self.now.desk c.args.request.now c.requires.fresh)
    c.in-Ok.ensures.ok c.shown_after.ensures.value c.shown_after.ensures.rests

pub returns-in-Ok-clause-journal : goal.returns-in-Ok-clause-journal
returns-in-Ok-clause-journal g c =
    fresh-goes c.args.request.now c.args.by c.args.self.now c.commit.new.self
    c.shown_after.new.self c.shown_after.result
    (c.shows_fresh.ensures c.args.self.now.desk c.args.request.now c.requires.fresh)
    c.in-Ok.ensures.journal c.shown_after.ensures.value c.shown_after.ensures.rests

pub returns-in-Err-DiskFault-clause-journal : goal.returns-in-Err-DiskFault-clause-journal
returns-in-Err-DiskFault-clause-journal g c =
    let f = c.shows_fresh.ensures c.args.self.now.desk c.args.request.now c.requires.fresh in
    let accepted : (decision_by_desk c.args.self.now.desk c.args.request.now).accepted ≡ Some f.0 =
    ap (λ (d : Decision). d.accepted) f.2 in
    let fault = c.in-Err-DiskFault.field-0-0 in
    let on = rw c.in-Err-DiskFault.field-0-is at (c.in-Err-DiskFault.ensures.journal f.0 f.1) in
    rw c.in-Err-DiskFault.field-0-0-is
    (subst (λ (a : Option Command). GoesOn c.args.self.now.desk.session a
    (DiskFailed fault.from fault.to) (seen c.args.self.now.pass) (seen c.commit.new.self.pass))
    (sym accepted) on)

pub returns-in-Err-NoMemory-clause-journal : goal.returns-in-Err-NoMemory-clause-journal
returns-in-Err-NoMemory-clause-journal g c =
    let f = c.shows_fresh.ensures c.args.self.now.desk c.args.request.now c.requires.fresh in
    let accepted : (decision_by_desk c.args.self.now.desk c.args.request.now).accepted ≡ Some f.0 =
    ap (λ (d : Decision). d.accepted) f.2 in
    let on = rw c.in-Err-NoMemory.field-0-is at (c.in-Err-NoMemory.ensures.journal f.0 f.1) in
    rw c.out_of_memory.ensures
    (subst (λ (a : Option Command). GoesOn c.args.self.now.desk.session a OutOfMemory
    (seen c.args.self.now.pass) (seen c.commit.new.self.pass)) (sym accepted) on)
