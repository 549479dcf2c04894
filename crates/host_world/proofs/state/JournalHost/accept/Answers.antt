use Rattle.std.proofs.Common.{◌≡◌, ◌≤◌, ◌<◌, ◌∙◌, ap, List, Some}
use Rattle.std.proofs.Common.{length, refl, rules, subst, sym, ℕ, OnOk}
use Rattle.std.proofs.lemmas.Option.{slice_get_read}
use Rattle.std.specs.List.{slice_get}
use Rattle.std.specs.Prelude.{IfSome}
use Rattle.gate_journal.specs.declared.command.Command.{Command}
use Rattle.session_core.specs.Turning.{commands_in, decision_on}
use Rattle.host_world.specs.Sessions.{with_entry}
use Rattle.host_world.specs.declared.state.JournalHost.{JournalHost}
use Rattle.host_world.specs.declared.turn.Session.{Session}
use Rattle.host_world.proofs.AcceptCode.{accept_is, entry_fits, entry_is}
use Rattle.host_world.proofs.Lists.{some_same}
use Rattle.host_world.proofs.state.JournalHost.accept.Goals as goal

pub take_entry-requires : goal.take_entry-requires
take_entry-requires c =
    let x = c.in-Some.session.now in
    let d = c.in_ok-decision.decision in
    let listed : c.deref.result.now ≡ c.args.self.now.sessions = search rules in
    let at : slice_get c.args.self.now.sessions c.args.s ≡ Some c.in-Some.session.now =
    subst (λ (l : List Session). slice_get l c.args.s ≡ Some x) listed
    (slice_get_read c.deref.result.now _ c.args.s x refl c.in-Some.ensures.lookup.3.0
    c.in-Some.ensures.lookup.1) in
    λ (y : Session) at_y. subst (λ (z : Session).
    length (commands_in (with_entry z.history c.met-reply.result.1)) ≤ 8192)
    (some_same x y (sym at ∙ at_y))
    (entry_fits x.history c.in-Some-turn.turn.pass c.in_ok-commands.commands.items
    d c.in-Ready.outcome c.met-reply.result.0 c.met-reply.result.1
    c.in_ok-commands.ensures.value (c.met-reply.ensures x.history)
    c.in_ok-commands.ensures.few
    (subst (λ (l : List Command). IfSome d.accepted (λ (_ : Command). length l < 8192))
    c.deref-2.ensures.value c.in_ok-decision.ensures.within))

pub returns : goal.returns
returns c =
    let x = c.in-Some.session.now in
    let w = c.args.self.now in
    let t = c.in-Some-turn.turn in
    let d = c.in_ok-decision.decision in
    let stories = c.args.stories.now in
    let budget = c.args.budget in
    let commands = c.in_ok-commands.commands.items in
    let listed : c.deref.result.now ≡ c.args.self.now.sessions = search rules in
    let at : slice_get c.args.self.now.sessions c.args.s ≡ Some c.in-Some.session.now =
    subst (λ (l : List Session). slice_get l c.args.s ≡ Some x) listed
    (slice_get_read c.deref.result.now _ c.args.s x refl c.in-Some.ensures.lookup.3.0
    c.in-Some.ensures.lookup.1) in
    let met = c.met-reply.ensures x.history in
    let decided = c.in_ok-decision.ensures.value
    ∙ ap (λ (l : List Command). decision_on stories budget l c.as_slice.result.now)
    c.deref-2.ensures.value
    ∙ ap (λ (l : List ℕ). decision_on stories budget commands l) c.as_slice.ensures in
    subst (λ (z : JournalHost). OnOk c.take_entry.result (c.take_entry.new.self ≡ z))
    (accept_is stories budget w c.args.s x t c.in-Ready.outcome c.met-reply.result.0
    c.met-reply.result.1 at c.in-Some-turn.is c.in-Ready.is
    (entry_is x.history t.pass commands d c.in-Ready.outcome c.met-reply.result.0
    c.met-reply.result.1 c.in_ok-commands.ensures.value met stories budget t.line decided))
    c.take_entry.ensures
