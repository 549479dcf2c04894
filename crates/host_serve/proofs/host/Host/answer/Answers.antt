use Rattle.std.proofs.Common.{None, inr, sym, ◌∙◌, arith}
use Rattle.host_serve.specs.Told.{turn_from}
use Rattle.host_serve.proofs.TurnLemmas.{session_read}
use Rattle.host_serve.proofs.PassLemmas.{as_many, tag_in_host, pass_ready, pass_tagged, are_still}
use Rattle.host_serve.proofs.PassLemmas.{holders_still, answers_in}
use Rattle.host_serve.proofs.host.Host.answer.Goals as goal

pub returns-in-Err-clause-value : goal.returns-in-Err-clause-value
returns-in-Err-clause-value g c = (None, inr (c.to_unread.ensures _ _ _))

pub returns-then-s-ge64-clause-value : goal.returns-then-s-ge64-clause-value
returns-then-s-ge64-clause-value g c =
    (None, inr (c.to_absent.ensures _ _ _ c.in-Ok.ensures.ok))

pub turn_in-requires-clause-cell : goal.turn_in-requires-clause-cell
turn_in-requires-clause-cell g c = pass_ready _ _ c.args.self.now.desks.items
    c.args.passes.now.desks.items c.session_of-s.result c.index.result.now c.index_mut.result.now
    c.requires.passes.each (omega (arith, c.requires.passes.whole.many)) c.index.ensures
    c.index_mut.ensures.value

pub turn_in-requires-clause-tag : goal.turn_in-requires-clause-tag
turn_in-requires-clause-tag g c = tag_in_host c.args.self.now c.session_of-s.result _ _
    c.requires.passes.whole.stores c.if-s-ge64.false c.session_of-s.ensures
    (pass_tagged _ _ c.args.self.now.desks.items c.args.passes.now.desks.items
    c.session_of-s.result c.index_mut.result.now c.requires.passes.each
    (omega (arith, c.requires.passes.whole.many)) c.index_mut.ensures.value)

pub returns-clause-value : goal.returns-clause-value
returns-clause-value g c = (
  c.turn_in.ensures.value.0,
  answers_in c.args.self.now.stories.now c.args.self.now.budget _
      c.args.passes.now.desks.items c.session_of-s.result c.index_mut.result.now
      c.turn_in.new.pass (turn_from c.args.line.now c.turn_in.ensures.value.0 c.turn_in.result)
      (as_many _ _ c.args.self.now.desks.items c.args.passes.now.desks.items
      c.requires.passes.each ∙ c.requires.passes.whole.many) c.index_mut.ensures.value
      c.if-s-ge64.false (c.turn_in.ensures.session ∙ sym c.session_of-s.ensures)
      (session_read c.args.self.now.budget c.args.line.now c.in-Ok.request c.in-Ok.ensures.ok
      (omega (arith, c.session_of-s.ensures, c.if-s-ge64.false)) ∙ sym c.session_of-s.ensures)
      c.turn_in.ensures.value.1,
)

pub returns-clause-kept : goal.returns-clause-kept
returns-clause-kept g c = record {
  whole = c.requires.passes.whole;
  each = are_still _ _ c.args.self.now.desks.items c.args.passes.now.desks.items
      c.session_of-s.result c.index.result.now c.index_mut.result.now c.turn_in.new.pass
      c.requires.passes.each (omega (arith, c.requires.passes.whole.many)) c.index.ensures
      c.index_mut.ensures.value c.turn_in.ensures.kept.0 c.turn_in.ensures.kept.1
      c.turn_in.ensures.kept.2;
}

pub returns-clause-holders : goal.returns-clause-holders
returns-clause-holders g c = holders_still c.args.passes.now.desks.items c.session_of-s.result
    c.index_mut.result.now c.turn_in.new.pass c.index_mut.ensures.value c.turn_in.ensures.kept.2
    c.turn_in.ensures.kept.3
