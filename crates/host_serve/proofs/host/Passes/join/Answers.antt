use Rattle.std.proofs.Common.{◌∙◌, arith}
use Rattle.session_desk.specs.Shared.{desk_tag}
use Rattle.host_serve.proofs.JoinLemmas.{joined_all, joins_none, joins_on, last_numbered, last_two}
use Rattle.host_serve.proofs.host.Passes.join.Goals as goal

pub loop-pass-init : goal.loop-pass-init
loop-pass-init g c = joins_none desk_tag _ _ _ _ c.requires.passes.0.each c.requires.passes.1.each

pub join-requires-clause-cell : goal.join-requires-clause-cell
join-requires-clause-cell g c = let two = last_two desk_tag _ _ _ _ _ _ _ _ _ _ _
    c.loop-pass.invariant c.in-Some.ensures.items (c.len-s.ensures ∙ c.pop.new.self.ok.0)
    c.index.ensures c.index_mut.ensures.value in
    (two.0.0, two.1.0)

pub join-requires-clause-outside : goal.join-requires-clause-outside
join-requires-clause-outside g c = let two = last_two desk_tag _ _ _ _ _ _ _ _ _ _ _
    c.loop-pass.invariant c.in-Some.ensures.items (c.len-s.ensures ∙ c.pop.new.self.ok.0)
    c.index.ensures c.index_mut.ensures.value in
    (two.0.1, two.1.1)

pub join-requires-clause-other : goal.join-requires-clause-other
join-requires-clause-other g c = last_numbered desk_tag _ _ _ _ _ _ _ _ _ _ _
    c.loop-pass.invariant c.in-Some.ensures.items (c.len-s.ensures ∙ c.pop.new.self.ok.0)
    c.index.ensures c.index_mut.ensures.value c.requires.passes.0.whole.many c.requires.numbered

pub loop-pass-preserved : goal.loop-pass-preserved
loop-pass-preserved g c = joins_on desk_tag _ _ _ _ _ _ _ _ _ _ _ _ c.loop-pass.invariant
    c.in-Some.ensures.items (c.len-s.ensures ∙ c.pop.new.self.ok.0) c.index.ensures
    c.index_mut.ensures.value c.join.ensures.holds c.join.ensures.kept c.join.ensures.outside
    c.join.ensures.seen c.join.ensures.first c.join.ensures.second c.join.ensures.apart
    c.join.ensures.given

pub returns-clause-joined : goal.returns-clause-joined
returns-clause-joined g c =
    let none = c.loop-pass.desks.ok.0 in
    let cases = c.in_default.ensures.cases in
    joined_all desk_tag _ _ c.args.self.now c.args.other c.loop-pass.self _
    c.loop-pass.invariant (omega arith) c.requires.passes.0.whole.many
