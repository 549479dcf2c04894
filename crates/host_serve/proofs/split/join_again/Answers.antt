use Rattle.std.proofs.Common.{length, ap, ◌∙◌, get_or, arith}
use Rattle.session_desk.specs.Shared.{desk_tag}
use Rattle.host_serve.proofs.ListLemmas.{length_more}
use Rattle.host_serve.proofs.PassLemmas.{as_many}
use Rattle.host_serve.proofs.SplitLemmas.{joined_last, joins_all, joins_first, joins_on}
use Rattle.host_serve.proofs.split.join_again.Goals as goal

pub loop-pass-init : goal.loop-pass-init
loop-pass-init g c = joins_first desk_tag _ _ _ c.requires.newest c.requires.roots

pub bounds-cells-s : goal.bounds-cells-s
bounds-cells-s g c =
    let within = c.loop-pass.invariant.within in
    let long = c.loop-pass.invariant.long in
    let place = c.len-s.ensures ∙ c.pop.new.self.ok.0 in
    let more = length_more c.pop.new.self.items c.in-Some.pass in
    let is = ap (λ l. length l) c.in-Some.ensures.items in
    omega arith

pub bounds-roots-s : goal.bounds-roots-s
bounds-roots-s g c =
    let within = c.loop-pass.invariant.within in
    let long = c.loop-pass.invariant.long in
    let place = c.len-s.ensures ∙ c.pop.new.self.ok.0 in
    let more = length_more c.pop.new.self.items c.in-Some.pass in
    let is = ap (λ l. length l) c.in-Some.ensures.items in
    let many = as_many _ _ _ _ c.loop-pass.invariant.are in
    omega arith

pub join-requires-clause-cell : goal.join-requires-clause-cell
join-requires-clause-cell g c = let l = joined_last desk_tag _ _ _ _ _ _ _ _
    (get_or c.loop-pass.roots c.len-s.result c.index-roots-s.result) _ c.loop-pass.invariant
    c.in-Some.ensures.items (c.len-s.ensures ∙ c.pop.new.self.ok.0) c.index-cells-s.is
    (ap (λ d. get_or c.loop-pass.roots c.len-s.result d) c.index-roots-s.is) in
    (l.6, l.1)

pub join-requires-clause-outside : goal.join-requires-clause-outside
join-requires-clause-outside g c = let l = joined_last desk_tag _ _ _ _ _ _ _ _
    (get_or c.loop-pass.roots c.len-s.result c.index-roots-s.result) _ c.loop-pass.invariant
    c.in-Some.ensures.items (c.len-s.ensures ∙ c.pop.new.self.ok.0) c.index-cells-s.is
    (ap (λ d. get_or c.loop-pass.roots c.len-s.result d) c.index-roots-s.is) in
    (l.7, l.2)

pub join-requires-clause-other : goal.join-requires-clause-other
join-requires-clause-other g c = (joined_last desk_tag _ _ _ _ _ _ _ _
    (get_or c.loop-pass.roots c.len-s.result c.index-roots-s.result) _ c.loop-pass.invariant
    c.in-Some.ensures.items (c.len-s.ensures ∙ c.pop.new.self.ok.0) c.index-cells-s.is
    (ap (λ d. get_or c.loop-pass.roots c.len-s.result d) c.index-roots-s.is)).3

pub loop-pass-preserved : goal.loop-pass-preserved
loop-pass-preserved g c = joins_on desk_tag _ _ _ _ _ _ _ _
    (get_or c.loop-pass.roots c.len-s.result c.index-roots-s.result) _ _ c.loop-pass.invariant
    c.in-Some.ensures.items (c.len-s.ensures ∙ c.pop.new.self.ok.0) c.index-cells-s.is
    (ap (λ d. get_or c.loop-pass.roots c.len-s.result d) c.index-roots-s.is) c.join.ensures.holds
    c.join.ensures.kept c.join.ensures.outside c.join.ensures.seen

pub returns-clause-holders : goal.returns-clause-holders
returns-clause-holders g c =
    let none = c.loop-pass.newest.ok.0 in
    let cases = c.in_default.ensures.cases in
    joins_all desk_tag _ _ _ _ _ c.loop-pass.invariant (omega arith)

pub returns-clause-seen : goal.returns-clause-seen
returns-clause-seen g c = c.loop-pass.invariant.heard

pub returns-clause-kept : goal.returns-clause-kept
returns-clause-kept g c = c.loop-pass.invariant.are
