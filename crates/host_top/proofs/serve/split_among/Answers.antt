use Rattle.std.proofs.Common.{◌∷◌, ◌∙◌, List, arith, rules, subst, sym}
use Rattle.host_serve.specs.declared.host.Passes.{Passes}
use Rattle.session_desk.specs.Shared.{desk_tag}
use Rattle.host_serve.proofs.JoinLemmas.{no_root}
use Rattle.host_serve.proofs.PassLemmas.{holders_many}
use Rattle.host_top.specs.Rejoining.{AreAllHeld}
use Rattle.host_top.proofs.CrewLemmas.{again_held, none_seen, split_from, split_held, split_none}
use Rattle.host_top.proofs.RejoinLemmas.{each_with}
use Rattle.host_top.proofs.serve.split_among.Goals as goal

pub loop-init : goal.loop-init
loop-init g c = record {
  many = search rules;
  room = search rules;
  each = search rules;
  no_root = search rules;
  begin = search rules;
  kept = c.requires.passes;
  split = split_none _ c.requires.roots
      (holders_many desk_tag _ _ _ c.requires.passes.each c.requires.passes.whole.many);
  held = subst (λ (l : List (Passes g.row.D.Denot)). AreAllHeld c.args.roots.now
      (c.args.roots.now ∷ l)) (sym c.in_ok-passes.ensures.items) c.requires.held;
  made = c.requires.roots;
}

pub split-requires-clause-roots : goal.split-requires-clause-roots
split-requires-clause-roots g c =
    (c.loop.counter, omega (arith, c.loop-test.true, c.ranges.workers.fits), c.loop.invariant.made)

pub join_all-requires-clause-roots : goal.join_all-requires-clause-roots
join_all-requires-clause-roots g c = c.split.ensures.kept

pub join_all-requires-clause-passes : goal.join_all-requires-clause-passes
join_all-requires-clause-passes g c = c.loop.invariant.each

pub join_all-requires-clause-no_root : goal.join_all-requires-clause-no_root
join_all-requires-clause-no_root g c = c.loop.invariant.no_root

pub push_reserved-requires : goal.push_reserved-requires
push_reserved-requires g c =
    omega (arith, c.loop-test.true, c.loop.invariant.many, c.loop.invariant.room, c.loop.passes.ok.0)

pub loop-preserved : goal.loop-preserved
loop-preserved g c =
    let more = c.in-Ok.ensures.ok in
    let seen = c.split.ensures.seen in
    let many = holders_many desk_tag _ _ _ c.loop.invariant.kept.each
    c.loop.invariant.kept.whole.many in
    let items = c.push_reserved.ensures.items in
    record {
      many = omega (arith, c.push_reserved.ensures.len, c.loop.invariant.many);
      room = c.push_reserved.ensures.capacity ∙ c.loop.invariant.room;
      each = each_with _ _ _ _ items c.loop.invariant.each more.0;
      no_root = each_with _ _ _ _ items c.loop.invariant.no_root
          (no_root _ _ _ more.1 more.3 many);
      begin = each_with _ _ _ _ items c.loop.invariant.begin
          (more.2 ∙ (seen ∙ c.loop.invariant.split.seen));
      kept = c.split.ensures.kept;
      split = split_from c.args.roots.now c.loop.roots c.split.new.self c.in-Ok.more
          c.loop.invariant.split more.3 more.1 many seen;
      held = split_held c.loop.roots c.split.new.self c.in-Ok.more c.loop.passes.items _ more.3
          more.1 many items c.loop.invariant.held;
      made = c.split.ensures.roots c.loop.counter c.loop.invariant.made;
    }

pub returns-in-Err-clause-err : goal.returns-in-Err-clause-err
returns-in-Err-clause-err g c =
    let many = holders_many desk_tag _ _ _ c.loop.invariant.kept.each
    c.loop.invariant.kept.whole.many in
    let back = c.in-Err.ensures.err in (
      c.join_all.ensures.held (again_held c.loop.roots c.split.new.self c.loop.passes.items _
          back.2 many c.loop.invariant.held),
      none_seen c.args.roots.now c.split.new.self c.join_all.new.roots c.loop.passes.items
          (c.split.ensures.seen ∙ c.loop.invariant.split.seen) c.loop.invariant.begin
          c.join_all.ensures.joined,
    )
