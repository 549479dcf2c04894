use Rattle.std.proofs.Common.{ℕ, refl, subst, ◌∙◌, arith, get_or, map}
use Rattle.turn_cell.specs.Passes.{tag_of}
use Rattle.session_desk.specs.Shared.{desk_tag}
use Rattle.host_serve.specs.Gathering.{Gathers}
use Rattle.host_serve.specs.Holders.{holders, seens}
use Rattle.host_serve.specs.Hosts.{cell_id}
use Rattle.host_serve.proofs.EndLemmas.{brought_at, gathers_more, gathers_none, later_on}
use Rattle.host_serve.proofs.PassLemmas.{as_many, pass_at, pass_ready, pass_tagged, tag_of_store}
use Rattle.host_serve.proofs.StoreLemmas.{get_below}
use Rattle.host_serve.proofs.end.gather.Goals as goal

pub loop-s-init : goal.loop-s-init
loop-s-init g c = record {
  told = gathers_none _ _ _ _ _ _ c.requires.room.0;
  root = c.requires.root;
  room = c.requires.room.1;
  later = λ t p low. refl;
}

pub bring_in-requires-clause-pass : goal.bring_in-requires-clause-pass
bring_in-requires-clause-pass g c = pass_ready _ _ c.args.cells.now c.args.passes.now c.loop-s.s
    c.index-cells-s.result (get_or c.loop-s.passes c.loop-s.s c.index-passes-s.result)
    c.requires.passes.5 (omega (arith, c.loop-s-test.true, c.from-s-end.ensures, c.requires.many))
    c.index-cells-s.is
    (pass_at c.loop-s.passes c.args.passes.now c.loop-s.s c.index-passes-s.result
    c.index-passes-s.is c.loop-s.invariant.later)

pub bring_in-requires-clause-tag : goal.bring_in-requires-clause-tag
bring_in-requires-clause-tag g c =
    let many = c.requires.passes.4 in
    let its = get_below c.requires.passes.3 c.loop-s.s
    (omega (arith, c.loop-s-test.true, c.from-s-end.ensures, many)) in (
      c.requires.passes.0,
      c.requires.passes.1,
      c.requires.passes.2,
      its.0,
      pass_tagged _ _ c.args.cells.now c.args.passes.now c.loop-s.s
          (get_or c.loop-s.passes c.loop-s.s c.index-passes-s.result) c.requires.passes.5
          (omega (arith, c.loop-s-test.true, c.from-s-end.ensures, c.requires.many))
          (pass_at c.loop-s.passes c.args.passes.now c.loop-s.s c.index-passes-s.result
          c.index-passes-s.is c.loop-s.invariant.later)
          ∙ tag_of_store c.requires.passes.0 c.requires.passes.1 (cell_id c.args.journal.now)
          c.requires.passes.2 c.requires.passes.3 c.loop-s.s its.0 its.1,
    )

pub push_reserved-requires : goal.push_reserved-requires
push_reserved-requires g c = omega (
  arith,
  c.loop-s-test.true,
  c.from-s-end.ensures,
  c.loop-s.disks.ok.0,
  c.loop-s.invariant.told.disks,
  c.loop-s.invariant.room,
)

pub loop-s-preserved : goal.loop-s-preserved
loop-s-preserved g c = record {
  told = gathers_more _ _ _ _ _ _ _ _ _ _ c.bring_in.result c.loop-s.invariant.told
      (brought_at _ c.args.passes.now c.loop-s.s
      (get_or c.loop-s.passes c.loop-s.s c.index-passes-s.result) c.bring_in.new.root
      c.bring_in.result
      (omega (
        arith,
        c.loop-s-test.true,
        c.from-s-end.ensures,
        c.requires.many,
        as_many _ _ c.args.cells.now c.args.passes.now c.requires.passes.5,
      ))
      (pass_at c.loop-s.passes c.args.passes.now c.loop-s.s c.index-passes-s.result
      c.index-passes-s.is c.loop-s.invariant.later) c.bring_in.ensures.value)
      c.bring_in.ensures.grows c.push_reserved.ensures.items;
  root = c.bring_in.ensures.kept;
  room = omega (arith, c.push_reserved.ensures.capacity, c.loop-s.invariant.room);
  later = later_on c.loop-s.passes c.args.passes.now c.loop-s.s c.bring_in.new.pass
      c.loop-s.invariant.later;
}

pub returns-clause-value : goal.returns-clause-value
returns-clause-value g c = subst (λ (n : ℕ). Gathers g.D.Disk n
    (holders c.args.passes.now) (seens c.args.passes.now)
    (map (tag_of desk_tag) c.args.passes.now) c.args.root.now c.loop-s.root c.loop-s.disks.items)
    (omega (arith, c.loop-s-test.false, c.loop-s.auto.s-end, c.from-s-end.ensures))
    c.loop-s.invariant.told
