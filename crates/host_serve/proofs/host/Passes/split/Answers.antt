use Rattle.std.proofs.Common.{◌≡◌, ◌+◌, ◌<◌, sym, ◌∙◌, subst, length, set, arith, refl}
use Rattle.std.specs.Vec.{with_item, with_items}
use Rattle.std.proofs.lemmas.List.{with_items_is}
use Rattle.session_desk.specs.Shared.{desk_tag}
use Rattle.host_serve.specs.Holders.{Holder, holders, seens}
use Rattle.host_serve.specs.Hosts.{ArePasses, tags_in}
use Rattle.host_serve.specs.Splitting.{AreRoots, after_split, first_by, with_newest_pass}
use Rattle.host_serve.proofs.PassLemmas.{pass_ready}
use Rattle.host_serve.proofs.RootLemmas.{roots_first}
use Rattle.host_serve.proofs.SplitLemmas.{SplitsOff, newest_there, own_tags, root_here, splits_all}
use Rattle.host_serve.proofs.SplitLemmas.{splits_back, splits_kept, splits_none, splits_not}
use Rattle.host_serve.proofs.SplitLemmas.{splits_on}
use Rattle.host_serve.proofs.host.Passes.split.Given.{Over}
use Rattle.host_serve.proofs.host.Passes.split.Goals.{After-index_mut, After-join_again, In-Err}
use Rattle.host_serve.proofs.host.Passes.split.Goals as goal

below : (g : Over) (c : After-index_mut g) → c.loop-s.s < length c.args.host.now.desks.items
below g c =
    omega (arith, c.requires.passes.whole.many, c.loop-s-test.true, c.from-s-end.ensures)

-- memory ran out: so far these were split off
undone : (g : Over) (c : In-Err g) → SplitsOff desk_tag c.args.host.now.desks.items c.loop-s.s
    c.args.self.now.desks.items (set c.loop-s.self.desks.items c.loop-s.s c.split.new.pass)
    c.loop-s.desks.items
undone g c = splits_not desk_tag _ _ _ _ _ _ _ _ c.loop-s.invariant.done
    (omega (arith, c.requires.passes.whole.many, c.loop-s-test.true, c.from-s-end.ensures))
    c.index.ensures c.index_mut.ensures.value c.in-Err.ensures.err c.in-Err.ensures.kept
    c.in-Err.ensures.outside c.in-Err.ensures.seen

-- and they were joined again
joined : (g : Over) (c : After-join_again g)
    → SplitsOff desk_tag c.args.host.now.desks.items c.loop-s.s c.args.self.now.desks.items
    (set c.loop-s.self.desks.items c.loop-s.s c.split.new.pass) c.loop-s.desks.items
    → let then = (with_items (with_item c.loop-s.self.desks c.loop-s.s c.split.new.pass)
    c.join_again.new.roots).items in
    (holders then ≡ first_by (λ (h : Holder). with_newest_pass (after_split h)) c.loop-s.s
    (holders c.args.self.now.desks.items)) × (seens then ≡ seens c.args.self.now.desks.items)
    × ArePasses desk_tag (tags_in c.args.host.now) c.args.host.now.desks.items then
joined g c split = rw (with_items_is (with_item c.loop-s.self.desks c.loop-s.s c.split.new.pass)
    c.join_again.new.roots (c.join_again.auto.roots ∙ c.deref_mut.ensures.len))
    (splits_back desk_tag _ _ _ _ _ _ _ _ _ split c.requires.passes.each c.deref.ensures.value
    c.deref_mut.ensures.value c.join_again.ensures.holders c.join_again.ensures.seen
    c.join_again.ensures.kept)

pub loop-s-init : goal.loop-s-init
loop-s-init g c = record {
  done = splits_none desk_tag _ _ _ c.in_ok-desks.ensures.items c.requires.passes.each;
  room = (c.in_ok-desks.ensures.len, c.in_ok-desks.ensures.exact ∙ c.from.ensures);
}

pub split-requires-clause-cell : goal.split-requires-clause-cell
split-requires-clause-cell g c =
    (pass_ready _ _ _ _ _ _ _ c.loop-s.invariant.done.are
    (below g (goal.at.split-requires-clause-cell g c).After-index_mut) c.index.ensures
    c.index_mut.ensures.value).0

pub split-requires-clause-outside : goal.split-requires-clause-outside
split-requires-clause-outside g c =
    (pass_ready _ _ _ _ _ _ _ c.loop-s.invariant.done.are
    (below g (goal.at.split-requires-clause-outside g c).After-index_mut) c.index.ensures
    c.index_mut.ensures.value).1

pub split-requires-clause-root : goal.split-requires-clause-root
split-requires-clause-root g c = let root = root_here desk_tag _ _ c.requires.roots.0 _ _ _ _
    c.loop-s.invariant.done c.requires.roots.2
    (below g (goal.at.split-requires-clause-root g c).After-index_mut)
    c.index_mut.ensures.value in
    let most = c.requires.roots.1 in
    let low = root.1 in
    (root.0, omega arith)

pub push_reserved-requires : goal.push_reserved-requires
push_reserved-requires g c =
    let room = c.loop-s.invariant.room in
    let len = room.0 in
    let capacity = room.1 in
    omega (arith, c.loop-s-test.true, c.from-s-end.ensures)

pub join_again-requires-clause-roots : goal.join_again-requires-clause-roots
join_again-requires-clause-roots g c = own_tags desk_tag _ _ _ _
    (undone g (goal.at.join_again-requires-clause-roots g c).In-Err).are c.deref.ensures.value
    c.deref_mut.ensures.value

pub join_again-requires-clause-newest : goal.join_again-requires-clause-newest
join_again-requires-clause-newest g c = newest_there desk_tag _ _ _ _ _ _ _
    (undone g (goal.at.join_again-requires-clause-newest g c).In-Err) c.deref.ensures.value
    c.deref_mut.ensures.value

pub returns-in-Err-clause-err : goal.returns-in-Err-clause-err
returns-in-Err-clause-err g c = let at = goal.at.returns-in-Err-clause-err g c in (
  c.loop-s.s,
  omega (arith, c.loop-s-test.true, c.from-s-end.ensures),
  (joined g at.After-join_again (undone g at.In-Err)).0,
)

pub returns-in-Err-clause-kept : goal.returns-in-Err-clause-kept
returns-in-Err-clause-kept g c = let at = goal.at.returns-in-Err-clause-kept g c in
    record {
      whole = c.requires.passes.whole;
      each = (joined g at.After-join_again (undone g at.In-Err)).2;
    }

pub returns-in-Err-clause-seen : goal.returns-in-Err-clause-seen
returns-in-Err-clause-seen g c = let at = goal.at.returns-in-Err-clause-seen g c in
    (joined g at.After-join_again (undone g at.In-Err)).1

pub returns-in-Err-clause-roots : goal.returns-in-Err-clause-roots
returns-in-Err-clause-roots g c = let at = goal.at.returns-in-Err-clause-roots g c in
    λ most roots. subst (λ hs. AreRoots (most + 1) hs)
    (sym (joined g at.After-join_again (undone g at.In-Err)).0)
    (roots_first (λ (h : Holder). with_newest_pass (after_split h))
    (λ h. (refl, refl)) _ most _ roots)

pub loop-s-preserved : goal.loop-s-preserved
loop-s-preserved g c =
    let room = c.loop-s.invariant.room in
    let len = room.0 in
    record {
      done = subst (λ l. SplitsOff desk_tag c.args.host.now.desks.items (c.loop-s.s + 1)
          c.args.self.now.desks.items
          (set c.loop-s.self.desks.items c.loop-s.s c.split.new.pass) l)
          (sym c.push_reserved.ensures.items)
          (splits_on desk_tag _ _ _ _ _ _ _ _ _ c.loop-s.invariant.done
          (below g (goal.at.loop-s-preserved g c).After-index_mut)
          c.index.ensures c.index_mut.ensures.value c.in-Ok.ensures.ok c.in-Ok.ensures.kept
          c.in-Ok.ensures.outside c.in-Ok.ensures.seen);
      room = (
        omega (arith, len, c.push_reserved.ensures.len),
        c.push_reserved.ensures.capacity ∙ room.1,
      );
    }

pub returns-clause-ok : goal.returns-clause-ok
returns-clause-ok g c =
    let all = splits_all desk_tag _ _ _ _ _ _ c.loop-s.invariant.done c.requires.passes.each
    (omega (
      arith,
      c.requires.passes.whole.many,
      c.loop-s-test.false,
      c.from-s-end.ensures,
      c.loop-s.auto.s-end,
    )) in
    (record { whole = c.requires.passes.whole; each = all.0 }, all.1, all.2, all.3)

pub returns-clause-kept : goal.returns-clause-kept
returns-clause-kept g c = record {
  whole = c.requires.passes.whole;
  each = splits_kept desk_tag _ _ _ _ _ _ c.loop-s.invariant.done c.requires.passes.each;
}

pub returns-clause-seen : goal.returns-clause-seen
returns-clause-seen g c = c.loop-s.invariant.done.heard

pub returns-clause-roots : goal.returns-clause-roots
returns-clause-roots g c = λ most roots.
    subst (λ hs. AreRoots (most + 1) hs) (sym c.loop-s.invariant.done.who)
    (roots_first after_split (λ h. (refl, refl)) _ most _ roots)
