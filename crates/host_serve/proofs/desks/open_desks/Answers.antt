use Rattle.std.proofs.Common.{[], ◌++◌, refl, ap, sym, ◌∙◌, arith}
use Rattle.host_serve.proofs.OpeningLemmas.{desks_none, stores_next}
use Rattle.host_serve.proofs.StoreLemmas.{fewer_before}
use Rattle.host_serve.proofs.desks.open_desks.Goals as goal

pub loop-store-init : goal.loop-store-init
loop-store-init g c = record {
  can = tt;
  finite = tt;
  opened = (
    [],
    sym c.into_iter-store-iterator.ensures.into_iter_gives.0,
    desks_none _ _ _ _ _ _ c.new-cells.ensures.items c.new-passes.ensures.items,
    c.requires.root.1,
  );
  root = (c.requires.cell.0, c.requires.cell.1, (refl, refl, refl), refl);
}

pub open_desk-requires-clause-session : goal.open_desk-requires-clause-session
open_desk-requires-clause-session g c =
    let o = c.loop-store.invariant.opened in
    let low = fewer_before _ o.0 _ c.in-Some.store
    (o.1 ∙ ap (λ l. o.0 ++ l) c.in-Some.ensures.steps.0) in
    let many = c.requires.many in
    let is = c.len-s.ensures in
    let long = c.loop-store.cells.ok.0 in
    let same = o.2.many in
    omega arith

pub open_desk-requires-clause-root : goal.open_desk-requires-clause-root
open_desk-requires-clause-root g c =
    let o = c.loop-store.invariant.opened in (
      c.loop-store.invariant.root.2.0 ∙ c.requires.root.0,
      o.3 ∙ (sym o.2.many ∙ (sym c.loop-store.cells.ok.0 ∙ sym c.len-s.ensures)),
    )

pub loop-store-preserved : goal.loop-store-preserved
loop-store-preserved g c =
    let o = c.loop-store.invariant.opened in
    let root = c.loop-store.invariant.root in
    let k = c.in_ok-cell.ensures.kept in
    record {
      can = tt;
      finite = tt;
      opened = stores_next _ _ _ _ _ o.0 _ c.in-Some.store c.loop-store.cells.items _
          c.loop-store.passes.items _ _ _ c.len-s.result c.open_desk.new.root
          (o.1 ∙ ap (λ l. o.0 ++ l) c.in-Some.ensures.steps.0)
          c.in_ok-push.ensures.items c.in_ok-push-2.ensures.items
          (c.len-s.ensures ∙ (c.loop-store.cells.ok.0 ∙ o.2.many)) o.2
          c.in_ok-cell.ensures.ok;
      root = (
        k.0,
        k.1,
        (k.2.0 ∙ root.2.0, k.2.1 ∙ root.2.1, k.2.2 ∙ root.2.2),
        k.3 ∙ root.3,
      );
    }
