use Rattle.std.proofs.Common.{◌++◌, ap, ◌∙◌, arith}
use Rattle.std.proofs.lemmas.Slice.Zip.{AllZip-long}
use Rattle.host_serve.proofs.StoreLemmas.{fewer_before, stands_behind, stores_pushed}
use Rattle.host_serve.proofs.desks.open_stores.Goals as goal

pub push_reserved-requires : goal.push_reserved-requires
push_reserved-requires g c =
    let o = c.loop-disk.invariant.opened in
    let low = fewer_before _ o.0 _ c.in-Some.disk
    (o.1 ∙ ap (λ l. o.0 ++ l) c.in-Some.ensures.steps.0) in
    let long = AllZip-long _ o.0 c.loop-disk.stores.items o.2 in
    let many = c.requires.many in
    let is = c.loop-disk.stores.ok.0 in
    let room = c.loop-disk.invariant.room in
    omega arith

pub loop-disk-preserved : goal.loop-disk-preserved
loop-disk-preserved g c =
    let o = c.loop-disk.invariant.opened in
    let steps = c.in-Some.ensures.steps in
    record {
      can = tt;
      finite = tt;
      opened = stores_pushed _ _ o.0 _ c.in-Some.disk _ _ c.in-Ok-open.store
          (o.1 ∙ ap (λ l. o.0 ++ l) steps.0) c.push_reserved.ensures.items o.2
          (record {
            areas = c.in-Ok-open.ensures.areas;
            slots = λ told. (c.in-Ok-open.ensures.ok told).1;
            counts = c.in-Ok-open.ensures.faults;
            kept = c.in-Ok-open.ensures.kept;
          });
      room = c.push_reserved.ensures.capacity ∙ c.loop-disk.invariant.room;
      kept = (
        steps.2.1 ∙ c.loop-disk.invariant.kept.0,
        omega (arith, steps.2.2, c.loop-disk.invariant.kept.1),
      );
    }

pub returns-in-Err-clause-err : goal.returns-in-Err-clause-err
returns-in-Err-clause-err g c =
    let o = c.loop-disk.invariant.opened in
    record {
      disk = c.in-Some.disk;
      given = stands_behind _ o.0 _ c.in-Some.disk c.len-session.result
          (o.1 ∙ ap (λ l. o.0 ++ l) c.in-Some.ensures.steps.0)
          (c.len-session.ensures ∙ (c.loop-disk.stores.ok.0
          ∙ AllZip-long _ o.0 c.loop-disk.stores.items o.2));
      cause = c.in-Err.ensures.cause;
      kept = c.in-Err.ensures.kept;
    }
