use Rattle.std.proofs.Common.{Err, ap, inr, map, refl}
use Rattle.host_top.proofs.LoadsLemmas.{all_in_order, failed_in_order, wanted_in_order}
use Rattle.host_top.proofs.StoodLemmas.{stand_behind}
use Rattle.host_top.proofs.program.follow.Goals as goal

pub returns-clause-done : goal.returns-clause-done
returns-clause-done g c = inr (record {
  files = map (λ f. f.items) c.in-Ok.files.items;
  are_files = rw c.deref.ensures.value at c.in-Ok.ensures.value;
  settled = rw c.deref.ensures.value at c.in-Ok.ensures.settled;
  between = g.O.Outside.outside c.load_files.new.outside;
  loaded = c.load_files.ensures.disks;
  doors = c.load_files.ensures.doors;
  does = rw c.deref-2.ensures.value at c.act.ensures.value;
  cause = c.act.ensures.read_fault;
})

pub returns-in-Err-Failed-clause-unprovoked : goal.returns-in-Err-Failed-clause-unprovoked
returns-in-Err-Failed-clause-unprovoked g c = λ none there e.
    absurd ((rw c.deref.ensures.value at c.in-Err-Failed.ensures.unlisted) none there
    (ap (λ w. Err w) c.in-Err-Failed.field-0-is))

pub returns-clause-stood : goal.returns-clause-stood
returns-clause-stood g c = λ stand. c.act.ensures.stood
    (stand_behind _ _ _ _ _ c.load_files.ensures.loans c.load_files.ensures.disks stand)

pub returns-clause-loads : goal.returns-clause-loads
returns-clause-loads g c =
    all_in_order _ _ _ _ _ _ (λ f. f.items) c.in-Ok.files.items
    (rw c.deref.ensures.value at c.in-Ok.ensures.value)
    (rw c.deref.ensures.value at c.in-Ok.ensures.settled)
    c.act.ensures.read_fault (rw c.deref.ensures.value at c.in-Ok.ensures.loads)

pub returns-in-Err-Failed-clause-loads : goal.returns-in-Err-Failed-clause-loads
returns-in-Err-Failed-clause-loads g c =
    failed_in_order _ _ _ (g.O.Outside.failing_loads c.load_files.new.outside) _ _ refl
    ((rw c.deref.ensures.value at c.in-Err-Failed.ensures.failed)
    (ap (λ w. Err w) c.in-Err-Failed.field-0-is))

pub returns-in-Err-NoMemory-clause-loads : goal.returns-in-Err-NoMemory-clause-loads
returns-in-Err-NoMemory-clause-loads g c =
    wanted_in_order _ _ _ (g.O.Outside.failing_loads c.load_files.new.outside) _ _ refl
