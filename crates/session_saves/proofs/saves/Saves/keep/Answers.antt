use Rattle.std.proofs.Common.{ℕ, Some, inl, refl, sym, subst}
use Rattle.std.specs.Prelude.{IsTrue}
use Rattle.disk_model.specs.Work.{LeavesOnly}
use Rattle.session_saves.specs.Keeping.{AddsOnly, CountsExactly, FailedPutLeaves}
use Rattle.session_saves.specs.Keeping.{MayStandMeanwhile, PutsWorld}
use Rattle.session_saves.specs.Saves.{SavesState}
use Rattle.session_saves.proofs.AgreementLemmas.{after_keep}
use Rattle.session_saves.proofs.KeepLemmas.{missed_counts, put_counts, put_stored, untouched}
use Rattle.session_saves.proofs.KeptUpLemmas.{missed_not_due, put_keeps_up, put_not_due}
use Rattle.session_saves.proofs.NewestLemmas.{failed_changes, keeps_open, put_changes}
use Rattle.session_saves.proofs.saves.Saves.keep.Goals as goal

pub returns-in-Ok-clause-due : goal.returns-in-Ok-clause-due
returns-in-Ok-clause-due g c =
    put_not_due c.put.new.store.slots c.self.inside.last c.args.place c.args.count
    (put_stored g.D.Disk c.args.world.now c.args.place
    c.args.count c.self.inside.store c.put.new.store c.in-Ok.ensures.ok)

pub returns-in-Ok-clause-kept_up : goal.returns-in-Ok-clause-kept_up
returns-in-Ok-clause-kept_up g c kept =
    put_keeps_up c.put.new.store.slots c.self.inside.missed c.args.place c.args.count
    (put_stored g.D.Disk c.args.world.now c.args.place
    c.args.count c.self.inside.store c.put.new.store c.in-Ok.ensures.ok)

pub returns-in-Ok-clause-exact : goal.returns-in-Ok-clause-exact
returns-in-Ok-clause-exact g c due =
    let inside : SavesState g.row.D.Denot = record {
      store = c.self.inside.store;
      missed = c.self.inside.missed;
      last = c.self.inside.last;
    } in
    let new : SavesState g.row.D.Denot = record inside { store = c.put.new.store } in
    subst (λ (s : SavesState g.row.D.Denot).
    CountsExactly c.args.world.now c.args.place c.args.count s new) c.self.view_is
    (put_counts g.D.Disk c.has_one_spelling.ensures c.args.world.now c.args.place
    c.args.count inside new
    (record { store = c.in-Ok.ensures.ok; missed = refl; last = refl }))

pub returns-in-Err-clause-exact : goal.returns-in-Err-clause-exact
returns-in-Err-clause-exact g c due =
    let inside : SavesState g.row.D.Denot = record {
      store = c.self.inside.store;
      missed = c.self.inside.missed;
      last = c.self.inside.last;
    } in
    let new : SavesState g.row.D.Denot = record {
      store = c.put.new.store;
      missed = c.count.new.self;
      last = Some (record { place = c.args.place; count = c.args.count });
    } in
    subst (λ (s : SavesState g.row.D.Denot).
    CountsExactly c.args.world.now c.args.place c.args.count s new) c.self.view_is
    (missed_counts g.D.Disk c.has_one_spelling.ensures c.args.world.now c.args.place
    c.args.count inside new
    (record {
      cause = c.in-Err.cause;
      prevents = c.in-Err.ensures.cause;
      leaves = c.in-Err.ensures.err;
      counted = c.count.ensures;
      last = refl;
    }))

pub returns-in-Ok-clause-areas : goal.returns-in-Ok-clause-areas
returns-in-Ok-clause-areas g c =
    subst (λ (s : SavesState g.row.D.Denot). IsTrue (g.D.Disk.tells s.store.disk)
    → AddsOnly g.D.Disk.seen c.args.world.now c.args.place c.args.count s.store c.put.new.store)
    c.self.view_is c.in-Ok.ensures.areas

pub returns-in-Ok-clause-agreed : goal.returns-in-Ok-clause-agreed
returns-in-Ok-clause-agreed g c stories rows game told last counts at agreed =
    let old = c.args.self.now.store in
    let adds = subst (λ (s : SavesState g.row.D.Denot). IsTrue (g.D.Disk.tells s.store.disk)
    → AddsOnly g.D.Disk.seen c.args.world.now c.args.place c.args.count s.store c.put.new.store)
    c.self.view_is c.in-Ok.ensures.areas told in
    after_keep g.D.Disk.seen stories rows game c.args.world.now c.args.place old c.put.new.store
    last at
    (subst (λ (n : ℕ). AddsOnly g.D.Disk.seen c.args.world.now c.args.place n old c.put.new.store)
    (sym counts) adds) agreed

pub returns-in-Err-clause-due : goal.returns-in-Err-clause-due
returns-in-Err-clause-due g c =
    missed_not_due c.put.new.store.slots
    (Some (record { place = c.args.place; count = c.args.count })) c.args.place c.args.count
    refl

pub returns-in-Err-clause-areas : goal.returns-in-Err-clause-areas
returns-in-Err-clause-areas g c =
    subst (λ (s : SavesState g.row.D.Denot). IsTrue (g.D.Disk.tells s.store.disk)
    → AddsOnly g.D.Disk.seen c.args.world.now c.args.place c.args.count s.store c.put.new.store)
    c.self.view_is c.in-Err.ensures.areas

pub returns-in-Err-clause-agreed : goal.returns-in-Err-clause-agreed
returns-in-Err-clause-agreed g c stories rows game told last counts at agreed =
    let old = c.args.self.now.store in
    let adds = subst (λ (s : SavesState g.row.D.Denot). IsTrue (g.D.Disk.tells s.store.disk)
    → AddsOnly g.D.Disk.seen c.args.world.now c.args.place c.args.count s.store c.put.new.store)
    c.self.view_is c.in-Err.ensures.areas told in
    after_keep g.D.Disk.seen stories rows game c.args.world.now c.args.place old c.put.new.store
    last at
    (subst (λ (n : ℕ). AddsOnly g.D.Disk.seen c.args.world.now c.args.place n old c.put.new.store)
    (sym counts) adds) agreed

pub returns-else-is_due-clause-crash : goal.returns-else-is_due-clause-crash
returns-else-is_due-clause-crash g c =
    untouched g.D.Disk g.met.D.Disk.only_now
    c.args.world.now c.args.place c.args.count c.args.self.now.store c.is_due.ensures.images

pub returns-in-Ok-clause-newest : goal.returns-in-Ok-clause-newest
returns-in-Ok-clause-newest g c stories rows game least told last agreed has =
    let crash = subst (λ (s : SavesState g.row.D.Denot). IsTrue (g.D.Disk.tells s.store.disk)
    → LeavesOnly g.D.Disk s.store.disk c.put.new.store.disk
    (MayStandMeanwhile g.D.Disk.seen c.args.world.now c.args.place c.args.count s.store))
    c.self.view_is c.in-Ok.ensures.crash in
    let puts = subst (λ (s : SavesState g.row.D.Denot). PutsWorld g.D.Disk c.args.world.now
    c.args.place c.args.count s.store
    c.put.new.store) c.self.view_is c.in-Ok.ensures.ok in
    let old = c.args.self.now.store in
    keeps_open g.D.Disk stories rows game c.args.place least c.args.world.now c.args.place
    c.args.count old c.put.new.store g.met.D.Disk.seen_may_stay c.is_due.ensures.images (crash told)
    (put_changes g.D.Disk c.args.world.now c.args.place c.args.count old c.put.new.store puts)
    told last agreed has

pub returns-in-Err-clause-newest : goal.returns-in-Err-clause-newest
returns-in-Err-clause-newest g c stories rows game least told last agreed has =
    let crash = subst (λ (s : SavesState g.row.D.Denot). IsTrue (g.D.Disk.tells s.store.disk)
    → LeavesOnly g.D.Disk s.store.disk c.put.new.store.disk
    (MayStandMeanwhile g.D.Disk.seen c.args.world.now c.args.place c.args.count s.store))
    c.self.view_is c.in-Err.ensures.crash in
    let leaves = subst (λ (s : SavesState g.row.D.Denot). FailedPutLeaves c.in-Err.cause s.store
    c.put.new.store) c.self.view_is c.in-Err.ensures.err in
    let old = c.args.self.now.store in
    keeps_open g.D.Disk stories rows game c.args.place least c.args.world.now c.args.place
    c.args.count old c.put.new.store g.met.D.Disk.seen_may_stay c.is_due.ensures.images (crash told)
    (failed_changes c.in-Err.cause old c.put.new.store leaves)
    told last agreed has

pub returns-else-is_due-clause-newest : goal.returns-else-is_due-clause-newest
returns-else-is_due-clause-newest g c stories rows game least told last agreed has =
    let old = c.args.self.now.store in
    keeps_open g.D.Disk stories rows game c.args.place least c.args.world.now c.args.place
    c.args.count old old g.met.D.Disk.seen_may_stay c.is_due.ensures.images
    (untouched g.D.Disk g.met.D.Disk.only_now
    c.args.world.now c.args.place c.args.count old c.is_due.ensures.images told)
    (inl refl) told last agreed has
