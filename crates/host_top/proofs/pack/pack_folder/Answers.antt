use Rattle.std.proofs.Common.{inl, inr, ◌∙◌, refl, rules, sym, [], ◌∷◌}
use Rattle.host_top.specs.Borrowed.{journal_in}
use Rattle.host_top.proofs.BegunLemmas.{fetch_cause, no_folder}
use Rattle.host_top.proofs.BorrowLemmas.{out_still, turned_about}
use Rattle.host_top.proofs.CallsLemmas.{fails_by_cause, no_failure, none_still}
use Rattle.host_top.proofs.PackLemmas.{lent_new, no_store, no_stores, old_around, old_lent}
use Rattle.host_top.proofs.PackLemmas.{other_journal}
use Rattle.host_top.proofs.StoodLemmas.{any_source, fetch_stood, others_in, put_back_stood}
use Rattle.host_top.proofs.pack.pack_folder.Goals as goal

pub returns-in_default-clause-value : goal.returns-in_default-clause-value
returns-in_default-clause-value g c =
    λ input. inl (no_folder g.O.Disk.Disk
    (journal_in c.args.old.now ∷ journal_in c.args.new.now ∷ []) _ _ input _ _
    (λ other. (refl, refl)) (inr refl))

pub returns-in-Err-clause-value : goal.returns-in-Err-clause-value
returns-in-Err-clause-value g c =
    let same = c.only_look.ensures.value in
    λ input. inl (no_folder g.O.Disk.Disk
    (journal_in c.args.old.now ∷ journal_in c.args.new.now ∷ [])
    (g.O.Outside.outside c.args.outside.now) (g.O.Outside.outside c.disk.new.self) input _ _
    (rw same at c.in-Err.ensures.err)
    (fetch_cause c.in-Err.why _ (g.O.Outside.outside c.args.outside.now)
    (g.O.Outside.outside c.disk.new.self) c.of_fetch.ensures
    (rw same at c.in-Err.ensures.cause)))

pub returns-clause-value : goal.returns-clause-value
returns-clause-value g c =
    let same = c.only_look.ensures.value in
    let writes = c.may_write.ensures.value in
    λ input. old_around g.O.Disk.Disk c.args.old.now c.args.new.now c.deref.result.now
    c.deref-2.result.now c.in-Ok-disk.disk c.pack_into-status.new.old
    (g.O.Outside.outside c.args.outside.now) (g.O.Outside.outside c.disk.new.self)
    (g.O.Outside.outside c.pack_into-status.new.outside)
    (g.O.Outside.outside c.put_back.new.self) input _ _ _ c.requires
    (c.deref.ensures ∙ c.in-Ok.ensures) (c.deref-2.ensures ∙ c.in-Ok.ensures)
    (rw same at c.in-Ok-disk.ensures.ok) (rw same at c.in-Ok-disk.ensures.given)
    c.pack_into-status.ensures.kept (rw writes at (c.pack_into-status.ensures.value input))
    c.put_back.ensures.back

pub put_back-requires : goal.put_back-requires
put_back-requires g c =
    let same = c.only_look.ensures.value in
    let writes = c.may_write.ensures.value in
    old_lent g.O.Disk.Disk c.args.old.now c.args.new.now c.deref.result.now c.deref-2.result.now
    c.in-Ok-disk.disk c.pack_into-status.new.old (g.O.Outside.outside c.args.outside.now)
    (g.O.Outside.outside c.disk.new.self) (g.O.Outside.outside c.pack_into-status.new.outside)
    any_source _ _ _ c.requires
    (c.deref.ensures ∙ c.in-Ok.ensures) (c.deref-2.ensures ∙ c.in-Ok.ensures)
    (rw same at c.in-Ok-disk.ensures.ok) (rw same at c.in-Ok-disk.ensures.given)
    c.pack_into-status.ensures.kept (rw writes at (c.pack_into-status.ensures.value any_source))

pub returns-in-Err-clause-stood : goal.returns-in-Err-clause-stood
returns-in-Err-clause-stood g c = λ stand.
    let same = c.only_look.ensures.value in
    fetch_stood {T = g.row.O-Disk.Denot} c.in-Err.why _ c.of_fetch.ensures
    (no_failure g.row.O-Disk.Denot _ _
    (fails_by_cause _ _ _ _ (rw (sym c.only_look.ensures.others.1) at stand.unlisted)
    c.in-Err.ensures.listed ∙ (rw (sym same) at stand.none_out) _)
    (λ e. search (rules)))

pub returns-clause-stood : goal.returns-clause-stood
returns-clause-stood g c = λ stand is.
    let from = c.args.old.now in
    let into = c.args.new.now in
    let lends =
    rw (c.deref.ensures ∙ c.in-Ok.ensures)
    at (rw c.only_look.ensures.value at c.in-Ok-disk.ensures.ok) in
    let writes = c.may_write.ensures.value in
    let others =
    lent_new g.O.Disk.Disk into c.in-Ok-disk.disk c.pack_into-status.new.old
    (g.O.Outside.outside c.disk.new.self) (g.O.Outside.outside c.pack_into-status.new.outside)
    any_source _ _ _ (journal_in from) (other_journal from into c.requires) (no_stores from into)
    (rw writes at (c.pack_into-status.ensures.value any_source)) in
    let kept =
    put_back_stood g.O.Disk.Disk (journal_in from) c.in-Ok-disk.disk
    c.pack_into-status.new.old (g.O.Outside.outside c.pack_into-status.new.outside)
    (g.O.Outside.outside c.put_back.new.self)
    (out_still g.O.Disk.Disk (journal_in from) c.in-Ok-disk.disk
    (g.O.Outside.outside c.args.outside.now) (g.O.Outside.outside c.disk.new.self)
    (g.O.Outside.outside c.pack_into-status.new.outside) others.0 lends others.1 others.2)
    (rw (c.deref-2.ensures ∙ c.in-Ok.ensures) at c.put_back.ensures.back) stand.none_failed in
    kept.1
    ((rw writes at c.pack_into-status.ensures.stood)
    (rw (sym c.may_write.ensures.others.1) at (none_still _ _ _ _
    (rw (sym c.only_look.ensures.others.1) at stand.unlisted) c.in-Ok-disk.ensures.listed))
    (others_in _ _ _ _ _ _ lends
    (turned_about (journal_in into) (journal_in from) (other_journal from into c.requires))
    (stand.none_out _))
    (λ s low. others_in _ _ _ _ _ _ lends (no_store from into s low) (stand.none_out _))
    kept.0 is)
