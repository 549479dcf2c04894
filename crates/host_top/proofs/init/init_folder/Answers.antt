use Rattle.std.proofs.Common.{inl, inr, ◌≡◌, ◌∙◌, false, refl, rules, [], ◌∷◌}
use Rattle.host_top.specs.Borrowed.{journal_in}
use Rattle.host_top.specs.Files.{is_out}
use Rattle.host_top.proofs.BegunLemmas.{fetch_cause, folder_inits, folder_lent, journal_out}
use Rattle.host_top.proofs.BegunLemmas.{no_folder}
use Rattle.host_top.proofs.CallsLemmas.{fails_by_cause, no_failure, none_still}
use Rattle.host_top.proofs.NameLemmas.{each_snap, journal_apart}
use Rattle.host_top.proofs.StoodLemmas.{fetch_stood, put_back_stood, stores_in}
use Rattle.host_top.proofs.init.init_folder.Goals as goal

pub returns-in_default-clause-value : goal.returns-in_default-clause-value
returns-in_default-clause-value g c = λ input. inl (no_folder g.O.Disk.Disk (journal_in
    c.args.folder.now ∷ []) _ _ input _ _ (λ other. (refl, refl)) (inr refl))

pub returns-in-Err-clause-value : goal.returns-in-Err-clause-value
returns-in-Err-clause-value g c = λ input. inl (no_folder g.O.Disk.Disk (journal_in
    c.args.folder.now ∷ []) (g.O.Outside.outside c.args.outside.now)
    (g.O.Outside.outside c.disk.new.self) input _ _
    c.in-Err.ensures.err (fetch_cause c.in-Err.why _ (g.O.Outside.outside c.args.outside.now)
    (g.O.Outside.outside c.disk.new.self) c.of_fetch.ensures c.in-Err.ensures.cause))

pub returns-clause-value : goal.returns-clause-value
returns-clause-value g c = λ input. inr (folder_inits g.O.Disk.Disk c.args.folder.now
    c.deref.result.now c.deref-2.result.now c.in-Ok-disk.disk
    c.init_all-status.new.disk
    (g.O.Outside.outside c.args.outside.now) (g.O.Outside.outside c.disk.new.self)
    (g.O.Outside.outside c.init_all-status.new.outside)
    (g.O.Outside.outside c.put_back.new.self) input _ _ _
    (c.deref.ensures ∙ c.in-Ok.ensures) (c.deref-2.ensures ∙ c.in-Ok.ensures)
    c.in-Ok-disk.ensures.ok c.in-Ok-disk.ensures.given c.init_all-status.ensures.kept
    c.init_all-status.ensures.value c.put_back.ensures.back)

pub put_back-requires : goal.put_back-requires
put_back-requires g c = folder_lent g.O.Disk.Disk c.args.folder.now c.deref.result.now
    c.deref-2.result.now c.in-Ok-disk.disk
    c.init_all-status.new.disk
    (g.O.Outside.outside c.args.outside.now) (g.O.Outside.outside c.disk.new.self)
    (g.O.Outside.outside c.init_all-status.new.outside) _ _ _
    (c.deref.ensures ∙ c.in-Ok.ensures) (c.deref-2.ensures ∙ c.in-Ok.ensures)
    c.in-Ok-disk.ensures.ok c.init_all-status.ensures.kept c.init_all-status.ensures.value

pub returns-in-Err-clause-stood : goal.returns-in-Err-clause-stood
returns-in-Err-clause-stood g c = λ stand.
    fetch_stood {T = g.row.O-Disk.Denot} c.in-Err.why _ c.of_fetch.ensures
    (no_failure g.row.O-Disk.Denot _ _
    (fails_by_cause _ _ _ _ stand.unlisted c.in-Err.ensures.listed ∙ stand.none_out _)
    (λ e. search (rules)))

pub returns-clause-stood : goal.returns-clause-stood
returns-clause-stood g c = λ stand is.
    let lends = rw (c.deref.ensures ∙ c.in-Ok.ensures) at c.in-Ok-disk.ensures.ok in
    let inits = c.init_all-status.ensures.value in
    let stood =
    put_back_stood g.O.Disk.Disk (journal_in c.args.folder.now) c.in-Ok-disk.disk
    c.init_all-status.new.disk (g.O.Outside.outside c.init_all-status.new.outside)
    (g.O.Outside.outside c.put_back.new.self)
    (journal_out g.O.Disk.Disk c.args.folder.now c.in-Ok-disk.disk
    (g.O.Outside.outside c.args.outside.now) (g.O.Outside.outside c.disk.new.self)
    (g.O.Outside.outside c.init_all-status.new.outside) inits.0 lends inits.1.named
    inits.1.borrowed)
    (rw (c.deref-2.ensures ∙ c.in-Ok.ensures) at c.put_back.ensures.back) stand.none_failed in
    stood.1
    (c.init_all-status.ensures.stood (none_still _ _ _ _ stand.unlisted c.in-Ok-disk.ensures.listed)
    (λ s low. each_snap (λ n. is_out ((g.O.Outside.outside c.disk.new.self).loan n) ≡ false)
    c.args.folder.now 64 s
    (stores_in _ _ _ _ _ _ lends (journal_apart c.args.folder.now 64) stand.none_out) low)
    stood.0 is)
