use Rattle.std.proofs.Common.{inl, inr, ◌∙◌, refl, rules, sym, [], ◌∷◌}
use Rattle.host_top.specs.Borrowed.{journal_in}
use Rattle.host_top.proofs.BegunLemmas.{fetch_cause, no_folder}
use Rattle.host_top.proofs.ReplayLemmas.{folder_replayed, journal_is_lent}
use Rattle.host_top.proofs.CallsLemmas.{fails_by_cause, no_failure}
use Rattle.host_top.proofs.StoodLemmas.{any_source, fetch_stood, replay_stood}
use Rattle.host_top.proofs.replay.replay.Goals as goal

pub returns-in_default-clause-value : goal.returns-in_default-clause-value
returns-in_default-clause-value g c = λ input. inl (no_folder g.O.Disk.Disk (journal_in
    c.args.folder.now ∷ []) _ _ input _ _ (λ other. (refl, refl)) (inr refl))

pub returns-in-Err-clause-value : goal.returns-in-Err-clause-value
returns-in-Err-clause-value g c =
    let same = c.only_look.ensures.value in
    λ input. inl (no_folder g.O.Disk.Disk (journal_in c.args.folder.now ∷ [])
    (g.O.Outside.outside c.args.outside.now) (g.O.Outside.outside c.disk.new.self) input _ _
    (rw same at c.in-Err.ensures.err)
    (fetch_cause c.in-Err.why _ (g.O.Outside.outside c.args.outside.now)
    (g.O.Outside.outside c.disk.new.self) c.of_fetch.ensures
    (rw same at c.in-Err.ensures.cause)))

pub returns-clause-value : goal.returns-clause-value
returns-clause-value g c =
    let same = c.only_look.ensures.value in
    let still = c.replay_over-status.ensures.outside in
    λ input. inr (folder_replayed g.O.Disk.Disk c.args.stories.now c.args.folder.now
    c.deref.result.now c.deref-2.result.now c.in-Ok-disk.disk c.replay_over-status.new.disk
    (g.O.Outside.outside c.args.outside.now) (g.O.Outside.outside c.disk.new.self)
    (g.O.Outside.outside c.put_back.new.self) input _ _ _
    (c.deref.ensures ∙ c.in-Ok.ensures) (c.deref-2.ensures ∙ c.in-Ok.ensures)
    (rw same at c.in-Ok-disk.ensures.ok) (rw same at c.in-Ok-disk.ensures.given)
    c.replay_over-status.ensures.value (rw still at c.put_back.ensures.back))

pub returns-in-Err-clause-stood : goal.returns-in-Err-clause-stood
returns-in-Err-clause-stood g c = λ stand.
    let same = c.only_look.ensures.value in
    fetch_stood {T = g.row.O-Disk.Denot} c.in-Err.why _ c.of_fetch.ensures
    (no_failure g.row.O-Disk.Denot _ _
    (fails_by_cause _ _ _ _ (rw (sym c.only_look.ensures.others.1) at stand.unlisted)
    c.in-Err.ensures.listed ∙ (rw (sym same) at stand.none_out) _)
    (λ e. search (rules)))

pub returns-clause-stood : goal.returns-clause-stood
returns-clause-stood g c = λ stand.
    let same = c.only_look.ensures.value in
    let still = c.replay_over-status.ensures.outside in
    replay_stood g.O.Disk.Disk c.args.stories.now c.args.folder.now _ _ _ _ _
    (folder_replayed g.O.Disk.Disk c.args.stories.now c.args.folder.now
    c.deref.result.now c.deref-2.result.now c.in-Ok-disk.disk c.replay_over-status.new.disk
    (g.O.Outside.outside c.args.outside.now) (g.O.Outside.outside c.disk.new.self)
    (g.O.Outside.outside c.put_back.new.self) any_source _ _ _
    (c.deref.ensures ∙ c.in-Ok.ensures) (c.deref-2.ensures ∙ c.in-Ok.ensures)
    (rw same at c.in-Ok-disk.ensures.ok) (rw same at c.in-Ok-disk.ensures.given)
    c.replay_over-status.ensures.value (rw still at c.put_back.ensures.back))
    stand.none_failed
