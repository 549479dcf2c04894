use Rattle.std.proofs.Common.{inl, inr, ◌∙◌, refl, rules, ap, [], ◌∷◌}
use Rattle.host_top.specs.Borrowed.{journal_in}
use Rattle.host_top.proofs.BegunLemmas.{fetch_cause, no_folder}
use Rattle.host_top.specs.Files.{is_out}
use Rattle.host_top.proofs.BorrowLemmas.{out_still}
use Rattle.host_top.proofs.CallsLemmas.{fails_by_cause, no_failure, none_still}
use Rattle.host_top.proofs.PackLemmas.{new_around, new_lent, no_store, no_stores}
use Rattle.host_top.proofs.StoodLemmas.{fetch_stood, others_in, put_back_stood}
use Rattle.host_top.proofs.pack.pack_into.Goals as goal

pub returns-in_default-clause-value : goal.returns-in_default-clause-value
returns-in_default-clause-value g c =
    λ input. inl (
      no_folder g.O.Disk.Disk (journal_in c.args.folder.now ∷ []) _ _ input _ _
          (λ other. (refl, refl)) (inr refl),
      refl,
    )

pub returns-in-Err-clause-value : goal.returns-in-Err-clause-value
returns-in-Err-clause-value g c =
    λ input. inl (
      no_folder g.O.Disk.Disk (journal_in c.args.folder.now ∷ [])
          (g.O.Outside.outside c.args.outside.now) (g.O.Outside.outside c.disk.new.self) input _ _
          c.in-Err.ensures.err
          (fetch_cause c.in-Err.why _ (g.O.Outside.outside c.args.outside.now)
          (g.O.Outside.outside c.disk.new.self) c.of_fetch.ensures c.in-Err.ensures.cause),
      refl,
    )

pub returns-clause-value : goal.returns-clause-value
returns-clause-value g c =
    λ input. inr (new_around g.O.Disk.Disk c.args.folder.now c.deref.result.now
    c.deref-2.result.now c.args.old.now c.pack_all-status.new.old c.in-Ok-disk.disk
    c.pack_all-status.new.new (g.O.Outside.outside c.args.outside.now)
    (g.O.Outside.outside c.disk.new.self) (g.O.Outside.outside c.pack_all-status.new.outside)
    (g.O.Outside.outside c.put_back.new.self) _ _ _
    (c.deref.ensures ∙ c.in-Ok.ensures) (c.deref-2.ensures ∙ c.in-Ok.ensures)
    c.in-Ok-disk.ensures.ok c.in-Ok-disk.ensures.given c.pack_all-status.ensures.kept.1
    c.pack_all-status.ensures.value c.put_back.ensures.back)

pub put_back-requires : goal.put_back-requires
put_back-requires g c =
    new_lent g.O.Disk.Disk c.args.folder.now c.deref.result.now c.deref-2.result.now
    c.args.old.now c.pack_all-status.new.old c.in-Ok-disk.disk c.pack_all-status.new.new
    (g.O.Outside.outside c.args.outside.now) (g.O.Outside.outside c.disk.new.self)
    (g.O.Outside.outside c.pack_all-status.new.outside) _ _ _
    (c.deref.ensures ∙ c.in-Ok.ensures) (c.deref-2.ensures ∙ c.in-Ok.ensures)
    c.in-Ok-disk.ensures.ok c.in-Ok-disk.ensures.given c.pack_all-status.ensures.kept.1
    c.pack_all-status.ensures.value

pub returns-in-Err-clause-stood : goal.returns-in-Err-clause-stood
returns-in-Err-clause-stood g c = λ none out stores stood is.
    absurd (fetch_stood {T = g.row.O-Disk.Denot} c.in-Err.why _ c.of_fetch.ensures
    (no_failure g.row.O-Disk.Denot _ _
    (fails_by_cause _ _ _ _ none c.in-Err.ensures.listed
    ∙ ap (λ n. is_out ((g.O.Outside.outside c.args.outside.now).loan n))
    (c.deref.ensures ∙ c.in-Ok.ensures) ∙ out) (λ e. search (rules))) is)

pub returns-clause-stood : goal.returns-clause-stood
returns-clause-stood g c = λ none out stores stood is.
    let folder = c.args.folder.now in
    let lends = rw (c.deref.ensures ∙ c.in-Ok.ensures) at c.in-Ok-disk.ensures.ok in
    let packs = c.pack_all-status.ensures.value in
    let kept =
    put_back_stood g.O.Disk.Disk (journal_in folder) c.in-Ok-disk.disk
    c.pack_all-status.new.new (g.O.Outside.outside c.pack_all-status.new.outside)
    (g.O.Outside.outside c.put_back.new.self)
    (out_still g.O.Disk.Disk (journal_in folder) c.in-Ok-disk.disk
    (g.O.Outside.outside c.args.outside.now) (g.O.Outside.outside c.disk.new.self)
    (g.O.Outside.outside c.pack_all-status.new.outside) packs.0 lends packs.1.borrowed
    (packs.1.named (journal_in folder) (no_stores folder folder)))
    (rw (c.deref-2.ensures ∙ c.in-Ok.ensures) at c.put_back.ensures.back) stood in
    elim (c.pack_all-status.ensures.stood
    (none_still _ _ _ _ none c.in-Ok-disk.ensures.listed)
    (λ s low. others_in _ _ _ _ _ _ lends (no_store folder folder s low) (stores s low))
    kept.0 is) [
      | inl old ↦ old
      | inr new ↦ absurd (kept.1 new)
    ]
