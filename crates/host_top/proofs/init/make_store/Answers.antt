use Rattle.std.proofs.Common.{◌∙◌, [], ◌∷◌, ap, refl, rules, sym}
use Rattle.host_top.specs.Borrowed.{snap_in}
use Rattle.host_top.proofs.InitLemmas.{no_stores, store_made, store_tried}
use Rattle.host_top.proofs.CallsLemmas.{fails_by_cause, no_failure, none_still}
use Rattle.host_top.proofs.LendingLemmas.{on_err}
use Rattle.host_top.proofs.StoodLemmas.{store_back, store_stood}
use Rattle.host_top.specs.Files.{is_out}
use Rattle.host_top.proofs.init.make_store.Goals as goal

pub returns-in_default-clause-err : goal.returns-in_default-clause-err
returns-in_default-clause-err g c = no_stores g.O.Disk.Disk (snap_in c.args.folder.now
    c.args.session ∷ []) _ _ (λ other. (refl, refl))

pub returns-in_err-disk-clause-err : goal.returns-in_err-disk-clause-err
returns-in_err-disk-clause-err g c = on_err c.from_residual.result _ (no_stores g.O.Disk.Disk
    (snap_in c.args.folder.now c.args.session ∷ []) (g.O.Outside.outside c.args.outside.now)
    (g.O.Outside.outside c.disk.new.self) c.in_err-disk.ensures.err)

pub returns-clause-err : goal.returns-clause-err
returns-clause-err g c = store_tried g.O.Disk.Disk (snap_in c.args.folder.now
    c.args.session) c.deref.result.now c.deref-2.result.now
    c.in_ok-disk.disk c.make-made.new.disk
    (g.O.Outside.outside c.args.outside.now) (g.O.Outside.outside c.disk.new.self)
    (g.O.Outside.outside c.put_back.new.self) (c.deref.ensures ∙ c.in-Ok.ensures)
    (c.deref-2.ensures ∙ c.in-Ok.ensures)
    c.in_ok-disk.ensures.ok c.in_ok-disk.ensures.given c.make-made.ensures.kept
    c.put_back.ensures.back (record {
      meanwhile = c.make-made.ensures.crash;
      reaches =
          c.make-made.ensures.reach;
    })

pub returns-in-Ok-made-clause-ok : goal.returns-in-Ok-made-clause-ok
returns-in-Ok-made-clause-ok g c = store_made g.O.Disk.Disk (snap_in c.args.folder.now
    c.args.session) c.deref.result.now c.deref-2.result.now
    c.in_ok-disk.disk c.make-made.new.disk
    (g.O.Outside.outside c.args.outside.now) (g.O.Outside.outside c.disk.new.self)
    (g.O.Outside.outside c.put_back.new.self) (c.deref.ensures ∙ c.in-Ok.ensures)
    (c.deref-2.ensures ∙ c.in-Ok.ensures)
    c.in_ok-disk.ensures.ok c.in_ok-disk.ensures.given c.make-made.ensures.kept
    c.put_back.ensures.back (record {
      meanwhile = c.make-made.ensures.crash;
      reaches =
          c.make-made.ensures.reach;
    })
    (record {
      over = c.in-Ok-made.ensures.ok;
      alone = c.in-Ok-made.ensures.value;
      count =
          c.in-Ok-made.ensures.faults;
    })

pub returns-in_err-disk-clause-stood : goal.returns-in_err-disk-clause-stood
returns-in_err-disk-clause-stood g c = λ none out stood.
    no_failure g.row.O-Disk.Denot _ _
    (fails_by_cause _ _ _ _ none c.in_err-disk.ensures.listed
    ∙ ap (λ n. is_out ((g.O.Outside.outside c.args.outside.now).loan n))
    (c.deref.ensures ∙ c.in-Ok.ensures) ∙ out) (λ e. search (rules))

pub returns-clause-stood : goal.returns-clause-stood
returns-clause-stood g c = λ none out stood failed.
    store_stood g.O.Disk.Disk c.deref.result.now c.deref-2.result.now c.in_ok-disk.disk _ _ _ _
    (c.deref.ensures ∙ c.in-Ok.ensures ∙ sym (c.deref-2.ensures ∙ c.in-Ok.ensures))
    c.in_ok-disk.ensures.ok c.put_back.ensures.back stood
    (search (rules))

pub returns-in_err-disk-clause-listed : goal.returns-in_err-disk-clause-listed
returns-in_err-disk-clause-listed g c =
    λ none. none_still _ _ _ _ none c.in_err-disk.ensures.listed

pub returns-clause-listed : goal.returns-clause-listed
returns-clause-listed g c =
    λ none. rw c.put_back.ensures.others.1 (none_still _ _ _ _ none c.in_ok-disk.ensures.listed)

pub returns-in-Ok-made-clause-listed : goal.returns-in-Ok-made-clause-listed
returns-in-Ok-made-clause-listed g c =
    λ none. rw c.put_back.ensures.others.1 (none_still _ _ _ _ none c.in_ok-disk.ensures.listed)

pub returns-in_err-disk-clause-back : goal.returns-in_err-disk-clause-back
returns-in_err-disk-clause-back g c =
    λ name out. ap is_out (c.in_err-disk.ensures.err name).1 ∙ out

pub returns-clause-back : goal.returns-clause-back
returns-clause-back g c =
    store_back g.O.Disk.Disk _ c.deref.result.now c.deref-2.result.now c.in_ok-disk.disk _ _ _ _
    (c.deref.ensures ∙ c.in-Ok.ensures) (c.deref-2.ensures ∙ c.in-Ok.ensures)
    c.in_ok-disk.ensures.ok c.put_back.ensures.back

pub returns-in-Ok-made-clause-back : goal.returns-in-Ok-made-clause-back
returns-in-Ok-made-clause-back g c =
    store_back g.O.Disk.Disk _ c.deref.result.now c.deref-2.result.now c.in_ok-disk.disk _ _ _ _
    (c.deref.ensures ∙ c.in-Ok.ensures) (c.deref-2.ensures ∙ c.in-Ok.ensures)
    c.in_ok-disk.ensures.ok c.put_back.ensures.back
