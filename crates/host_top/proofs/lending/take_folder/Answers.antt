use Rattle.std.proofs.Common.{ap, ◌∙◌, ◌≡◌, map, string_bytes, subst, sym, refl}
use Rattle.host_top.specs.Borrowed.{AreDifferentNames, names_of}
use Rattle.host_top.proofs.BegunLemmas.{fetch_cause}
use Rattle.host_top.proofs.FolderLemmas.{none_out, short_names, taken}
use Rattle.host_top.proofs.LendingLemmas.{failed_so}
use Rattle.host_top.proofs.NameLemmas.{names_apart}
use Rattle.host_top.proofs.UsedLemmas.{not_lent, not_taken}
use Rattle.host_top.proofs.lending.take_folder.Given.{Over}
use Rattle.host_top.proofs.lending.take_folder.Goals.{After-deref}
use Rattle.host_top.proofs.lending.take_folder.Goals as goal

-- the names, as they are gone through
named : (g : Over) (c : After-deref g)
    → map string_bytes c.deref.result.now ≡ names_of c.in-Ok.names.folder.now
named g c = ap (map string_bytes) c.deref.ensures.value ∙ c.in-Ok.names.named

pub returns-in_default-clause-err : goal.returns-in_default-clause-err
returns-in_default-clause-err g c = λ input output. not_lent g.O.Disk.Disk _ _ input output

pub take_all-requires-clause-names : goal.take_all-requires-clause-names
take_all-requires-clause-names g c = λ κs within.
    subst AreDifferentNames
    (sym (named g (goal.at.take_all-requires-clause-names g c).After-deref)) (names_apart _)

pub returns-in-Ok-take_all-clause-ok : goal.returns-in-Ok-take_all-clause-ok
returns-in-Ok-take_all-clause-ok g c = (
  c.in-Ok.ensures,
  taken g.O.Disk.Disk _ _ _ _ _ _ _
      (named g (goal.at.returns-in-Ok-take_all-clause-ok g c).After-deref)
      (c.in-Ok-take_all.ensures.ok.0 ∙ short_names _) c.remove-journal.ensures.value
      c.remove-journal.ensures.items c.in-Ok-take_all.ensures.ok.1 c.in-Ok-take_all.ensures.count,
)

pub returns-clause-err : goal.returns-clause-err
returns-clause-err g c = λ input output.
    not_taken g.O.Disk.Disk _ _ _ input output _
    (fetch_cause c.in-Err.why _ (g.O.Outside.outside c.args.outside.now)
    (g.O.Outside.outside c.take_all.new.outside) refl c.in-Err.ensures.cause)
    (rw (named g (goal.at.returns-clause-err g c).After-deref ∙ ap names_of c.in-Ok.ensures)
    at c.in-Err.ensures.err)

pub returns-clause-unlisted : goal.returns-clause-unlisted
returns-clause-unlisted g c = λ none out failed.
    c.in-Err.ensures.unlisted none (none_out _ _ out) (failed_so c.in-Err.why failed)
