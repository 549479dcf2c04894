use Rattle.std.proofs.Common.{arith, ap, ◌∙◌, ◌≡◌, suc, map, string_bytes, sym, refl, List, ℕ}
use Rattle.std.proofs.Common.{slice_get, Some}
use Rattle.std.proofs.lemmas.Option.{slice_get_within}
use Rattle.host_top.specs.Borrowed.{journal_in, snaps_below}
use Rattle.host_top.proofs.FolderLemmas.{all_put, journal_put, journal_still, may_put, none_put}
use Rattle.host_top.proofs.FolderLemmas.{parted, same_at, same_long, sixty_four, snap_put}
use Rattle.host_top.proofs.LendingLemmas.{named_at}
use Rattle.host_top.proofs.NameLemmas.{names_apart}
use Rattle.host_top.proofs.lending.put_folder_back.Given.{Over}
use Rattle.host_top.proofs.lending.put_folder_back.Goals.{In-Some, After-deref-in-Snap}
use Rattle.host_top.proofs.lending.put_folder_back.Goals as goal

-- the names that they are put back under
named : (g : Over) (c : In-Some g)
    → (string_bytes c.in-Some.journal_name.now ≡ journal_in c.args.names.now.folder.now)
    × (map string_bytes c.in-Some.snap_names.now ≡ snaps_below c.args.names.now.folder.now 64)
named g c = parted _ _ _ _ (sym c.deref.ensures.value ∙ c.in-Some.ensures.cases.0)
    c.args.names.now.named

pub put_all_back-requires-clause-many : goal.put_all_back-requires-clause-many
put_all_back-requires-clause-many g c = λ κs within.
    let same = same_long g.O.Disk.Disk _ _ (rw c.in-All.is at c.requires.out.4).1 in
    let is = named g (goal.at.put_all_back-requires-clause-many g c).In-Some in
    omega (arith, same, c.requires.out.3.many, sixty_four _ _ is.1)

pub put_all_back-requires-clause-names : goal.put_all_back-requires-clause-names
put_all_back-requires-clause-names g c = λ κs within.
    rw (sym (named g (goal.at.put_all_back-requires-clause-names g c).In-Some).1)
    at (names_apart c.args.names.now.folder.now).1

pub put_all_back-requires-clause-lent : goal.put_all_back-requires-clause-lent
put_all_back-requires-clause-lent g c = λ κs within i name disk at there.
    let same = same_at g.O.Disk.Disk _ _ i disk (rw c.in-All.is at c.requires.out.4).1 there in
    may_put c.requires.out.3 (suc i)
    (rw (named g (goal.at.put_all_back-requires-clause-lent g c).In-Some).1 at at)
    same.1 same.2

pub put_back-requires : goal.put_back-requires
put_back-requires g c =
    let is = named g (goal.at.put_back-requires g c).In-Some in
    rw (sym (c.deref-in-All.ensures ∙ is.0)) at (journal_still g.O.Disk.Disk _ _ _ _ _ _
    (names_apart c.args.names.now.folder.now).0 (rw is.1 at c.put_all_back.ensures.back)
    (may_put c.requires.out.3 0 refl refl (rw c.in-All.is at c.requires.out.4).0))

pub put_back-requires-in-Journal : goal.put_back-requires-in-Journal
put_back-requires-in-Journal g c =
    let is = named g (goal.at.put_back-requires-in-Journal g c).In-Some in
    rw (sym (c.deref-in-Journal.ensures ∙ is.0)) at (may_put c.requires.out.3 0 refl refl
    (rw c.in-Journal.is at c.requires.out.4))

pub bounds-snap_names-from : goal.bounds-snap_names-from
bounds-snap_names-from g c =
    let same = rw c.in-Snap.is at c.requires.out.4 in
    let low = slice_get_within c.requires.out.2 c.in-Snap.session same.0 same.1 in
    let is = named g (goal.at.bounds-snap_names-from g c).In-Some in
    omega (arith, low, c.from.ensures, c.requires.out.3.many, sixty_four _ _ is.1)

-- the name of the store's disk
snap_named : (g : Over) (c : After-deref-in-Snap g)
    → map string_bytes c.in-Some.snap_names.now ≡ snaps_below c.args.names.now.folder.now 64
    → slice_get (snaps_below c.args.names.now.folder.now 64) c.in-Snap.session
    ≡ Some c.deref-in-Snap.result.now
snap_named g c is =
    let same = rw c.in-Snap.is at c.requires.out.4 in
    let low = slice_get_within c.requires.out.2 c.in-Snap.session same.0 same.1 in
    rw is at (rw c.from.ensures at (named_at c.in-Some.snap_names.now c.from.result
    c.index-snap_names-from.result
    (omega (arith, low, c.from.ensures, c.requires.out.3.many, sixty_four _ _ is))
    c.index-snap_names-from.is))
    ∙ ap (λ (l : List ℕ). Some l) (sym c.deref-in-Snap.ensures)

pub put_back-requires-in-Snap : goal.put_back-requires-in-Snap
put_back-requires-in-Snap g c =
    let same = rw c.in-Snap.is at c.requires.out.4 in
    let is = named g (goal.at.put_back-requires-in-Snap g c).In-Some in
    may_put c.requires.out.3 (suc c.in-Snap.session)
    (snap_named g (goal.at.put_back-requires-in-Snap g c).After-deref-in-Snap is.1) same.1 same.2

pub returns-in-All-clause-back : goal.returns-in-All-clause-back
returns-in-All-clause-back g c = λ before given givens out back.
    let same = rw c.in-All.is at back in
    let is = named g (goal.at.returns-in-All-clause-back g c).In-Some in
    all_put out c.in-All.is same.0 same.1 (rw is.1 at c.put_all_back.ensures.back)
    (rw (c.deref-in-All.ensures ∙ is.0) at c.put_back.ensures.back)

pub returns-in-Journal-clause-back : goal.returns-in-Journal-clause-back
returns-in-Journal-clause-back g c = λ before given givens out back.
    let is = named g (goal.at.returns-in-Journal-clause-back g c).In-Some in
    journal_put out c.in-Journal.is (rw c.in-Journal.is at back)
    (rw (c.deref-in-Journal.ensures ∙ is.0) at c.put_back-in-Journal.ensures.back)

pub returns-in-Snap-clause-back : goal.returns-in-Snap-clause-back
returns-in-Snap-clause-back g c = λ before given givens out back.
    let same = rw c.in-Snap.is at back in
    let is = named g (goal.at.returns-in-Snap-clause-back g c).In-Some in
    snap_put out c.in-Snap.is
    (snap_named g (goal.at.returns-in-Snap-clause-back g c).After-deref-in-Snap is.1)
    same.1 same.2 c.put_back-in-Snap.ensures.back

pub returns-in-Nothing-clause-back : goal.returns-in-Nothing-clause-back
returns-in-Nothing-clause-back g c = λ before given givens out back. none_put out c.in-Nothing.is
