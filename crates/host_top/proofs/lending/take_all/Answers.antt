use Rattle.std.proofs.Common.{arith, refl, rules, sym, subst, ap, ◌∙◌, ◌≡◌, [], ℕ, List}
use Rattle.std.proofs.Common.{Some, map, string_bytes, length, slice_get}
use Rattle.host_top.specs.Borrowed.{Borrowed, lent_as}
use Rattle.host_top.specs.Files.{is_out}
use Rattle.host_top.proofs.BorrowLemmas.{lent_one}
use Rattle.host_top.proofs.CallsLemmas.{fails_by_cause, no_failure, none_still}
use Rattle.host_top.proofs.LoansLemmas.{doors_none, doors_then, files_then, lent_nothing}
use Rattle.host_top.proofs.LendingLemmas.{cause_failed, each_at, named_at, next_loan, none_lent}
use Rattle.host_top.proofs.LendingLemmas.{puts_later, take_more, take_not}
use Rattle.host_top.proofs.lending.take_all.Given.{Over}
use Rattle.host_top.proofs.lending.take_all.Goals.{After-deref}
use Rattle.host_top.proofs.lending.take_all.Goals as goal

pub returns-in_default-clause-err : goal.returns-in_default-clause-err
returns-in_default-clause-err g c =
    ([], tt, (λ other away. tt), lent_nothing g.O.Disk.Disk _ _ (λ other. (refl, refl)))

-- the name of a turn
named : (g : Over) (c : After-deref g)
    → slice_get (map string_bytes c.args.names.now) (length c.loop-name.disks.items)
    ≡ Some c.deref.result.now
named g c = subst (λ (n : ℕ). slice_get (map string_bytes c.args.names.now) n
    ≡ Some (string_bytes c.name-item.result)) (sym c.loop-name.invariant.many)
    (named_at c.args.names.now c.loop-name.name-index c.name-item.result c.loop-name-test.true
    c.name-item.is) ∙ ap (λ (l : List ℕ). Some l) (sym c.deref.ensures)

pub loop-name-init : goal.loop-name-init
loop-name-init g c = record {
  many = ap length c.in-Ok.ensures.items;
  room = omega (arith, c.in-Ok.ensures.capacity);
  borrowed =
      none_lent _ (g.O.Outside.outside c.args.outside.now) (map string_bytes c.args.names.now)
      c.in-Ok.disks.items c.in-Ok.ensures.items;
  count = refl;
  listed = λ none. none;
  files = record { file = refl; faults = refl };
  doors = doors_none _;
}

pub put_all_back-requires-clause-lent : goal.put_all_back-requires-clause-lent
put_all_back-requires-clause-lent g c = λ lifetimes within.
    (take_not g.O.Disk.Disk (g.O.Outside.outside c.args.outside.now)
    (g.O.Outside.outside c.loop-name.outside) (g.O.Outside.outside c.disk.new.self)
    (map string_bytes c.args.names.now) c.loop-name.disks.items c.requires.names
    c.loop-name.invariant.borrowed c.in-Err.ensures.err).0

pub returns-in-Err-clause-err : goal.returns-in-Err-clause-err
returns-in-Err-clause-err g c =
    (take_not g.O.Disk.Disk (g.O.Outside.outside c.args.outside.now)
    (g.O.Outside.outside c.loop-name.outside) (g.O.Outside.outside c.disk.new.self)
    (map string_bytes c.args.names.now) c.loop-name.disks.items c.requires.names
    c.loop-name.invariant.borrowed c.in-Err.ensures.err).1
    (g.O.Outside.outside c.put_all_back.new.outside) c.put_all_back.ensures.back

pub returns-in-Err-clause-cause : goal.returns-in-Err-clause-cause
returns-in-Err-clause-cause g c =
    cause_failed c.in-Err.why (g.O.Outside.outside c.args.outside.now)
    (g.O.Outside.outside c.loop-name.outside) (g.O.Outside.outside c.disk.new.self)
    (g.O.Outside.outside c.put_all_back.new.outside)
    c.loop-name.invariant.count c.in-Err.ensures.cause
    (puts_later _ _ _ _ _ c.put_all_back.ensures.back)

pub returns-in-Err-clause-later : goal.returns-in-Err-clause-later
returns-in-Err-clause-later g c =
    let back = puts_later _ _ _ _ _ c.put_all_back.ensures.back in
    omega (arith, back, c.in-Err.ensures.later, c.loop-name.invariant.count)

pub returns-in-Err-clause-unlisted : goal.returns-in-Err-clause-unlisted
returns-in-Err-clause-unlisted g c = λ none each.
    let at = named g (goal.at.returns-in-Err-clause-unlisted g c).After-deref in
    no_failure g.row.O-Disk.Denot _ _
    (fails_by_cause _ _ _ _ (c.loop-name.invariant.listed none) c.in-Err.ensures.listed
    ∙ ap is_out (next_loan g.O.Disk.Disk _ _ _ _ _ c.requires.names at
    c.loop-name.invariant.borrowed)
    ∙ each_at _ _ _ _ each at) (λ e. search (rules))

pub loop-name-preserved : goal.loop-name-preserved
loop-name-preserved g c =
    let at = named g (goal.at.loop-name-preserved g c).After-deref in
    record {
      many = omega (arith, c.push_reserved.ensures.len, c.loop-name.invariant.many);
      room = omega (arith, c.push_reserved.ensures.capacity, c.loop-name.invariant.room);
      borrowed =
          subst (λ (l : List g.row.O-Disk.Denot). Borrowed g.O.Disk.Disk
          (g.O.Outside.outside c.args.outside.now) (g.O.Outside.outside c.disk.new.self)
          (lent_as (map string_bytes c.args.names.now) l)) (sym c.push_reserved.ensures.items)
          (take_more g.O.Disk.Disk _ _ _ _ c.loop-name.disks.items _ c.in-Ok-disk.disk
          c.requires.names at c.loop-name.invariant.borrowed
          (lent_one _ _ c.in-Ok-disk.disk _ _ c.in-Ok-disk.ensures.ok c.in-Ok-disk.ensures.given));
      count = c.in-Ok-disk.ensures.ok.count ∙ c.loop-name.invariant.count;
      listed = λ none. none_still _ _ _ _ (c.loop-name.invariant.listed none)
          c.in-Ok-disk.ensures.listed;
      files = files_then c.loop-name.invariant.files c.disk.ensures.files;
      doors = doors_then c.loop-name.invariant.doors c.disk.ensures.doors;
    }
