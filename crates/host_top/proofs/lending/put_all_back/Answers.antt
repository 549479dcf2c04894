use Rattle.std.proofs.Common.{arith, refl, sym, subst, ap, ◌∙◌, ◌≡◌, ◌-◌, ◌+◌, ◌++◌, suc, ℕ, List}
use Rattle.std.proofs.Common.{Option, Some, map, string_bytes, length, take, slice_get, ◌<◌}
use Rattle.std.proofs.lemmas.List.{length-take-le}
use Rattle.std.proofs.Math.Seq.{take-length}
use Rattle.std.specs.Option.{option_to_list}
use Rattle.host_top.proofs.LoansLemmas.{doors_none, doors_then, files_then}
use Rattle.host_top.proofs.LendingLemmas.{lent_beside, named_at, pop_last, puts_more, puts_none}
use Rattle.host_top.proofs.lending.put_all_back.Given.{Over}
use Rattle.host_top.proofs.lending.put_all_back.Goals.{After-deref}
use Rattle.host_top.proofs.lending.put_all_back.Goals as goal

-- the place of the disk that a turn puts back
abbrev place : (g : Over) → After-deref g → ℕ
place g c = c.len-many.result - (c.loop.counter + 1)

next : (g : Over) (c : After-deref g) → c.len-many.result - c.loop.counter ≡ suc (place g c)
next g c = omega (arith, c.loop-test.true)

-- it is the last of those that are left
last : (g : Over) (c : After-deref g)
    → (c.pop.new.self.items ≡ take (place g c) c.args.disks.items)
    × (slice_get c.args.disks.items (place g c) ≡ Some c.in-Some.disk)
last g c = pop_last c.args.disks.items (place g c) c.pop.new.self.items c.in-Some.disk
    (sym (c.pop.ensures.items ∙ ap (λ (o : Option g.row.O-Disk.Denot). c.pop.new.self.items
    ++ option_to_list o) c.in-Some.is) ∙ c.loop.invariant.left
    ∙ ap (λ (n : ℕ). take n c.args.disks.items) (next g c))
    (omega (arith, c.loop-test.true, c.len-many.ensures, c.args.disks.ok))

-- and its name stands there
named : (g : Over) (c : After-deref g)
    → slice_get (map string_bytes c.args.names.now) (place g c) ≡ Some c.deref.result.now
named g c =
    let within : place g c < length c.args.disks.items =
    omega (arith, c.loop-test.true, c.len-many.ensures, c.args.disks.ok) in
    let long : c.len.result ≡ place g c =
    omega (
      arith,
      c.len.ensures,
      c.pop.new.self.ok,
      ap length (last g c).0,
      length-take-le (place g c) c.args.disks.items (omega (arith, within)),
    ) in
    subst (λ (n : ℕ). slice_get (map string_bytes c.args.names.now) n ≡ Some
    (string_bytes c.index-names-len.result)) long
    (named_at c.args.names.now c.len.result c.index-names-len.result
    (omega (arith, long, within, c.requires.many)) c.index-names-len.is)
    ∙ ap (λ (l : List ℕ). Some l) (sym c.deref.ensures)

pub loop-init : goal.loop-init
loop-init g c = record {
  left =
      sym (ap (λ (n : ℕ). take n c.args.disks.items)
      (omega (arith, c.len-many.ensures, c.args.disks.ok)) ∙ take-length c.args.disks.items);
  back =
      puts_none g.O.Disk.Disk.faults (map string_bytes c.args.names.now) c.args.disks.items
      (g.O.Outside.outside c.args.outside.now) _
      (omega (arith, c.len-many.ensures, c.args.disks.ok));
  lent = λ i name disk low. c.requires.lent i name disk;
  files = record { file = refl; faults = refl };
  doors = doors_none _;
}

pub put_back-requires : goal.put_back-requires
put_back-requires g c = let turn = (goal.at.put_back-requires g c).After-deref in
    c.loop.invariant.lent (place g turn) c.deref.result.now c.in-Some.disk
    (omega (arith, next g turn)) (named g turn) (last g turn).1

pub loop-preserved : goal.loop-preserved
loop-preserved g c = let turn = (goal.at.loop-preserved g c).After-deref in
    record {
      left = (last g turn).0;
      back =
          puts_more g.O.Disk.Disk.faults (map string_bytes c.args.names.now) c.args.disks.items
          (place g turn) c.deref.result.now c.in-Some.disk _ (g.O.Outside.outside c.loop.outside)
          (g.O.Outside.outside c.put_back.new.self) (rw (next g turn) at c.loop.invariant.back)
          (named g turn) (last g turn).1 c.put_back.ensures.back;
      lent =
          λ i name disk low there is. lent_beside g.O.Disk.Disk.faults
          (map string_bytes c.args.names.now) i (place g turn) c.deref.result.now name
          c.in-Some.disk (g.O.Outside.outside c.loop.outside)
          (g.O.Outside.outside c.put_back.new.self) (g.O.Disk.Disk.label disk) c.requires.names
          (named g turn) there low c.put_back.ensures.back
          (c.loop.invariant.lent i name disk (omega (arith, low, next g turn)) there is);
      files = files_then c.loop.invariant.files c.put_back.ensures.files;
      doors = doors_then c.loop.invariant.doors c.put_back.ensures.doors;
    }
