use Rattle.std.proofs.Common.{◌≡◌, ◌≤◌, ℕ, List, false}
use Rattle.host_top.specs.Begun.{MakesStores}
use Rattle.host_top.specs.Borrowed.{snaps_below}
use Rattle.host_top.specs.Calls.{NoneIsListed}
use Rattle.host_top.specs.Files.{KeepsDoors, KeepsFiles, is_out}
use Rattle.host_top.proofs.init.make_stores.Given as goal

abbrev pub invariant-loop-session : goal.invariant-loop-session
invariant-loop-session g l = record {
  made : MakesStores g.O.Disk.Disk (snaps_below l.folder l.session) (g.O.Outside.outside
      l.initial.outside)
      (g.O.Outside.outside l.outside);
  later : (g.O.Outside.outside l.initial.outside).disk_faults
      ≤ (g.O.Outside.outside l.outside).disk_faults;
  listed : NoneIsListed (g.O.Outside.failing_loans l.initial.outside)
      → NoneIsListed (g.O.Outside.failing_loans l.outside);
  back : (name : List ℕ)
      → is_out ((g.O.Outside.outside l.initial.outside).loan name) ≡ false
      → is_out ((g.O.Outside.outside l.outside).loan name) ≡ false;
  files : KeepsFiles (g.O.Outside.outside l.initial.outside) (g.O.Outside.outside l.outside);
  doors : KeepsDoors (g.O.Outside.outside l.initial.outside) (g.O.Outside.outside l.outside);
}
