use Rattle.std.proofs.Common.{◌≡◌, ℕ, ◌-◌, ◌<◌, List, map, string_bytes, take, drop, Some}
use Rattle.std.proofs.Common.{slice_get}
use Rattle.host_top.specs.Borrowed.{PutsBack}
use Rattle.host_top.specs.Files.{IsLent, KeepsDoors, KeepsFiles}
use Rattle.host_top.proofs.lending.put_all_back.Given as goal

abbrev pub invariant-loop : goal.invariant-loop
invariant-loop g l = record {
  left : l.disks.items ≡ take (l.many - l.counter) l.initial.disks.items;
  back : PutsBack g.O.Disk.Disk.faults (drop (l.many - l.counter) (map string_bytes l.names))
      (drop (l.many - l.counter) l.initial.disks.items)
      (g.O.Outside.outside l.initial.outside) (g.O.Outside.outside l.outside);
  lent : (i : ℕ) (name : List ℕ) (disk : g.row.O-Disk.Denot) → i < l.many - l.counter
      → slice_get (map string_bytes l.names) i ≡ Some name
      → slice_get l.initial.disks.items i ≡ Some disk
      → IsLent ((g.O.Outside.outside l.outside).loan name) (g.O.Disk.Disk.label disk);
  files : KeepsFiles (g.O.Outside.outside l.initial.outside) (g.O.Outside.outside l.outside);
  doors : KeepsDoors (g.O.Outside.outside l.initial.outside) (g.O.Outside.outside l.outside);
}
