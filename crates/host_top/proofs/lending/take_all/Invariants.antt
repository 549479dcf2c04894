use Rattle.std.proofs.Common.{◌≡◌, ◌≤◌, length, map, string_bytes, vec_capacity}
use Rattle.host_top.specs.Borrowed.{Borrowed, lent_as}
use Rattle.host_top.specs.Calls.{NoneIsListed}
use Rattle.host_top.specs.Files.{KeepsDoors, KeepsFiles}
use Rattle.host_top.proofs.lending.take_all.Given as goal

abbrev pub invariant-loop-name : goal.invariant-loop-name
invariant-loop-name g l = record {
  many : length l.disks.items ≡ l.name-index;
  room : length l.names ≤ vec_capacity l.disks;
  borrowed : Borrowed g.O.Disk.Disk (g.O.Outside.outside l.initial.outside)
      (g.O.Outside.outside l.outside)
      (lent_as (map string_bytes l.names) l.disks.items);
  count : (g.O.Outside.outside l.outside).disk_faults
      ≡ (g.O.Outside.outside l.initial.outside).disk_faults;
  listed : NoneIsListed (g.O.Outside.failing_loans l.initial.outside)
      → NoneIsListed (g.O.Outside.failing_loans l.outside);
  files : KeepsFiles (g.O.Outside.outside l.initial.outside) (g.O.Outside.outside l.outside);
  doors : KeepsDoors (g.O.Outside.outside l.initial.outside) (g.O.Outside.outside l.outside);
}
