use Rattle.std.proofs.Common.{◌≡◌, ◌≤◌, map, length, IsOk, Some}
use Rattle.line_talk.specs.Failing.{Failing}
use Rattle.host_top.specs.Calls.{NoneIsListed}
use Rattle.host_top.specs.Files.{KeepsDisks, KeepsDoors}
use Rattle.host_top.specs.Loads.{MakesLoads}
use Rattle.host_top.specs.Stories.{AreFiles, stories_of}
use Rattle.host_top.proofs.stories.load_files.Given as goal

abbrev pub invariant-loop-name : goal.invariant-loop-name
invariant-loop-name g l = record {
  are : AreFiles (g.O.Outside.outside l.initial.outside).file (map (λ n. n.now) l.names)
      (map (λ f. f.items) l.files.items);
  stories : IsOk (stories_of (map (λ f. f.items) l.files.items));
  count : length l.files.items ≡ l.name-index;
  kept : (g.O.Outside.outside l.outside).file ≡ (g.O.Outside.outside l.initial.outside).file;
  unlisted : NoneIsListed (g.O.Outside.failing_loads l.initial.outside)
      → NoneIsListed (g.O.Outside.failing_loads l.outside);
  loads : (calls : Failing) → g.O.Outside.failing_loads l.initial.outside ≡ Some calls
      → MakesLoads (g.O.Outside.outside l.initial.outside).file (map (λ n. n.now) l.names) calls
      (g.O.Outside.failing_loads l.outside) l.name-index;
  loans : g.O.Outside.failing_loans l.outside ≡ g.O.Outside.failing_loans l.initial.outside;
  disks : KeepsDisks (g.O.Outside.outside l.initial.outside) (g.O.Outside.outside l.outside);
  doors : KeepsDoors (g.O.Outside.outside l.initial.outside) (g.O.Outside.outside l.outside);
  later : (g.O.Outside.outside l.initial.outside).faults ≤ (g.O.Outside.outside l.outside).faults;
}
