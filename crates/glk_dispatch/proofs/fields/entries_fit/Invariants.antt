use Rattle.std.proofs.Common.{◌≡◌, drop}
use Rattle.std.specs.List.{list_all}
use Rattle.glk_dispatch.specs.Fields.{entry_fits}
use Rattle.glk_dispatch.proofs.fields.entries_fit.Given as goal

abbrev pub invariant-loop-entry : goal.invariant-loop-entry
invariant-loop-entry l = record {
  sofar : list_all (entry_fits l.glk) l.entry-items
      ≡ list_all (entry_fits l.glk) (drop l.entry-index l.entry-items);
}
