use Rattle.std.proofs.Common.{◌≡◌, drop}
use Rattle.std.specs.List.{list_all}
use Rattle.glk_dispatch.specs.Fields.{window_fits}
use Rattle.glk_dispatch.proofs.fields.windows_fit.Given as goal

abbrev pub invariant-loop-window : goal.invariant-loop-window
invariant-loop-window l = record {
  sofar : list_all (window_fits l.glk) l.window-items
      ≡ list_all (window_fits l.glk) (drop l.window-index l.window-items);
}
