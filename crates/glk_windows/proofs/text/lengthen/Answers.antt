use Rattle.std.proofs.Common.{arith, slice_index_or, length, ◌-◌}
use Rattle.std.proofs.lemmas.Grind.{common_steps}
use Rattle.glk_windows.proofs.RunLemmas.{longer-last}
use Rattle.glk_windows.proofs.text.lengthen.Goals as goal

pub returns : goal.returns
returns c =
    let f = longer-last c.args.runs.now c.args.code c.index-runs-last.result
    (record {
      style =
          (slice_index_or c.args.runs.now
          (length c.args.runs.now - 1) c.index-runs-last.result).style;
      codes = c.push.new.self;
    }) c.requires in
    grind (arith, common_steps, f)
