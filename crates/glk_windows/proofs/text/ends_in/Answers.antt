use Rattle.std.proofs.Common.{arith, ◌≡◌, ◌<◌, length}
use Rattle.std.proofs.lemmas.Grind.{common_steps}
use Rattle.glk_windows.proofs.RunLemmas.{ends_in-last, ends_in-none}
use Rattle.glk_windows.proofs.text.ends_in.Goals as goal

pub returns-then-count-gt0-clause-value : goal.returns-then-count-gt0-clause-value
returns-then-count-gt0-clause-value c =
    let h : 0 < length c.args.runs.now = omega arith in
    ends_in-last c.args.runs.now c.args.style c.index-runs-count.result h

pub returns-else-count-gt0-clause-value : goal.returns-else-count-gt0-clause-value
returns-else-count-gt0-clause-value c =
    let e : length c.args.runs.now ≡ 0 = omega arith in
    let f : _ = ends_in-none c.args.runs.now c.args.style e in
    grind (arith, common_steps, e, f)
