use Rattle.std.proofs.Common.{append_assoc, arith, rules}
use Rattle.std.proofs.lemmas.List.FromFn.{map-range_with_len_more}
use Rattle.story_make.specs.Script.{letter}
use Rattle.story_make.proofs.line.push_letters.Goals as goal

pub loop-i-preserved : goal.loop-i-preserved
loop-i-preserved c =
    let i = c.loop-i.i in
    rw (map-range_with_len_more (letter c.args.word) 0 i i (omega arith))
    (search (rules, append_assoc))
