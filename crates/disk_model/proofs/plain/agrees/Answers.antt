use Rattle.std.proofs.Common.{rules, length, sym, arith}
use Rattle.std.proofs.lemmas.Bool.Decides.{nat_tests}
use Rattle.disk_model.proofs.PlainLaws.{agree_off}
use Rattle.disk_model.proofs.plain.agrees.Goals as goal

pub returns-then-image-place : goal.returns-then-image-place
returns-then-image-place c =
    sym (agree_off (length c.args.synced.now) c.loop-place.place c.args.synced.now c.args.ranges.now
    c.args.image.now (search rules)
    (grind (
      arith,
      nat_tests,
      c.is_touched.ensures,
      c.if-not-is_touched.true,
      c.if-image-place.true,
    )))
