use Rattle.std.proofs.Common.{arith, ◌<◌, ◌-◌, rules}
use Rattle.std.proofs.lemmas.Result.{on_err_weaker}
use Rattle.glk_windows.proofs.PlacingLemmas.{placed_more, part_begun, part_gone_on, on_any_err}
use Rattle.glk_windows.proofs.placing.+place_at.Goals as goal

pub returns-in_ok-place_at-in-Some-clause-ok : goal.returns-in_ok-place_at-in-Some-clause-ok
returns-in_ok-place_at-in-Some-clause-ok t c =
    let h : 0 < c.args.depth = omega arith in
    rw (placed_more c.args.depth c.args.slots.now c.args.win c.args.area _ h c.in-Some.ensures)
    (search rules)

pub returns-in_err-place_at-in-Some-clause-err : goal.returns-in_err-place_at-in-Some-clause-err
returns-in_err-place_at-in-Some-clause-err t c =
    on_any_err _
    (part_begun c.args.slots.now c.size_at_number.new.slots c.place_at.new.slots
    c.args.win c.args.area
    c.in_ok-size_at_number.ensures.ok c.in_err-place_at-in-Some.ensures.err)

pub returns-in_ok-place_at-in-Some-clause-err : goal.returns-in_ok-place_at-in-Some-clause-err
returns-in_ok-place_at-in-Some-clause-err t c =
    on_err_weaker _
    (part_gone_on c.args.slots.now c.size_at_number.new.slots c.place_at.new.slots
    c.place_at-in-Some.new.slots
    c.args.win c.in-Some.pair.first (c.args.depth - 1) c.args.area _
    c.in_ok-size_at_number.ensures.ok c.in_ok-place_at-in-Some.ensures.ok)
    c.place_at-in-Some.ensures.err
