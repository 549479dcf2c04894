use Rattle.std.proofs.Common.{◌≡◌, ◌++◌, ◌∷◌, []}
use Rattle.std.proofs.lemmas.Result.{err_from_is_err_and}
use Rattle.snap_fields.specs.Reading.{many_at}
use Rattle.snap_fields.proofs.Loop.{goes_on, ends, is_done}
use Rattle.snap_fields.proofs.item.many.Goals as goal

pub returns-in_err-read : goal.returns-in_err-read
returns-in_err-read g c =
    let read = g.T.Item.read_as in
    let p = err_from_is_err_and c.from_residual.result c.from_residual.ensures.1 in
    rw (p.1, p.2) (ends read c.in_err-read.field-0.0 c.loop.items.items c.args.count c.loop.counter
    c.loop.from (many_at read c.args.count c.args.from.now) c.loop-test.true
    c.in_err-read.ensures c.loop.invariant)

pub loop-preserved : goal.loop-preserved
loop-preserved g c =
    let read = g.T.Item.read_as in
    let n = c.in_ok-read.field-0 in
    let e : c.push.new.self.items ≡ c.loop.items.items ++ n ∷ [] = c.in_ok-push.ensures.items in
    rw e (goes_on read c.loop.items.items c.args.count c.loop.counter c.loop.from n c.read.new.from
    (many_at read c.args.count c.args.from.now) c.loop-test.true c.in_ok-read.ensures
    c.loop.invariant)

pub returns : goal.returns
returns g c =
    let read = g.T.Item.read_as in
    rw c.of.ensures (is_done read c.loop.items.items c.args.count c.loop.counter c.loop.from
    (many_at read c.args.count c.args.from.now) c.loop-test.false c.loop.invariant)
