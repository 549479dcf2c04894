use Rattle.std.proofs.Common.{ℕ, List, ◌+◌, drop}
use Rattle.std.proofs.lemmas.Result.{err_from_is_err_and}
use Rattle.std.specs.List.{flat_map}
use Rattle.line_talk.proofs.WritingLemmas.{stopped_within, upto_more, upto_none}
use Rattle.host_top.proofs.ReplayLemmas.{none_behind, texts_behind, upto_all}
use Rattle.host_top.proofs.replay.write_texts.Goals as goal

abbrev itself : List ℕ → List ℕ
itself text = text

pub loop-text-init : goal.loop-text-init
loop-text-init g c = upto_none _ _

pub loop-text-preserved : goal.loop-text-preserved
loop-text-preserved g c =
    let texts = c.args.texts.now in
    let i = c.loop-text.text-index in
    upto_more c.loop-text.invariant c.text-item.result (flat_map itself (drop (i + 1) texts))
    (texts_behind itself texts i c.text-item.result c.loop-text-test.true c.text-item.is)
    (rw c.as_slice.ensures at c.in_ok-write_all.ensures.ok)

pub returns-in_err-write_all-clause-err : goal.returns-in_err-write_all-clause-err
returns-in_err-write_all-clause-err g c =
    let texts = c.args.texts.now in
    let i = c.loop-text.text-index in
    let p = err_from_is_err_and c.from_residual.result c.from_residual.ensures.1 in
    rw (p.1, p.2)
    (stopped_within c.loop-text.invariant (flat_map itself (drop (i + 1) texts))
    (texts_behind itself texts i c.text-item.result c.loop-text-test.true c.text-item.is)
    (rw c.as_slice.ensures at c.in_err-write_all.ensures.err))

pub returns-clause-ok : goal.returns-clause-ok
returns-clause-ok g c =
    upto_all (rw (none_behind itself c.args.texts.now c.loop-text.text-index
    c.loop-text-test.false) at c.loop-text.invariant)
