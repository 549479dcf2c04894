use Rattle.std.proofs.Common.{sym, ◌∙◌, arith, refl, slice_index, ◌+◌}
use Rattle.vm_flow.proofs.FormatLemmas.{pairs_none, pairs_next, pairs_end, pairs_end_format}
use Rattle.vm_flow.proofs.FormatLemmas.{pairs_stop, pairs_short}
use Rattle.vm_flow.proofs.format.format_len.Goals as goal

pub loop-read-init : goal.loop-read-init
loop-read-init c = pairs_none c.args.bytes.now

pub returns-then-is_end-clause-ok : goal.returns-then-is_end-clause-ok
returns-then-is_end-clause-ok c =
    let left = c.loop-read-test.true in
    pairs_end c.args.bytes.now c.loop-read.read (slice_index c.args.bytes.now c.loop-read.read)
    (slice_index c.args.bytes.now (c.loop-read.read + 1)) c.loop-read.invariant
    (omega (arith, left)) refl refl (sym c.is_end.ensures ∙ c.if-is_end.true)

pub returns-then-is_end-clause-format : goal.returns-then-is_end-clause-format
returns-then-is_end-clause-format c =
    let left = c.loop-read-test.true in
    pairs_end_format c.args.bytes.now c.loop-read.read
    (slice_index c.args.bytes.now c.loop-read.read)
    (slice_index c.args.bytes.now (c.loop-read.read + 1)) c.loop-read.invariant
    (omega (arith, left)) refl refl (sym c.is_end.ensures ∙ c.if-is_end.true)

pub loop-read-preserved : goal.loop-read-preserved
loop-read-preserved c =
    let left = c.loop-read-test.true in
    pairs_next c.args.bytes.now c.loop-read.read (slice_index c.args.bytes.now c.loop-read.read)
    (slice_index c.args.bytes.now (c.loop-read.read + 1)) c.loop-read.invariant
    (omega (arith, left)) refl refl (sym c.is_end.ensures ∙ c.if-is_end.false)
    (sym c.is_local_type.ensures ∙ c.if-not-is_local_type.false)

pub returns-then-not-is_local_type-clause-none : goal.returns-then-not-is_local_type-clause-none
returns-then-not-is_local_type-clause-none c =
    let left = c.loop-read-test.true in
    pairs_stop c.args.bytes.now c.loop-read.read (slice_index c.args.bytes.now c.loop-read.read)
    (slice_index c.args.bytes.now (c.loop-read.read + 1)) c.loop-read.invariant
    (omega (arith, left)) refl refl (sym c.is_end.ensures ∙ c.if-is_end.false)
    (sym c.is_local_type.ensures ∙ c.if-not-is_local_type.true)

pub returns-clause-none : goal.returns-clause-none
returns-clause-none c =
    pairs_short c.args.bytes.now c.loop-read.read c.loop-read.invariant c.loop-read-test.false
