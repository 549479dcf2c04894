use Rattle.std.proofs.Common.{◌+◌, ◌-◌, ℕ, take, drop, arith, ap}
use Rattle.vm_stack.proofs.SavedLemmas.{rest_size, no_frame, read_frame, frame_read}
use Rattle.vm_stack.proofs.saved.is_frame.Goals as goal

pub returns-then-size-eq0-clause-found : goal.returns-then-size-eq0-clause-found
returns-then-size-eq0-clause-found c =
    no_frame c.args.room c.args.bytes.now c.format_len-size.result
    (rest_size c.args.bytes.now c.format_len-size.result c.format_len-size.ensures.value)
    c.if-size-eq0.true

pub returns-clause-only : goal.returns-clause-only
returns-clause-only c = λ yes.
    read_frame c.args.room c.args.bytes.now
    (take (8 + c.format_len-size.result - 8) (drop 8 c.args.bytes.now)) c.format_len-size.result
    (rest_size c.args.bytes.now c.format_len-size.result c.format_len-size.ensures.value)
    c.if-size-eq0.false (ap (λ (n : ℕ). take n (drop 8 c.args.bytes.now)) (omega arith))
    (c.is_frame_of.ensures.long yes) (c.is_frame_of.ensures.fours yes) c.requires.size
    (c.is_frame_of.ensures.head yes)

pub returns-clause-found : goal.returns-clause-found
returns-clause-found c =
    frame_read c.args.room c.args.bytes.now
    (take (8 + c.format_len-size.result - 8) (drop 8 c.args.bytes.now))
    c.format_len-size.result c.is_frame_of.result
    (rest_size c.args.bytes.now c.format_len-size.result c.format_len-size.ensures.value)
    (ap (λ (n : ℕ). take n (drop 8 c.args.bytes.now)) (omega arith)) c.is_frame_of.ensures.found
