use Rattle.std.proofs.Common.{take, arith, sym, ◌∙◌}
use Rattle.std.proofs.lemmas.List.{length-take-le}
use Rattle.vm_stack.proofs.LinkLemmas.{framed_down, framed_low, framed_top, framed_up, no_frames}
use Rattle.vm_stack.proofs.stack.Stack.is_framed.Goals as goal

pub returns-then-start-bytes-clause-found : goal.returns-then-start-bytes-clause-found
returns-then-start-bytes-clause-found c = λ chain has.
    let inside =
    (framed_down c.args.self.now c.live-bytes.result.now c.frame-start.result
    c.live-bytes.ensures.bytes c.frame-start.ensures chain has).inside in
    let out = c.if-start-bytes.true in
    absurd (omega (arith, inside, out))

pub returns-then-not-is_frame-clause-found : goal.returns-then-not-is_frame-clause-found
returns-then-not-is_frame-clause-found c = λ chain has.
    sym c.if-not-is_frame.true
    ∙ c.is_frame.ensures.found
    (framed_top c.args.self.now c.live-bytes.result.now c.frame-start.result
    c.live-bytes.ensures.bytes c.frame-start.ensures chain has)

pub returns-then-start-eq0-clause-only : goal.returns-then-start-eq0-clause-only
returns-then-start-eq0-clause-only c = λ yes.
    let inside = c.if-start-bytes.false in
    let zero = c.if-start-eq0.true in
    let short =
    length-take-le c.frame-start.result c.live-bytes.result.now (omega (arith, inside)) in
    framed_up c.args.self.now c.live-bytes.result.now c.frame-start.result
    c.live-bytes.ensures.bytes c.frame-start.ensures c.if-start-bytes.false
    (c.is_frame.ensures.only c.if-not-is_frame.false)
    (no_frames (take c.frame-start.result c.live-bytes.result.now) (omega (arith, short, zero)))

pub returns-else-start-eq0-clause-only : goal.returns-else-start-eq0-clause-only
returns-else-start-eq0-clause-only c = λ yes.
    framed_up c.args.self.now c.live-bytes.result.now c.frame-start.result
    c.live-bytes.ensures.bytes c.frame-start.ensures c.if-start-bytes.false
    (c.is_frame.ensures.only c.if-not-is_frame.false) (c.is_chain.ensures.only yes).linked

pub returns-else-start-eq0-clause-found : goal.returns-else-start-eq0-clause-found
returns-else-start-eq0-clause-found c = λ chain has.
    c.is_chain.ensures.found
    (framed_low c.args.self.now c.live-bytes.result.now c.frame-start.result
    c.live-bytes.ensures.bytes c.frame-start.ensures c.if-start-eq0.false chain has)
