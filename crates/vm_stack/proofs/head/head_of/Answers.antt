use Rattle.std.proofs.Common.{ℕ, ◌+◌, ap, sym, arith}
use Rattle.vm_stack.proofs.head.head_of.Goals as goal

pub returns : goal.returns
returns c =
    let above = c.if-locals-frame.false in
    let order = c.if-values-locals.false in
    let below = c.if-bytes-values.false in
    let small = c.requires in
    record {
      whole = λ _. record {
        above = above;
        span = omega (arith, order);
        below = below;
        locals = ap (λ (n : ℕ). c.args.frame + n) (sym c.held.ensures);
        values = ap (λ (n : ℕ). c.args.frame + n) (sym c.held-2.ensures);
      };
      spans = λ _. omega (arith, below, small);
    }
