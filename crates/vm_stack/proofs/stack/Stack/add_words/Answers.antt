use Rattle.std.proofs.Common.{ℕ, List, length, length-append, arith, ap}
use Rattle.byteorder.specs.Numbers.{length-bytes_high_first}
use Rattle.vm_stack.specs.StackState.{StackState}
use Rattle.vm_stack.proofs.PlainLemmas.{word_more}
use Rattle.vm_stack.proofs.stack.Stack.add_words.Goals as goal

pub loop-put-preserved : goal.loop-put-preserved
loop-put-preserved c =
    let i = c.loop-put.invariant in
    let test = c.loop-put-test.true in
    let long = i.long in
    let l = ap (λ (s : StackState). length s.bytes) c.add.ensures in
    let a = length-append c.loop-put.self.bytes c.to_be_bytes.result in
    let w = ap (λ (xs : List ℕ). length xs) c.to_be_bytes.ensures in
    let b = length-bytes_high_first 4 c.value_at.result in
    record {
      same = rw (c.add.ensures, c.to_be_bytes.ensures, i.same)
          (ap (λ (xs : List ℕ). record {
            bytes = xs;
            frame = c.args.self.now.frame;
            limit = c.args.self.now.limit;
          })
          (word_more c.args.self.now.bytes c.args.values.now c.args.count c.loop-put.put
          c.value_at.result test c.value_at.ensures));
      inside = omega (arith, test);
      long = omega (arith, l, a, w, b, long);
    }
