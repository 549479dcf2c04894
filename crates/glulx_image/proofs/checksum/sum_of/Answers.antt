use Rattle.std.proofs.Common.{◌≡◌, refl, arith}
use Rattle.glulx_image.specs.Checksum.{sum_of_words}
use Rattle.glulx_image.proofs.SumLemmas.{sum_of_words-next}
use Rattle.glulx_image.proofs.checksum.sum_of.Goals as goal

pub loop-k-init : goal.loop-k-init
unfolding sum_of_words
loop-k-init c = refl

pub loop-k-preserved : goal.loop-k-preserved
loop-k-preserved c =
    rw c.word_to_sum-sum.ensures
    (sum_of_words-next c.args.bytes.now c.loop-k.k c.loop-k.sum c.loop-k.invariant)

pub returns : goal.returns
returns c =
    let last : c.loop-k.k ≡ c.args.words =
    omega (arith, c.loop-k-test.false, c.loop-k.auto.k-end) in
    rw (← last) c.loop-k.invariant
