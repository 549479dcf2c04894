use Rattle.std.proofs.Common.{ℕ, ◌+◌, ◌-◌, ◌∙◌, ap, sym, arith, List}
use Rattle.vm_exec.specs.Rows.Text as rows
use Rattle.vm_exec.proofs.ArgumentLemmas.{one_less}
use Rattle.vm_exec.proofs.WordLemmas.{behind, words-more, words-stop, words-end}
use Rattle.vm_exec.proofs.text.read_words.Goals as goal

pub returns-in-Err : goal.returns-in-Err
returns-in-Err c =
    rw c.from.ensures
    (c.loop.invariant
    ∙ words-stop c.args.memory.now c.loop.place (c.args.count - c.loop.counter)
    (c.args.count - (c.loop.counter + 1)) c.in-Err.fault c.loop.words.items
    (one_less c.args.count c.loop.counter c.loop-test.true) (sym c.in-Err.ensures.value))

pub loop-preserved : goal.loop-preserved
loop-preserved c =
    c.loop.invariant
    ∙ words-more c.args.memory.now c.loop.place c.in-Ok.word (c.args.count - c.loop.counter)
    (c.args.count - (c.loop.counter + 1)) c.loop.words.items
    (one_less c.args.count c.loop.counter c.loop-test.true) (sym c.in-Ok.ensures.value)
    ∙ ap (λ (ys : List ℕ). behind ys
    (rows.words_at c.args.memory.now (c.loop.place + 4) (c.args.count - (c.loop.counter + 1))))
    (sym c.in_ok-keep.ensures.items)

pub returns : goal.returns
returns c =
    c.loop.invariant
    ∙ words-end c.args.memory.now c.loop.place (c.args.count - c.loop.counter) c.loop.words.items
    (omega (arith, c.loop-test.false))
