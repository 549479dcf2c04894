use Rattle.std.proofs.Common.{◌≡◌, ◌+◌, true, false, ℕ, ◌/◌, inl, inr, add-zero, sym, ◌∙◌, arith}
use Rattle.std.proofs.lemmas.Bool.{cases_lt}
use Rattle.vm_memory.specs.Pages.{laid}
use Rattle.vm_memory.proofs.OwnLemmas.{own_more, own_stop, counted, one_if}
use Rattle.vm_memory.proofs.laid.count_own.Goals as goal
use Rattle.vm_memory.proofs.laid.count_own.Goals.{then-is_own, else-is_own}

pub loop-number-preserved : goal.loop-number-preserved
loop-number-preserved c =
    let bytes = laid c.args.rom.now c.args.ramstart c.args.rows.now c.args.size in
    let n = c.loop-number.number in
    let next = λ (own : ℕ) (e : own ≡ one_if c.is_own.result).
    own_more c.args.rom.now bytes n c.loop-number.count own c.is_own.result
    c.loop-number.invariant.count c.is_own.ensures e in
    record {
      count = elim c.if-is_own.branch [
        | then-is_own w ↦ w.count-is ∙ next 1 (sym (counted c.is_own.result true w.if-is_own.true))
        | else-is_own w ↦
            w.count-is ∙ sym (add-zero c.loop-number.count)
            ∙ next 0 (sym (counted c.is_own.result false w.if-is_own.false))
      ];
      few = elim c.if-is_own.branch [
        | then-is_own w ↦ omega arith
        | else-is_own w ↦ omega arith
      ];
    }

pub returns : goal.returns
returns c =
    c.loop-number.invariant.count
    ∙ own_stop c.args.rom.now c.args.ramstart c.args.rows.now c.args.size c.loop-number.number
    (c.args.size / 256 + 1) c.requires.within (omega arith)
    (elim (cases_lt c.loop-number.number (c.args.size / 256 + 1)) [
      | inl few ↦ inl (omega arith)
      | inr all ↦ inr (omega arith)
    ])
