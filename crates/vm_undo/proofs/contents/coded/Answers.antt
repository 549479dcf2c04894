use Rattle.std.proofs.Common.{◌≤◌, ◌+◌, ◌-◌, ◌∷◌, [], ◌++◌, List, ℕ, length, drop, sym, ◌∙◌, ap}
use Rattle.std.proofs.Common.{arith, slice_index}
use Rattle.std.proofs.lemmas.List.{append-nil}
use Rattle.std.specs.Int.RustNames.{bit_xor}
use Rattle.vm_memory.specs.MemoryMap.{original_byte}
use Rattle.vm_undo.specs.Contents.{changes, contents}
use Rattle.vm_undo.specs.Runs.{runs_coded, zeros}
use Rattle.vm_undo.proofs.WriteLemmas.{quiet, coded_end, coded_change, coded_literal, written_more}
use Rattle.vm_undo.proofs.contents.coded.Goals as goal

pub returns-then-next-size : goal.returns-then-next-size
returns-then-next-size c =
    let m = c.args.memory.now in
    let at = c.loop-at.at in
    let next = c.next_change-next.result in
    let out = c.loop-at.out.items in
    let short : length m.rom ≤ length m.bytes = omega arith in
    let least = c.loop-at.invariant.least in
    record {
      value =
          sym (append-nil out)
          ∙ ap (λ (xs : List ℕ). out ++ xs)
          (sym (quiet m at next short least c.next_change-next.ensures.first
          ∙ coded_end m (next - at) next short (omega arith)))
          ∙ c.loop-at.invariant.coded;
    }

pub loop-at-preserved-then-change-ne0 : goal.loop-at-preserved-then-change-ne0
loop-at-preserved-then-change-ne0 c =
    let m = c.args.memory.now in
    let at = c.loop-at.at in
    let out = c.loop-at.out.items in
    let short : length m.rom ≤ length m.bytes = omega arith in
    let least = c.loop-at.invariant.least in
    let inside : at + 1 ≤ length m.bytes = omega arith in
    let some = c.if-change-ne0.true in
    let d = bit_xor (original_byte m at) (slice_index m.bytes at) in
    let rest = runs_coded 0 (drop (at + 1 - m.ramstart) (changes m)) in
    record {
      least = omega arith;
      within = omega arith;
      coded = written_more out [] out c.push.new.self.items
          (runs_coded 0 (drop (at - m.ramstart) (changes m))) rest (contents m) d
          c.loop-at.invariant.coded
          (coded_literal m at short least (omega (arith, inside))
          (λ z. absurd (omega (arith, some, c.change1-change.ensures.value, z))))
          (sym (append-nil out))
          (c.in_ok-push.ensures.items
          ∙ ap (λ (x : ℕ). out ++ x ∷ []) c.change1-change.ensures.value);
    }

pub loop-at-preserved : goal.loop-at-preserved
loop-at-preserved c =
    let m = c.args.memory.now in
    let at = c.loop-at.at in
    let next = c.next_change-next.result in
    let out = c.loop-at.out.items in
    let is = c.next_change-next.ensures.first in
    let low = is.least in
    let high = is.within in
    let short : length m.rom ≤ length m.bytes = omega arith in
    let least = c.loop-at.invariant.least in
    let below = c.if-next-size.false in
    let inside : next + 1 ≤ length m.bytes = omega arith in
    let d = bit_xor (original_byte m next) (slice_index m.bytes next) in
    let rest = runs_coded 0 (drop (next + 1 - m.ramstart) (changes m)) in
    record {
      least = omega arith;
      within = omega arith;
      coded = written_more out (zeros (next - at)) c.push_zeros.new.out.items
          c.push-else-change-ne0.new.self.items (runs_coded 0 (drop (at - m.ramstart) (changes m))) rest
          (contents m) d c.loop-at.invariant.coded
          (quiet m at next short least is
          ∙ coded_change m (next - at) next short (omega arith) (omega arith)
          (is.other (omega arith)))
          c.in_ok-push_zeros.ensures
          (c.in_ok-push-2.ensures.items
          ∙ ap (λ (x : ℕ). c.push_zeros.new.out.items ++ x ∷ []) c.change1.ensures.value);
    }

pub returns : goal.returns
returns c =
    let m = c.args.memory.now in
    let at = c.loop-at.at in
    let out = c.loop-at.out.items in
    let short : length m.rom ≤ length m.bytes = omega arith in
    record {
      value =
          sym (append-nil out)
          ∙ ap (λ (xs : List ℕ). out ++ xs) (sym (coded_end m 0 at short (omega arith)))
          ∙ c.loop-at.invariant.coded;
    }
