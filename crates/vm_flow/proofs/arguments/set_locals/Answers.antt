use Rattle.std.proofs.Common.{◌≡◌, ◌+◌, ◌-◌, ◌*◌, ◌≤◌, ◌≢◌, ℕ, List, length, length-drop, drop}
use Rattle.std.proofs.Common.{take, slice_index, ◌==◌, true, Ok, refl, arith, ap, sym, ◌∙◌}
use Rattle.std.proofs.lemmas.Bool.{eqb-true}
use Rattle.std.proofs.lemmas.List.{nil_from_length}
use Rattle.vm_stack.specs.Frame.{aligned, locals_end}
use Rattle.vm_stack.specs.StackState.{StackState}
use Rattle.vm_stack.specs.Chain.{IsFormat}
use Rattle.vm_flow.specs.Call.{pair_set, locals_set}
use Rattle.vm_flow.proofs.ArgumentLemmas.{NextPair, next_pair, grows, locals_more, locals_end_here}
use Rattle.vm_flow.proofs.ArgumentLemmas.{locals_left, locals_none}
use Rattle.vm_flow.proofs.arguments.set_locals.Goals as goal

-- the pair at the place that is read
pair_here : (at read : ℕ) (format : List ℕ) → 2 ≤ length format - read → slice_index format read ≢ 0
    → IsFormat (drop read format)
    → locals_end at (drop read format) ≤ 1048576
    → NextPair at (slice_index format read) (slice_index format (read + 1)) (drop (read + 2) format)
pair_here at read format h some is top =
    next_pair at read (slice_index format read) (slice_index format (read + 1)) format
    (omega (arith, h)) refl refl some is top

-- no arguments, no change
none_left : (s : StackState) (at : ℕ) (format args : List ℕ) → (length args == 0) ≡ true
    → locals_set s at format args ≡ Ok s
none_left s at format args none =
    ap (λ (xs : List ℕ). locals_set s at format xs)
    (nil_from_length args (eqb-true (length args) 0 none))
    ∙ locals_left s at format

pub returns-then-is_empty-clause-ok : goal.returns-then-is_empty-clause-ok
returns-then-is_empty-clause-ok c =
    none_left c.args.stack.now 0 c.args.format.now c.args.args.now
    (sym c.is_empty.ensures ∙ c.if-is_empty.true)

-- the pair at the place that is read has got its arguments
pair_given : (s t : StackState) (at read begin : ℕ) (format args values : List ℕ)
    → 2 ≤ length format - read → slice_index format read ≢ 0
    → begin ≡ aligned (slice_index format read) at
    → values ≡ take (slice_index format (read + 1)) args
    → pair_set s begin (slice_index format read) values ≡ Ok t
    → locals_set s at (drop read format) args
    ≡ locals_set t (begin + slice_index format read * slice_index format (read + 1))
    (drop (read + 2) format) (drop (slice_index format (read + 1)) args)
pair_given s t at read begin format args values left some place which given =
    rw place
    (locals_more s t at read (slice_index format read) (slice_index format (read + 1)) format args
    (omega (arith, left)) refl refl some (rw (← place, ← which) given))

pub returns-then-is_empty-2-clause-ok : goal.returns-then-is_empty-2-clause-ok
returns-then-is_empty-2-clause-ok c =
    let format = c.args.format.now in
    let read = c.loop-read.read in
    c.loop-read.invariant.same
    ∙ (pair_given c.loop-read.stack c.set_pair.new.stack c.loop-read.at read c.aligned-begin.result
    format c.loop-read.args.now c.first.result.now c.loop-read-test.true c.if-size-eq0.false
    c.aligned-begin.ensures c.first.ensures.value c.in-Ok.ensures.ok
    ∙ (ap (λ (args : List ℕ). locals_set c.set_pair.new.stack
    (c.aligned-begin.result + slice_index format read * slice_index format (read + 1))
    (drop (read + 2) format) args) (sym c.after-args.ensures)
    ∙ none_left c.set_pair.new.stack
    (c.aligned-begin.result + slice_index format read * slice_index format (read + 1))
    (drop (read + 2) format) c.after-args.result.now
    (sym c.is_empty-in-loop-read.ensures ∙ c.if-is_empty-2.true)))

pub returns-then-size-eq0-clause-ok : goal.returns-then-size-eq0-clause-ok
returns-then-size-eq0-clause-ok c =
    let left = c.loop-read-test.true in
    c.loop-read.invariant.same
    ∙ locals_end_here c.loop-read.stack c.loop-read.at c.loop-read.read
    (slice_index c.args.format.now c.loop-read.read) c.args.format.now c.loop-read.args.now
    (omega (arith, left)) refl c.if-size-eq0.true

pub aligned-begin-requires-clause-limit : goal.aligned-begin-requires-clause-limit
aligned-begin-requires-clause-limit c =
    let g = grows c.loop-read.at
    (drop c.loop-read.read c.args.format.now) c.loop-read.invariant.pairs in
    let end = c.loop-read.invariant.end in
    omega (arith, g, end)

pub set_pair-requires-clause-begin : goal.set_pair-requires-clause-begin
set_pair-requires-clause-begin c =
    rw c.aligned-begin.ensures
    (pair_here c.loop-read.at c.loop-read.read c.args.format.now c.loop-read-test.true
    c.if-size-eq0.false c.loop-read.invariant.pairs
    c.loop-read.invariant.end).begin

pub pair_end-at-requires : goal.pair_end-at-requires
pair_end-at-requires c =
    rw c.aligned-begin.ensures
    (pair_here c.loop-read.at c.loop-read.read c.args.format.now c.loop-read-test.true
    c.if-size-eq0.false c.loop-read.invariant.pairs
    c.loop-read.invariant.end).begin

pub loop-read-preserved : goal.loop-read-preserved
loop-read-preserved c =
    let left = c.loop-read-test.true in
    let x = slice_index c.args.format.now c.loop-read.read in
    let y = slice_index c.args.format.now (c.loop-read.read + 1) in
    let next = pair_here c.loop-read.at c.loop-read.read c.args.format.now left c.if-size-eq0.false
    c.loop-read.invariant.pairs c.loop-read.invariant.end in
    record {
      same =
          c.loop-read.invariant.same
          ∙ (pair_given c.loop-read.stack c.set_pair.new.stack c.loop-read.at c.loop-read.read
          c.aligned-begin.result c.args.format.now c.loop-read.args.now c.first.result.now
          left c.if-size-eq0.false c.aligned-begin.ensures c.first.ensures.value
          c.in-Ok.ensures.ok
          ∙ (rw (c.pair_end-at.ensures, c.after-args.ensures) refl));
      inside = omega (arith, left);
      pairs = next.pairs;
      end = rw (c.pair_end-at.ensures, c.aligned-begin.ensures) next.end;
      chain = λ chain. c.in-Ok.ensures.kept (c.loop-read.invariant.chain chain);
      there = λ has. c.in-Ok.ensures.there (c.loop-read.invariant.there has);
    }

pub returns-clause-ok : goal.returns-clause-ok
returns-clause-ok c =
    let left = c.loop-read-test.false in
    let l = length-drop c.loop-read.read c.args.format.now in
    c.loop-read.invariant.same
    ∙ locals_none c.loop-read.stack c.loop-read.at
    (drop c.loop-read.read c.args.format.now) c.loop-read.args.now (omega (arith, left, l))
