-- Arguments, given step by step.
use Rattle.std.proofs.Common.{◌≡◌, ◌≢◌, inl, inr, ℕ, zero, suc, ◌+◌, ◌-◌, ◌*◌, ◌<◌, ◌≤◌, List, []}
use Rattle.std.proofs.Common.{◌∷◌, length, take, drop, slice_index, refl, arith, Ok, Err, ap, ◌∙◌}
use Rattle.std.proofs.Common.{Bool, true, false, cond, ◌==◌, Result, subst}
use Rattle.std.proofs.lemmas.Bool.{ne_eqb}
use Rattle.vm_stack.proofs.FormatLemmas.{two}
use Rattle.std.proofs.Math.Seq.{drop-cons, drop-nil, take-nil}
use Rattle.vm_stack.specs.declared.fault.StackFault.{StackFault}
use Rattle.vm_flow.specs.declared.stop.FlowStop.TheVariants as stop
use Rattle.vm_stack.specs.StackState.{StackState}
use Rattle.vm_stack.specs.Values.{pushed}
use Rattle.vm_stack.specs.Locals.{IsWidth}
use Rattle.vm_stack.specs.Frame.{aligned, locals_end}
use Rattle.vm_stack.specs.Chain.{IsFormat}
use Rattle.vm_flow.specs.Call.{all_pushed, pair_set, locals_set}
use Rattle.vm_flow.specs.declared.stop.FlowStop.{FlowStop}

pub all_pushed_err : (s : StackState) (xs : List ℕ) (i : ℕ) (e : FlowStop)
    → all_pushed s (drop i xs) ≡ Err e → all_pushed s xs ≡ Err e
all_pushed_err s xs zero e h = h
all_pushed_err s [] (suc i) e h = h
all_pushed_err s (x ∷ xs) (suc i) e h = rw (all_pushed_err s xs i e h) refl

pub aligned_up : (size at : ℕ) → IsWidth size → at ≤ aligned size at
aligned_up size at (inl e) = rw e (omega arith)
aligned_up size at (inr (inl e)) = rw e (omega arith)
aligned_up size at (inr (inr e)) = rw e (omega arith)

pub grows : (at : ℕ) (format : List ℕ) → IsFormat format → at ≤ locals_end at format
grows at [] is = absurd is
grows at (x ∷ []) is = absurd is
grows at (x ∷ y ∷ rest) (inl e) = rw (e.0) (omega arith)
grows at (x ∷ y ∷ rest) (inr is) =
    let a = aligned_up x at is.0 in
    let b = grows (aligned x at + x * y) rest is.1 in
    let some : x ≢ 0 = elim is.0 [
      | inl e ↦
          (λ z. omega (arith, e, z))
      | inr f ↦ elim f [
        | inl e ↦ (λ z. omega (arith, e, z))
        | inr e ↦
            (λ z. omega (arith, e, z))
      ]
    ] in
    rw (ne_eqb x 0 some) (omega (arith, a, b))

pub all_pushed_stops : (s t : StackState) (xs : List ℕ) (left : ℕ) (f : StackFault) → 0 < left
    → left ≤ length xs → all_pushed s (drop left xs) ≡ Ok t
    → pushed t (slice_index xs (left - 1)) ≡ Err f → all_pushed s xs ≡ Err (stop.Stack f)
all_pushed_stops s t xs zero f some le same stops = absurd (omega (arith, some))
all_pushed_stops s t xs (suc i) f some le same stops =
    let i_is : suc i - 1 ≡ i = omega arith in
    let next : drop i xs ≡ slice_index xs i ∷ drop (suc i) xs =
    drop-cons xs i 0 (omega (arith, le)) in
    all_pushed_err s xs i (stop.Stack f)
    (ap (λ (ys : List ℕ). all_pushed s ys) next ∙ (rw same (rw (← i_is) (rw stops refl))))

-- values into locals of one type

-- arguments into the locals of the pairs; x and y are the code's numbers of a pair

pub locals_more : (s t : StackState) (at read x y : ℕ) (format args : List ℕ)
    → read + 1 < length format
    → x ≡ slice_index format read → y ≡ slice_index format (read + 1) → x ≢ 0
    → pair_set s (aligned x at) x (take y args) ≡ Ok t
    → locals_set s at (drop read format) args ≡ locals_set t (aligned x at + x * y)
    (drop (read + 2) format) (drop y args)
locals_more s t at read x y format args h ex ey some e =
    ap (λ (ys : List ℕ). locals_set s at ys args) (two format read h)
    ∙ (rw (← ex, ← ey, ne_eqb x 0 some, e) refl)

pub locals_end_here : (s : StackState) (at read x : ℕ) (format args : List ℕ)
    → read + 1 < length format
    → x ≡ slice_index format read → x ≡ 0 → locals_set s at (drop read format) args ≡ Ok s
locals_end_here s at read x format args h ex none =
    ap (λ (ys : List ℕ). locals_set s at ys args) (two format read h) ∙ (rw (← ex, none) refl)

pub locals_none : (s : StackState) (at : ℕ) (xs args : List ℕ) → length xs < 2
    → locals_set s at xs args ≡ Ok s
locals_none s at [] args h = refl
locals_none s at (x ∷ []) args h = refl
locals_none s at (x ∷ y ∷ rest) args h = absurd (omega (arith, h))

either : (b : Bool) (s : StackState) (r : Result StackState FlowStop) → r ≡ Ok s
    → cond b (Ok s) r ≡ Ok s
either true s r h = refl
either false s r h = h

-- where no argument is left the locals stay
pub locals_left : (s : StackState) (at : ℕ) (xs : List ℕ) → locals_set s at xs [] ≡ Ok s
locals_left s at [] = refl
locals_left s at (x ∷ []) = refl
locals_left s at (x ∷ y ∷ rest) =
    either (x == 0) s _ (rw (take-nil {A = ℕ} y, drop-nil {A = ℕ} y)
    (locals_left s (aligned x at + x * y) rest))

-- the next pair has a type, and its locals end within those of all
pub record NextPair (at x y : ℕ) (rest : List ℕ) : Type 0 where
  pub width : IsWidth x
  pub low : 1 ≤ x
  pub begin : aligned x at ≤ 1048576
  pub pairs : IsFormat rest
  pub end : locals_end (aligned x at + x * y) rest ≤ 1048576

pub next_end : (at x y : ℕ) (rest : List ℕ) → x ≢ 0
    → locals_end at (x ∷ y ∷ rest) ≡ locals_end (aligned x at + x * y) rest
next_end at x y rest some = rw (ne_eqb x 0 some) refl

next_in : (at x y : ℕ) (rest : List ℕ) → IsFormat (x ∷ y ∷ rest) → x ≢ 0
    → locals_end at (x ∷ y ∷ rest) ≤ 1048576 → NextPair at x y rest
next_in at x y rest (inl e) some top = absurd (some e.0)
next_in at x y rest (inr is) some top =
    let end : locals_end (aligned x at + x * y) rest ≤ 1048576 =
    rw (← next_end at x y rest some) top in
    let g = grows (aligned x at + x * y) rest is.1 in
    record {
      width = is.0;
      low = omega (arith, some);
      begin = omega
          (arith, g, end);
      pairs = is.1;
      end = end;
    }

pub next_pair : (at read x y : ℕ) (format : List ℕ) → read + 1 < length format
    → x ≡ slice_index format read → y ≡ slice_index format (read + 1)
    → x ≢ 0 → IsFormat (drop read format) → locals_end at (drop read format) ≤ 1048576
    → NextPair at x y (drop (read + 2) format)
next_pair at read x y format h ex ey some is top =
    let e : drop read format ≡ x ∷ y ∷ drop (read + 2) format =
    two format read h ∙ (rw (← ex, ← ey) refl) in
    next_in at x y (drop (read + 2) format) (subst IsFormat e is) some
    (subst (λ (ys : List ℕ). locals_end at ys ≤ 1048576) e top)
