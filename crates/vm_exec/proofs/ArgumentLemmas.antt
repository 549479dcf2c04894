-- Arguments taken one by one, and values copied one by one.
use Rattle.std.proofs.Common.{◌≡◌, ◌<◌, ℕ, suc, ◌+◌, ◌-◌, List, [], ◌∷◌, ◌++◌}
use Rattle.std.proofs.Common.{Result, Ok, Err, refl, arith, ap, sym, ◌∙◌}
use native.Mathlib.Numerals.{unary_clauses}
use mathlib.Core.List.{append_assoc, append-nil}
use Rattle.vm_memory.specs.Chaining.{◌>>=◌}
use Rattle.vm_stack.specs.StackState.{StackState}
use Rattle.vm_stack.specs.Values.{popped}
use Rattle.vm_stack.specs.declared.fault.StackFault.{StackFault}
use Rattle.vm_exec.specs.Fault.{stack_code}
use Rattle.vm_exec.specs.Rules.{arguments}
use Rattle.vm_exec.specs.Rows.Values.{copied_one, copied_up}

-- arguments behind those already taken
abbrev pub with_front : List ℕ → Result (StackState × List ℕ) ℕ → Result (StackState × List ℕ) ℕ
with_front xs (Ok q) = Ok (q.0, xs ++ q.1)
with_front xs (Err n) = Err n

front_nothing : (r : Result (StackState × List ℕ) ℕ) → r ≡ with_front [] r
front_nothing (Ok q) = refl
front_nothing (Err n) = refl

front_twice : (xs : List ℕ) (x : ℕ) (r : Result (StackState × List ℕ) ℕ)
    → with_front xs (r >>= (λ q. Ok (q.0, x ∷ q.1))) ≡ with_front (xs ++ x ∷ []) r
front_twice xs x (Ok q) = ap (λ (ys : List ℕ). Ok (q.0, ys)) (sym (append_assoc xs (x ∷ []) q.1))
front_twice xs x (Err n) = refl

all_left : (n : ℕ) → n ≡ n - 0
all_left n = omega arith

pub arguments-begin : (s : StackState) (n : ℕ) → arguments s n ≡ with_front [] (arguments s (n - 0))
arguments-begin s n =
    front_nothing (arguments s n) ∙ ap (λ (k : ℕ). with_front [] (arguments s k)) (all_left n)

pub copied_up-begin : (s : StackState) (d n : ℕ) → copied_up s d n ≡ copied_up s d (n - 0)
copied_up-begin s d n = ap (λ (k : ℕ). copied_up s d k) (all_left n)

pub arguments-more : (s t : StackState) (x n k : ℕ) (xs : List ℕ) → n ≡ suc k → popped s ≡ Ok (t, x)
    → with_front xs (arguments s n) ≡ with_front (xs ++ x ∷ []) (arguments t k)
unfolding arguments
arguments-more s t x n k xs is e = rw (is, e) (front_twice xs x (arguments t k))

pub arguments-stop : (s : StackState) (n k : ℕ) (f : StackFault) (xs : List ℕ)
    → n ≡ suc k → popped s ≡ Err f
    → with_front xs (arguments s n) ≡ Err (stack_code f)
unfolding arguments
arguments-stop s n k f xs is e = rw (is, e) refl

pub arguments-end : (s : StackState) (n : ℕ) (xs : List ℕ)
    → n ≡ 0 → with_front xs (arguments s n) ≡ Ok (s, xs)
unfolding arguments
arguments-end s n xs e = rw e (ap (λ (ys : List ℕ). Ok (s, ys)) (append-nil xs))

pub copied_up-more : (s t : StackState) (d n k : ℕ)
    → n ≡ suc k → copied_one s d ≡ Ok t
    → copied_up s d n ≡ copied_up t d k
unfolding copied_up
copied_up-more s t d n k is e = rw (is, e) refl

pub copied_up-stop : (s : StackState) (d n k : ℕ) (f : StackFault)
    → n ≡ suc k → copied_one s d ≡ Err f
    → copied_up s d n ≡ Err (stack_code f)
unfolding copied_up
copied_up-stop s d n k f is stop = rw (is, stop) refl

pub copied_up-end : (s : StackState) (d n : ℕ) → n ≡ 0 → copied_up s d n ≡ Ok s
unfolding copied_up
copied_up-end s d n e = rw e refl

-- what is left before a turn of a loop, and after it
pub one_less : (n i : ℕ) → i < n → n - i ≡ suc (n - (i + 1))
one_less n i less =
    let more : n - i ≡ (n - (i + 1)) + 1 = omega (arith, less) in
    more ∙ simp unary_clauses refl
