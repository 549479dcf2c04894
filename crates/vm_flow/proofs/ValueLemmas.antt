-- The values of a C0's new frame, as one list.
use Rattle.std.proofs.Common.{◌≡◌, ℕ, ◌+◌, nat_le, List, [], ◌∷◌, ◌++◌, length, reverse, refl}
use Rattle.std.proofs.Common.{Result, Ok, Err, ap, sym, ◌∙◌, subst, append_assoc}
use Rattle.std.proofs.lemmas.List.{append-nil, reverse-append}
use Rattle.std.proofs.lemmas.Grind.{flat_map-append}
use Rattle.byteorder.specs.Endian.{big_bytes}
use Rattle.vm_stack.specs.StackState.{StackState, words}
use Rattle.vm_stack.specs.Values.{pushed}
use Rattle.vm_stack.specs.Frame.{entered, fresh_frame}
use Rattle.vm_stack.specs.declared.fault.StackFault.{StackFault}
use Rattle.vm_flow.specs.Answer.{from_stack, and_then}
use Rattle.vm_flow.specs.Call.{all_pushed, arguments_given, with_frame, with_values}
use Rattle.vm_flow.specs.declared.stop.FlowStop.{FlowStop}
use Rattle.vm_flow.proofs.LocalLemmas.{entered_in, entered_is}

-- what a push leaves
pushed_is : (s t : StackState) (x : ℕ) → pushed s x ≡ Ok t → t ≡ with_values s (x ∷ [])
pushed_is s t x h =
    entered_in (nat_le (length s.bytes + length (big_bytes 4 x)) s.limit) s
    (record s { bytes = s.bytes ++ big_bytes 4 x }) t h
    ∙ ap (λ (ys : List ℕ). record s { bytes = s.bytes ++ ys }) (sym (append-nil (big_bytes 4 x)))

record Step (r : Result StackState FlowStop) (x : ℕ) (t : StackState) : Type 0 where
  under : StackState
  gave : r ≡ Ok under
  push : pushed under x ≡ Ok t

abbrev Given : Result StackState FlowStop → Type 0
Given (Ok s) = Unit {0}
Given (Err e) = ⊥

abbrev value_of : StackState → Result StackState FlowStop → StackState
value_of s (Ok t) = t
value_of s (Err e) = s

from_ok : (r : Result StackState StackFault) (t : StackState) → from_stack r ≡ Ok t → r ≡ Ok t
from_ok (Ok s) t h =
    ap (λ (x : StackState). Ok x) (ap (λ (r : Result StackState FlowStop). value_of s r) h)
from_ok (Err e) t h = absurd (subst Given (sym h) tt)

step : (r : Result StackState FlowStop) (x : ℕ) (t : StackState)
    → and_then r (λ u. from_stack (pushed u x)) ≡ Ok t → Step r x t
step (Ok s) x t h = record { under = s; gave = refl; push = from_ok (pushed s x) t h }
step (Err e) x t h = absurd (subst Given (sym h) tt)

two_lists : (s : StackState) (xs ys : List ℕ)
    → with_values (with_values s xs) ys ≡ with_values s (xs ++ ys)
two_lists s xs ys =
    ap (λ (b : List ℕ). record s { bytes = b })
    (append_assoc s.bytes (words xs) (words ys)
    ∙ ap (λ (zs : List ℕ). s.bytes ++ zs) (sym (flat_map-append (big_bytes 4) xs ys)))

all_is : (s t : StackState) (xs : List ℕ) → all_pushed s xs ≡ Ok t → t ≡ with_values s (reverse xs)
all_is s t [] h =
    sym (ap (λ (r : Result StackState FlowStop). value_of s r) h)
    ∙ ap (λ (b : List ℕ). record s { bytes = b }) (sym (append-nil s.bytes))
all_is s t (x ∷ xs) h =
    let one = step (all_pushed s xs) x t h in
    pushed_is one.under t x one.push
    ∙ (ap (λ (u : StackState). with_values u (x ∷ [])) (all_is s one.under xs one.gave)
    ∙ (two_lists s (reverse xs) (x ∷ []) ∙ ap (λ (ys : List ℕ). with_values s ys)
    (sym (reverse-append (x ∷ []) xs))))

given_values : (kind : ℕ) (s : StackState) (format args : List ℕ) → kind ≡ 192
    → arguments_given kind s format args ≡ and_then (all_pushed s args)
    (λ t. from_stack (pushed t (length args)))
given_values kind s format args e = rw e refl

values_are : (s t : StackState) (args : List ℕ)
    → and_then (all_pushed s args) (λ u. from_stack (pushed u (length args))) ≡ Ok t
    → t ≡ with_values s (reverse args ++ length args ∷ [])
values_are s t args h =
    let one = step (all_pushed s args) (length args) t h in
    pushed_is one.under t (length args) one.push
    ∙ (ap (λ (u : StackState). with_values u (length args ∷ [])) (all_is s one.under args one.gave)
    ∙ two_lists s (reverse args) (length args ∷ []))

pub c0_begun : (s t u : StackState) (kind : ℕ) (format args : List ℕ) → entered s format ≡ Ok t
    → arguments_given kind t format args ≡ Ok u → kind ≡ 192
    → u ≡ with_values (with_frame s (fresh_frame format)) (reverse args ++ length args ∷ [])
c0_begun s t u kind format args enters gives c0 =
    values_are t u args (sym (given_values kind t format args c0) ∙ gives)
    ∙ ap (λ (v : StackState). with_values v (reverse args ++ length args ∷ []))
    (entered_is s t format enters)
