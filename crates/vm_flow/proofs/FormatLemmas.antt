-- The pairs of a function, read step by step.
use Rattle.std.proofs.Common.{◌≡◌, inl, inr, ℕ, ◌+◌, ◌<◌, ◌≤◌, ◌-◌, Bool, true, false, ◌==◌, ◌&&◌}
use Rattle.std.proofs.Common.{◌||◌, cond, List, [], ◌∷◌, ◌++◌, length, take, drop, slice_index}
use Rattle.std.proofs.Common.{refl, length-drop, arith, Result, Ok, Err, IsOk, ap, sym, ◌∙◌}
use Rattle.std.proofs.Common.{append_assoc, subst}
use Rattle.std.proofs.lemmas.Bool.{and_parts, or_cases, eqb-true}
use Rattle.std.proofs.lemmas.List.{take_more, take-append-drop, drop-append-le, length-take-le}
use Rattle.vm_stack.proofs.FormatLemmas.{two}
use Rattle.vm_memory.specs.declared.fault.MemFault.TheVariants.{BadRead}
use Rattle.vm_stack.specs.Saved.{is_type}
use Rattle.vm_stack.specs.Locals.{IsWidth}
use Rattle.vm_stack.specs.Chain.{IsFormat}
use Rattle.vm_flow.specs.Function.{format_in, prepended}
use Rattle.vm_flow.specs.declared.stop.FlowStop.{FlowStop}
use Rattle.vm_flow.specs.declared.stop.FlowStop.TheVariants as stop

-- what the pair at a place gives
pub paired : ℕ → ℕ → ℕ → ℕ → Result (List ℕ) FlowStop → Result (List ℕ) FlowStop
paired f at x y rest =
    cond (x == 0 && y == 0) (Ok (0 ∷ 0 ∷ []))
    (cond (is_type x) (prepended (x ∷ y ∷ []) rest) (Err (stop.BadFunction f)))

-- the pair at a place of some bytes, whatever the address at which they stand
pub format_two : (f at i : ℕ) (bytes : List ℕ) → i + 1 < length bytes
    → format_in f at (drop i bytes) ≡ paired f at (slice_index bytes i)
    (slice_index bytes (i + 1)) (format_in f (at + 2) (drop (i + 2) bytes))
unfolding paired
format_two f at i bytes h = ap (λ (ys : List ℕ). format_in f at ys) (two bytes i h)

pub prepended_twice : (xs : List ℕ) (x y : ℕ) (r : Result (List ℕ) FlowStop)
    → prepended xs (prepended (x ∷ y ∷ []) r) ≡ prepended (xs ++ x ∷ y ∷ []) r
prepended_twice xs x y (Ok ys) = ap (λ (zs : List ℕ). Ok zs) (sym (append_assoc xs (x ∷ y ∷ []) ys))
prepended_twice xs x y (Err e) = refl

pub width_is : (x : ℕ) → is_type x ≡ true → IsWidth x
width_is x e =
    elim (or_cases (x == 1 || x == 2) (x == 4) e) [
      | inl p ↦ elim (or_cases (x == 1) (x == 2) p) [
        | inl q ↦ inl (eqb-true x 1 q)
        | inr q ↦ inr
            (inl (eqb-true x 2 q))
      ]
      | inr p ↦ inr (inr (eqb-true x 4 p))
    ]

pub paired_more : (f at x y : ℕ) (rest : Result (List ℕ) FlowStop) → (x == 0 && y == 0) ≡ false
    → is_type x ≡ true
    → paired f at x y rest ≡ prepended (x ∷ y ∷ []) rest
unfolding paired
paired_more f at x y rest e w = rw (e, w) refl

-- one pair more is read
pub format_more : (f at i x y : ℕ) (bytes items : List ℕ) → i + 1 < length bytes
    → x ≡ slice_index bytes i → y ≡ slice_index bytes (i + 1)
    → (x == 0 && y == 0) ≡ false → is_type x ≡ true
    → prepended items (format_in f at (drop i bytes)) ≡ prepended (items ++ x ∷ y ∷ [])
    (format_in f (at + 2) (drop (i + 2) bytes))
format_more f at i x y bytes items h ex ey e w =
    let rest = format_in f (at + 2) (drop (i + 2) bytes) in
    ap (λ (r : Result (List ℕ) FlowStop). prepended items r)
    (format_two f at i bytes h ∙ (rw (← ex, ← ey) refl ∙ paired_more f at x y rest e w))
    ∙ prepended_twice items x y rest

paired_end : (f at x y : ℕ) (rest : Result (List ℕ) FlowStop) → x ≡ 0 → y ≡ 0
    → paired f at x y rest ≡ Ok (0 ∷ 0 ∷ [])
unfolding paired
paired_end f at x y rest zero none = rw (zero, none) refl

nothing_before : (r : Result (List ℕ) FlowStop) → r ≡ prepended [] r
nothing_before (Ok ys) = refl
nothing_before (Err e) = refl

pub pairs_more : (items : List ℕ) (x y : ℕ) (rest : List ℕ)
    → ((r : List ℕ) → IsFormat r → IsFormat (items ++ r)) → is_type x ≡ true
    → IsFormat rest → IsFormat (items ++ x ∷ y ∷ [] ++ rest)
pairs_more items x y rest pairs w is =
    subst IsFormat (sym (append_assoc items (x ∷ y ∷ []) rest))
    (pairs (x ∷ y ∷ rest) (inr (width_is x w, is)))

-- the pairs in bytes that are at hand

pub take_two : (bytes : List ℕ) (i x y : ℕ) → i + 1 < length bytes
    → x ≡ slice_index bytes i → y ≡ slice_index bytes (i + 1)
    → take (i + 2) bytes ≡ take i bytes ++ x ∷ y ∷ []
take_two bytes i x y h ex ey =
    ap (λ (n : ℕ). take n bytes) (omega arith)
    ∙ (take_more bytes (i + 1) 0 h
    ∙ (ap (λ (xs : List ℕ). xs ++ slice_index bytes (i + 1) ∷ [])
    (take_more bytes i 0 (omega (arith, h)))
    ∙ (append_assoc (take i bytes) (slice_index bytes i ∷ []) (slice_index bytes (i + 1) ∷ [])
    ∙ rw (← ex, ← ey) refl)))

-- so far pairs are read
pub record Pairs (bytes : List ℕ) (read : ℕ) : Type 0 where
  pub inside : read ≤ length bytes
  pub same : (f at : ℕ) → format_in f at bytes
      ≡ prepended (take read bytes) (format_in f (at + read) (drop read bytes))
  pub format : (rest : List ℕ) → IsFormat rest → IsFormat (take read bytes ++ rest)

pub pairs_none : (bytes : List ℕ) → Pairs bytes 0
pairs_none bytes = record {
  inside = omega arith;
  same = λ f at.
      nothing_before (format_in f at bytes)
      ∙ ap (λ (n : ℕ). prepended [] (format_in f n bytes)) (omega arith);
  format = λ rest is. is;
}

pub pairs_next : (bytes : List ℕ) (read x y : ℕ) → Pairs bytes read → read + 1 < length bytes
    → x ≡ slice_index bytes read → y ≡ slice_index bytes (read + 1)
    → (x == 0 && y == 0) ≡ false → is_type x ≡ true → Pairs bytes (read + 2)
pairs_next bytes read x y pairs h ex ey e w =
    let here = take_two bytes read x y h ex ey in
    record {
      inside = omega (arith, h);
      same = λ f at.
          pairs.same f at
          ∙ (format_more f (at + read) read x y bytes (take read bytes) h ex ey e w
          ∙ (ap (λ (n : ℕ). prepended (take read bytes ++ x ∷ y ∷ [])
          (format_in f n (drop (read + 2) bytes))) (omega arith)
          ∙ ap (λ (items : List ℕ). prepended items
          (format_in f (at + (read + 2)) (drop (read + 2) bytes))) (sym here)));
      format = λ rest is. rw here (pairs_more (take read bytes) x y rest pairs.format w is);
    }

-- the pair 0,0 ends them
pub pairs_end : (bytes : List ℕ) (read x y : ℕ) → Pairs bytes read → read + 1 < length bytes
    → x ≡ slice_index bytes read → y ≡ slice_index bytes (read + 1)
    → (x == 0 && y == 0) ≡ true
    → (f at : ℕ) → format_in f at bytes ≡ Ok (take (read + 2) bytes)
pairs_end bytes read x y pairs h ex ey e f at =
    let zero : x ≡ 0 = eqb-true x 0 ((and_parts (x == 0) (y == 0) e).0) in
    let none : y ≡ 0 = eqb-true y 0 ((and_parts (x == 0) (y == 0) e).1) in
    pairs.same f at
    ∙ (ap (λ (r : Result (List ℕ) FlowStop). prepended (take read bytes) r)
    (format_two f (at + read) read bytes h
    ∙ paired_end f (at + read) (slice_index bytes read) (slice_index bytes (read + 1))
    (format_in f (at + read + 2) (drop (read + 2) bytes)) (sym ex ∙ zero) (sym ey ∙ none))
    ∙ ap (λ (items : List ℕ). Ok items)
    (sym (take_two bytes read 0 0 h (sym zero ∙ ex) (sym none ∙ ey))))

pub pairs_end_format : (bytes : List ℕ) (read x y : ℕ) → Pairs bytes read
    → read + 1 < length bytes
    → x ≡ slice_index bytes read → y ≡ slice_index bytes (read + 1)
    → (x == 0 && y == 0) ≡ true → IsFormat (take (read + 2) bytes)
pairs_end_format bytes read x y pairs h ex ey e =
    let zero : x ≡ 0 = eqb-true x 0 ((and_parts (x == 0) (y == 0) e).0) in
    let none : y ≡ 0 = eqb-true y 0 ((and_parts (x == 0) (y == 0) e).1) in
    rw (take_two bytes read 0 0 h (sym zero ∙ ex) (sym none ∙ ey))
    (pairs.format (0 ∷ 0 ∷ []) (inl (refl, refl, refl)))

-- what has no pair 0,0 behind such pairs is no list of locals

not_ok : (items : List ℕ) (r : Result (List ℕ) FlowStop) → (IsOk r → ⊥)
    → IsOk (prepended items r) → ⊥
not_ok items (Ok ys) none h = none refl
not_ok items (Err e) none h = none h

err_not_ok : (e : FlowStop) → IsOk {T = List ℕ} {E = FlowStop} (Err e) → ⊥
err_not_ok e h = cc

paired_stop : (f at x y : ℕ) (rest : Result (List ℕ) FlowStop) → (x == 0 && y == 0) ≡ false
    → is_type x ≡ false
    → paired f at x y rest ≡ Err (stop.BadFunction f)
unfolding paired
paired_stop f at x y rest e w = rw (e, w) refl

pub pairs_stop : (bytes : List ℕ) (read x y : ℕ) → Pairs bytes read → read + 1 < length bytes
    → x ≡ slice_index bytes read → y ≡ slice_index bytes (read + 1)
    → (x == 0 && y == 0) ≡ false → is_type x ≡ false
    → (f at : ℕ) → IsOk (format_in f at bytes) → ⊥
pairs_stop bytes read x y pairs h ex ey e w f at good =
    let rest = format_in f (at + read + 2) (drop (read + 2) bytes) in
    let stops : format_in f (at + read) (drop read bytes) ≡ Err (stop.BadFunction f) =
    format_two f (at + read) read bytes h
    ∙ (rw (← ex, ← ey) refl ∙ paired_stop f (at + read) x y rest e w) in
    not_ok (take read bytes) (format_in f (at + read) (drop read bytes))
    (λ ok. err_not_ok (stop.BadFunction f) (subst IsOk stops ok))
    (subst IsOk (pairs.same f at) good)

short_not_ok : (f at : ℕ) (xs : List ℕ) → length xs < 2 → IsOk (format_in f at xs) → ⊥
short_not_ok f at [] h good = err_not_ok (stop.Memory (BadRead at)) good
short_not_ok f at (x ∷ []) h good = err_not_ok (stop.Memory (BadRead (at + 1))) good
short_not_ok f at (x ∷ y ∷ rest) h good = omega (arith, h)

pub pairs_short : (bytes : List ℕ) (read : ℕ) → Pairs bytes read → length bytes - read < 2
    → (f at : ℕ) → IsOk (format_in f at bytes) → ⊥
pairs_short bytes read pairs h f at good =
    not_ok (take read bytes) (format_in f (at + read) (drop read bytes))
    (short_not_ok f (at + read) (drop read bytes) (omega (arith, h, length-drop read bytes)))
    (subst IsOk (pairs.same f at) good)

-- bytes that follow the pair 0,0 change nothing

more_ok : (b c : Bool) (items ys : List ℕ) (e : FlowStop) (r s : Result (List ℕ) FlowStop)
    → ((zs : List ℕ) → r ≡ Ok zs → s ≡ Ok zs)
    → cond b (Ok (0 ∷ 0 ∷ [])) (cond c (prepended items r) (Err e)) ≡ Ok ys
    → cond b (Ok (0 ∷ 0 ∷ [])) (cond c (prepended items s) (Err e)) ≡ Ok ys
more_ok true c items ys e r s same h = h
more_ok false false items ys e r s same h = h
more_ok false true items ys e (Ok zs) s same h = rw (same zs refl) h
more_ok false true items ys e (Err g) s same h = absurd (cc)

pub format_longer : (f at : ℕ) (xs zs ys : List ℕ) → format_in f at xs ≡ Ok ys
    → format_in f at (xs ++ zs) ≡ Ok ys
format_longer f at [] zs ys h = absurd (cc)
format_longer f at (x ∷ []) zs ys h = absurd (cc)
format_longer f at (x ∷ y ∷ rest) zs ys h =
    more_ok (x == 0 && y == 0) (is_type x) (x ∷ y ∷ []) ys (stop.BadFunction f)
    (format_in f (at + 2) rest) (format_in f (at + 2) (rest ++ zs))
    (λ more e. format_longer f (at + 2) rest zs more e) h

-- the pairs of a function that stand below RAMSTART
pub front_is : (f at top n : ℕ) (rom bytes items : List ℕ) → take top bytes ≡ take top rom
    → top ≤ length rom → n ≤ top
    → format_in f at (drop n (take top rom)) ≡ Ok items
    → format_in f at (drop n bytes) ≡ Ok items
front_is f at top n rom bytes items same within inside h =
    let le : n ≤ length (take top bytes) =
    rw same (omega (arith, length-take-le top rom within, inside)) in
    ap (λ (xs : List ℕ). format_in f at (drop n xs)) (sym (take-append-drop top bytes))
    ∙ (ap (λ (xs : List ℕ). format_in f at xs)
    (drop-append-le n (take top bytes) (drop top bytes) le)
    ∙ format_longer f at (drop n (take top bytes)) (drop top bytes) items (rw same h))
