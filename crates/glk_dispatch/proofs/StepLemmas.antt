-- Characters, words and steps one by one, for any count that is left.
use native.Mathlib.Numerals.{unary_clauses}
use Rattle.std.proofs.Common.{◌≡◌, ℕ, zero, suc, ◌+◌, ◌-◌, ◌%◌, ◌^◌, ◌<◌, ◌==◌, refl, arith, Ok}
use Rattle.std.proofs.Common.{Err, Bool, List, ◌∷◌, [], ◌++◌, cond, slice_set, length, ◌≤◌, ap}
use Rattle.vm_memory.specs.Chaining.{◌>>=◌}
use Rattle.vm_memory.specs.MemoryMap.{MemoryMap}
use Rattle.vm_memory.specs.Access.{read}
use Rattle.vm_memory.specs.Fault.{coded}
use Rattle.vm_stack.specs.StackState.{StackState}
use Rattle.glk_input.specs.Delivery.{width}
use Rattle.glk_dispatch.specs.Answer.{within}
use Rattle.glk_dispatch.specs.Arguments.{argument_popped, arguments_taken}
use Rattle.glk_dispatch.specs.Case.{word_cased, words_cased}
use Rattle.glk_dispatch.specs.Events.{echo_array, echo_item, array_words}
use Rattle.glk_dispatch.specs.FileRefs.{name_read}
use Rattle.glk_dispatch.specs.Glk.{character_charged, style_of_stream}
use Rattle.glk_dispatch.specs.Output.{array_code_at, echo_from, put_array, put_code}
use Rattle.glk_dispatch.specs.Output.{put_item, put_once, put_text, spread}
use Rattle.glk_dispatch.specs.Streams.{got_array, got_item, got_on}
use Rattle.glk_dispatch.specs.declared.case.Case.{Case}
use Rattle.glk_dispatch.specs.declared.glk.Glk.{Glk}

pub taken-more : (n : ℕ) (s : StackState) (i : ℕ) (args : List ℕ) → 0 < n
    → arguments_taken n s i args
    ≡ argument_popped s >>= (λ p. arguments_taken (n - 1) p.0 (i + 1) (slice_set args i p.1))
unfolding arguments_taken
taken-more zero s i args h = absurd (omega arith)
taken-more (suc n) s i args h = simp unary_clauses

pub taken-none : (s : StackState) (i : ℕ) (args : List ℕ)
    → arguments_taken 0 s i args ≡ Ok (s, args)
unfolding arguments_taken
taken-none s i args = refl

pub spread-more : (n : ℕ) (g : Glk) (m : MemoryMap) (s code : ℕ) → 0 < n
    → spread n g m s code ≡ cond (s == 0) (Ok (g, m))
    (put_once g m s (style_of_stream g s) code
    >>= (λ p. spread (n - 1) p.0 p.1 (echo_from p.0 s) code))
unfolding spread
spread-more zero g m s code h = absurd (omega arith)
spread-more (suc n) g m s code h = simp unary_clauses

pub spread-none : (g : Glk) (m : MemoryMap) (s code : ℕ) → spread 0 g m s code ≡ Ok (g, m)
unfolding spread
spread-none g m s code = refl

pub spread-nowhere : (n : ℕ) (g : Glk) (m : MemoryMap) (code : ℕ) → spread n g m 0 code ≡ Ok (g, m)
unfolding spread
spread-nowhere zero g m code = refl
spread-nowhere (suc n) g m code = refl

pub put_array-more : (n : ℕ) (u : Bool) (g : Glk) (m : MemoryMap) (s at : ℕ) → 0 < n
    → put_array n u g m s at ≡ put_item u g m s at >>=
    (λ p. put_array (n - 1) u p.0 p.1 s ((at + width u) % 2 ^ 32))
unfolding put_array
put_array-more zero u g m s at h = absurd (omega arith)
put_array-more (suc n) u g m s at h = simp unary_clauses

pub put_array-none : (u : Bool) (g : Glk) (m : MemoryMap) (s at : ℕ)
    → put_array 0 u g m s at ≡ Ok (g, m)
unfolding put_array
put_array-none u g m s at = refl

pub put_text-more : (n : ℕ) (u : Bool) (g : Glk) (m : MemoryMap) (s at : ℕ) → 0 < n
    → put_text n u g m s at ≡ within g (array_code_at u m at) >>= (λ code.
    cond (code == 0) (Ok (g, m))
    (put_code g m s code >>= (λ p. put_text (n - 1) u p.0 p.1 s ((at + width u) % 2 ^ 32))))
unfolding put_text
put_text-more zero u g m s at h = absurd (omega arith)
put_text-more (suc n) u g m s at h = simp unary_clauses

pub put_text-none : (u : Bool) (g : Glk) (m : MemoryMap) (s at : ℕ)
    → put_text 0 u g m s at ≡ Err (g, 1)
unfolding put_text
put_text-none u g m s at = refl

pub echo_array-more : (n : ℕ) (u : Bool) (g : Glk) (m : MemoryMap) (s at : ℕ) → 0 < n
    → echo_array n u g m s at ≡ echo_item u g m s at >>=
    (λ p. echo_array (n - 1) u p.0 p.1 s ((at + width u) % 2 ^ 32))
unfolding echo_array
echo_array-more zero u g m s at h = absurd (omega arith)
echo_array-more (suc n) u g m s at h = simp unary_clauses

pub echo_array-none : (u : Bool) (g : Glk) (m : MemoryMap) (s at : ℕ)
    → echo_array 0 u g m s at ≡ Ok (g, m)
unfolding echo_array
echo_array-none u g m s at = refl

pub words_cased-more : (n : ℕ) (c : Case) (g : Glk) (m : MemoryMap) (at : ℕ) → 0 < n
    → words_cased n c g m at ≡ word_cased c g m at >>=
    (λ p. words_cased (n - 1) c p.0 p.1 ((at + 4) % 2 ^ 32))
unfolding words_cased
words_cased-more zero c g m at h = absurd (omega arith)
words_cased-more (suc n) c g m at h = simp unary_clauses

pub words_cased-none : (c : Case) (g : Glk) (m : MemoryMap) (at : ℕ)
    → words_cased 0 c g m at ≡ Ok (g, m)
unfolding words_cased
words_cased-none c g m at = refl

pub name_read-more : (n : ℕ) (g : Glk) (m : MemoryMap) (at : ℕ) (name : List ℕ) → 0 < n
    → name_read n g m at name ≡ within g (coded (read 1 m at)) >>= (λ code.
    cond (code == 0) (Ok (g, name))
    (name_read (n - 1) (character_charged g) m ((at + 1) % 2 ^ 32) (name ++ code ∷ [])))
unfolding name_read
name_read-more zero g m at name h = absurd (omega arith)
name_read-more (suc n) g m at name h = simp unary_clauses

pub name_read-none : (g : Glk) (m : MemoryMap) (at : ℕ) (name : List ℕ)
    → name_read 0 g m at name ≡ Err (g, 1)
unfolding name_read
name_read-none g m at name = refl

pub words_at-more : (n : ℕ) (m : MemoryMap) (at : ℕ) (words : List ℕ) → 0 < n
    → array_words n m at words ≡ coded (read 4 m at) >>=
    (λ x. array_words (n - 1) m ((at + 4) % 2 ^ 32) (words ++ x ∷ []))
unfolding array_words
words_at-more zero m at words h = absurd (omega arith)
words_at-more (suc n) m at words h = simp unary_clauses

pub words_at-none : (m : MemoryMap) (at : ℕ) (words : List ℕ) → array_words 0 m at words ≡ Ok words
unfolding array_words
words_at-none m at words = refl

pub got_array-more : (n : ℕ) (line u : Bool) (g : Glk) (m : MemoryMap) (s at count : ℕ) → 0 < n
    → got_array n line u g m s at count ≡ got_item u g m s at
    >>= (λ p. got_on (λ h k c. got_array (n - 1) line u h k s ((at + width u) % 2 ^ 32) c) line p.0
    p.1 count p.2)
unfolding got_array
got_array-more zero line u g m s at count h = absurd (omega arith)
got_array-more (suc n) line u g m s at count h = simp unary_clauses

pub got_array-none : (line u : Bool) (g : Glk) (m : MemoryMap) (s at count : ℕ)
    → got_array 0 line u g m s at count ≡ Ok (g, m, count)
unfolding got_array
got_array-none line u g m s at count = refl

pub set_outside : (xs : List ℕ) (i v : ℕ) → length xs ≤ i → slice_set xs i v ≡ xs
set_outside [] i v h = refl
set_outside (x ∷ xs) zero v h = absurd (omega arith)
set_outside (x ∷ xs) (suc i) v h = ap (λ ys. x ∷ ys) (set_outside xs i v (omega arith))
