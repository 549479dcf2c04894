-- The story's memory and frames are kept: words written, arguments taken, and references.
use Rattle.std.proofs.Common.{◌≡◌, ◌≤◌, ℕ, zero, suc, ◌+◌, ◌*◌, ◌==◌, ◌&&◌, nat_le, nat_lt, Bool}
use Rattle.std.proofs.Common.{true, false, List, [], ◌∷◌, ◌++◌, length, take, drop, refl, Option}
use Rattle.std.proofs.Common.{Result, Ok, Err, cond, arith, sym, slice_set, replicate}
use Rattle.std.proofs.Common.{length-append, length-drop, ◌∙◌, inl, inr}
use Rattle.std.specs.Prelude.{IfOk}
use Rattle.std.proofs.lemmas.List.{length-take-le}
use Rattle.std.proofs.lemmas.Bool.{and_parts, cases_Bool, cond_both, leb-true}
use Rattle.vm_memory.specs.Chaining.{◌>>=◌}
use Rattle.vm_memory.specs.Access.{written}
use Rattle.vm_memory.specs.Fault.{coded}
use Rattle.vm_memory.specs.MemoryMap.{MemoryMap, KeepsMap, replaced}
use Rattle.vm_stack.specs.StackState.{StackState, value_bytes}
use Rattle.vm_stack.specs.Values as stack
use Rattle.vm_stack.specs.Values.{pushed}
use Rattle.vm_stack.specs.declared.fault.StackFault.TheVariants.{Overflow}
use Rattle.vm_stack.proofs.ChainLemmas.{appended_keeps, length_word, without_keeps, without_there}
use Rattle.glk_dispatch.specs.Answer.{GlkCall, Reached, within}
use Rattle.glk_dispatch.specs.Arguments.{call_arguments, argument_popped}
use Rattle.glk_dispatch.specs.Arguments.{arguments_taken, takes_count}
use Rattle.glk_dispatch.specs.Fault.{stacked}
use Rattle.glk_dispatch.specs.Gestalt.{array_begun}
use Rattle.glk_dispatch.specs.Keeping.{KeepsFrames, KeepsStory}
use Rattle.glk_dispatch.specs.Reference.{gives, next_field, word_referred, referred_all, refers}
use Rattle.glk_dispatch.specs.Reference.{refers_all}
use Rattle.glk_dispatch.proofs.KeptLemmas.{Keeps, Kept, answers, keeps-map, kept-bind, kept-if}
use Rattle.glk_dispatch.proofs.KeptLemmas.{kept-step, ok-coded, row, self}

ok-bind : {A B E : Type 0} (P : A → Type 0) (Q : B → Type 0) (r : Result A E) (f : A → Result B E)
    → IfOk r P → ((x : A) → P x → IfOk (f x) Q) → IfOk (r >>= f) Q
ok-bind P Q (Ok x) f h k = k x h
ok-bind P Q (Err e) f h k = tt

-- ---- memory: bytes in place of as many that are there

replaced-size : (bytes new : List ℕ) (at : ℕ) → at + length new ≤ length bytes
    → length (replaced bytes at new) ≡ length bytes
replaced-size bytes new at h =
    let a = length-append (take at bytes ++ new) (drop (at + length new) bytes) in
    let b = length-append (take at bytes) new in
    let t = length-take-le at bytes (omega (arith, h)) in
    let d = length-drop (at + length new) bytes in
    omega (arith, a, b, t, d, h)

word-size : (w : ℕ) (m : MemoryMap) (at : ℕ) (new : List ℕ) → length new ≡ w
    → (nat_le m.ramstart at && nat_le (at + w) (length m.bytes)) ≡ true
    → length (replaced m.bytes at new) ≡ length m.bytes
word-size w m at new word e =
    let le : at + w ≤ length m.bytes = leb-true _ _ (and_parts (nat_le m.ramstart at) _ e).1 in
    replaced-size m.bytes new at (rw word le)

pub ok-written : (o : MemoryMap) (w : ℕ) (m : MemoryMap) (at x : ℕ) → KeepsMap o m
    → IfOk (written w m at x) (KeepsMap o)
ok-written o w m at x k =
    elim (cases_Bool (nat_le m.ramstart at && nat_le (at + w) (length m.bytes))) [
      | inl e ↦ rw e (record {
        origin = k.origin;
        size = k.size
            ∙ sym (word-size w m at _ (length_word w x) e);
      })
      | inr e ↦ rw e tt
    ]

pub ok-word : (o : MemoryMap) (w : ℕ) (m : MemoryMap) (at x : ℕ) → KeepsMap o m
    → IfOk (coded (written w m at x)) (KeepsMap o)
ok-word o w m at x k = ok-coded (KeepsMap o) (written w m at x) (ok-written o w m at x k)

-- ---- the stack

pushed-if : (b s : StackState) (new : List ℕ) (t : Bool) → length new ≡ 4 * 1 → KeepsFrames b s
    → IfOk (stacked (cond t (Ok (record s { bytes = s.bytes ++ new })) (Err Overflow)))
    (KeepsFrames b)
pushed-if b s new true e k = record {
  limit = k.limit;
  frames = λ c h. let f = k.frames c h in
      (appended_keeps s new 1 e f.0 f.1, omega (arith, length-append s.bytes new, f.1));
}
pushed-if b s new false e k = tt

abbrev pub at-first : {A : Type 0} → StackState → StackState × A → Type 0
at-first s p = KeepsFrames s p.0

ok-popped : (b s : StackState) → KeepsFrames b s → IfOk (argument_popped s) (at-first b)
ok-popped b s k =
    elim (cases_Bool (nat_le 4 (value_bytes s))) [
      | inl e ↦
          let le : 4 ≤ value_bytes s = leb-true _ _ e in
          rw e (record {
            limit = k.limit;
            frames = λ c h. let f = k.frames c h in
                (without_keeps s 1 le f.0 f.1, without_there s 4 le f.0 f.1);
          })
      | inr e ↦ rw e tt
    ]

ok-taken : (b : StackState) (n : ℕ) (s : StackState) (i : ℕ) (args : List ℕ) → KeepsFrames b s
    → IfOk (arguments_taken n s i args) (at-first b)
unfolding arguments_taken
ok-taken b zero s i args k = k
ok-taken b (suc n) s i args k =
    ok-bind (at-first b) (at-first b) (argument_popped s)
    (λ p. arguments_taken n p.0 (i + 1) (slice_set args i p.1))
    (ok-popped b s k) (λ p h. ok-taken b n p.0 (i + 1) (slice_set args i p.1) h)

pub ok-arguments : (s : StackState) (count : Option ℕ) (given : ℕ)
    → IfOk (call_arguments s count given) (at-first s)
ok-arguments s count given =
    let Okay = λ (r : Result (StackState × List ℕ) ℕ). IfOk r (at-first s) in
    cond_both (nat_lt (stack.value_count s) given) _ _ Okay (λ e. tt)
    (λ e. cond_both (takes_count count given) _ _ Okay
    (λ f. ok-taken s given s 0 (replicate 5 0) (record { limit = refl; frames = λ c h. (c, h) }))
    (λ f. tt))

-- ---- references

abbrev both : GlkCall → MemoryMap × StackState → Type 0
both b p = KeepsStory b.memory b.stack p.0 p.1

ok-referred : (b : GlkCall) (m : MemoryMap) (s : StackState) (at x : ℕ)
    → KeepsStory b.memory b.stack m s → IfOk (word_referred m s at x) (both b)
ok-referred b m s at x k =
    let Okay = λ (r : Result (MemoryMap × StackState) ℕ). IfOk r (both b) in
    cond_both (at == 0) _ _ Okay (λ e. k)
    (λ e. cond_both (at == 4294967295) _ _ Okay
    (λ f. ok-bind (KeepsFrames b.stack) (both b) (stacked (pushed s x)) (λ t. Ok (m, t))
    (pushed-if b.stack s _ _ (length_word 4 x) k.stack)
    (λ t h. record { map = k.map; stack = h }))
    (λ f. ok-bind (KeepsMap b.memory) (both b) (coded (written 4 m at x)) (λ n. Ok (n, s))
    (ok-word b.memory 4 m at x k.map)
    (λ n h. record { map = h; stack = k.stack })))

ok-referred_all : (b : GlkCall) (xs : List ℕ) (m : MemoryMap) (s : StackState) (at : ℕ)
    → KeepsStory b.memory b.stack m s
    → IfOk (referred_all m s at xs) (both b)
ok-referred_all b [] m s at k = k
ok-referred_all b (x ∷ xs) m s at k =
    ok-bind (both b) (both b) (word_referred m s at x)
    (λ p. referred_all p.0 p.1 (next_field at) xs)
    (ok-referred b m s at x k) (λ p h. ok-referred_all b xs p.0 p.1 (next_field at) h)

story : (b d : GlkCall) → Keeps b d → KeepsStory b.memory b.stack d.memory d.stack
story b d k = record { map = k.map; stack = k.stack }

pub kept-refers : (b d : GlkCall) (at x : ℕ) → Keeps b d → Kept b (Keeps b) (refers d at x)
kept-refers b d at x k =
    kept-step b (both b) (Keeps b) d.glk (word_referred d.memory d.stack at x)
    (λ p. Ok (record d { memory = p.0; stack = p.1 })) k.parts
    (ok-referred b d.memory d.stack at x (story b d k))
    (λ p h. record { parts = k.parts; map = h.map; stack = h.stack })

pub kept-refers_all : (b d : GlkCall) (at : ℕ) (xs : List ℕ) → Keeps b d
    → Kept b (Keeps b) (refers_all d at xs)
kept-refers_all b d at xs k =
    kept-step b (both b) (Keeps b) d.glk (referred_all d.memory d.stack at xs)
    (λ p. Ok (record d { memory = p.0; stack = p.1 })) k.parts
    (ok-referred_all b xs d.memory d.stack at (story b d k))
    (λ p h. record { parts = k.parts; map = h.map; stack = h.stack })

-- one reference more
pub kept-then : (s : GlkCall) (r : Reached GlkCall) (at x : ℕ) → Kept s (Keeps s) r
    → Kept s (Keeps s) (r >>= (λ t. refers t at x))
kept-then s r at x h = kept-bind s (Keeps s) (Keeps s) r (λ t. refers t at x) h
    (λ t k. kept-refers s t at x k)

-- references, and then an answer
pub kept-told : (s : GlkCall) (r : Reached GlkCall) (x : ℕ) → Kept s (Keeps s) r
    → Kept s (row s) (r >>= gives x)
kept-told s r x h = kept-bind s (Keeps s) (row s) r (gives x) h (λ t k. answers s t x k)

pub kept-one : (s : GlkCall) (at x n : ℕ) → Kept s (row s) (refers s at x >>= gives n)
kept-one s at x n = kept-told s (refers s at x) n (kept-refers s s at x (self s))

pub kept-array_begun : (s : GlkCall) (at x : ℕ) → Kept s (Keeps s) (array_begun s at x)
kept-array_begun s at x =
    kept-if s (Keeps s) (at == 0) (Ok s)
    (within s.glk (coded (written 4 s.memory at x)) >>= (λ m. Ok (record s { memory = m })))
    (λ e. self s)
    (λ e. kept-step s (KeepsMap s.memory) (Keeps s) s.glk (coded (written 4 s.memory at x))
    (λ m. Ok (record s { memory = m })) (λ v. v)
    (ok-word s.memory 4 s.memory at x (self s).map)
    (λ m h. keeps-map s s.glk s.memory m (self s) h))
