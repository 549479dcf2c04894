-- The characters of a line one by one.
use native.Mathlib.Numerals.{unary_clauses}
use Rattle.std.proofs.Common.{◌≡◌, ℕ, zero, suc, ◌+◌, ◌-◌, ◌%◌, ◌^◌, ◌<◌, refl, arith, Bool, List}
use Rattle.std.proofs.Common.{[], ◌∷◌, ◌++◌, length, map, take, Ok, Err, Result, ap, sym, ◌∙◌}
use Rattle.std.proofs.Common.{append_assoc}
use Rattle.vm_memory.specs.Chaining.{◌>>=◌}
use Rattle.vm_memory.specs.Access.{written}
use Rattle.vm_memory.specs.MemoryMap.{MemoryMap}
use Rattle.vm_memory.specs.Access.{LeavesMemory}
use Rattle.vm_memory.specs.declared.fault.MemStop.{MemStop}
use Rattle.vm_memory.specs.declared.fault.MemStop.TheVariants.{Fault, NoMemory}
use Rattle.glk_input.specs.Delivery.{line_written, code_taken, width, WritesCharacters, WritesPart}
use Rattle.vm_memory.specs.declared.fault.MemFault.{MemFault}

-- a line that may have more characters begins with its first
pub front_written : (u : Bool) (m : MemoryMap) (at c : ℕ) (cs : List ℕ) (left : ℕ) → 0 < left
    → line_written u m at (map (code_taken u) (take left (c ∷ cs)))
    ≡ written (width u) m at (code_taken u c) >>=
    (λ n. line_written u n ((at + width u) % 2 ^ 32) (map (code_taken u) (take (left - 1) cs)))
front_written u m at c cs zero h = absurd (omega arith)
front_written u m at c cs (suc left) h = simp unary_clauses

pub front_length : (c : ℕ) (cs : List ℕ) (left : ℕ) → 0 < left
    → length (take left (c ∷ cs)) ≡ length (take (left - 1) cs) + 1
front_length c cs zero h = absurd (omega arith)
front_length c cs (suc left) h = simp unary_clauses

-- what is left to write gives what was to write; a write that stops stops the line
pub writes_stop : (u : Bool) (m m0 new : MemoryMap) (at from c : ℕ) (cs text : List ℕ) (left : ℕ)
    (stop : MemStop) → 0 < left
    → line_written u m at (map (code_taken u) (take left (c ∷ cs))) ≡ line_written u m0 from
    (map (code_taken u) text)
    → LeavesMemory {A = Unit {0}} (written (width u) m at (code_taken u c)) new (Err stop)
    → WritesCharacters u m0 from text new (Err stop)
writes_stop u m m0 new at from c cs text left (Fault f) h e l =
    sym e ∙ front_written u m at c cs left h
    ∙ ap (λ x. x >>= (λ n. line_written u n ((at + width u) % 2 ^ 32)
    (map (code_taken u) (take (left - 1) cs)))) l
writes_stop u m m0 new at from c cs text left NoMemory h e l = tt

-- and after a write the rest is left
pub writes_on : (u : Bool) (m m0 new : MemoryMap) (at from c : ℕ) (cs text : List ℕ) (left : ℕ)
    → 0 < left
    → line_written u m at (map (code_taken u) (take left (c ∷ cs))) ≡ line_written u m0 from
    (map (code_taken u) text)
    → written (width u) m at (code_taken u c) ≡ Ok new
    → line_written u new ((at + width u) % 2 ^ 32) (map (code_taken u) (take (left - 1) cs))
    ≡ line_written u m0 from (map (code_taken u) text)
writes_on u m m0 new at from c cs text left h e l =
    sym (sym e ∙ front_written u m at c cs left h
    ∙ ap (λ x. x >>= (λ n. line_written u n ((at + width u) % 2 ^ 32)
    (map (code_taken u) (take (left - 1) cs)))) l)

pub written_none : (u : Bool) (m : MemoryMap) (at left : ℕ)
    → line_written u m at (map (code_taken u) (take left [])) ≡ Ok m
written_none u m at zero = refl
written_none u m at (suc left) = refl

pub counted_none : (left count total : ℕ) → count + length (take {A = ℕ} left []) ≡ total
    → count ≡ total
counted_none zero count total e = omega arith
counted_none (suc left) count total e = omega arith

-- ---- what a write that stops leaves

-- the address behind so many characters
abbrev pub place : Bool → ℕ → List ℕ → ℕ
place u at [] = at
place u at (c ∷ cs) = place u ((at + width u) % 2 ^ 32) cs

-- the front of these characters is written, up to this address, and the rest is left
pub record HasWritten (u : Bool) (m0 m : MemoryMap) (from at : ℕ)
    (rest codes : List ℕ) : Type 0 where
  pub front : List ℕ
  pub all : codes ≡ front ++ rest
  pub is : line_written u m0 from (map (code_taken u) front) ≡ Ok m
  pub there : place u from front ≡ at

pub begins : (u : Bool) (m : MemoryMap) (from : ℕ) (codes : List ℕ)
    → HasWritten u m m from from codes codes
begins u m from codes = record { front = []; all = refl; is = refl; there = refl }

place-more : (u : Bool) (at c : ℕ) (cs : List ℕ)
    → place u at (cs ++ c ∷ []) ≡ (place u at cs + width u) % 2 ^ 32
place-more u at c [] = refl
place-more u at c (d ∷ cs) = place-more u ((at + width u) % 2 ^ 32) c cs

abbrev held : MemoryMap → Result MemoryMap MemFault → MemoryMap
held d (Ok m) = m
held d (Err f) = d

then : (r : Result MemoryMap MemFault) (f g : MemoryMap → Result MemoryMap MemFault)
    (m new : MemoryMap)
    → ((n : MemoryMap) → f n ≡ Ok m → g n ≡ Ok new) → r >>= f ≡ Ok m → r >>= g ≡ Ok new
then (Ok n) f g m new h e = h n e
then (Err x) f g m new h e = cc

-- one character more
one_more : (u : Bool) (m0 m new : MemoryMap) (from c : ℕ) (cs : List ℕ)
    → line_written u m0 from (map (code_taken u) cs) ≡ Ok m
    → written (width u) m (place u from cs) (code_taken u c) ≡ Ok new
    → line_written u m0 from (map (code_taken u) (cs ++ c ∷ [])) ≡ Ok new
one_more u m0 m new from c [] e w =
    let same : written (width u) m0 from (code_taken u c) ≡ Ok new =
    ap (λ (n : MemoryMap). written (width u) n from (code_taken u c)) (ap (held m0) e) ∙ w in
    ap (λ (r : Result MemoryMap MemFault). r >>=
    (λ n. line_written u n ((from + width u) % 2 ^ 32) [])) same
one_more u m0 m new from c (d ∷ cs) e w =
    then (written (width u) m0 from (code_taken u d))
    (λ n. line_written u n ((from + width u) % 2 ^ 32) (map (code_taken u) cs))
    (λ n. line_written u n ((from + width u) % 2 ^ 32) (map (code_taken u) (cs ++ c ∷ [])))
    m new (λ n k. one_more u n m new ((from + width u) % 2 ^ 32) c cs k w) e

front_of : (c : ℕ) (cs : List ℕ) (left : ℕ) → 0 < left → take left (c ∷ cs) ≡ c ∷ take (left - 1) cs
front_of c cs zero h = absurd (omega arith)
front_of c cs (suc left) h = simp unary_clauses

pub goes_on : (u : Bool) (m0 m new : MemoryMap) (from at c : ℕ) (cs codes : List ℕ) (left : ℕ)
    → 0 < left
    → HasWritten u m0 m from at (take left (c ∷ cs)) codes
    → written (width u) m at (code_taken u c) ≡ Ok new
    → HasWritten u m0 new from ((at + width u) % 2 ^ 32) (take (left - 1) cs) codes
goes_on u m0 m new from at c cs codes left h k w = record {
  front = k.front ++ c ∷ [];
  all = k.all ∙ ap (λ (l : List ℕ). k.front ++ l) (front_of c cs left h)
      ∙ sym (append_assoc k.front (c ∷ []) (take (left - 1) cs));
  is = one_more u m0 m new from c k.front k.is
      (ap (λ (a : ℕ). written (width u) m a (code_taken u c)) k.there ∙ w);
  there = place-more u from c k.front ∙ ap (λ (a : ℕ). (a + width u) % 2 ^ 32) k.there;
}

pub stops : (u : Bool) (m0 m new : MemoryMap) (from at : ℕ) (rest codes : List ℕ)
    → HasWritten u m0 m from at rest codes
    → new ≡ m → WritesPart u m0 from codes new
stops u m0 m new from at rest codes k e = (k.front, rest, k.all, k.is ∙ ap Ok (sym e))
