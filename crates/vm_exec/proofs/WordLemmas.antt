-- Words of memory, read one by one.
use Rattle.std.proofs.Common.{◌≡◌, ℕ, suc, ◌+◌, List, [], ◌∷◌, ◌++◌, Result, Ok, Err, refl, ap, sym}
use mathlib.Core.List.{append_assoc, append-nil}
use Rattle.vm_memory.specs.Chaining.{◌>>=◌}
use Rattle.vm_memory.specs.Access.{read}
use Rattle.vm_memory.specs.Fault.{code_of}
use Rattle.vm_memory.specs.MemoryMap.{MemoryMap}
use Rattle.vm_memory.specs.declared.fault.MemFault.{MemFault}
use Rattle.vm_exec.specs.Rows.Text.{words_at}

-- words behind those already read
abbrev pub behind : List ℕ → Result (List ℕ) ℕ → Result (List ℕ) ℕ
behind xs (Ok ys) = Ok (xs ++ ys)
behind xs (Err n) = Err n

behind_twice : (xs : List ℕ) (x : ℕ) (r : Result (List ℕ) ℕ)
    → behind xs (r >>= (λ ys. Ok (x ∷ ys))) ≡ behind (xs ++ x ∷ []) r
behind_twice xs x (Ok ys) = ap (λ (zs : List ℕ). Ok zs) (sym (append_assoc xs (x ∷ []) ys))
behind_twice xs x (Err n) = refl

pub words-more : (m : MemoryMap) (at x n k : ℕ) (xs : List ℕ) → n ≡ suc k → read 4 m at ≡ Ok x
    → behind xs (words_at m at n) ≡ behind (xs ++ x ∷ []) (words_at m (at + 4) k)
unfolding words_at
words-more m at x n k xs is e = rw (is, e) (behind_twice xs x (words_at m (at + 4) k))

pub words-stop : (m : MemoryMap) (at n k : ℕ) (f : MemFault) (xs : List ℕ)
    → n ≡ suc k → read 4 m at ≡ Err f
    → behind xs (words_at m at n) ≡ Err (code_of f)
unfolding words_at
words-stop m at n k f xs is e = rw (is, e) refl

pub words-end : (m : MemoryMap) (at n : ℕ) (xs : List ℕ)
    → n ≡ 0 → behind xs (words_at m at n) ≡ Ok xs
unfolding words_at
words-end m at n xs e = rw e (ap (λ (ys : List ℕ). Ok ys) (append-nil xs))
