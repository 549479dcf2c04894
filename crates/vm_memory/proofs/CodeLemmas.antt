-- Numbers in code below RAMSTART.
use Rattle.std.proofs.Common.{◌≡◌, ℕ, ◌+◌, ◌-◌, ◌≤◌, ◌<◌, List, length, drop, true, nat_le}
use Rattle.std.proofs.Common.{slice_index, Ok, ap, sym, ◌∙◌, arith}
use Rattle.std.proofs.lemmas.List.{get_or-take, get_or-drop, length-take, length-drop}
use Rattle.std.proofs.lemmas.Bool.Decides.{nat_tests}
use Rattle.byteorder.specs.Endian.{big_number}
use Rattle.vm_memory.specs.Access.{read}
use Rattle.vm_memory.specs.Code.{IsCode}
use Rattle.vm_memory.specs.MemoryMap.{MemoryMap}
use Rattle.vm_memory.proofs.LaidLemmas.{big_from_same}

-- the code has 32 bytes
pub code_size : (m : MemoryMap) (start : ℕ) (code : List ℕ) → IsCode m start code → length code ≡ 32
code_size m start code here =
    let inside = here.inside in
    ap length here.bytes
    ∙ (let t = length-take 32 (drop start m.bytes) in
    let d = length-drop start m.bytes in
    omega (arith, t, d, inside))

-- a number in the code ends in it
pub code_holds : (m : MemoryMap) (start : ℕ) (code : List ℕ) (at n : ℕ)
    → IsCode m start code → start ≤ at
    → at + n ≤ start + 32 → at - start + n ≤ length code
code_holds m start code at n here low high =
    let size = code_size m start code here in omega (arith, size, low, high)

-- a byte of the code is one of memory
code_byte : (m : MemoryMap) (start : ℕ) (code : List ℕ) (at k : ℕ)
    → IsCode m start code → start ≤ at
    → at + k < start + 32 → slice_index (drop (at - start) code) k ≡ slice_index (drop at m.bytes) k
code_byte m start code at k here low high =
    get_or-drop (at - start) code k 0
    ∙ ap (λ (xs : List ℕ). slice_index xs (at - start + k)) here.bytes
    ∙ get_or-take 32 (drop start m.bytes) (at - start + k) 0 (omega (arith, low, high))
    ∙ get_or-drop start m.bytes (at - start + k) 0
    ∙ ap (λ (n : ℕ). slice_index m.bytes n) (omega (arith, low))
    ∙ sym (get_or-drop at m.bytes k 0)

-- a number in the code is what memory reads there
pub code_number : (m : MemoryMap) (start : ℕ) (code : List ℕ) (at n : ℕ)
    → IsCode m start code → start ≤ at
    → at + n ≤ start + 32 → read n m at ≡ Ok (big_number n (drop (at - start) code))
code_number m start code at n here low high =
    let inside = here.inside in
    let t : nat_le (at + n) (length m.bytes) ≡ true =
    (let le : at + n ≤ length m.bytes = omega (arith, high, inside) in grind (arith, nat_tests)) in
    rw t (ap Ok (sym (big_from_same 0 n (drop (at - start) code) (drop at m.bytes)
    (λ k l. code_byte m start code at k here low (omega (arith, high, l))))))

pub code_one : (m : MemoryMap) (start : ℕ) (code : List ℕ) (at : ℕ)
    → IsCode m start code → start ≤ at
    → at + 1 ≤ start + 32 → read 1 m at ≡ Ok (slice_index code (at - start))
code_one m start code at here low high =
    code_number m start code at 1 here low high
    ∙ ap Ok (let e : slice_index (drop (at - start) code) 0 ≡ slice_index code (at - start) =
    get_or-drop (at - start) code 0 0 ∙ ap (λ (n : ℕ). slice_index code n) (omega arith) in
    omega (arith, e))
