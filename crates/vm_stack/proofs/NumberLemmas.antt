-- Numbers that stand in lists put together.
use Rattle.std.proofs.Common.{◌≡◌, ℕ, ◌+◌, ◌≤◌, ◌<◌, true, nat_le, List, ◌++◌, length}
use Rattle.std.proofs.Common.{take, drop, refl, arith, sym, ap, ◌∙◌, length-append, length-drop}
use Rattle.std.proofs.lemmas.Bool.{le-leb}
use Rattle.std.proofs.lemmas.Bool.Decides.{nat_tests}
use Rattle.std.proofs.lemmas.List.{drop-append-le, length-take-le, take-append-drop}
use Rattle.std.proofs.Math.Seq.{drop-append-add}
use Rattle.byteorder.specs.Numbers.{big_from-append, big_number-reads_back}
use Rattle.byteorder.specs.Endian.{big_bytes}
use Rattle.vm_stack.specs.StackState.{number}

-- a number behind other bytes
pub number_behind : (low ys : List ℕ) (w n i : ℕ)
    → n ≡ length low + i
    → number w (low ++ ys) n ≡ number w ys i
number_behind low ys w n i e =
    rw (e, length-append low ys, drop-append-add low ys i)
    (let t : nat_le (length low + i + w) (length low + length ys) ≡ nat_le (i + w) (length ys) =
    grind (arith, nat_tests) in
    rw t refl)

-- the number that begins the bytes
pub number_first : (x : ℕ) (ys : List ℕ) → x < 4294967296 → number 4 (big_bytes 4 x ++ ys) 0 ≡ x
number_first x ys h =
    let l : nat_le (0 + 4) (length (big_bytes 4 x ++ ys)) ≡ true =
    le-leb _ _ (omega (arith, length-append (big_bytes 4 x) ys)) in
    rw l (big_number-reads_back 4 x ys h)

-- a number before other bytes
pub number_within : (xs ys : List ℕ) (at : ℕ)
    → at + 4 ≤ length xs
    → number 4 xs at ≡ number 4 (xs ++ ys) at
number_within xs ys at h =
    let a = length-append xs ys in
    let one : nat_le (at + 4) (length xs) ≡ true = le-leb _ _ h in
    let two : nat_le (at + 4) (length (xs ++ ys)) ≡ true = le-leb _ _ (omega (arith, a, h)) in
    let d = length-drop at xs in
    rw (one, two, drop-append-le at xs ys (omega (arith, h)))
    (sym (big_from-append 4 (drop at xs) ys (omega (arith, d, h))))

-- a number in a front of the bytes
pub number_taken : (xs : List ℕ) (n at : ℕ)
    → at + 4 ≤ n → n ≤ length xs
    → number 4 (take n xs) at ≡ number 4 xs at
number_taken xs n at h le =
    let size = length-take-le n xs le in
    number_within (take n xs) (drop n xs) at (omega (arith, size, h))
    ∙ ap (λ (ys : List ℕ). number 4 ys at) (take-append-drop n xs)
