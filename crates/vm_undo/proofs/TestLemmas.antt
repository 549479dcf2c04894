-- Bytes that pass the test of runs are what the writer codes, and no others.
use Rattle.std.proofs.Common.{◌≡◌, ◌≢◌, ℕ, zero, suc, ◌+◌, ◌-◌, ◌*◌, ◌/◌, ◌%◌, ◌<◌, ◌≤◌}
use Rattle.std.proofs.Common.{Bool, true, false, ◌==◌, nat_lt, nat_le, List, [], ◌∷◌, ◌++◌}
use Rattle.std.proofs.Common.{length, replicate, refl, ap, sym, ◌∙◌, append_assoc, arith, inl, inr}
use Rattle.std.proofs.lemmas.List.{append-nil}
use Rattle.std.specs.Prelude.{◌&&◌, IsTrue}
use Rattle.std.proofs.lemmas.Bool.{cases_eq}
use Rattle.std.proofs.lemmas.Bool.Decides.{nat_tests}
use Rattle.std.proofs.lemmas.List.{length-append, length-replicate}
use Rattle.vm_undo.specs.Runs.{pairs, last_run, zeros, runs_coded}
use Rattle.vm_undo.specs.RunsTest.{are_runs, are_runs_behind}
use Rattle.vm_undo.specs.declared.runs.Behind.{Behind}
use Rattle.vm_undo.specs.declared.runs.Behind.TheVariants.{Change, Full, Short, Zero}
use Rattle.vm_undo.proofs.RunLemmas.{pairs_push}

-- ---- what the writer codes passes

-- a change passes behind a run as behind a change
behind_full : (n q x : ℕ) (xs : List ℕ)
    → are_runs_behind Full n (pairs q ++ (x ∷ xs)) ≡ are_runs_behind Change n (pairs q ++ (x ∷ xs))
behind_full n zero x xs = refl
behind_full n (suc q) x xs = refl

pairs_pass : (q n x : ℕ) (xs : List ℕ)
    → are_runs_behind Change (q * 256 + n) (pairs q ++ (x ∷ xs)) ≡ are_runs_behind Change n (x ∷ xs)
pairs_pass zero n x xs =
    let e : zero * 256 + n ≡ n = omega arith in
    ap (λ (m : ℕ). are_runs_behind Change m (x ∷ xs)) e
pairs_pass (suc q) n x xs =
    let fits : nat_le 256 (suc q * 256 + n) ≡ true = grind (arith, nat_tests) in
    let left : suc q * 256 + n - 256 ≡ q * 256 + n = omega arith in
    rw (fits, left) (behind_full (q * 256 + n) q x xs ∙ pairs_pass q n x xs)

last_pass : (r n d : ℕ) (bs : List ℕ) → r < 256 → d ≢ 0
    → are_runs_behind Change (r + n) (last_run r ++ (d ∷ bs)) ≡ are_runs_behind Change n (d ∷ bs)
last_pass zero n d bs l ne =
    let e : zero + n ≡ n = omega arith in
    ap (λ (m : ℕ). are_runs_behind Change m (d ∷ bs)) e
last_pass (suc r) n d bs l ne =
    let short : (r == 255) ≡ false = grind (arith, nat_tests) in
    let below : nat_lt r 255 ≡ true = grind (arith, nat_tests) in
    let fits : nat_le (r + 1) (suc r + n) ≡ true = grind (arith, nat_tests) in
    let left : suc r + n - (r + 1) ≡ n = omega arith in
    let other : (d == 0) ≡ false = grind (arith, nat_tests, ne) in
    rw (short, below, fits, left, other) refl

zeros_part : (q r : ℕ) → r < 256 → zeros (q * 256 + r) ≡ pairs q ++ last_run r
unfolding zeros
zeros_part q r l =
    let full : (q * 256 + r) / 256 ≡ q = omega arith in
    let rest : (q * 256 + r) % 256 ≡ r = omega arith in
    rw (full, rest) refl

parts_pass : (q r n d : ℕ) (bs : List ℕ) → r < 256 → d ≢ 0
    → are_runs_behind Change (q * 256 + (r + n)) (pairs q ++ (last_run r ++ (d ∷ bs)))
    ≡ are_runs_behind Change n (d ∷ bs)
parts_pass q zero n d bs l ne =
    let e : zero + n ≡ n = omega arith in rw e (pairs_pass q n d bs)
parts_pass q (suc r) n d bs l ne =
    pairs_pass q (suc r + n) 0 (r ∷ (d ∷ bs)) ∙ last_pass (suc r) n d bs l ne

zeros_pass : (k n d : ℕ) (bs : List ℕ) → d ≢ 0
    → are_runs_behind Change (k + n) (zeros k ++ (d ∷ bs)) ≡ are_runs_behind Change n (d ∷ bs)
zeros_pass k n d bs ne =
    let q = k / 256 in
    let r = k % 256 in
    let e : k ≡ q * 256 + r = omega arith in
    let l : r < 256 = omega arith in
    let coded : zeros k ≡ pairs q ++ last_run r = ap zeros e ∙ zeros_part q r l in
    let size : k + n ≡ q * 256 + (r + n) = omega (arith, e) in
    ap (λ (m : ℕ). are_runs_behind Change m (zeros k ++ (d ∷ bs))) size
    ∙ ap (λ (xs : List ℕ). are_runs_behind Change (q * 256 + (r + n)) (xs ++ (d ∷ bs))) coded
    ∙ ap (are_runs_behind Change (q * 256 + (r + n))) (append_assoc (pairs q) (last_run r) (d ∷ bs))
    ∙ parts_pass q r n d bs l ne

-- what the writer codes passes
pub coded_pass : (k : ℕ) (ds : List ℕ) → are_runs (k + length ds) (runs_coded k ds) ≡ true
coded_pass k [] = refl
coded_pass k (d ∷ ds) = elim (cases_eq d 0) [
  | inl e ↦
      let none : (d == 0) ≡ true = grind (arith, nat_tests, e) in
      let size : k + suc (length ds) ≡ k + 1 + length ds = omega arith in
      rw (none, size) (coded_pass (k + 1) ds)
  | inr ne ↦
      let other : (d == 0) ≡ false = grind (arith, nat_tests, ne) in
      let some : nat_lt 0 (suc (length ds)) ≡ true = grind (arith, nat_tests) in
      let left : suc (length ds) - 1 ≡ 0 + length ds = omega arith in
      let rest : are_runs_behind Change (suc (length ds)) (d ∷ runs_coded 0 ds) ≡ true =
      rw (other, some, left) (coded_pass 0 ds) in
      rw other (zeros_pass k (suc (length ds)) d (runs_coded 0 ds) ne ∙ rest)
]

-- ---- what passes is coded so

-- differences that are coded so, where what stands before is told
abbrev pub Codes : Behind → List ℕ → List ℕ → Type 0
Codes Change ds bs = runs_coded 0 ds ≡ bs
Codes Full ds bs = (q : ℕ) → runs_coded (q * 256) ds ≡ pairs q ++ bs
Codes Short ds bs = (k : ℕ) → runs_coded k ds ≡ zeros k ++ bs
Codes Zero ds bs = (q : ℕ) → runs_coded (q * 256) ds ≡ pairs q ++ (0 ∷ bs)

pub record Coded (behind : Behind) (n : ℕ) (bs : List ℕ) : Type 0 where
  pub ds : List ℕ
  pub size : length ds ≡ n
  pub codes : Codes behind ds bs

no_changes : (k n : ℕ) → runs_coded k (replicate n 0) ≡ []
no_changes k zero = refl
no_changes k (suc n) = no_changes (k + 1) n

zeros_more : (k n : ℕ) (ds : List ℕ) → runs_coded k (replicate n 0 ++ ds) ≡ runs_coded (k + n) ds
zeros_more k zero ds = ap (λ j. runs_coded j ds) (omega arith)
zeros_more k (suc n) ds = zeros_more (k + 1) n ds ∙ ap (λ j. runs_coded j ds) (omega arith)

one_change : (k d : ℕ) (ds bs : List ℕ) → d ≢ 0 → runs_coded 0 ds ≡ bs
    → runs_coded k (d ∷ ds) ≡ zeros k ++ (d ∷ bs)
one_change k d ds bs ne e =
    let other : (d == 0) ≡ false = grind (arith, nat_tests, ne) in
    rw (other, e) refl

pub both : (a b : Bool) → IsTrue (a && b) → (a ≡ true) × IsTrue b
both true b h = (refl, h)
both false b h = cc

zeros_none : zeros 0 ≡ []
unfolding zeros
zeros_none = refl

-- a change, behind which bytes are coded
with_change : (n b : ℕ) (bs : List ℕ) → b ≢ 0
    → (IsTrue (are_runs_behind Change (n - 1) bs) → Coded Change (n - 1) bs)
    → IsTrue (nat_lt 0 n && are_runs_behind Change (n - 1) bs)
    → (ds : List ℕ) × (length ds ≡ n) × ((k : ℕ) → runs_coded k ds ≡ zeros k ++ (b ∷ bs))
with_change n b bs ne more t =
    let h = both (nat_lt 0 n) (are_runs_behind Change (n - 1) bs) t in
    let some = h.0 in
    let l : 0 < n = grind (arith, nat_tests, some) in
    let r = more h.1 in
    let size = r.size in
    (b ∷ r.ds, omega (arith, l, size), λ k. one_change k b r.ds bs ne r.codes)

full_zeros : (q : ℕ) → zeros (q * 256) ≡ pairs q
full_zeros q =
    let e : q * 256 ≡ q * 256 + 0 = omega arith in
    ap zeros e ∙ zeros_part q 0 (omega arith) ∙ append-nil (pairs q)

full_run : (q b : ℕ) (bs ds : List ℕ) → b ≡ 255
    → ((p : ℕ) → runs_coded (p * 256) ds ≡ pairs p ++ bs)
    → runs_coded (q * 256) (replicate 256 0 ++ ds) ≡ pairs q ++ (0 ∷ b ∷ bs)
full_run q b bs ds e more =
    let next : q * 256 + 256 ≡ (q + 1) * 256 = omega arith in
    zeros_more (q * 256) 256 ds ∙ ap (λ (k : ℕ). runs_coded k ds) next ∙ more (q + 1)
    ∙ ap (λ (xs : List ℕ). xs ++ bs) (pairs_push q) ∙ append_assoc (pairs q) (0 ∷ 255 ∷ []) bs
    ∙ ap (λ (x : ℕ). pairs q ++ (0 ∷ x ∷ bs)) (sym e)

short_run : (q b : ℕ) (bs ds : List ℕ) → b < 255
    → ((k : ℕ) → runs_coded k ds ≡ zeros k ++ bs)
    → runs_coded (q * 256) (replicate (b + 1) 0 ++ ds) ≡ pairs q ++ (0 ∷ b ∷ bs)
short_run q b bs ds l more =
    let one : b + 1 ≡ suc b = omega arith in
    zeros_more (q * 256) (b + 1) ds ∙ more (q * 256 + (b + 1))
    ∙ ap (λ (xs : List ℕ). xs ++ bs) (zeros_part q (b + 1) (omega (arith, l)))
    ∙ append_assoc (pairs q) (last_run (b + 1)) bs
    ∙ ap (λ (r : ℕ). pairs q ++ (last_run r ++ bs)) one

-- what passes is what differences are coded as
pub passed : (behind : Behind) (n : ℕ) (bs : List ℕ) → IsTrue (are_runs_behind behind n bs)
    → Coded behind n bs
passed Change n [] t = record {
  ds = replicate n 0;
  size = length-replicate {A = ℕ} n 0;
  codes = no_changes 0 n;
}
passed Full n [] t = cc
passed Short n [] t = cc
passed Zero n [] t = cc
passed Change n (b ∷ bs) t = elim (cases_eq b 0) [
  | inl e ↦
      let zero_is : (b == 0) ≡ true = grind (arith, nat_tests, e) in
      let r = passed Zero n bs (rw zero_is at t) in
      record {
        ds = r.ds;
        size = r.size;
        codes = rw e (r.codes 0);
      }
  | inr ne ↦
      let other : (b == 0) ≡ false = grind (arith, nat_tests, ne) in
      let r = with_change n b bs ne (passed Change (n - 1) bs) (rw other at t) in
      record {
        ds = r.0;
        size = r.1;
        codes = r.2 0 ∙ ap (λ (xs : List ℕ). xs ++ (b ∷ bs)) zeros_none;
      }
]
passed Full n (b ∷ bs) t = elim (cases_eq b 0) [
  | inl e ↦
      let zero_is : (b == 0) ≡ true = grind (arith, nat_tests, e) in
      let r = passed Zero n bs (rw zero_is at t) in
      record {
        ds = r.ds;
        size = r.size;
        codes = rw e r.codes;
      }
  | inr ne ↦
      let other : (b == 0) ≡ false = grind (arith, nat_tests, ne) in
      let r = with_change n b bs ne (passed Change (n - 1) bs) (rw other at t) in
      record {
        ds = r.0;
        size = r.1;
        codes = λ q. r.2 (q * 256) ∙ ap (λ (xs : List ℕ). xs ++ (b ∷ bs)) (full_zeros q);
      }
]
passed Short n (b ∷ bs) t = elim (cases_eq b 0) [
  | inl e ↦
      let zero_is : (b == 0) ≡ true = grind (arith, nat_tests, e) in
      let f : false ≡ true = rw zero_is at t in
      cc
  | inr ne ↦
      let other : (b == 0) ≡ false = grind (arith, nat_tests, ne) in
      let r = with_change n b bs ne (passed Change (n - 1) bs) (rw other at t) in
      record { ds = r.0; size = r.1; codes = r.2 }
]
passed Zero n (b ∷ bs) t = elim (cases_eq b 255) [
  | inl e ↦
      let is : (b == 255) ≡ true = grind (arith, nat_tests, e) in
      let h = both (nat_le 256 n) (are_runs_behind Full (n - 256) bs) (rw is at t) in
      let some = h.0 in
      let l : 256 ≤ n = grind (arith, nat_tests, some) in
      let r = passed Full (n - 256) bs h.1 in
      let size = r.size in
      record {
        ds = replicate 256 0 ++ r.ds;
        size = omega (
          arith,
          l,
          size,
          length-append (replicate 256 0) r.ds,
          length-replicate {A = ℕ} 256 0,
        );
        codes = λ q. full_run q b bs r.ds e r.codes;
      }
  | inr ne ↦
      let not_full : (b == 255) ≡ false = grind (arith, nat_tests, ne) in
      let h = both (nat_lt b 255) (nat_le (b + 1) n && are_runs_behind Short (n - (b + 1)) bs)
      (rw not_full at t) in
      let few = h.0 in
      let j = both (nat_le (b + 1) n) (are_runs_behind Short (n - (b + 1)) bs) h.1 in
      let some = j.0 in
      let less : b < 255 = grind (arith, nat_tests, few) in
      let l : b + 1 ≤ n = grind (arith, nat_tests, some) in
      let r = passed Short (n - (b + 1)) bs j.1 in
      let size = r.size in
      record {
        ds = replicate (b + 1) 0 ++ r.ds;
        size = omega (
          arith,
          l,
          size,
          length-append (replicate (b + 1) 0) r.ds,
          length-replicate {A = ℕ} (b + 1) 0,
        );
        codes = λ q. short_run q b bs r.ds less r.codes;
      }
]
