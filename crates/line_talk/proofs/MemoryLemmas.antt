-- Parts of lists that reads of memory give.
use Rattle.std.proofs.Common.{◌≡◌, ℕ, ◌+◌, ◌-◌, ◌^◌, ◌<◌, ◌≤◌, List, ◌++◌, take, drop, length}
use Rattle.std.proofs.Common.{min, arith, inl, sym, ap, ◌∙◌, ◌==◌, Bool, true, Option, Some}
use Rattle.std.proofs.lemmas.Grind.{common_steps}
use Rattle.std.proofs.lemmas.List.{take-append-drop}
use Rattle.std.specs.List.{list_any}
use Rattle.line_talk.specs.Causes.{CountsMore}
use Rattle.line_talk.specs.Failing.{Failing, FailsOrWants}

length_part : (bytes : List ℕ) (at n : ℕ)
    → at + n ≤ length bytes
    → length (take n (drop at bytes)) ≡ n
length_part bytes at n fits = grind (arith, common_steps)

front_part : (copy into : List ℕ) (n : ℕ) → length copy ≡ n → take n (copy ++ drop n into) ≡ copy
front_part copy into n same = grind (arith, common_steps)

pub read_told : (bytes into copy : List ℕ) (at n : ℕ)
    → at + n ≤ length bytes
    → copy ≡ take (at + n - at) (drop at bytes)
    → drop at bytes ≡ take n (copy ++ drop n into) ++ drop (at + n) bytes
read_told bytes into copy at n fits is =
    let number : at + n - at ≡ n = omega arith in
    let part : copy ≡ take n (drop at bytes) = is ∙ ap (λ k. take k (drop at bytes)) number in
    let long : length copy ≡ n = ap length part ∙ length_part bytes at n fits in
    let rest : drop (at + n) bytes ≡ drop n (drop at bytes) = grind (arith, common_steps) in
    sym (ap (λ l. l ++ drop (at + n) bytes) (front_part copy into n long ∙ part)
    ∙ ap (λ l. take n (drop at bytes) ++ l) rest
    ∙ take-append-drop n (drop at bytes))

pub read_count : (bytes into copy : List ℕ) (at n : ℕ)
    → at + n ≤ length bytes → length bytes < 2 ^ 64
    → copy ≡ take (at + n - at) (drop at bytes)
    → CountsMore at (length (take n (copy ++ drop n into))) (at + n)
read_count bytes into copy at n fits small is =
    let number : at + n - at ≡ n = omega arith in
    let part : copy ≡ take n (drop at bytes) = is ∙ ap (λ k. take k (drop at bytes)) number in
    let long : length copy ≡ n = ap length part ∙ length_part bytes at n fits in
    let front : length (take n (copy ++ drop n into)) ≡ n =
    ap length (front_part copy into n long) ∙ long in
    record { most = omega (arith, front); least = omega (arith, front) }

abbrev numbered : ℕ → List ℕ → Option Failing
numbered next listed = Some (record { next = next; listed = listed })

-- a call that was to fail
pub failed_so : (next now : ℕ) (listed : List ℕ) (due : Bool)
    → now ≡ min (next + 1) (2 ^ 64 - 1) → due ≡ true
    → due ≡ list_any (λ call. call == next) listed
    → FailsOrWants (numbered next listed) (numbered now listed) true
failed_so next now listed due count is listed_is =
    inl (ap (λ (n : ℕ). numbered n listed) count, sym is ∙ listed_is)
