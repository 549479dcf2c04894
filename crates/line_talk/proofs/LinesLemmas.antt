-- The lines of bytes, and of more bytes behind them.
use Rattle.std.proofs.Common.{◌≡◌, ℕ, zero, suc, ◌+◌, ◌-◌, ◌^◌, ◌≤◌, inl, inr, List}
use Rattle.std.proofs.Common.{[], ◌∷◌, ◌++◌, take, length, refl, sym, ap, ◌∙◌, arith}
use Rattle.std.proofs.Common.{append_assoc, length-append, true, false, cond, nat_eq}
use Rattle.std.proofs.lemmas.List.{take_all, take-append-le}
use Rattle.std.proofs.Math.Seq.{take-append-add}
use Rattle.line_talk.specs.Lines.{lines_from, lines, talk, ReachesLimit}
use Rattle.line_talk.specs.Talked.{AreFirst}

-- the line that has begun after bytes
begun_by : List ℕ → List ℕ → List ℕ
begun_by begun [] = begun
begun_by begun (byte ∷ bytes) =
    cond (nat_eq byte 10) (begun_by [] bytes) (begun_by (begun ++ byte ∷ []) bytes)

lines_append : (begun xs ys : List ℕ)
    → lines_from begun (xs ++ ys) ≡ lines_from begun xs ++ lines_from (begun_by begun xs) ys
unfolding begun_by
lines_append begun [] ys = refl
lines_append begun (x ∷ xs) ys =
    elim (nat_eq x 10)
    as (λ b. cond b (begun ∷ lines_from [] (xs ++ ys)) (lines_from (begun ++ x ∷ []) (xs ++ ys))
    ≡ cond b (begun ∷ lines_from [] xs) (lines_from (begun ++ x ∷ []) xs)
    ++ lines_from (cond b (begun_by [] xs) (begun_by (begun ++ x ∷ []) xs)) ys) [
      | true ↦ ap (λ ls. begun ∷ ls) (lines_append [] xs ys)
      | false ↦ lines_append (begun ++ x ∷ []) xs ys
    ]

-- the first lines stay
pub more_lines : (xs ys : List ℕ) → (rest : List (List ℕ)) × (lines (xs ++ ys) ≡ lines xs ++ rest)
more_lines xs ys = (lines_from (begun_by [] xs) ys, lines_append [] xs ys)

-- the first of some lines are the first of more
first_more : (n : ℕ) (xs ys : List (List ℕ)) → AreFirst (take n xs) (take n (xs ++ ys))
first_more zero xs ys = ([], refl)
first_more (suc n) [] ys = (take (suc n) ys, refl)
first_more (suc n) (x ∷ xs) ys = let more = first_more n xs ys in (more.0, ap (λ l. x ∷ l) more.1)

-- what a connection takes of bytes comes first where more bytes follow
front_bytes : (xs ys : List ℕ)
    → length xs ≤ 2 ^ 31
    → take (2 ^ 31) (xs ++ ys) ≡ xs ++ take (2 ^ 31 - length xs) ys
front_bytes xs ys within =
    let number : 2 ^ 31 ≡ length xs + (2 ^ 31 - length xs) = omega (arith, within) in
    ap (λ n. take n (xs ++ ys)) number ∙ take-append-add xs ys (2 ^ 31 - length xs)

-- at most 2^31 bytes are all looked at
pub talk_small : (bytes : List ℕ) → length bytes ≤ 2 ^ 31 → talk bytes ≡ take (2 ^ 20) (lines bytes)
talk_small bytes few = ap (λ b. take (2 ^ 20) (lines b)) (take_all (2 ^ 31) bytes few)

pub talk_first : (xs ys : List ℕ) → length xs ≤ 2 ^ 31 → AreFirst (talk xs) (talk (xs ++ ys))
talk_first xs ys within =
    let more = more_lines xs (take (2 ^ 31 - length xs) ys) in
    let first = first_more (2 ^ 20) (lines xs) more.0 in (
      first.0,
      ap (λ b. take (2 ^ 20) (lines b)) (front_bytes xs ys within)
          ∙ ap (take (2 ^ 20)) more.1 ∙ first.1
          ∙ ap (λ l. l ++ first.0) (sym (talk_small xs within)),
    )

-- the first of all lines are the first of those that a connection takes
pub first_of_talk : (answered : List (List ℕ)) (read : List ℕ)
    → length read ≤ 2 ^ 31 → AreFirst answered (lines read)
    → length answered ≤ 2 ^ 20 → AreFirst answered (talk read)
first_of_talk answered read within first few =
    let number : 2 ^ 20 ≡ length answered + (2 ^ 20 - length answered) = omega (arith, few) in (
      take (2 ^ 20 - length answered) first.0,
      talk_small read within ∙ ap (take (2 ^ 20)) first.1
          ∙ ap (λ n. take n (answered ++ first.0)) number
          ∙ take-append-add answered first.0 (2 ^ 20 - length answered),
    )

pub first_then : (a b c : List (List ℕ)) → AreFirst a b → AreFirst b c → AreFirst a c
first_then a b c p q = (p.0 ++ q.0, q.1 ∙ ap (λ l. l ++ q.0) p.1 ∙ append_assoc a p.0 q.0)

-- a limit that is reached stays so
pub still_reached : (xs ys : List ℕ) → ReachesLimit xs → ReachesLimit (xs ++ ys)
still_reached xs ys (inl long) = inl (omega (arith, length-append xs ys))
still_reached xs ys (inr many) =
    let more = more_lines xs ys in
    inr (omega (arith, ap length more.1, length-append (lines xs) more.0))

-- what a connection takes is settled once a limit is reached
pub talk_settled : (xs ys : List ℕ)
    → length xs ≤ 2 ^ 31 → ReachesLimit xs
    → talk (xs ++ ys) ≡ talk xs
talk_settled xs ys within (inl long) =
    ap (λ b. take (2 ^ 20) (lines b)) (take-append-le (2 ^ 31) xs ys long)
talk_settled xs ys within (inr many) =
    let more = more_lines xs (take (2 ^ 31 - length xs) ys) in
    ap (λ b. take (2 ^ 20) (lines b)) (front_bytes xs ys within)
    ∙ ap (take (2 ^ 20)) more.1
    ∙ take-append-le (2 ^ 20) (lines xs) more.0 many
    ∙ ap (λ b. take (2 ^ 20) (lines b)) (sym (take_all (2 ^ 31) xs within))
