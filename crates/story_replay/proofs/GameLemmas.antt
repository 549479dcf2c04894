-- The games of rows, one row after the other.
use Rattle.std.proofs.Common.{◌≡◌, ℕ, zero, suc, ◌+◌, ◌<◌, ◌==◌, true, false, List, [], ◌∷◌, ◌++◌}
use Rattle.std.proofs.Common.{length, get_or, drop, map, refl, sym, ap, ◌∙◌, append_assoc, arith}
use Rattle.std.proofs.lemmas.List.{drop_more}
use Rattle.gate_journal.specs.Rows.{is_open}
use Rattle.gate_journal.specs.Scan.{unnumbered}
use Rattle.gate_journal.specs.declared.row.Row.{Row}
use Rattle.story_replay.specs.Games.{commands_from, game_from, games_below, games_in, games_of}
use Rattle.story_replay.specs.Games.{opens_game}

-- what is gathered goes on by one item
pub gathered : {A : Type 0} (xs ys : List A) (x : A) → (xs ++ x ∷ []) ++ ys ≡ xs ++ x ∷ ys
gathered xs ys x = append_assoc xs (x ∷ []) ys

-- ---- a session's commands

pub commands_of_other : (s : ℕ) (rows : List Row) (at : ℕ) (r : Row) → at < length rows
    → r ≡ get_or rows at r → (r.session == s) ≡ false
    → commands_from s (drop (at + 1) rows) ≡ commands_from s (drop at rows)
commands_of_other s rows at r within is other =
    sym (ap (commands_from s) (drop_more rows at r within ∙ ap (λ (x : Row). x ∷ drop (at + 1) rows)
    (sym is))
    ∙ (rw other refl))

pub commands_of_open : (s : ℕ) (rows : List Row) (at : ℕ) (r : Row) → at < length rows
    → r ≡ get_or rows at r → (r.session == s) ≡ true → is_open r.command ≡ true
    → commands_from s (drop at rows) ≡ []
commands_of_open s rows at r within is own opens =
    ap (commands_from s) (drop_more rows at r within ∙ ap (λ (x : Row). x ∷ drop (at + 1) rows)
    (sym is))
    ∙ (rw (own, opens) refl)

pub commands_of_own : (s : ℕ) (rows : List Row) (at : ℕ) (r : Row) → at < length rows
    → r ≡ get_or rows at r → (r.session == s) ≡ true → is_open r.command ≡ false
    → commands_from s (drop at rows) ≡ r.command ∷ commands_from s (drop (at + 1) rows)
commands_of_own s rows at r within is own shut =
    ap (commands_from s) (drop_more rows at r within ∙ ap (λ (x : Row). x ∷ drop (at + 1) rows)
    (sym is))
    ∙ (rw (own, shut) refl)

-- ---- a session's games

pub games_of_other : (s : ℕ) (rows : List Row) (at : ℕ) (r : Row) → at < length rows
    → r ≡ get_or rows at r → opens_game s r ≡ false
    → games_in s (drop (at + 1) rows) ≡ games_in s (drop at rows)
games_of_other s rows at r within is other =
    sym (ap (games_in s) (drop_more rows at r within ∙ ap (λ (x : Row). x ∷ drop (at + 1) rows)
    (sym is))
    ∙ (rw other refl))

pub games_of_open : (s : ℕ) (rows : List Row) (at : ℕ) (r : Row) → at < length rows
    → r ≡ get_or rows at r → opens_game s r ≡ true
    → games_in s (drop at rows) ≡ game_from r (drop (at + 1) rows) ∷ games_in s (drop (at + 1) rows)
games_of_open s rows at r within is opens =
    ap (games_in s) (drop_more rows at r within ∙ ap (λ (x : Row). x ∷ drop (at + 1) rows)
    (sym is))
    ∙ (rw opens refl)

pub games_more : (s : ℕ) (rows : List Row)
    → games_below (s + 1) rows ≡ games_below s rows ++ games_in s rows
games_more s rows = let next : s + 1 ≡ suc s = omega arith in
    ap (λ (n : ℕ). games_below n rows) next

-- ---- the numbers of rows have no part in it

same_commands : (s : ℕ) (rows : List Row)
    → commands_from s (map unnumbered rows) ≡ commands_from s rows
same_commands s [] = refl
same_commands s (r ∷ rows) = rw (same_commands s rows) refl

same_games : (s : ℕ) (rows : List Row) → games_in s (map unnumbered rows) ≡ games_in s rows
same_games s [] = refl
same_games s (r ∷ rows) = rw (same_games s rows, same_commands r.session rows) refl

same_below : (n : ℕ) (rows : List Row) → games_below n (map unnumbered rows) ≡ games_below n rows
same_below zero rows = refl
same_below (suc n) rows = rw (same_below n rows, same_games n rows) refl

pub games_unnumbered : (rows : List Row) → games_of (map unnumbered rows) ≡ games_of rows
unfolding games_of
games_unnumbered rows = same_below 256 rows
