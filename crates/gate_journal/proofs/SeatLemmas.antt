-- What one row more changes for the sessions.
use Rattle.std.proofs.Common.{◌≡◌, ◌≢◌, inl, inr, ℕ, ◌<◌, ◌≤◌, Bool, true, false, List}
use Rattle.std.proofs.Common.{[], ◌∷◌, ◌++◌, length, get_or, refl, sym, ◌∙◌, ap, arith}
use Rattle.std.specs.Prelude.{if◌then◌else◌, ◌==◌, slice_set}
use Rattle.std.proofs.lemmas.List.{get_or-set_other}
use Rattle.std.proofs.lemmas.Grind.{get_or-set_at}
use Rattle.std.proofs.lemmas.Bool.{cases_eq}
use Rattle.std.proofs.lemmas.Bool.Decides.{nat_tests}
use Rattle.gate_journal.specs.declared.command.Command.{Command}
use Rattle.gate_journal.specs.declared.row.Row.{Row}
use Rattle.gate_journal.specs.Rows.{commands_of, is_free, is_close}
use Rattle.gate_journal.specs.Seats.{CountsRows}

if_append : (b : Bool) (x : Command) (l m : List Command)
    → (if b then x ∷ (l ++ m) else l ++ m) ≡ (if b then x ∷ l else l) ++ m
if_append true x l m = refl
if_append false x l m = refl

pub commands_of-same : (rows : List Row) (r : Row) (s : ℕ)
    → r.session ≡ s
    → commands_of (rows ++ r ∷ []) s ≡ commands_of rows s ++ r.command ∷ []
commands_of-same [] r s is = ap (λ (b : Bool). if b then r.command ∷ [] else []) yes
  where
    yes : (r.session == s) ≡ true
    yes = grind (arith, nat_tests)
commands_of-same (x ∷ rows) r s is =
    ap (λ (l : List Command). if x.session == s then x.command ∷ l else l)
    (commands_of-same rows r s is)
    ∙ if_append (x.session == s) x.command (commands_of rows s) (r.command ∷ [])

pub commands_of-other : (rows : List Row) (r : Row) (s : ℕ)
    → r.session ≢ s
    → commands_of (rows ++ r ∷ []) s ≡ commands_of rows s
commands_of-other [] r s isnt = ap (λ (b : Bool). if b then r.command ∷ [] else []) no
  where
    no : (r.session == s) ≡ false
    no = grind (arith, nat_tests)
commands_of-other (x ∷ rows) r s isnt =
    ap (λ (l : List Command). if x.session == s then x.command ∷ l else l)
    (commands_of-other rows r s isnt)

pub is_free-push : (l : List Command) (c : Command) → is_free (l ++ c ∷ []) ≡ is_close c
is_free-push [] c = refl
is_free-push (x ∷ []) c = refl
is_free-push (x ∷ y ∷ l) c = is_free-push (y ∷ l) c

-- what is counted of each session, with one row more
pub counted :
    (count : List Command → ℕ) (rows : List Row) (r : Row) (counts : List ℕ) (at n : ℕ)
    → ((s : ℕ) → s < 64 → get_or counts s 0 ≡ count (commands_of rows s))
    → r.session ≡ at → length counts ≡ 64 → n ≡ count (commands_of rows at ++ r.command ∷ [])
    → (s : ℕ) → s < 64
    → get_or (slice_set counts at n) s 0 ≡ count (commands_of (rows ++ r ∷ []) s)
counted count rows r counts at n were is size one s lt = elim (cases_eq s at) [
  | inl same ↦
      get_or-set_at counts at s n 0 same (omega (arith, size, lt, same)) ∙ one
      ∙ ap count (sym (commands_of-same rows r at is))
      ∙ ap (λ (k : ℕ). count (commands_of (rows ++ r ∷ []) k)) (sym same)
  | inr other ↦
      get_or-set_other counts at s n 0 other ∙ were s lt
      ∙ ap count (sym (commands_of-other rows r s (λ meets. other (sym meets ∙ is))))
]

-- a row of another session is counted nowhere
pub counted_other :
    (rows : List Row) (r : Row) (counts uses : List ℕ)
    → 64 ≤ r.session → CountsRows rows counts uses
    → CountsRows (rows ++ r ∷ []) counts uses
counted_other rows r counts uses past were = record {
  count = λ s lt. rw (same s lt) (were.count s lt);
  used = λ s lt. rw (same s lt) (were.used s lt);
}
  where
    same : (s : ℕ) → s < 64 → commands_of (rows ++ r ∷ []) s ≡ commands_of rows s
    same s lt = commands_of-other rows r s (λ meets. absurd (omega (arith, past, lt, meets)))
