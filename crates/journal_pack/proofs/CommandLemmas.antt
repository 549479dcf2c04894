-- The commands of one session, of which those of its last game are kept.
use Rattle.std.proofs.Common.{◌≡◌, ℕ, ◌+◌, ◌≤◌, Bool, true, false, List, [], ◌∷◌, length}
use Rattle.std.proofs.Common.{refl, arith}
use Rattle.std.specs.Prelude.{if◌then◌else◌, ◌&&◌, ◌||◌, not}
use Rattle.gate_journal.specs.declared.command.Command.{Command}
use Rattle.gate_journal.specs.Rows.{is_open, is_close, is_free, may_follow}
use Rattle.journal_pack.specs.Live.{has_open}

-- the commands that are kept
abbrev pub kept : List Command → List Command
kept [] = []
kept (c ∷ cs) = if not (has_open cs) && not (is_free (c ∷ cs)) then c ∷ kept cs else kept cs

-- the end of more commands is the end of the later ones
free_later : (c : Command) (cs : List Command) → is_free (c ∷ cs) ≡ true → is_free cs ≡ true
free_later c [] is = refl
free_later c (d ∷ cs) is = is

free_none : (o f : Bool) (x y : List Command)
    → f ≡ true → y ≡ [] → (if not o && not f then x else y) ≡ []
free_none true true x y is none = none
free_none false true x y is none = none
free_none true false x y is none = cc
free_none false false x y is none = cc

-- of a session that is free none is kept
pub kept_free : (cs : List Command) → is_free cs ≡ true → kept cs ≡ []
kept_free [] is = refl
kept_free (c ∷ cs) is =
    free_none (has_open cs) (is_free (c ∷ cs)) (c ∷ kept cs) (kept cs) is
    (kept_free cs (free_later c cs is))

-- each command may follow those before it: it is an OPEN exactly where the session is free then
abbrev pub IsLegal : Bool → List Command → Type 0
IsLegal free [] = Unit {0}
IsLegal free (c ∷ cs) = (is_open c ≡ free) × IsLegal (is_close c) cs

follows_open : (o free : Bool) → (if o then free else not free) ≡ true → o ≡ free
follows_open true true is = refl
follows_open false false is = refl
follows_open true false is = cc
follows_open false true is = cc

open_follows : (o free : Bool) → o ≡ free → (if o then free else not free) ≡ true
open_follows true true is = refl
open_follows false false is = refl
open_follows true false is = cc
open_follows false true is = cc

pub may_open : (before : List Command) (c : Command)
    → may_follow before c ≡ true → is_open c ≡ is_free before
may_open before c is = follows_open (is_open c) (is_free before) is

pub may_be_next : (before : List Command) (c : Command)
    → is_open c ≡ is_free before → may_follow before c ≡ true
may_be_next before c is = open_follows (is_open c) (is_free before) is

legal_step :
    (c : Command) (cs : List Command) (free h f : Bool)
    → has_open cs ≡ h → is_free (c ∷ cs) ≡ f → is_open c ≡ free
    → IsLegal (if h then true else is_close c) (kept cs)
    → IsLegal (if is_open c || h then true else free)
    (if not h && not f then c ∷ kept cs else kept cs)
legal_step c cs free true f ho fr op is = by (is_open c) is
  where
    by : (o : Bool) → IsLegal true (kept cs) → IsLegal (if o || true then true else free) (kept cs)
    by true is = is
    by false is = is
legal_step c cs free false false ho fr op is = (by (is_open c) op, is)
  where
    by : (o : Bool) → o ≡ free → o ≡ (if o || false then true else free)
    by true is = refl
    by false is = is
legal_step c cs free false true ho fr op is =
    none _ (kept cs) (kept_free cs (free_later c cs fr))
  where
    none : (b : Bool) (l : List Command) → l ≡ [] → IsLegal b l
    none b [] is = tt
    none b (d ∷ l) is = cc

-- what is kept of such commands is such again
pub kept_legal : (free : Bool) (cs : List Command) → IsLegal free cs
    → IsLegal (if has_open cs then true else free) (kept cs)
kept_legal free [] is = tt
kept_legal free (c ∷ cs) is =
    legal_step c cs free (has_open cs) (is_free (c ∷ cs)) refl refl is.0
    (kept_legal (is_close c) cs is.1)

both_true : (h : Bool) (l : List Command) → IsLegal (if h then true else true) l → IsLegal true l
both_true true l is = is
both_true false l is = is

pub kept_from_start : (cs : List Command) → IsLegal true cs → IsLegal true (kept cs)
kept_from_start cs is = both_true (has_open cs) (kept cs) (kept_legal true cs is)

length_step : (b : Bool) (n : ℕ) (c : Command) (l : List Command)
    → length l ≤ n → length (if b then c ∷ l else l) ≤ n + 1
length_step true n c l le = omega arith
length_step false n c l le = omega arith

-- and no more than there were
pub length-kept : (cs : List Command) → length (kept cs) ≤ length cs
length-kept [] = omega arith
length-kept (c ∷ cs) =
    omega (
      arith,
      length_step (not (has_open cs) && not (is_free (c ∷ cs))) (length cs) c (kept cs)
          (length-kept cs),
    )
