-- The live rows by their places.
use Rattle.std.proofs.Common.{◌≡◌, ℕ, ◌+◌, ◌≤◌, Bool, true, false, List, [], ◌∷◌, ◌++◌, length}
use Rattle.std.proofs.Common.{refl, sym, ◌∙◌, ap, arith, length-append, append_assoc}
use Rattle.std.specs.Prelude.{if◌then◌else◌, ◌&&◌, ◌||◌, not, ◌==◌, nat_le}
use Rattle.std.specs.List.{filter}
use Rattle.std.proofs.lemmas.Bool.{eq-eqb, le-leb, lt-leb}
use Rattle.gate_journal.specs.declared.command.Command.{Command}
use Rattle.gate_journal.specs.declared.row.Row.{Row}
use Rattle.gate_journal.specs.Rows.{commands_of, is_free, is_open, journal_bytes, row_body}
use Rattle.gate_journal.specs.Rows.{EachNext}
use Rattle.gate_journal.proofs.RowLemmas.{spelled-push}
use Rattle.journal_pack.specs.Laws.{last_open, is_since_open, AreSinceOpen}
use Rattle.journal_pack.specs.Live.{has_open, is_live, live_rows}

last_append : (at : ℕ) (a b : List Row) (s : ℕ)
    → last_open at (a ++ b) s ≡ last_open (last_open at a s) b s
last_append at [] b s = refl
last_append at (r ∷ a) b s =
    last_append (if r.session == s && is_open r.command then r.place else at) a b s

-- where none opens the session
none_step : (same opens : Bool) (r : Row) (at : ℕ) (cs : List Command)
    → has_open (if same then r.command ∷ cs else cs) ≡ false → is_open r.command ≡ opens
    → (has_open cs ≡ false) × ((if same && opens then r.place else at) ≡ at)
none_step true true r at cs isnt is = absurd (no_one (is_open r.command) (has_open cs) is isnt)
  where
    no_one : (o h : Bool) → o ≡ true → (o || h) ≡ false → ⊥
    no_one true h is isnt = cc
    no_one false h is isnt = cc
none_step true false r at cs isnt is = (rest (is_open r.command) (has_open cs) isnt, refl)
  where
    rest : (o h : Bool) → (o || h) ≡ false → h ≡ false
    rest true h isnt = cc
    rest false h isnt = isnt
none_step false opens r at cs isnt is = (isnt, refl)

last_none : (at : ℕ) (rows : List Row) (s : ℕ)
    → has_open (commands_of rows s) ≡ false → last_open at rows s ≡ at
last_none at [] s isnt = refl
last_none at (r ∷ rows) s isnt =
    let step =
    none_step (r.session == s) (is_open r.command) r at (commands_of rows s) isnt refl in
    ap (λ (k : ℕ). last_open k rows s) step.1 ∙ last_none at rows s step.0

-- each place is at least this one, or at most
abbrev AtLeast : ℕ → List Row → Type 0
AtLeast low [] = Unit {0}
AtLeast low (r ∷ rows) = (low ≤ r.place) × AtLeast low rows

abbrev AtMost : ℕ → List Row → Type 0
AtMost high [] = Unit {0}
AtMost high (r ∷ rows) = (r.place ≤ high) × AtMost high rows

some_step : (same : Bool) (r : Row) (at : ℕ) (cs : List Command)
    → has_open (if same then r.command ∷ cs else cs) ≡ true → has_open cs ≡ false
    → (if same && is_open r.command then r.place else at) ≡ r.place
some_step true r at cs some isnt =
    ap (λ (b : Bool). if b then r.place else at) (first (is_open r.command) (has_open cs) some isnt)
  where
    first : (o h : Bool) → (o || h) ≡ true → h ≡ false → o ≡ true
    first true h some isnt = refl
    first false true some isnt = cc
    first false false some isnt = some
some_step false r at cs some isnt = absurd (no_one (has_open cs) some isnt)
  where
    no_one : (h : Bool) → h ≡ true → h ≡ false → ⊥
    no_one true some isnt = cc
    no_one false some isnt = cc

by_bool : (b : Bool) (P : Type 0) → (b ≡ true → P) → (b ≡ false → P) → P
by_bool true P was isnt = was refl
by_bool false P was isnt = isnt refl

last_some : (low at : ℕ) (rows : List Row) (s : ℕ)
    → has_open (commands_of rows s) ≡ true → AtLeast low rows → low ≤ last_open at rows s
last_some low at [] s some least = cc
last_some low at (r ∷ rows) s some least =
    let next = if r.session == s && is_open r.command then r.place else at in
    by_bool (has_open (commands_of rows s)) (low ≤ last_open next rows s)
    (λ later. last_some low next rows s later least.1)
    (λ none. let here = last_none next rows s none in
    let this = some_step (r.session == s) r at (commands_of rows s) some none in
    omega (arith, here, this, least.0))

most_step : (b : Bool) (high at place : ℕ) → at ≤ high → place ≤ high
    → (if b then place else at) ≤ high
most_step true high at place le most = most
most_step false high at place le most = le

last_most : (high at : ℕ) (rows : List Row) (s : ℕ)
    → at ≤ high → AtMost high rows → last_open at rows s ≤ high
last_most high at [] s le most = le
last_most high at (r ∷ rows) s le most =
    last_most high (if r.session == s && is_open r.command then r.place else at) rows s
    (most_step (r.session == s && is_open r.command) high at r.place le most.0) most.1

least_less : (low less : ℕ) (rows : List Row) → less ≤ low → AtLeast low rows → AtLeast less rows
least_less low less [] le least = tt
least_less low less (r ∷ rows) le least =
    (omega (arith, le, least.0), least_less low less rows le least.1)

most_more : (high more : ℕ) (rows : List Row) → high ≤ more → AtMost high rows → AtMost more rows
most_more high more [] le most = tt
most_more high more (r ∷ rows) le most =
    (omega (arith, le, most.0), most_more high more rows le most.1)

most_push : (high : ℕ) (rows : List Row) (r : Row) → AtMost high rows → r.place ≤ high
    → AtMost high (rows ++ r ∷ [])
most_push high [] r most le = (le, tt)
most_push high (x ∷ rows) r most le = (most.0, most_push high rows r most.1 le)

longer : (rows : List Row) (r : Row)
    → length (journal_bytes rows) + 1 ≤ length (journal_bytes (rows ++ r ∷ []))
longer rows r =
    omega (
      arith,
      ap length (spelled-push rows r),
      length-append (journal_bytes rows) (1 ∷ row_body r),
    )

at_least : (front rows : List Row) → EachNext front rows
    → AtLeast (length (journal_bytes front)) rows
at_least front [] each = tt
at_least front (r ∷ rows) each = (
  omega (arith, each.0.place),
  least_less (length (journal_bytes (front ++ r ∷ []))) (length (journal_bytes front)) rows
      (omega (arith, longer front r)) (at_least (front ++ r ∷ []) rows each.1),
)

if_same : (same : Bool) (c : Command) (a b : List Command)
    → (if same then c ∷ (a ++ b) else a ++ b) ≡ (if same then c ∷ a else a) ++ b
if_same true c a b = refl
if_same false c a b = refl

commands_append : (a b : List Row) (s : ℕ)
    → commands_of (a ++ b) s ≡ commands_of a s ++ commands_of b s
commands_append [] b s = refl
commands_append (r ∷ a) b s =
    ap (λ (l : List Command). if r.session == s then r.command ∷ l else l) (commands_append a b s)
    ∙ if_same (r.session == s) r.command (commands_of a s) (commands_of b s)

free_append : (l : List Command) (c : Command) (m : List Command)
    → is_free (l ++ c ∷ m) ≡ is_free (c ∷ m)
free_append [] c m = refl
free_append (x ∷ []) c m = refl
free_append (x ∷ y ∷ l) c m = free_append (y ∷ l) c m

-- the test by places, at one row
at_row :
    (front rows : List Row) (r : Row) → EachNext front (r ∷ rows)
    → AtMost (length (journal_bytes front)) front
    → is_since_open (front ++ r ∷ rows) r ≡ is_live r rows
at_row front rows r each most =
    let s = r.session in
    let from = last_open 0 front s in
    let next = if s == s && is_open r.command then r.place else from in
    let place : r.place ≡ length (journal_bytes front) = each.0.place in
    let last : last_open 0 (front ++ r ∷ rows) s ≡ last_open next rows s =
    last_append 0 front (r ∷ rows) s in
    let below : next ≤ r.place =
    most_step (s == s && is_open r.command) r.place from r.place
    (omega (arith, place, last_most (length (journal_bytes front)) 0 front s (omega arith) most))
    (omega arith) in
    let behind =
    least_less (length (journal_bytes (front ++ r ∷ []))) (r.place + 1) rows
    (omega (arith, place, longer front r)) (at_least (front ++ r ∷ []) rows each.1) in
    let opens : nat_le (last_open 0 (front ++ r ∷ rows) s) r.place
    ≡ not (has_open (commands_of rows s)) =
    by_bool (has_open (commands_of rows s))
    (nat_le (last_open 0 (front ++ r ∷ rows) s) r.place ≡ not (has_open (commands_of rows s)))
    (λ some.
    lt-leb (last_open 0 (front ++ r ∷ rows) s) r.place
    (omega (arith, last, last_some (r.place + 1) next rows s some behind))
    ∙ ap (λ (b : Bool). not b) (sym some))
    (λ none.
    le-leb (last_open 0 (front ++ r ∷ rows) s) r.place
    (omega (arith, last, last_none next rows s none, below))
    ∙ ap (λ (b : Bool). not b) (sym none)) in
    let own : commands_of (r ∷ rows) s ≡ r.command ∷ commands_of rows s =
    ap (λ (b : Bool). if b then r.command ∷ commands_of rows s else commands_of rows s)
    (eq-eqb s s refl) in
    let free : is_free (commands_of (front ++ r ∷ rows) s)
    ≡ is_free (r.command ∷ commands_of rows s) =
    ap is_free (commands_append front (r ∷ rows) s
    ∙ ap (λ (l : List Command). commands_of front s ++ l) own)
    ∙ free_append (commands_of front s) r.command (commands_of rows s) in
    ap (λ (b : Bool). b && not (is_free (commands_of (front ++ r ∷ rows) s))) opens
    ∙ ap (λ (b : Bool). not (has_open (commands_of rows s)) && not b) free

from_front :
    (front rows all : List Row) → all ≡ front ++ rows → EachNext front rows
    → AtMost (length (journal_bytes front)) front
    → live_rows rows ≡ filter (is_since_open all) rows
from_front front [] all is each most = refl
from_front front (r ∷ rows) all is each most =
    let here : is_since_open all r ≡ is_live r rows =
    ap (λ (l : List Row). is_since_open l r) is ∙ at_row front rows r each most in
    let rest =
    from_front (front ++ r ∷ []) rows all (is ∙ sym (append_assoc front (r ∷ []) rows)) each.1
    (most_push (length (journal_bytes (front ++ r ∷ []))) front r
    (most_more (length (journal_bytes front)) (length (journal_bytes (front ++ r ∷ []))) front
    (omega (arith, longer front r)) most)
    (omega (arith, each.0.place, longer front r))) in
    ap (λ (b : Bool). if b then r ∷ live_rows rows else live_rows rows) (sym here)
    ∙ ap (λ (l : List Row). if is_since_open all r then r ∷ l else l) rest

pub since_open : AreSinceOpen
since_open rows all = from_front [] rows rows refl all tt
