-- The places of a session's OPEN rows in a journal.
use Rattle.std.proofs.Common.{◌≡◌, inl, ⊎_elim, ℕ, zero, suc, ◌+◌, ◌<◌, ◌≤◌, ◌==◌, ◌&&◌, Bool, true}
use Rattle.std.proofs.Common.{false, cond, List, [], ◌∷◌, ◌++◌, length, Option, Some, None, Result}
use Rattle.std.proofs.Common.{Ok, Err, refl, sym, ap, subst, ◌∙◌, ne_eqb, append_assoc, arith}
use Rattle.std.specs.Prelude.{IfOk}
use Rattle.std.specs.List.{Contains, last_or}
use Rattle.std.proofs.lemmas.Bool.Decides.{nat_tests}
use Rattle.std.proofs.lemmas.Option.{same_Some}
use Rattle.std.proofs.lemmas.List.{append-nil, length-append}
use Rattle.std.proofs.lemmas.List.Elements.{Contains-append_cases}
use Rattle.turn_cell.specs.History.{Continues, Each, IsForeign}
use Rattle.gate_journal.specs.Rows.{is_open, row_body, commands_of, EachNext, IsJournal, IsNext}
use Rattle.gate_journal.specs.Rows.{journal_bytes}
use Rattle.gate_journal.specs.Log.{next_row, entry_number, rows_of}
use Rattle.gate_journal.specs.declared.command.Command.{Command}
use Rattle.gate_journal.specs.declared.command.Command.TheVariants as commands
use Rattle.gate_journal.specs.declared.row.Row.{Row}
use Rattle.gate_journal.specs.declared.entry.Entry.{Entry as JournalEntry}
use Rattle.gate_journal.specs.declared.entry.Entry.TheVariants.{Kept, Faulted}
use Rattle.gate_journal.proofs.RowLemmas.{spelled-push}
use Rattle.line_words.specs.declared.request.Request.{Request}
use Rattle.line_words.specs.declared.request.Request.TheVariants.{Open, Line, Char, File, Size}
use Rattle.line_words.specs.declared.request.Request.TheVariants.{Last, Close, Watch}
use Rattle.story_run.specs.declared.story.Story.{Story}
use Rattle.session_core.specs.Checks.{command_of, opening_command}
use Rattle.session_core.specs.History.{game_of, is_in_use, later, story_at}
use Rattle.session_core.specs.Turning.{commands_in}
use Rattle.session_core.proofs.RepeatLemmas.{some_is}
use Rattle.session_saves.specs.Agreement.{last_row, opens_of}
use Rattle.session_saves.proofs.AgreementLemmas.{last-append}
use Rattle.session_desk.specs.declared.refused.Refused.{Refused}
use Rattle.session_desk.specs.declared.refused.Refused.TheVariants.{DiskFault, NoMemory}
use Rattle.session_desk.specs.Opens.{AreBefore, is_to_open, opens_behind, OpensBy, row_behind}
use Rattle.session_desk.specs.Shared.{met_by}
use Rattle.session_desk.specs.Turn.{entries_added, history_in}
use Rattle.session_desk.proofs.HistoryLemmas.{commands_in-history, front}

-- ---- rows behind rows

pub opens_of-append : (xs ys : List Row) (s : ℕ)
    → opens_of (xs ++ ys) s ≡ opens_of xs s ++ opens_of ys s
opens_of-append [] ys s = refl
opens_of-append (r ∷ xs) ys s =
    rw (opens_of-append xs ys s)
    (front (r.session == s && is_open r.command) r.place (opens_of xs s) (opens_of ys s))

pub rows_of-append : (xs ys : List JournalEntry) → rows_of (xs ++ ys) ≡ rows_of xs ++ rows_of ys
rows_of-append [] ys = refl
rows_of-append (Kept r ∷ xs) ys = ap (λ (rows : List Row). r ∷ rows) (rows_of-append xs ys)
rows_of-append (Faulted r from to ∷ xs) ys = rows_of-append xs ys

-- ---- entries of other sessions

-- the number of a row is that of its session and 1
abbrev pub IsNumbered : Row → Type 0
IsNumbered r = r.by ≡ r.session + 1

pub next_numbered : (before rows : List Row) → EachNext before rows → Each IsNumbered rows
next_numbered before [] each = tt
next_numbered before (r ∷ rows) each = (each.0.by, next_numbered (before ++ r ∷ []) rows each.1)

pub later_numbered : (seen rest : List JournalEntry)
    → Each IsNumbered (rows_of (seen ++ rest))
    → Each IsNumbered (rows_of rest)
later_numbered [] rest each = each
later_numbered (Kept r ∷ seen) rest each = later_numbered seen rest each.1
later_numbered (Faulted r from to ∷ seen) rest each = later_numbered seen rest each

abbrev pub Others : ℕ → List JournalEntry → Type 0
Others s rest = Each (IsForeign entry_number ((s + 1) ∷ [])) rest

-- a session without commands has no OPEN row
pub no_rows : (rows : List Row) (s : ℕ) → commands_of rows s ≡ [] → opens_of rows s ≡ []
no_rows [] s e = refl
no_rows (r ∷ rows) s e =
    none_own (r.session == s) (is_open r.command) r.command r.place (commands_of rows s)
    (opens_of rows s) e (no_rows rows s)
  where
    none_own : (own opens : Bool) (c : Command) (place : ℕ) (cs : List Command) (places : List ℕ)
        → cond own (c ∷ cs) cs ≡ []
        → (cs ≡ [] → places ≡ []) → cond (own && opens) (place ∷ places) places ≡ []
    none_own true opens c place cs places e rest = absurd cc
    none_own false opens c place cs places e rest = rest e

-- they add nothing to the history of this one
pub foreign_none : (s : ℕ) (rest : List JournalEntry)
    → Each IsNumbered (rows_of rest) → Others s rest
    → history_in rest s ≡ []
foreign_none s [] n f = refl
foreign_none s (Kept r ∷ rest) n f =
    let differ : (r.session == s) ≡ false =
    ne_eqb r.session s (λ e. f.0 (inl (sym (n.0 ∙ ap (λ (k : ℕ). k + 1) e)))) in
    rw differ (foreign_none s rest n.1 f.1)
foreign_none s (Faulted r from to ∷ rest) n f =
    let differ : (r.by == s + 1) ≡ false = ne_eqb r.by (s + 1) (λ e. f.0 (inl (sym e))) in
    rw differ (foreign_none s rest n f.1)

-- nor an OPEN row
pub opens_of-since : (s : ℕ) (log seen : List JournalEntry)
    → IsJournal (rows_of log)
    → Continues (IsForeign entry_number ((s + 1) ∷ [])) log seen
    → opens_of (rows_of log) s ≡ opens_of (rows_of seen) s
opens_of-since s log seen journal on =
    let rows : IsJournal (rows_of (seen ++ on.0)) =
    subst (λ (es : List JournalEntry). IsJournal (rows_of es)) on.1 journal in
    let none : opens_of (rows_of on.0) s ≡ [] =
    no_rows (rows_of on.0) s (sym (commands_in-history on.0 s)
    ∙ ap commands_in (foreign_none s on.0
    (later_numbered seen on.0 (next_numbered [] (rows_of (seen ++ on.0)) rows)) on.2)) in
    ap (λ (es : List JournalEntry). opens_of (rows_of es) s) on.1
    ∙ ap (λ (rows : List Row). opens_of rows s) (rows_of-append seen on.0)
    ∙ opens_of-append (rows_of seen) (rows_of on.0) s
    ∙ ap (λ (places : List ℕ). opens_of (rows_of seen) s ++ places) none
    ∙ append-nil (opens_of (rows_of seen) s)

-- ---- places ascend

contains_one : (p x : ℕ) → Contains (p ∷ []) x → x ≡ p
contains_one p x (zero, lt, e) = sym e
contains_one p x (suc k, lt, e) = absurd (omega (arith, lt))

contains_none : (x : ℕ) → Contains [] x → ⊥
contains_none x (k, lt, e) = omega (arith, lt)

if_one : (own : Bool) (p x : ℕ) → Contains (cond own (p ∷ []) []) x → x ≡ p
if_one true p x c = contains_one p x c
if_one false p x c = absurd (contains_none x c)

-- each of these places is before the end
abbrev pub AreBelow : List ℕ → ℕ → Type 0
AreBelow places end = (x : ℕ) → Contains places x → x < end

pub below_next : (s : ℕ) (rows : List Row) (r : Row)
    → IsNext rows r
    → AreBelow (opens_of rows s) (length (journal_bytes rows))
    → AreBelow (opens_of (rows ++ r ∷ []) s) (length (journal_bytes (rows ++ r ∷ [])))
below_next s rows r next below x has =
    let longer : length (journal_bytes (rows ++ r ∷ []))
    ≡ length (journal_bytes rows) + suc (length (row_body r)) =
    ap (λ (l : List ℕ). length l) (spelled-push rows r)
    ∙ length-append (journal_bytes rows) (1 ∷ row_body r) in
    let split = Contains-append_cases (opens_of rows s) (opens_of (r ∷ []) s) x
    (subst (λ (places : List ℕ). Contains places x) (opens_of-append rows (r ∷ []) s) has) in
    ⊎_elim (λ old. let lt = below x old in omega (arith, lt, longer))
    (λ new. let is = if_one (r.session == s && is_open r.command) r.place x new in
    let at = next.place in omega (arith, is, at, longer)) split

-- what each row keeps holds behind them all
pub behind_each : (P : List Row → Type 0) (rows more : List Row)
    → ((before : List Row) (r : Row) → IsNext before r → P before → P (before ++ r ∷ []))
    → EachNext rows more → P rows
    → P (rows ++ more)
behind_each P rows [] keeps each p = subst P (sym (append-nil rows)) p
behind_each P rows (r ∷ more) keeps each p =
    subst P (append_assoc rows (r ∷ []) more)
    (behind_each P (rows ++ r ∷ []) more keeps each.1 (keeps rows r each.0 p))

-- a journal's places are before its end
pub opens_below : (s : ℕ) (rows : List Row)
    → IsJournal rows → (x : ℕ) → Contains (opens_of rows s) x
    → x < length (journal_bytes rows)
opens_below s rows journal =
    behind_each (λ (all : List Row). AreBelow (opens_of all s) (length (journal_bytes all))) [] rows
    (below_next s) journal (λ x has. absurd (contains_none x has))

-- and the last one is the greatest
abbrev AreUpToLast : List ℕ → Type 0
AreUpToLast places =
    (last : ℕ) → last_row places ≡ Some last → (x : ℕ) → Contains places x → x ≤ last

up_to_last : (opens : Bool) (places : List ℕ) (p : ℕ) → AreBelow places p → AreUpToLast places
    → AreUpToLast (places ++ cond opens (p ∷ []) [])
up_to_last true places p below up last is x has =
    let at : p ≡ last = same_Some p last (sym (last-append None places p) ∙ is) in
    ⊎_elim (λ old. let lt = below x old in omega (arith, lt, at))
    (λ new. let same = contains_one p x new in omega (arith, same, at))
    (Contains-append_cases places (p ∷ []) x has)
up_to_last false places p below up last is x has =
    subst AreUpToLast (sym (append-nil places)) up last is x has

last_next : (s : ℕ) (rows : List Row) (r : Row)
    → IsNext rows r
    → AreBelow (opens_of rows s) (length (journal_bytes rows)) × AreUpToLast (opens_of rows s)
    → AreBelow (opens_of (rows ++ r ∷ []) s) (length (journal_bytes (rows ++ r ∷ [])))
    × AreUpToLast (opens_of (rows ++ r ∷ []) s)
last_next s rows r next both = (
  below_next s rows r next both.0,
  subst AreUpToLast (sym (opens_of-append rows (r ∷ []) s))
      (up_to_last (r.session == s && is_open r.command) (opens_of rows s) r.place
      (subst (AreBelow (opens_of rows s)) (sym next.place) both.0) both.1),
)

-- a session's last place is the greatest of them
pub opens_last : (s : ℕ) (rows : List Row)
    → IsJournal rows → (last : ℕ) → last_row (opens_of rows s) ≡ Some last
    → (x : ℕ) → Contains (opens_of rows s) x
    → x ≤ last
opens_last s rows journal =
    (behind_each (λ (all : List Row). AreBelow (opens_of all s) (length (journal_bytes all))
    × AreUpToLast (opens_of all s)) [] rows (last_next s) journal
    (λ x has. absurd (contains_none x has), λ last is x has. absurd (contains_none x has))).1

-- ---- behind a commit

same_session : (s : ℕ) → (s == s) ≡ true
same_session s = grind (arith, nat_tests)

pub one_open : (opens : Bool) (places : List ℕ) (p q : ℕ)
    → p ≡ q
    → places ++ cond opens (p ∷ []) [] ≡ cond opens (places ++ q ∷ []) places
one_open true places p q e = ap (λ (x : ℕ). places ++ x ∷ []) e
one_open false places p q e = append-nil places

row_added : (s : ℕ) (rows : List Row) (c : Command)
    → opens_of (next_row rows s c ∷ []) s ≡ cond (is_open c) (length (journal_bytes rows) ∷ []) []
row_added s rows c = rw (same_session s) refl

-- what the entries of a turn add to the places
opens_added : (s : ℕ) (log : List JournalEntry) (c : Command) (done : Result ℕ Refused)
    → IfOk done (λ place. place ≡ length (journal_bytes (rows_of log)))
    → opens_of (rows_of (log ++ entries_added (rows_of log) s (Some c) (met_by done))) s
    ≡ opens_behind (opens_of (rows_of log) s) c done
opens_added s log c (Ok place) at =
    ap (λ (rows : List Row). opens_of rows s)
    (rows_of-append log (Kept (next_row (rows_of log) s c) ∷ []))
    ∙ opens_of-append (rows_of log) (next_row (rows_of log) s c ∷ []) s
    ∙ ap (λ (places : List ℕ). opens_of (rows_of log) s ++ places) (row_added s (rows_of log) c)
    ∙ one_open (is_open c) (opens_of (rows_of log) s)
    (length (journal_bytes (rows_of log))) place (sym at)
opens_added s log c (Err (DiskFault fault)) at =
    ap (λ (rows : List Row). opens_of rows s)
    (rows_of-append log (Faulted (next_row (rows_of log) s c) fault.from fault.to ∷ [])
    ∙ append-nil (rows_of log))
opens_added s log c (Err NoMemory) at =
    ap (λ (es : List JournalEntry). opens_of (rows_of es) s) (append-nil log)

are_before : (places : List ℕ) (end : ℕ) (done : Result ℕ Refused)
    → AreBelow places end → IfOk done (λ place. place ≡ end)
    → AreBefore places done
are_before places end (Ok place) below at =
    λ row has. let lt = below row has in omega (arith, lt, at)
are_before places end (Err why) below at = tt

pub opens_by : (s : ℕ) (log seen new : List JournalEntry) (c : Command) (done : Result ℕ Refused)
    → IsJournal (rows_of log)
    → Continues (IsForeign entry_number ((s + 1) ∷ [])) log seen
    → new ≡ log ++ entries_added (rows_of log) s (Some c) (met_by done)
    → IfOk done (λ place. place ≡ length (journal_bytes (rows_of log))) → OpensBy s c done seen new
opens_by s log seen new c done journal on is at =
    let same = opens_of-since s log seen journal on in
    record {
      opens =
          ap (λ (es : List JournalEntry). opens_of (rows_of es) s) is ∙ opens_added s log c done at
          ∙ ap (λ (places : List ℕ). opens_behind places c done) same;
      before = subst (λ (places : List ℕ). AreBefore places done) same
          (are_before (opens_of (rows_of log) s) (length (journal_bytes (rows_of log))) done
          (opens_below s (rows_of log) journal) at);
    }

-- ---- the last one

row_is : (opens : Bool) (places : List ℕ) (place : Option ℕ) (row : ℕ) → place ≡ last_row places
    → cond opens (Some row) place ≡ last_row (cond opens (places ++ row ∷ []) places)
row_is true places place row e = sym (last-append None places row)
row_is false places place row e = e

last_behind : (places : List ℕ) (place : Option ℕ) (request : Request) (c : Command)
    (done : Result ℕ Refused)
    → is_to_open request ≡ is_open c → place ≡ last_row places
    → row_behind place request done ≡ last_row (opens_behind places c done)
last_behind places place request c (Ok row) same e =
    ap (λ (opens : Bool). cond opens (Some row) place) same ∙ row_is (is_open c) places place row e
last_behind places place request c (Err why) same e = e

opens_asked : (found : Option Story) (key : List ℕ) (story seed cols rows budget : ℕ) (c : Command)
    → opening_command found (λ digest. commands.Open key story digest seed cols rows budget)
    ≡ Some c
    → true ≡ is_open c
opens_asked None key story seed cols rows budget c e = absurd cc
opens_asked (Some there) key story seed cols rows budget c e = rw (sym (some_is _ c e)) refl

to_open : (stories : List Story) (request : Request) (c : Command)
    → command_of stories request ≡ Some c
    → is_to_open request ≡ is_open c
to_open stories (Open s key story seed cols rows budget) c e =
    opens_asked (story_at stories story) key story seed cols rows budget c e
to_open stories (Line s key n win text term) c e = rw (sym (some_is _ c e)) refl
to_open stories (Char s key n win code) c e = rw (sym (some_is _ c e)) refl
to_open stories (File s key n name) c e = rw (sym (some_is _ c e)) refl
to_open stories (Size s key n cols rows) c e = rw (sym (some_is _ c e)) refl
to_open stories (Last s key) c e = absurd cc
to_open stories (Close s key n) c e = rw (sym (some_is _ c e)) refl
to_open stories (Watch s word from) c e = absurd cc

-- the place of the last OPEN row behind a commit
pub row_by : (stories : List Story) (s : ℕ) (old new : List JournalEntry) (place : Option ℕ)
    (request : Request) (c : Command) (done : Result ℕ Refused)
    → command_of stories request ≡ Some c
    → OpensBy s c done old new
    → place ≡ last_row (opens_of (rows_of old) s)
    → row_behind place request done ≡ last_row (opens_of (rows_of new) s)
row_by stories s old new place request c done asked by e =
    last_behind (opens_of (rows_of old) s) place request c done (to_open stories request c asked) e
    ∙ ap last_row (sym by.opens)

-- ---- a game begins with an OPEN row

later_none : (game : List Command) → game ≡ [] → later [] game ≡ []
later_none game e = rw e refl

none_open : (own opens : Bool) (place : ℕ) (places : List ℕ) (c : Command) (cs game : List Command)
    → is_open c ≡ opens
    → cond (own && opens) (place ∷ places) places ≡ []
    → (places ≡ [] → game_of cs ≡ [])
    → game_of (cond own (c ∷ cs) cs) ≡ []
none_open true true place places c cs game opens e rest = absurd cc
none_open true false place places c cs game opens e rest =
    rw opens (later_none (game_of cs) (rest e))
none_open false opens_it place places c cs game opens e rest = rest e

pub no_game : (rows : List Row) (s : ℕ) → opens_of rows s ≡ [] → game_of (commands_of rows s) ≡ []
no_game [] s e = refl
no_game (r ∷ rows) s e =
    none_open (r.session == s) (is_open r.command) r.place (opens_of rows s) r.command
    (commands_of rows s) [] refl e (no_game rows s)

last_some : (p : ℕ) (places : List ℕ) → (q : ℕ) × (last_or (Some p) places ≡ Some q)
last_some p [] = (p, refl)
last_some p (x ∷ places) = last_some x places

has_row : (places : List ℕ) (game : List Command)
    → (places ≡ [] → game ≡ []) → is_in_use game ≡ true
    → (q : ℕ) × (last_row places ≡ Some q)
has_row [] game none used = absurd (let e = rw (none refl) at used in cc)
has_row (p ∷ places) game none used = last_some p places

-- a session in use has an OPEN row
pub in_use_row : (rows : List Row) (s : ℕ) (commands : List Command)
    → commands_of rows s ≡ commands
    → is_in_use (game_of commands) ≡ true
    → (q : ℕ) × (last_row (opens_of rows s) ≡ Some q)
in_use_row rows s commands is used =
    has_row (opens_of rows s) (game_of commands)
    (λ none. ap game_of (sym is) ∙ no_game rows s none) used
