-- The rows of one session, and what may follow them.
use Rattle.std.proofs.Common.{◌≡◌, ℕ, ◌<◌, ◌≤◌, Bool, true, false, ◌==◌, not, cond, List, [], ◌∷◌}
use Rattle.std.proofs.Common.{◌++◌, length, Option, Some, None, refl, sym, ap, subst, ◌∙◌, arith}
use Rattle.std.proofs.lemmas.Bool.Decides.{nat_tests}
use Rattle.std.proofs.lemmas.List.{length-append}
use Rattle.gate_journal.specs.Command.{HasDigest, IsBudget, IsCommand}
use Rattle.gate_journal.specs.Rows.{is_open, commands_of, is_free, is_close, may_follow, IsJournal}
use Rattle.gate_journal.specs.Rows.{IsNext, MayStand}
use Rattle.gate_journal.specs.Log.{next_row}
use Rattle.gate_journal.specs.declared.command.Command.{Command}
use Rattle.gate_journal.specs.declared.command.Command.TheVariants as commands
use Rattle.gate_journal.specs.declared.row.Row.{Row}
use Rattle.line_words.specs.declared.request.Request.{Request}
use Rattle.line_words.specs.declared.request.Request.TheVariants.{Open, Line, Char, File, Size}
use Rattle.line_words.specs.declared.request.Request.TheVariants.{Last, Close, Watch}
use Rattle.line_words.specs.Spelling.{IsRequest}
use Rattle.line_words.proofs.RequestLaws.{request_only}
use Rattle.story_run.specs.declared.story.Story.{Story}
use Rattle.session_core.specs.History.{game_of, game_goes_on, is_in_use, story_at}
use Rattle.session_core.specs.Checks.{command_of, opening_command}
use Rattle.session_core.proofs.RepeatLemmas.{joined, game_of-append, game_of-append-open}
use Rattle.session_core.proofs.RepeatLemmas.{last_of-joined, some_is}
use Rattle.session_desk.specs.Desk.{DeskState}
use Rattle.session_core.specs.Sessions.{with_budget}
use Rattle.session_desk.specs.Commit.{IsInRange}
use Rattle.session_desk.specs.Laws.{JournalsFit, ReadsInRange}
use Rattle.session_desk.proofs.AlikeLemmas.{IsReadyFor}
use Rattle.session_desk.proofs.OpensLemmas.{behind_each}

-- ---- the rows of a session, with one row more

swap : (this that : Bool) (x c : Command) (xs : List Command)
    → cond this (x ∷ cond that (xs ++ c ∷ []) xs) (cond that (xs ++ c ∷ []) xs)
    ≡ cond that (cond this (x ∷ xs) xs ++ c ∷ []) (cond this (x ∷ xs) xs)
swap true true x c xs = refl
swap true false x c xs = refl
swap false true x c xs = refl
swap false false x c xs = refl

pub commands_of-append : (rows : List Row) (r : Row) (s : ℕ)
    → commands_of (rows ++ r ∷ []) s
    ≡ cond (r.session == s) (commands_of rows s ++ r.command ∷ []) (commands_of rows s)
commands_of-append [] r s = refl
commands_of-append (q ∷ rows) r s =
    rw (commands_of-append rows r s)
    (swap (q.session == s) (r.session == s) q.command r.command (commands_of rows s))

is_free-append : (xs : List Command) (c : Command) → is_free (xs ++ c ∷ []) ≡ is_close c
is_free-append [] c = refl
is_free-append (x ∷ []) c = refl
is_free-append (x ∷ y ∷ ys) c = is_free-append (y ∷ ys) c

same_number : (n : ℕ) → (n == n) ≡ true
same_number n = grind (arith, nat_tests)

-- the commands of a session behind the row of one more
pub kept-more : (rows : List Row) (s : ℕ) (c : Command) (xs : List Command)
    → commands_of rows s ≡ xs
    → commands_of (rows ++ next_row rows s c ∷ []) s ≡ xs ++ c ∷ []
kept-more rows s c xs e = rw (commands_of-append rows (next_row rows s c) s, same_number s, e) refl

-- ---- a session is free by its rows exactly where its game is over

abbrev Agree : List Command → Type 0
Agree commands = is_free commands ≡ not (is_in_use (game_of commands))

close_ends : (c : Command) → is_close c ≡ not (game_goes_on (Some c))
close_ends (commands.Open key story digest seed cols rows budget) = refl
close_ends (commands.Line win term text) = refl
close_ends (commands.Char win code) = refl
close_ends (commands.File name) = refl
close_ends (commands.Size cols rows) = refl
close_ends commands.Close = refl

joined_ends : (g : List Command) (c : Command)
    → is_in_use g ≡ true
    → is_close c ≡ not (is_in_use (joined g c))
joined_ends [] c used = absurd cc
joined_ends (d ∷ ds) c used = rw (last_of-joined d ds c) (close_ends c)

used_by : (free used : Bool) → free ≡ not used → not free ≡ true → used ≡ true
used_by true used e n = absurd cc
used_by false true e n = refl
used_by false false e n = absurd cc

agree-open : (xs : List Command) (c : Command) → is_open c ≡ true → Agree (xs ++ c ∷ [])
agree-open xs c opens = rw (is_free-append xs c, game_of-append-open xs c opens) (close_ends c)

agree-one : (xs : List Command) (c : Command)
    → is_open c ≡ false → Agree xs → not (is_free xs) ≡ true
    → Agree (xs ++ c ∷ [])
agree-one xs c shut a n =
    rw (is_free-append xs c, game_of-append xs c shut)
    (joined_ends (game_of xs) c (used_by (is_free xs) (is_in_use (game_of xs)) a n))

agree-follow : (xs : List Command) (c : Command)
    → may_follow xs c ≡ true → Agree xs → Agree (xs ++ c ∷ [])
agree-follow xs (commands.Open key story digest seed cols rows budget) m a =
    agree-open xs (commands.Open key story digest seed cols rows budget) refl
agree-follow xs (commands.Line win term text) m a =
    agree-one xs (commands.Line win term text) refl a m
agree-follow xs (commands.Char win code) m a = agree-one xs (commands.Char win code) refl a m
agree-follow xs (commands.File name) m a = agree-one xs (commands.File name) refl a m
agree-follow xs (commands.Size cols rows) m a = agree-one xs (commands.Size cols rows) refl a m
agree-follow xs commands.Close m a = agree-one xs commands.Close refl a m

-- ---- what holds of the commands of a session

kept-if : (P : List Command → Type 0) (own : Bool) (xs : List Command) (c : Command)
    → (own ≡ true → P (xs ++ c ∷ [])) → P xs
    → P (cond own (xs ++ c ∷ []) xs)
kept-if P true xs c keeps p = keeps refl
kept-if P false xs c keeps p = p

-- what each command keeps that may follow holds of a session's commands in a journal
kept-all : (P : List Command → Type 0) (s : ℕ) (rows : List Row)
    → ((xs : List Command) (c : Command)
    → may_follow xs c ≡ true → length xs < 8192 → P xs
    → P (xs ++ c ∷ []))
    → IsJournal rows → P []
    → P (commands_of rows s)
kept-all P s rows keeps journal none =
    behind_each (λ (all : List Row). P (commands_of all s)) [] rows next journal none
  where
    next : (before : List Row) (r : Row)
        → IsNext before r → P (commands_of before s)
        → P (commands_of (before ++ r ∷ []) s)
    next before r is p =
        rw (commands_of-append before r s)
        (kept-if P (r.session == s) (commands_of before s) r.command
        (λ own. let same : r.session ≡ s = grind (arith, nat_tests, own) in
        keeps (commands_of before s) r.command (rw same at is.stands.follows)
        (rw same at is.stands.fewer) p) p)

agrees : (rows : List Row) (s : ℕ) → IsJournal rows → Agree (commands_of rows s)
agrees rows s journal =
    kept-all Agree s rows (λ xs c follows fewer a. agree-follow xs c follows a) journal refl

-- ---- a fresh command may follow

follows : (desk : DeskState) (c : Command)
    → Agree desk.commands → IsReadyFor desk c
    → may_follow desk.commands c ≡ true
follows desk (commands.Open key story digest seed cols rows budget) a ready = a ∙ ready.0
follows desk commands.Close a ready = rw (a, ready) refl
follows desk (commands.Line win term text) a ready = rw (a, ready.0) refl
follows desk (commands.Char win code) a ready = rw (a, ready.0) refl
follows desk (commands.File name) a ready = rw (a, ready.0) refl
follows desk (commands.Size cols rows) a ready = rw (a, ready.0) refl

-- the journal may keep what a desk accepts
pub may_stand : (desk : DeskState) (rows : List Row) (c : Command)
    → IsReadyFor desk c → length desk.commands < 8192
    → IsCommand c → desk.session < 64
    → IsJournal rows
    → commands_of rows desk.session ≡ desk.commands
    → MayStand rows desk.session c
may_stand desk rows c ready room ranges below journal kept = record {
  below = below;
  ranges = ranges;
  follows = rw kept (follows desk c (rw kept at (agrees rows desk.session journal)) ready);
  fewer = rw kept room;
}

-- ---- the ranges of a command

-- a command that is asked for is in its ranges
pub in_range : (stories : List Story) (request : Request) (c : Command)
    → IsInRange request → command_of stories request ≡ Some c
    → HasDigest c → IsCommand c
in_range stories (Open s key story seed cols rows budget) c range e digest =
    opened (story_at stories story) e
  where
    opened : (found : Option Story)
        → opening_command found (λ d. commands.Open key story d seed cols rows budget) ≡ Some c
        → IsCommand c
    opened None e = absurd cc
    opened (Some there) e =
        rw (sym (some_is _ c e)) (range there.digest (rw (sym (some_is _ c e)) at digest))
in_range stories (Line s key n win text term) c range e digest = rw (sym (some_is _ c e)) range
in_range stories (Char s key n win code) c range e digest = rw (sym (some_is _ c e)) range
in_range stories (File s key n name) c range e digest = rw (sym (some_is _ c e)) range
in_range stories (Size s key n cols rows) c range e digest = rw (sym (some_is _ c e)) range
in_range stories (Last s key) c range e digest = absurd cc
in_range stories (Close s key n) c range e digest = rw (sym (some_is _ c e)) tt
in_range stories (Watch s word from) c range e digest = absurd cc

digest_range : (request : Request) (budget : ℕ)
    → IsRequest request → IsBudget budget
    → IsInRange (with_budget budget request)
digest_range (Open s key story seed cols rows budget) b r is =
    λ digest e. (r.0.1, r.1, e, r.2, r.3.0, r.3.1, r.3.2, r.3.3, is)
digest_range (Line s key n win text term) b r is = (r.1, r.3, r.2)
digest_range (Char s key n win code) b r is = (r.1, r.2)
digest_range (File s key n name) b r is = r.1
digest_range (Size s key n cols rows) b r is = r.1
digest_range (Last s key) b r is = tt
digest_range (Close s key n) b r is = tt
digest_range (Watch s word from) b r is = tt

as_read : (request : Request) → IsRequest request → with_budget 50000000 request ≡ request
as_read (Open s key story seed cols rows budget) r =
    ap (λ (b : ℕ). Open s key story seed cols rows b) (sym r.4)
as_read (Line s key n win text term) r = refl
as_read (Char s key n win code) r = refl
as_read (File s key n name) r = refl
as_read (Size s key n cols rows) r = refl
as_read (Last s key) r = refl
as_read (Close s key n) r = refl
as_read (Watch s word from) r = refl

pub read_in_range : ReadsInRange
read_in_range line request budget e is =
    let spelled = (request_only line request e).1.0 in
    let own : IsBudget 50000000 = (omega arith, omega arith) in (
      subst (λ (r : Request). IsInRange r) (as_read request spelled)
          (digest_range request 50000000 spelled own),
      digest_range request budget spelled is,
    )

-- ---- the rows of a session are not too many

pub journal_fits : JournalsFit
journal_fits rows s journal =
    kept-all (λ (xs : List Command). length xs ≤ 8192) s rows
    (λ xs c follows fewer le. omega (arith, length-append xs (c ∷ []), fewer)) journal (omega arith)
