-- What a session accepts may stand in the journal.
use Rattle.std.proofs.Common.{Bool, List, None, Option, Some, [], append_assoc, arith, cond, false}
use Rattle.std.proofs.Common.{length, refl, subst, sym, true, ℕ, ◌++◌, ◌+◌, ◌<◌, ◌==◌, ◌∙◌, ◌∷◌}
use Rattle.std.proofs.Common.{◌≡◌}
use Rattle.std.proofs.lemmas.Bool.Decides.{nat_tests}
use Rattle.std.proofs.lemmas.List.{append-nil}
use Rattle.std.specs.List.{slice_get}
use Rattle.std.specs.Prelude.{nat_le, nat_lt, not, ◌&&◌, ◌||◌}
use Rattle.gate_journal.specs.Rows.{is_open}
use Rattle.gate_journal.specs.Command.{HasDigest, IsBudget, IsCommand}
use Rattle.gate_journal.specs.Log.{next_row}
use Rattle.gate_journal.specs.declared.command.Command.{Command}
use Rattle.gate_journal.specs.declared.row.Row.{Row}
use Rattle.story_run.specs.declared.story.Story.{Story}
use Rattle.host_world.specs.Headline.{AreGiven}
use Rattle.gate_journal.specs.Rows.{commands_of, is_free, is_close, may_follow, EachNext, IsJournal}
use Rattle.gate_journal.specs.Rows.{IsNext, MayStand}
use Rattle.gate_journal.specs.declared.command.Command.TheVariants as commands
use Rattle.line_words.specs.declared.request.Request.{Request}
use Rattle.line_words.specs.declared.request.Request.TheVariants.{Open, Line, Char, File, Size}
use Rattle.line_words.specs.declared.request.Request.TheVariants.{Last, Close, Watch}
use Rattle.line_words.specs.declared.reply.No.{No as Refusal}
use Rattle.line_words.specs.declared.reply.No.TheVariants as no
use Rattle.line_words.specs.Request.{request_of}
use Rattle.line_words.specs.Spelling.{IsRequest}
use Rattle.line_words.proofs.RequestLaws.{request_only}
use Rattle.session_core.specs.History.{game_of, command_count, game_goes_on, has_key, is_in_use}
use Rattle.session_core.specs.History.{story_at, world_of}
use Rattle.session_core.specs.Checks.{command_of, is_fresh, is_full, opening_command}
use Rattle.session_core.specs.Answer.{answer, decided, accepted_by, first_refusal}
use Rattle.session_core.specs.Answer.{plain_checks, history_extended, story_checks}
use Rattle.session_core.specs.Answer.{refusal_in, refusal_of, game_show}
use Rattle.session_core.specs.Sessions.{with_budget}
use Rattle.session_core.specs.Turning.{decided_by, decision_on}
use Rattle.session_core.proofs.AnswerLemmas.{accepted_has_room}
use Rattle.session_core.proofs.RepeatLemmas.{all_fail, chosen, joined, game_of-append}
use Rattle.session_core.proofs.RepeatLemmas.{game_of-append-open, last_of-joined, some_is}

-- ---- a session is free by its rows exactly where its game is over

swap : (this that : Bool) (x c : Command) (xs : List Command)
    → cond this (x ∷ cond that (xs ++ c ∷ []) xs) (cond that (xs ++ c ∷ []) xs)
    ≡ cond that (cond this (x ∷ xs) xs ++ c ∷ []) (cond this (x ∷ xs) xs)
swap true true x c xs = refl
swap true false x c xs = refl
swap false true x c xs = refl
swap false false x c xs = refl

commands_of-append : (rows : List Row) (r : Row) (s : ℕ)
    → commands_of (rows ++ r ∷ []) s ≡ cond (r.session == s) (commands_of rows s ++ r.command ∷ [])
    (commands_of rows s)
commands_of-append [] r s = refl
commands_of-append (q ∷ rows) r s =
    rw (commands_of-append rows r s) (swap (q.session == s) (r.session == s) q.command r.command
    (commands_of rows s))

is_free-append : (xs : List Command) (c : Command) → is_free (xs ++ c ∷ []) ≡ is_close c
is_free-append [] c = refl
is_free-append (x ∷ []) c = refl
is_free-append (x ∷ y ∷ ys) c = is_free-append (y ∷ ys) c

abbrev Agree : List Command → Type 0
Agree commands = is_free commands ≡ not (is_in_use (game_of commands))

close_ends : (c : Command) → is_close c ≡ not (game_goes_on (Some c))
close_ends (commands.Open key story digest seed cols rows budget) = refl
close_ends (commands.Line win term text) = refl
close_ends (commands.Char win code) = refl
close_ends (commands.File name) = refl
close_ends (commands.Size cols rows) = refl
close_ends commands.Close = refl

joined_ends : (g : List Command) (c : Command) → is_in_use g ≡ true
    → is_close c ≡ not (is_in_use (joined g c))
joined_ends [] c used = absurd cc
joined_ends (d ∷ ds) c used = rw (last_of-joined d ds c) (close_ends c)

used_by : (free used : Bool) → free ≡ not used → not free ≡ true → used ≡ true
used_by true used e n = absurd cc
used_by false true e n = refl
used_by false false e n = absurd cc

agree-open : (xs : List Command) (c : Command) → is_open c ≡ true → Agree (xs ++ c ∷ [])
agree-open xs c opens = rw (is_free-append xs c, game_of-append-open xs c opens) (close_ends c)

agree-one : (xs : List Command) (c : Command) → is_open c ≡ false → Agree xs
    → not (is_free xs) ≡ true → Agree (xs ++ c ∷ [])
agree-one xs c shut a n =
    rw (is_free-append xs c, game_of-append xs c shut)
    (joined_ends (game_of xs) c (used_by (is_free xs) (is_in_use (game_of xs)) a n))

agree-follow : (xs : List Command) (c : Command) → may_follow xs c ≡ true → Agree xs
    → Agree (xs ++ c ∷ [])
agree-follow xs (commands.Open key story digest seed cols rows budget) m a =
    agree-open xs (commands.Open key story digest seed cols rows budget) refl
agree-follow xs (commands.Line win term text) m a =
    agree-one xs (commands.Line win term text) refl a m
agree-follow xs (commands.Char win code) m a = agree-one xs (commands.Char win code) refl a m
agree-follow xs (commands.File name) m a = agree-one xs (commands.File name) refl a m
agree-follow xs (commands.Size cols rows) m a = agree-one xs (commands.Size cols rows) refl a m
agree-follow xs commands.Close m a = agree-one xs commands.Close refl a m

agree-if : (own : Bool) (xs : List Command) (c : Command) → (own ≡ true → may_follow xs c ≡ true)
    → Agree xs → Agree (cond own (xs ++ c ∷ []) xs)
agree-if true xs c m a = agree-follow xs c (m refl) a
agree-if false xs c m a = a

same_session : (n s : ℕ) → (n == s) ≡ true → n ≡ s
same_session n s e = grind (arith, nat_tests, e)

agree-next : (rows : List Row) (r : Row) (s : ℕ) → IsNext rows r → Agree (commands_of rows s)
    → Agree (commands_of (rows ++ r ∷ []) s)
agree-next rows r s next a =
    rw (commands_of-append rows r s)
    (agree-if (r.session == s) (commands_of rows s) r.command
    (λ (e : (r.session == s) ≡ true).
    subst (λ (n : ℕ). may_follow (commands_of rows n) r.command ≡ true)
    (same_session r.session s e) next.stands.follows) a)

agree-all : (s : ℕ) (rows more : List Row) → EachNext rows more → Agree (commands_of rows s)
    → Agree (commands_of (rows ++ more) s)
agree-all s rows [] each a =
    subst (λ (x : List Row). Agree (commands_of x s)) (sym (append-nil rows)) a
agree-all s rows (r ∷ more) each a =
    subst (λ (x : List Row). Agree (commands_of x s)) (append_assoc rows (r ∷ []) more)
    (agree-all s (rows ++ r ∷ []) more each.1 (agree-next rows r s each.0 a))

agrees : (rows : List Row) (s : ℕ) → IsJournal rows → Agree (commands_of rows s)
agrees rows s journal = agree-all s [] rows journal refl

-- ---- a fresh command may follow

knows : (far key used : Bool) → (far || not (key && (used || false))) ≡ false → used ≡ true
knows true key used e = absurd cc
knows false true true e = refl
knows false true false e = absurd cc
knows false false used e = absurd cc

closes : (far key used again : Bool) → (far || not (key && (used || again))) ≡ false → again ≡ false
    → used ≡ true
closes true key used again e a = absurd cc
closes false true true again e a = refl
closes false true false again e a = absurd cc
closes false false used again e a = absurd cc

not_last : (n c : ℕ) → (n == c + 1) ≡ true → (n == c) ≡ false
not_last n c e = grind (arith, nat_tests, e)

-- a session in use isn't free
one_follows : (xs : List Command) → Agree xs → is_in_use (game_of xs) ≡ true
    → not (is_free xs) ≡ true
one_follows xs a used = rw (a, used) refl

-- what OPEN asks for, where its story is there
opens : (found : Option Story) (key : List ℕ) (story seed cols rows budget : ℕ) (c : Command)
    → opening_command found (λ digest. commands.Open key story digest seed cols rows budget)
    ≡ Some c
    → (there : Story) × (found ≡ Some there)
    × (c ≡ commands.Open key story there.digest seed cols rows budget)
opens None key story seed cols rows budget c e = absurd cc
opens (Some there) key story seed cols rows budget c e = (there, refl, sym (some_is _ c e))

follows : (stories : List Story) (xs : List Command) (request : Request) (c : Command) → Agree xs
    → first_refusal (plain_checks stories (game_of xs) request) ≡ None
    → is_fresh (game_of xs) request ≡ true → command_of stories request ≡ Some c
    → may_follow xs c ≡ true
follows stories xs (Open s key story seed cols rows budget) c a none fresh e =
    let opens_it = opens (story_at stories story) key story seed cols rows budget c e in
    rw opens_it.2 (a ∙ fresh)
follows stories xs (Line s key n win text term) c a none fresh e =
    let g = game_of xs in
    let used =
    knows (nat_le 64 s) (has_key g key) (is_in_use g)
    (all_fail (plain_checks stories g (Line s key n win text term)) none).1.0 in
    rw (sym (some_is _ c e)) (one_follows xs a used)
follows stories xs (Char s key n win code) c a none fresh e =
    let g = game_of xs in
    let used =
    knows (nat_le 64 s) (has_key g key) (is_in_use g)
    (all_fail (plain_checks stories g (Char s key n win code)) none).1.0 in
    rw (sym (some_is _ c e)) (one_follows xs a used)
follows stories xs (File s key n name) c a none fresh e =
    let g = game_of xs in
    let used =
    knows (nat_le 64 s) (has_key g key) (is_in_use g)
    (all_fail (plain_checks stories g (File s key n name)) none).1.0 in
    rw (sym (some_is _ c e)) (one_follows xs a used)
follows stories xs (Size s key n cols rows) c a none fresh e =
    let g = game_of xs in
    let used =
    knows (nat_le 64 s) (has_key g key) (is_in_use g)
    (all_fail (plain_checks stories g (Size s key n cols rows)) none).1.0 in
    rw (sym (some_is _ c e)) (one_follows xs a used)
follows stories xs (Last s key) c a none fresh e = absurd cc
follows stories xs (Watch s word from) c a none fresh e = absurd cc
follows stories xs (Close s key n) c a none fresh e =
    let g = game_of xs in
    let used =
    closes (nat_le 64 s) (has_key g key) (is_in_use g) (n == command_count g)
    (all_fail (plain_checks stories g (Close s key n)) none).1.0
    (not_last n (command_count g) fresh) in
    rw (sym (some_is _ c e)) (one_follows xs a used)

-- ---- what an accepted command is

first_of-front : (xs ys : List (Bool × Refusal))
    → first_refusal (xs ++ ys) ≡ None → first_refusal xs ≡ None
first_of-front [] ys e = refl
first_of-front ((true, why) ∷ xs) ys e = e
first_of-front ((false, why) ∷ xs) ys e = first_of-front xs ys e

accepted_none : (stories : List Story) (game : List Command) (show : Option Command → List ℕ)
    (request : Request) (refusal : Option Refusal) (command : Command)
    → (decided stories game show request refusal).accepted ≡ Some command
    → (refusal ≡ None) × (accepted_by stories game request ≡ Some command)
accepted_none stories game show request (Some why) command e = absurd cc
accepted_none stories game show request None command e = (refl, e)

-- a request was accepted: no check held of it, it was fresh, and it asked for the command
record Asks (stories : List Story) (history : List Command) (request : Request)
    (command : Command) : Type 0 where
  none : first_refusal (plain_checks stories (game_of history) request) ≡ None
  fresh : is_fresh (game_of history) request ≡ true
  asked : command_of stories request ≡ Some command
  room : length history < 8192

asks : (stories : List Story) (history : List Command) (request : Request) (command : Command)
    → (answer stories history request).accepted ≡ Some command
    → Asks stories history request command
unfolding answer refusal_of refusal_in accepted_by
asks stories history request command e =
    let parts =
    accepted_none stories (game_of history)
    (λ accepted. game_show stories (game_of (history_extended history accepted))) request
    (refusal_of stories history (game_of history) request) command e in
    let taken =
    chosen (is_fresh (game_of history) request) (command_of stories request) command parts.1 in
    let room =
    accepted_has_room stories history (game_of history) request (Some command) parts.0
    (sym parts.1) in
    record {
      none =
          first_of-front (plain_checks stories (game_of history) request)
          (story_checks (world_of stories (game_of history)) stories (game_of history) request ++
          (is_full history (game_of history) request, no.Full) ∷ []) parts.0;
      fresh = taken.0;
      asked =
          taken.1;
      room = room;
    }

story_there : (stories : List Story) (number : ℕ) (there : Story)
    → story_at stories number ≡ Some there → slice_get stories number ≡ Some there
story_there stories number there e = of (nat_lt number 65536) e
  where
    of : (b : Bool) → cond b (slice_get stories number) None ≡ Some there
        → slice_get stories number ≡ Some there
    of true e = e
    of false e = absurd cc

module _ (stories : List Story) (budget : ℕ) where
  -- its fields are in their ranges
  in_range : (request : Request) (c : Command) → IsBudget budget → IsRequest request
      → command_of stories (with_budget budget request) ≡ Some c → HasDigest c → IsCommand c
  in_range (Open s key story seed cols rows own) c range r e digest =
      let opens_it = opens (story_at stories story) key story seed cols rows budget c e in
      subst (λ (x : Command). IsCommand x) (sym opens_it.2) (
        r.0.1,
        r.1,
        subst (λ (x : Command). HasDigest x) opens_it.2 digest,
        r.2,
        r.3.0,
        r.3.1,
        r.3.2,
        r.3.3,
        range,
      )
  in_range (Line s key n win text term) c range r e digest =
      subst (λ (x : Command). IsCommand x) (some_is _ c e) (r.1, r.3, r.2)
  in_range (Char s key n win code) c range r e digest =
      subst (λ (x : Command). IsCommand x) (some_is _ c e) (r.1, r.2)
  in_range (File s key n name) c range r e digest =
      subst (λ (x : Command). IsCommand x) (some_is _ c e) r.1
  in_range (Size s key n cols rows) c range r e digest =
      subst (λ (x : Command). IsCommand x) (some_is _ c e) r.1
  in_range (Last s key) c range r e digest = absurd cc
  in_range (Watch s word from) c range r e digest = absurd cc
  in_range (Close s key n) c range r e digest =
      subst (λ (x : Command). IsCommand x) (some_is _ c e) tt

  fits_by : (cs : List Command) (line : List ℕ) (c : Command) → IsBudget budget
      → (read : Option Request) → request_of line ≡ read
      → (decided_by (λ request. answer stories cs (with_budget budget request)) line
      read).accepted ≡ Some c → HasDigest c → IsCommand c
  fits_by cs line c range None read e digest = absurd cc
  fits_by cs line c range (Some request) read e digest =
      in_range request c range (request_only line request read).1.0
      (asks stories cs (with_budget budget request) c e).asked digest

  -- an accepted command's fields are in their ranges
  pub accepted_fits : (cs : List Command) (line : List ℕ) (c : Command) → IsBudget budget
      → (decision_on stories budget cs line).accepted ≡ Some c → HasDigest c → IsCommand c
  unfolding decision_on
  accepted_fits cs line c range e digest =
      fits_by cs line c range (request_of line) refl e digest

module _ (stories : List Story) (budget : ℕ) (premise : AreGiven stories budget) where
  -- an accepted OPEN has the digest of its story
  given_digest : (request : Request) (c : Command) → command_of stories request ≡ Some c
      → HasDigest c
  given_digest (Open s key story seed cols rows own) c e =
      let opens_it = opens (story_at stories story) key story seed cols rows own c e in
      subst (λ (x : Command). HasDigest x) (sym opens_it.2)
      (premise.digests story opens_it.0 (story_there stories story opens_it.0 opens_it.1))
  given_digest (Line s key n win text term) c e =
      subst (λ (x : Command). HasDigest x) (some_is _ c e) tt
  given_digest (Char s key n win code) c e =
      subst (λ (x : Command). HasDigest x) (some_is _ c e) tt
  given_digest (File s key n name) c e =
      subst (λ (x : Command). HasDigest x) (some_is _ c e) tt
  given_digest (Size s key n cols rows) c e =
      subst (λ (x : Command). HasDigest x) (some_is _ c e) tt
  given_digest (Last s key) c e = absurd cc
  given_digest (Watch s word from) c e = absurd cc
  given_digest (Close s key n) c e = subst (λ (x : Command). HasDigest x) (some_is _ c e) tt

  stands_by : (rows : List Row) (s : ℕ) (cs : List Command) (line : List ℕ) (c : Command) → s < 64
      → IsJournal rows → commands_of rows s ≡ cs
      → (read : Option Request) → request_of line ≡ read
      → (decided_by (λ request. answer stories cs (with_budget budget request)) line
      read).accepted ≡ Some c → MayStand rows s c
  stands_by rows s cs line c low journal same None read e = absurd cc
  stands_by rows s cs line c low journal same (Some request) read e =
      let a = asks stories cs (with_budget budget request) c e in
      let agree : Agree cs = subst (λ (l : List Command). Agree l) same (agrees rows s journal) in
      record {
        below = low;
        ranges =
            in_range stories budget request c premise.range (request_only line request read).1.0
            a.asked (given_digest (with_budget budget request) c a.asked);
        follows =
            subst (λ (l : List Command). may_follow l c ≡ true) (sym same)
            (follows stories cs (with_budget budget request) c agree a.none a.fresh a.asked);
        fewer = subst (λ (l : List Command). length l < 8192) (sym same) a.room;
      }

  accepted_stands : (rows : List Row) (s : ℕ) (cs : List Command) (line : List ℕ) (c : Command)
      → s < 64 → IsJournal rows → commands_of rows s ≡ cs
      → (decision_on stories budget cs line).accepted ≡ Some c
      → MayStand rows s c
  unfolding decision_on
  accepted_stands rows s cs line c low journal same e =
      stands_by rows s cs line c low journal same (request_of line) refl e

  -- the row of an accepted command may stand next
  pub row_follows :
      (rows : List Row) (s : ℕ) (cs : List Command) (line : List ℕ) (c : Command)
      → s < 64 → IsJournal rows → commands_of rows s ≡ cs
      → (decision_on stories budget cs line).accepted ≡ Some c → IsNext rows (next_row rows s c)
  row_follows rows s cs line c low journal same is = record {
    place = refl;
    by = refl;
    stands = accepted_stands rows s cs line c low journal same is;
  }
