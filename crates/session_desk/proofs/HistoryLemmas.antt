-- The history in a journal's entries, with what a turn adds to it.
use Rattle.std.proofs.Common.{◌≡◌, ℕ, ◌+◌, ◌==◌, Bool, true, false, cond, List, [], ◌∷◌, ◌++◌}
use Rattle.std.proofs.Common.{Some, refl, ap, ◌∙◌, arith}
use Rattle.std.proofs.lemmas.Bool.Decides.{nat_tests}
use Rattle.std.proofs.lemmas.List.{append-nil}
use Rattle.gate_journal.specs.Log.{next_row, rows_of}
use Rattle.gate_journal.specs.Rows.{commands_of}
use Rattle.gate_journal.specs.declared.command.Command.{Command}
use Rattle.gate_journal.specs.declared.row.Row.{Row}
use Rattle.gate_journal.specs.declared.entry.Entry.{Entry as JournalEntry}
use Rattle.gate_journal.specs.declared.entry.Entry.TheVariants.{Kept, Faulted}
use Rattle.line_words.specs.declared.reply.Reply.{Reply}
use Rattle.session_core.specs.declared.entry.Entry.{Entry}
use Rattle.session_core.specs.declared.entry.Entry.TheVariants as entries
use Rattle.session_core.specs.declared.entry.Outcome.{Outcome}
use Rattle.session_core.specs.declared.entry.Outcome.TheVariants.{Answered, DiskFailed, OutOfMemory}
use Rattle.session_core.specs.declared.entry.Outcome.TheVariants.{Forgotten}
use Rattle.session_core.specs.Turning.{commands_in, turn_met}
use Rattle.session_desk.specs.Turn.{entries_added, history_in}

-- ---- entries behind entries

pub front : {A : Type 0} (own : Bool) (x : A) (xs ys : List A)
    → cond own (x ∷ (xs ++ ys)) (xs ++ ys) ≡ cond own (x ∷ xs) xs ++ ys
front true x xs ys = refl
front false x xs ys = refl

pub history_in-append : (xs ys : List JournalEntry) (s : ℕ)
    → history_in (xs ++ ys) s ≡ history_in xs s ++ history_in ys s
history_in-append [] ys s = refl
history_in-append (Kept r ∷ xs) ys s =
    rw (history_in-append xs ys s)
    (front (r.session == s) (entries.Accepted 0 r.command) (history_in xs s) (history_in ys s))
history_in-append (Faulted r from to ∷ xs) ys s =
    rw (history_in-append xs ys s)
    (front (r.by == s + 1) (entries.Faulted 0 from to) (history_in xs s) (history_in ys s))

-- ---- what a turn adds

same : (n : ℕ) → (n == n) ≡ true
same n = grind (arith, nat_tests)

no_more : (es : List JournalEntry) (s : ℕ) → history_in (es ++ []) s ≡ history_in es s
no_more es s = ap (λ (x : List JournalEntry). history_in x s) (append-nil es)

one_row : (es : List JournalEntry) (rows : List Row) (s : ℕ) (c : Command)
    → history_in (es ++ Kept (next_row rows s c) ∷ []) s
    ≡ history_in es s ++ entries.Accepted 0 c ∷ []
one_row es rows s c = history_in-append es (Kept (next_row rows s c) ∷ []) s ∙ rw (same s) refl

one_fault : (es : List JournalEntry) (rows : List Row) (s : ℕ) (c : Command) (from to : ℕ)
    → history_in (es ++ Faulted (next_row rows s c) from to ∷ []) s
    ≡ history_in es s ++ entries.Faulted 0 from to ∷ []
one_fault es rows s c from to =
    history_in-append es (Faulted (next_row rows s c) from to ∷ []) s ∙ rw (same (s + 1)) refl

-- the session's history takes what a turn of its command adds
pub history_in-taken : (es : List JournalEntry) (rows : List Row) (s : ℕ) (reply : Reply)
    (c : Command) (outcome : Outcome)
    → history_in (es ++ entries_added rows s (Some c) outcome) s
    ≡ (turn_met (history_in es s) 0 reply (Some c) outcome).history
history_in-taken es rows s reply c Answered = one_row es rows s c
history_in-taken es rows s reply c (DiskFailed from to) = one_fault es rows s c from to
history_in-taken es rows s reply c OutOfMemory = no_more es s
history_in-taken es rows s reply c Forgotten = one_row es rows s c

-- ---- commands

kept_or : (own : Bool) (c : Command) (h : List Entry)
    → commands_in (cond own (entries.Accepted 0 c ∷ h) h)
    ≡ cond own (c ∷ commands_in h) (commands_in h)
kept_or true c h = refl
kept_or false c h = refl

faulted_or : (own : Bool) (from to : ℕ) (h : List Entry)
    → commands_in (cond own (entries.Faulted 0 from to ∷ h) h) ≡ commands_in h
faulted_or true from to h = refl
faulted_or false from to h = refl

-- a history accepted the commands of the session's rows
pub commands_in-history : (es : List JournalEntry) (s : ℕ)
    → commands_in (history_in es s) ≡ commands_of (rows_of es) s
commands_in-history [] s = refl
commands_in-history (Kept r ∷ es) s =
    kept_or (r.session == s) r.command (history_in es s)
    ∙ ap (λ (x : List Command). cond (r.session == s) (r.command ∷ x) x) (commands_in-history es s)
commands_in-history (Faulted r from to ∷ es) s =
    faulted_or (r.by == s + 1) from to (history_in es s) ∙ commands_in-history es s
