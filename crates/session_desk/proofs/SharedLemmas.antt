-- A shared desk and the journal that it stands on.
use Rattle.std.proofs.Common.{◌≡◌, ◌⊎◌, inl, inr, ⊎_elim, ℕ, ◌+◌, ◌==◌, Bool, true, false, cond}
use Rattle.std.proofs.Common.{List, [], ◌∷◌, ◌++◌, length, map, replicate, Option, Some, None}
use Rattle.std.proofs.Common.{Result, Ok, Err, refl, sym, ap, subst, ◌∙◌}
use Rattle.std.specs.Prelude.{IfErr, OnErr, OnOk}
use Rattle.std.proofs.lemmas.List.{append-nil, map-append}
use Rattle.atomic_table.specs.Seated.{TableId}
use Rattle.turn_cell.specs.declared.pass.Pass.{Pass}
use Rattle.turn_cell.specs.History.{Continues, IsForeign}
use Rattle.turn_cell.specs.Passes.{pass_numbers, seen}
use Rattle.turn_cell.specs.Views.{MayLeave, tag_in}
use Rattle.turn_cell.specs.declared.view.View.{View}
use Rattle.gate_journal.specs.Log.{rows_kept, Log, next_row, entry_number, rows_of}
use Rattle.gate_journal.specs.Rows.{commands_of, IsJournal}
use Rattle.gate_journal.specs.declared.command.Command.{Command}
use Rattle.gate_journal.specs.declared.row.Row.{Row}
use Rattle.gate_journal.specs.declared.entry.Entry.{Entry as JournalEntry}
use Rattle.gate_journal.specs.declared.entry.Entry.TheVariants.{Kept, Faulted}
use Rattle.line_words.specs.declared.reply.No.TheVariants as no
use Rattle.line_words.specs.declared.reply.Reply.TheVariants as replies
use Rattle.line_words.specs.declared.request.Request.{Request}
use Rattle.story_run.specs.declared.story.Story.{Story}
use Rattle.session_core.specs.declared.entry.Entry.{Entry}
use Rattle.session_core.specs.declared.entry.Entry.TheVariants as entries
use Rattle.session_core.specs.declared.entry.Outcome.{Outcome}
use Rattle.session_core.specs.declared.entry.Outcome.TheVariants.{Answered, DiskFailed, OutOfMemory}
use Rattle.session_core.specs.declared.entry.Outcome.TheVariants.{Forgotten}
use Rattle.session_core.specs.Turning.{commands_in}
use Rattle.session_desk.specs.declared.refused.Refused.{Refused}
use Rattle.session_desk.specs.declared.refused.Refused.TheVariants.{DiskFault, NoMemory}
use Rattle.session_core.specs.Checks.{command_of}
use Rattle.session_desk.specs.Commit.{Extends, RefusalLeaves, Writes}
use Rattle.session_desk.specs.declared.desk.mark.Mark.{Mark}
use Rattle.session_desk.specs.declared.desk.mark.Mark.TheVariants as marks
use Rattle.session_desk.specs.Desk.{committed, DeskState, cold_desk}
use Rattle.session_desk.specs.Marks.{count_commands, marks_by, commands_woven}
use Rattle.session_desk.specs.Shared.{desk_tag, DeskTag, GoesOn, history_met, IsMarked, IsPassOf}
use Rattle.session_desk.specs.Shared.{LeavesHistory, met_by, SharedState, TakesEntry, unnumbered}
use Rattle.session_desk.specs.Shared.{HasRisen, unplaced}
use Rattle.session_desk.specs.Turn.{entries_added, history_in}
use Rattle.session_desk.proofs.OpensLemmas.{foreign_none, later_numbered, next_numbered}
use Rattle.snap_store.specs.Store.{Snapshots}
use Rattle.session_desk.proofs.MarkLemmas.{commands_in-woven, count-all, count-by, woven-all}
use Rattle.session_desk.proofs.MarkLemmas.{woven-by}
use Rattle.session_desk.proofs.HistoryLemmas.{commands_in-history, history_in-taken}
use Rattle.session_desk.proofs.HistoryLemmas.{history_in-append}

-- ---- without the numbers of passes

pub commands_in-unnumbered : (h : List Entry) → commands_in (map unnumbered h) ≡ commands_in h
commands_in-unnumbered [] = refl
commands_in-unnumbered (entries.Accepted by c ∷ h) =
    ap (λ (m : List Command). c ∷ m) (commands_in-unnumbered h)
commands_in-unnumbered (entries.Faulted by from to ∷ h) = commands_in-unnumbered h

pub unnumbered-met : (h : List Entry) (by : ℕ) (accepted : Option Command) (outcome : Outcome)
    → map unnumbered (history_met h by accepted outcome)
    ≡ history_met (map unnumbered h) 0 accepted outcome
unnumbered-met h by None Answered = refl
unnumbered-met h by None (DiskFailed from to) = refl
unnumbered-met h by None OutOfMemory = refl
unnumbered-met h by None Forgotten = refl
unnumbered-met h by (Some c) Answered = map-append unnumbered h (entries.Accepted by c ∷ [])
unnumbered-met h by (Some c) (DiskFailed from to) =
    map-append unnumbered h (entries.Faulted by from to ∷ [])
unnumbered-met h by (Some c) OutOfMemory = refl
unnumbered-met h by (Some c) Forgotten = map-append unnumbered h (entries.Accepted by c ∷ [])

-- ---- entries of other sessions change nothing of one

-- the history of a session in a journal is the one in what its pass had seen of it
pub history_in-since : (s : ℕ) (log seen : List JournalEntry)
    → IsJournal (rows_of log)
    → Continues (IsForeign entry_number ((s + 1) ∷ [])) log seen
    → history_in log s ≡ history_in seen s
history_in-since s log seen journal on =
    let rows : IsJournal (rows_of (seen ++ on.0)) =
    subst (λ (es : List JournalEntry). IsJournal (rows_of es)) on.1 journal in
    let none : history_in on.0 s ≡ [] =
    foreign_none s on.0
    (later_numbered seen on.0 (next_numbered [] (rows_of (seen ++ on.0)) rows)) on.2 in
    ap (λ (es : List JournalEntry). history_in es s) on.1
    ∙ history_in-append seen on.0 s
    ∙ ap (λ (h : List Entry). history_in seen s ++ h) none
    ∙ append-nil (history_in seen s)

-- so are its commands
pub commands_of-since : (s : ℕ) (log seen : List JournalEntry)
    → IsJournal (rows_of log)
    → Continues (IsForeign entry_number ((s + 1) ∷ [])) log seen
    → commands_of (rows_of log) s ≡ commands_of (rows_of seen) s
commands_of-since s log seen journal on =
    sym (commands_in-history log s)
    ∙ ap commands_in (history_in-since s log seen journal on)
    ∙ commands_in-history seen s

-- ---- what a commit adds

pub appended : {D T : Type 0} (faults : D → ℕ) (s : ℕ) (old new : Log D) (c : Command)
    (done : Result T Refused)
    → OnOk done (Extends s c old new)
    → IfErr done (λ why. RefusalLeaves faults s c old new why)
    → new.entries ≡ old.entries ++ entries_added (rows_of old.entries) s (Some c) (met_by done)
appended faults s old new c (Ok x) ok err = ok
appended faults s old new c (Err (DiskFault fault)) ok err = err.1
appended faults s old new c (Err NoMemory) ok err = err.entries ∙ sym (append-nil old.entries)

-- at most one entry, of the number of the session and 1
pub at_most_one : (s : ℕ) (rows : List Row) (accepted : Option Command) (outcome : Outcome)
    (old new : List JournalEntry)
    → new ≡ old ++ entries_added rows s accepted outcome
    → (new ≡ old) ⊎ ((e : JournalEntry) × (new ≡ old ++ e ∷ []) × (entry_number e ≡ s + 1))
at_most_one s rows None Answered old new is = inl (is ∙ append-nil old)
at_most_one s rows None (DiskFailed from to) old new is = inl (is ∙ append-nil old)
at_most_one s rows None OutOfMemory old new is = inl (is ∙ append-nil old)
at_most_one s rows None Forgotten old new is = inl (is ∙ append-nil old)
at_most_one s rows (Some c) Answered old new is = inr (Kept (next_row rows s c), is, refl)
at_most_one s rows (Some c) (DiskFailed from to) old new is =
    inr (Faulted (next_row rows s c) from to, is, refl)
at_most_one s rows (Some c) OutOfMemory old new is = inl (is ∙ append-nil old)
at_most_one s rows (Some c) Forgotten old new is = inr (Kept (next_row rows s c), is, refl)

-- the session's history behind it
pub history_in-behind : (s : ℕ) (log seen new : List JournalEntry) (c : Command) (outcome : Outcome)
    → IsJournal (rows_of log)
    → Continues (IsForeign entry_number ((s + 1) ∷ [])) log seen
    → new ≡ log ++ entries_added (rows_of log) s (Some c) outcome
    → history_in new s ≡ history_met (history_in seen s) 0 (Some c) outcome
history_in-behind s log seen new c outcome journal on is =
    ap (λ (es : List JournalEntry). history_in es s) is
    ∙ history_in-taken log (rows_of log) s (replies.No no.NoMemory) c outcome
    ∙ ap (λ (h : List Entry). history_met h 0 (Some c) outcome)
    (history_in-since s log seen journal on)

-- it may be put back
pub leaves : {D : Type 0} (v : View JournalEntry (Log D)) (s : ℕ) (old new : Log D)
    (accepted : Option Command) (outcome : Outcome)
    → v.seen ≡ old.entries → v.number ≡ s + 1
    → tag_in (λ (log : Log D). log.opening) v.sample ≡ Some old.opening
    → new.opening ≡ old.opening
    → new.entries ≡ old.entries ++ entries_added (rows_of old.entries) s accepted outcome
    → MayLeave (λ (log : Log D). log.entries) entry_number (λ (log : Log D). log.opening) v new
leaves {D} v s old new accepted outcome saw number tagged opening is = (
  tagged ∙ ap Some (sym opening),
  ⊎_elim (λ e. inl (e ∙ sym saw))
      (λ e.
      inr (e.0, e.1 ∙ ap (λ (l : List JournalEntry). l ++ e.0 ∷ []) (sym saw), e.2 ∙ sym number))
      (at_most_one s (rows_of old.entries) accepted outcome old.entries new.entries is),
)

-- what a pass of the session finds is other sessions' alone
pub others : {D : Type 0} (pass : Pass (Log D) JournalEntry) (s : ℕ) (log : List JournalEntry)
    → IsPassOf s pass
    → Continues (IsForeign entry_number (pass_numbers pass)) log (seen pass)
    → Continues (IsForeign entry_number ((s + 1) ∷ [])) log (seen pass)
others pass s log of on =
    subst (λ (numbers : List ℕ). Continues (IsForeign entry_number numbers) log (seen pass))
    of.only on

-- ---- a desk as it is opened

pub history_in-kept : (rows : List Row) (s : ℕ)
    → history_in (rows_kept rows) s ≡ map (entries.Accepted 0) (commands_of rows s)
history_in-kept [] s = refl
history_in-kept (r ∷ rows) s =
    rw (history_in-kept rows s) (front (r.session == s) r.command (commands_of rows s))
  where
    front : (own : Bool) (c : Command) (commands : List Command)
        → cond own (entries.Accepted 0 c ∷ map (entries.Accepted 0) commands)
        (map (entries.Accepted 0) commands)
        ≡ map (entries.Accepted 0) (cond own (c ∷ commands) commands)
    front true c commands = refl
    front false c commands = refl

pub unnumbered-all : (commands : List Command)
    → map unnumbered (map (entries.Accepted 0) commands) ≡ map (entries.Accepted 0) commands
unnumbered-all [] = refl
unnumbered-all (c ∷ commands) =
    ap (λ (h : List Entry). entries.Accepted 0 c ∷ h) (unnumbered-all commands)

-- ---- what holds of the fields

-- the rows that the pass has seen of its session are the desk's commands
pub rows-seen : {D : Type 0} (l : List Mark) (desk : DeskState) (pass : Pass (Log D) JournalEntry)
    → IsMarked l desk pass
    → commands_of (rows_of (seen pass)) desk.session ≡ desk.commands
rows-seen l desk pass w =
    sym (commands_in-history (seen pass) desk.session)
    ∙ ap commands_in (sym w.entries)
    ∙ commands_in-unnumbered (commands_woven l desk.commands)
    ∙ w.commands

-- what a commit of the command that a request asks for leaves of the desk and of the journal
pub record Commits (request : Request) (done : Result ℕ Refused) (desk new_desk : DeskState)
    (old new : List JournalEntry) : Type 0 where
  pub command : Command
  pub asked : command_of desk.stories request ≡ Some command
  pub taken : OnOk done (new_desk ≡ committed desk command)
  pub left : OnErr done (new_desk ≡ desk)
  pub writes : Writes desk.session command done old new

session_by : {T : Type 0} (done : Result T Refused) (old new : DeskState) (c : Command)
    → OnOk done (new ≡ committed old c) → OnErr done (new ≡ old)
    → new.session ≡ old.session
session_by (Ok x) old new c ok err = ap (λ (d : DeskState). d.session) ok
session_by (Err why) old new c ok err = ap (λ (d : DeskState). d.session) err

pub history-by : (l m : List Mark) (by : ℕ) (old new : DeskState) (seen next : List JournalEntry)
    (request : Request) (done : Result ℕ Refused)
    (did : Commits request done old new seen next)
    → m ≡ l ++ marks_by by done → count_commands l ≡ length old.commands
    → commands_woven m new.commands
    ≡ history_met (commands_woven l old.commands) by (Some did.command) (met_by done)
history-by l m by old new seen next request done did is counted =
    ap (λ (x : List Mark). commands_woven x new.commands) is
    ∙ woven-by l done by old new did.command counted did.taken did.left

pub marked-by : {D : Type 0} (l m : List Mark) (by : ℕ) (old new : DeskState)
    (pass next : Pass (Log D) JournalEntry) (request : Request) (done : Result ℕ Refused)
    → Commits request done old new (seen pass) (seen next)
    → m ≡ l ++ marks_by by done → IsMarked l old pass
    → IsPassOf old.session next
    → IsMarked m new next
marked-by l m by old new pass next request done did is w of =
    let c = did.command in
    let same = session_by done old new c did.taken did.left in
    let many : count_commands m ≡ length new.commands =
    ap count_commands is ∙ count-by l done by old new c w.counted did.taken did.left in
    record {
      counted = many;
      of_session = rw same of;
      commands = commands_in-woven m new.commands many;
      entries = ap (map unnumbered)
          (history-by l m by old new (seen pass) (seen next) request done did is w.counted)
          ∙ unnumbered-met (commands_woven l old.commands) by (Some c) (met_by done)
          ∙ ap (λ (h : List Entry). history_met h 0 (Some c) (met_by done)) w.entries
          ∙ sym did.writes.history
          ∙ sym (ap (history_in (seen next)) same);
    }

-- as it is opened
opened_marked : {D : Type 0} (l : List Mark) (s : ℕ) (stories : List Story) (budget : ℕ)
    (rows : List Row) (pass : Pass (Log D) JournalEntry)
    → commands_woven l (commands_of rows s) ≡ history_in (rows_kept rows) s
    → count_commands l ≡ length (commands_of rows s)
    → IsPassOf s pass → seen pass ≡ rows_kept rows
    → IsMarked l (cold_desk s stories budget (commands_of rows s)) pass
opened_marked l s stories budget rows pass weaves many of saw = record {
  counted = many;
  of_session = of;
  commands = commands_in-woven l (commands_of rows s) many;
  entries =
      ap (map unnumbered) (weaves ∙ history_in-kept rows s) ∙ unnumbered-all (commands_of rows s)
      ∙ sym (ap (λ (es : List JournalEntry). history_in es s) saw ∙ history_in-kept rows s);
}

-- the history of a desk as it is opened
pub marked-opened : {D : Type 0} (l : List Mark) (desk : DeskState) (s : ℕ)
    (stories : List Story) (budget : ℕ) (rows : List Row) (pass : Pass (Log D) JournalEntry)
    → l ≡ replicate (length desk.commands) (marks.Accepted 0)
    → desk ≡ cold_desk s stories budget (commands_of rows s)
    → IsPassOf s pass → seen pass ≡ rows_kept rows
    → IsMarked l desk pass × (commands_woven l desk.commands ≡ history_in (rows_kept rows) s)
marked-opened l desk s stories budget rows pass is has of saw =
    let commands : desk.commands ≡ commands_of rows s = ap (λ (d : DeskState). d.commands) has in
    let many : count_commands l ≡ length (commands_of rows s) =
    ap count_commands is ∙ count-all (length desk.commands) 0
    ∙ ap (λ (x : List Command). length x) commands in
    let weaves : commands_woven l (commands_of rows s) ≡ history_in (rows_kept rows) s =
    ap (λ (m : List Mark). commands_woven m (commands_of rows s))
    (is ∙ ap (λ (x : List Command). replicate (length x) (marks.Accepted 0)) commands)
    ∙ woven-all (commands_of rows s) 0 ∙ sym (history_in-kept rows s) in (
      rw has (opened_marked l s stories budget rows pass weaves many of saw),
      ap (λ (x : List Command). commands_woven l x) commands ∙ weaves,
    )

-- ---- what a commit gives

-- what a commit answers, without the place of the row
pub answered : {D : Type 0} (done : Result ℕ Refused) (request : Request) (by : ℕ)
    (old new : SharedState D) (P : Type 0)
    (did : Commits request done old.desk new.desk (seen old.pass) (seen new.pass))
    → new.history ≡ history_met old.history by (Some did.command) (met_by done)
    → OnOk done P → IfErr done HasRisen
    → OnOk (unplaced done) (TakesEntry request by old new)
    × OnOk (unplaced done) P
    × OnErr (unplaced done) (new.desk ≡ old.desk)
    × IfErr (unplaced done) (LeavesHistory by old.history new.history)
    × IfErr (unplaced done) HasRisen
    × GoesOn old.desk.session (Some did.command) (met_by (unplaced done)) (seen old.pass)
    (seen new.pass)
answered (Ok place) request by old new P did entry p rose = (
  record { command = did.command; asked = did.asked; taken = did.taken; entry = entry },
  p,
  tt,
  tt,
  tt,
  did.writes.journal,
)
answered (Err (DiskFault fault)) request by old new P did entry p rose =
    (tt, tt, did.left, entry, rose, did.writes.journal)
answered (Err NoMemory) request by old new P did entry p rose =
    (tt, tt, did.left, entry, rose, did.writes.journal)

abbrev tag_at : {D : Type 0} → DeskState → TableId → Snapshots D → List Row → DeskTag D
tag_at desk cell store rows =
    record {
      session = desk.session;
      stories = desk.stories;
      budget = desk.budget;
      cell = cell;
      store = store;
      rows = rows;
    }

pub tag-by : {D T : Type 0} (done : Result T Refused) (old new : SharedState D) (c : Command)
    → OnOk done (new.desk ≡ committed old.desk c)
    → OnErr done (new.desk ≡ old.desk)
    → new.pass.known.place.table_id ≡ old.pass.known.place.table_id
    → new.store ≡ old.store → new.rows ≡ old.rows
    → desk_tag new ≡ desk_tag old
tag-by (Ok x) old new c ok err cell store rows = rw (ok, cell, store, rows) refl
tag-by (Err why) old new c ok err cell store rows = rw (err, cell, store, rows) refl

pub has_risen : {D : Type 0} (faults : D → ℕ) (session : ℕ) (command : Command) (old new : Log D)
    (done : Result ℕ Refused)
    → IfErr done (λ why. RefusalLeaves faults session command old new why) → IfErr done HasRisen
has_risen faults session command old new (Ok place) left = tt
has_risen faults session command old new (Err (DiskFault fault)) left =
    rw (left.0.at_start, left.0.at_end) left.0.rose
has_risen faults session command old new (Err NoMemory) left = tt
