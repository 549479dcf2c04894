-- What `pipe` and `serve` leave of a folder is a run.
use Rattle.std.proofs.Common.{◌≡◌, ◌∙◌, arith, refl, ℕ, List, [], ◌∷◌, ◌++◌, Option, Some, None}
use Rattle.std.proofs.Common.{IfSome, IsTrue, drop, length, map, ap, sym, subst}
use Rattle.std.proofs.lemmas.List.Elements.{Contains-append_right}
use Rattle.std.specs.List.{Contains}
use Rattle.turn_cell.specs.History.{Each}
use Rattle.disk_model.specs.Work.{EachImage}
use Rattle.disk_model.specs.declared.disk.Disk.{Ghosts as DiskWords}
use Rattle.gate_journal.specs.Log.{EndsInFaultOf, MayOpen, MaySpell, rows_of}
use Rattle.gate_journal.specs.Rows.{IsJournal, SpellsRows}
use Rattle.gate_journal.specs.declared.entry.Entry.{Entry as JournalEntry}
use Rattle.gate_journal.specs.declared.entry.Entry.TheVariants.{Kept, Faulted}
use Rattle.gate_journal.specs.declared.row.Row.{Row}
use Rattle.host_serve.specs.Opening.{AreAgreed, histories_in_rows}
use Rattle.host_serve.specs.Serves.{AnsweredLine}
use Rattle.host_serve.proofs.AloneLemmas.{many_histories}
use Rattle.host_top.specs.DoorServed.{OfDoor}
use Rattle.host_top.specs.JournalBack.{JournalBack}
use Rattle.host_top.specs.Piped.{StoresBack}
use Rattle.session_core.specs.History.{game_of}
use Rattle.session_core.specs.Hosts.{entries_of}
use Rattle.session_core.specs.Turning.{commands_in}
use Rattle.session_core.specs.declared.entry.Entry.{Entry}
use Rattle.session_saves.specs.Agreement.{IsAgreedFile, opens_of}
use Rattle.gate_journal.specs.Rows.{commands_of}
use Rattle.story_run.specs.declared.story.Story.{Story}
use Rattle.folder_runs.specs.Folder.{AgreeWith, FolderImage}
use Rattle.folder_runs.specs.Runs.{StandsInRows, RunLeaves, Shown}
use Rattle.host_runs.specs.Shows.{shows_met}
use Rattle.host_runs.proofs.ShowLemmas.{shows_kept}
use Rattle.host_runs.specs.Leaves.{IsFound, LinksLeave, MayBeLeft, PipeLeaves, RefusalLeaves}
use Rattle.host_runs.specs.Leaves.{begun_in}

-- ---- the appends that had begun

is_begun : (front : List JournalEntry) (r : Row) (from to : ℕ) (later : List JournalEntry)
    → Contains (begun_in (front ++ Faulted r from to ∷ later)) (r.session, r.command)
is_begun [] r from to later = (0, omega arith, refl)
is_begun (Kept q ∷ front) r from to later = is_begun front r from to later
is_begun (Faulted q f t ∷ front) r from to later =
    Contains-append_right ((q.session, q.command) ∷ [])
    (begun_in (front ++ Faulted r from to ∷ later)) (r.session, r.command)
    (is_begun front r from to later)

are_begun : (uncertain : Option Row) (entries : List JournalEntry)
    → IfSome uncertain (λ (r : Row). EndsInFaultOf r entries)
    → IfSome uncertain (λ (r : Row). Contains (begun_in entries) (r.session, r.command))
are_begun None entries owner = tt
are_begun (Some r) entries owner =
    subst (λ (es : List JournalEntry). Contains (begun_in es) (r.session, r.command))
    (sym owner.fault) (is_begun owner.front r owner.from owner.to owner.later)

module _ {D : Type 0} (disks : DiskWords D) where
  -- files that agree are stores that do
  agreed : (stories : List Story) (rows : List Row) (given : D) (givens : List D)
      (first : FolderImage) → IsFound disks given givens first
      → AgreeWith stories rows first.snaps
      → AreAgreed disks stories rows givens
  agreed stories rows given givens first found agree s disk at =
      let file = found.snaps s disk at in (
        file.2.0,
        subst (IsAgreedFile stories (opens_of rows s) (game_of (commands_of rows s)))
            (sym file.2.1) (agree s file.0 file.1),
      )

  -- what the two have in common
  leaves_so : (stories : List Story) (rows accepted : List Row) (journal : List JournalEntry)
      (uncertain : Option Row) (given : D) (givens : List D) (back : D) (backs : List D)
      (first left : FolderImage) (shows : List Shown)
      → IsFound disks given givens first → MayBeLeft disks back backs left
      → (IsTrue (disks.tells given) → SpellsRows (disks.seen given) rows)
      → rows_of journal ≡ rows ++ accepted
      → EachImage disks back (MaySpell (rows_of journal) uncertain)
      → JournalBack disks rows journal uncertain back
      → StoresBack disks stories rows (rows_of journal) givens backs
      → (AreAgreed disks stories rows givens → Each (StandsInRows stories (rows_of journal)) shows)
      → RunLeaves stories first (record {
        left = left;
        shows = shows;
        begun = begun_in (drop (length rows) journal);
      })
  leaves_so stories rows accepted journal uncertain given givens back backs first left shows found
      leaves spells grows images its stores shown = record {
        rows = rows;
        found =
            subst (λ (bytes : List ℕ). SpellsRows bytes rows) found.journal.1
            (spells found.journal.0);
        accepted = accepted;
        journal = subst IsJournal grows its.stands;
        one_more = uncertain;
        owner = are_begun uncertain (drop (length rows) journal) its.owner;
        spells =
            subst (λ (rows : List Row). MaySpell rows uncertain left.journal) grows
            (images leaves.journal.0 left.journal leaves.journal.1);
        opens =
            subst (λ (rows : List Row). MayOpen rows left.journal) grows
            (its.opens leaves.journal.0 left.journal leaves.journal.1);
        agree = λ agree. subst (λ (rows : List Row). AgreeWith stories rows left.snaps) grows
            (λ s file at. let disk = leaves.snaps s file at in
            stores.agreed (agreed stories rows given givens first found agree) s disk.0 disk.1
            disk.2.0 file disk.2.1);
        shown = λ agree. subst (λ (rows : List Row). Each (StandsInRows stories rows) shows) grows
            (shown (agreed stories rows given givens first found agree));
      }

  pub pipe_runs : PipeLeaves disks
  pipe_runs stories budget given givens back backs input now output new served c first left found
      leaves =
      let lines = map (λ (t : AnsweredLine). t.line) c.turns in
      let outcomes = map (λ (t : AnsweredLine). t.outcome) c.turns in
      let begin = histories_in_rows c.rows in
      leaves_so stories c.rows c.more c.journal c.uncertain given givens back backs first left
      (shows_met stories budget begin 0 lines outcomes) found leaves c.handed_in c.grows c.images
      c.left c.stores
      (λ sound.
      let alone = c.sound sound in
      shows_kept stories budget 0 lines outcomes begin (rows_of c.journal) (many_histories c.rows)
      (λ s low. c.accepted s low
      ∙ ap (λ (h : List (List Entry)). commands_in (entries_of h s)) alone.accepted))

  pub links_run : (Serves : OfDoor D) → LinksLeave disks Serves
  links_run Serves stories budget workers given givens back backs input now output new status l
      first left found leaves =
      leaves_so stories l.rows l.more l.journal l.uncertain given givens back backs first left []
      found leaves l.handed_in l.grows l.images l.left l.stores (λ sound. tt)

  pub refusals_run : RefusalLeaves disks
  refusals_run given back input now output new status n first left reads only leaves snaps =
      record {
        silent = refl;
        opens = λ rows journal may.
            n.images rows journal
            (λ told c now. subst (MayOpen rows) (sym (only c now)) may)
            leaves.0 left.journal leaves.1;
        snaps = snaps;
      }
