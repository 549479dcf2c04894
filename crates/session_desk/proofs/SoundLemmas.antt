-- What holds of a desk, its snapshots and its world, behind each of its steps.
use Rattle.std.proofs.Common.{◌≡◌, ℕ, ◌≤◌, max, Bool, false, IsTrue, List, [], ◌∷◌, length}
use Rattle.std.proofs.Common.{◌++◌, replicate, Option, Some, Result, Ok, Err, refl, sym, ap}
use Rattle.std.proofs.Common.{subst, ◌∙◌, append_assoc, arith}
use Rattle.std.specs.List.{Contains}
use Rattle.std.proofs.lemmas.List.{append-nil}
use Rattle.disk_model.specs.Work.{EachImage, LeavesOnly, OnlyLooks, SameDisk}
use Rattle.disk_model.specs.declared.disk.Disk.{Ghosts as DiskWords}
use Rattle.turn_cell.specs.declared.pass.Pass.{Pass}
use Rattle.turn_cell.specs.Passes.{seen}
use Rattle.gate_journal.specs.Rows.{is_open, commands_of}
use Rattle.gate_journal.specs.Log.{rows_kept, Log, rows_of}
use Rattle.gate_journal.specs.declared.command.Command.{Command}
use Rattle.gate_journal.specs.declared.row.Row.{Row}
use Rattle.gate_journal.specs.declared.entry.Entry.{Entry as JournalEntry}
use Rattle.line_words.specs.declared.request.Request.{Request}
use Rattle.story_run.specs.declared.story.Story.{Story}
use Rattle.story_run.specs.World.{WorldState}
use Rattle.session_core.specs.History.{game_of, world_of}
use Rattle.snap_store.specs.Store.{IsImageOf, Snapshots, store_area}
use Rattle.snap_store.specs.declared.side.Side.{Side}
use Rattle.session_saves.specs.Agreement.{IsAgreed, last_row, opens_of}
use Rattle.session_saves.specs.Game.{inputs_of}
use Rattle.session_saves.specs.Keeping.{KeepsOpen, MayStandMeanwhile}
use Rattle.session_saves.specs.Saves as own
use Rattle.session_saves.specs.Saves.{HasSince, IsMissCounted, IsKeptUp, SavesState}
use Rattle.session_desk.specs.declared.held.Held.{Held}
use Rattle.session_desk.specs.declared.held.Held.TheVariants.{Nothing, Current}
use Rattle.session_desk.specs.declared.refused.Refused.{Refused}
use Rattle.session_desk.specs.declared.desk.mark.Mark.{Mark}
use Rattle.session_desk.specs.declared.desk.mark.Mark.TheVariants as marks
use Rattle.session_desk.specs.declared.verdict.Verdict.TheVariants.{Fresh}
use Rattle.session_desk.specs.Desk.{committed, DeskState, desk_emptied, game, HoldsOwnWorld}
use Rattle.session_desk.specs.Desk.{cold_desk, ran}
use Rattle.session_desk.specs.Keeping as keeping
use Rattle.session_desk.specs.Marks.{commands_woven}
use Rattle.session_desk.specs.Opens.{opens_behind, row_behind}
use Rattle.session_desk.specs.Shared.{as_opened, desk_tag, IsMarked, IsPassOf, SharedState}
use Rattle.session_desk.specs.Sound.{AreKeptUp, EndsStore, IsSameStore, IsSoundDesk, IsWhole}
use Rattle.session_desk.specs.Sound.{KeepsFile, open_rows}
use Rattle.session_desk.specs.Verdict.{verdict}
use Rattle.session_desk.proofs.HeldLemmas.{holds-aside, holds-then}
use Rattle.session_desk.proofs.AlikeLemmas.{ready}
use Rattle.session_desk.proofs.OpensLemmas.{no_rows, row_by}
use Rattle.session_desk.proofs.FileLemmas.{file-behind, file-kept, file-looked, file-opened}
use Rattle.session_desk.proofs.FileLemmas.{rows_behind}
use Rattle.session_desk.proofs.SharedLemmas.{Commits, marked-opened, rows-seen}
use Rattle.session_desk.proofs.KeptUpLemmas.{agreed-behind, kept-behind, is_done}

rows_of-kept : (rows : List Row) → rows_of (rows_kept rows) ≡ rows
rows_of-kept [] = refl
rows_of-kept (r ∷ rows) = ap (λ (x : List Row). r ∷ x) (rows_of-kept rows)

module _ {D : Type 0} (disks : DiskWords D) where
  pub same-store : (store : Snapshots D) → IsSameStore disks store store
  same-store store = record {
    same = record { telling = refl; size = refl; name = refl };
    counts = omega arith;
    reaches = omega arith;
    made = refl;
  }

  pub store-kept : (old mid new : Snapshots D)
      → IsSameStore disks old mid → SameDisk disks mid.disk new.disk
      → disks.faults mid.disk ≤ disks.faults new.disk
      → disks.reach new.disk ≤ max (disks.reach mid.disk) 16781344 → new.made ≡ mid.made
      → IsSameStore disks old new
  store-kept old mid new first same counts reaches made = record {
    same = record {
      telling = same.telling ∙ first.same.telling;
      size = same.size ∙ first.same.size;
      name = same.name ∙ first.same.name;
    };
    counts = let before = first.counts in omega (arith, before, counts);
    reaches = let before = first.reaches in omega (arith, before, reaches);
    made = made ∙ first.made;
  }

  pub still_tells : (old new : Snapshots D)
      → IsSameStore disks old new → IsTrue (disks.tells old.disk) → IsTrue (disks.tells new.disk)
  still_tells old new same told = subst (λ (t : Bool). IsTrue t) (sym same.same.telling) told

-- ---- what holds of the fields

module _ {D : Type 0} (disks : DiskWords D) where
  abbrev Whole : List Mark → Option ℕ → SharedState D → Type 0
  Whole l place state =
      IsWhole disks l place state

  -- the state with another world held and other snapshots
  abbrev rested : SharedState D → Held → SavesState D → SharedState D
  rested old held saves = record old { desk = record old.desk { held = held }; saves = saves }

  pub whole-rested : (l : List Mark) (place : Option ℕ) (old : SharedState D) (held : Held)
      (saves : SavesState D)
      → Whole l place old
      → IsSameStore disks old.store saves.store
      → (IsSoundDesk disks (desk_tag old) → HoldsOwnWorld old.desk.stories (game old.desk) held)
      → (IsSoundDesk disks (desk_tag old)
      → IsAgreed disks.seen old.desk.stories (open_rows old) (game old.desk) saves.store)
      → AreKeptUp (rested old held saves)
      → (IsSoundDesk disks (desk_tag old) → KeepsFile disks (rested old held saves))
      → Whole l place (rested old held saves)
  whole-rested l place old held saves w store holds agreed kept file = record {
    marked = record {
      counted = w.marked.counted;
      of_session = w.marked.of_session;
      commands = w.marked.commands;
      entries = w.marked.entries;
    };
    row = w.row;
    store = store;
    own = λ sound. record { holds = holds sound; agreed = agreed sound };
    kept_up = kept;
    rows = w.rows;
    file = file;
  }

  -- with another world held
  whole-held : (l : List Mark) (place : Option ℕ) (old : SharedState D) (held : Held)
      → Whole l place old
      → (IsSoundDesk disks (desk_tag old) → HoldsOwnWorld old.desk.stories (game old.desk) held)
      → Whole l place (record old { desk = record old.desk { held = held } })
  whole-held l place old held w holds =
      whole-rested l place old held old.saves w w.store holds
      (λ sound. (w.own sound).agreed) w.kept_up
      (λ sound. let f = w.file sound in record { agreed = f.agreed; newest = f.newest })

  -- as the world is let go
  pub whole-emptied : (l : List Mark) (place : Option ℕ) (old : SharedState D)
      → Whole l place old → Whole l place (record old { desk = desk_emptied old.desk })
  whole-emptied l place old w = whole-held l place old Nothing w (λ sound. tt)

  -- as the last command is run
  pub whole-run : (l : List Mark) (place : Option ℕ) (old : SharedState D)
      → Whole l place old → Whole l place (record old { desk = ran old.desk })
  whole-run l place old w =
      whole-held l place old (ran old.desk).held w
      (λ sound. holds-then old.desk.stories (game old.desk) old.desk.held (w.own sound).holds)

  -- the rows that came before a commit, and then its own
  more_behind : {l : List Mark} {place : Option ℕ} (old : SharedState D)
      (pass : Pass (Log D) JournalEntry)
      → Whole l place old
      → (more : List Row) × (rows_of (seen pass) ≡ rows_of (seen old.pass) ++ more)
      → (more : List Row) × (rows_of (seen pass) ≡ old.rows ++ more)
  more_behind old pass w behind = (
    w.rows.0 ++ behind.0,
    behind.1 ∙ ap (λ (rows : List Row). rows ++ behind.0) w.rows.1
        ∙ append_assoc old.rows w.rows.0 behind.0,
  )

  -- behind a commit
  pub whole-committed : (l m : List Mark) (place : Option ℕ) (old : SharedState D)
      (desk : DeskState) (pass : Pass (Log D) JournalEntry) (request : Request)
      (done : Result ℕ Refused) → Whole l place old → IsMarked m desk pass
      → Commits request done old.desk desk (seen old.pass) (seen pass)
      → verdict old.desk request ≡ Fresh
      → keeping.snapshot_due old ≡ false
      → IsMissCounted old.saves.missed old.saves.last
      → Whole m (row_behind place request done)
      (record old { desk = desk; history = commands_woven m desk.commands; pass = pass })
  whole-committed l m place old desk pass request (Ok row) w marked did fresh due counted =
      let c = did.command in
      let ok : desk ≡ committed old.desk c = did.taken in
      let behind = rows_behind _ _ _ _ _ did.writes.journal in
      let places = open_rows old in
      let stories : desk.stories ≡ old.desk.stories = ap (λ (d : DeskState). d.stories) ok in
      let session : desk.session ≡ old.desk.session = ap (λ (d : DeskState). d.session) ok in
      let is : opens_of (rows_of (seen pass)) desk.session ≡ opens_behind places c (Ok row) =
      ap (λ (s : ℕ). opens_of (rows_of (seen pass)) s) session ∙ did.writes.opens.opens in
      record {
        marked = marked;
        row =
            row_by old.desk.stories old.desk.session (seen old.pass) (seen pass) place request c
            (Ok row) did.asked did.writes.opens w.row
            ∙ ap (λ (s : ℕ). last_row (opens_of (rows_of (seen pass)) s)) (sym session);
        store = w.store;
        own = λ sound. let o = w.own (rw ok at sound) in record {
          holds = rw ok (holds-aside old.desk.stories old.desk.commands c old.desk.held o.holds);
          agreed =
              rw (
                is,
                ok,
              ) (agreed-behind disks.seen old.desk.stories places old.desk.commands c row
              (is_open c) old.saves.store refl did.writes.opens.before o.agreed);
        };
        kept_up =
            λ none. rw (is, ok)
            (kept-behind old.saves places old.desk.commands c row (is_open c) counted refl
            (is_done old.saves places old.desk c (ready old.desk request c fresh did.asked) due)
            (w.kept_up (subst (λ (s : ℕ). commands_of old.rows s ≡ []) session none)));
        rows = more_behind old pass w behind;
        file =
            λ sound. file-behind disks old desk
            (commands_woven m desk.commands) pass stories session w.rows behind
            (w.file (rw ok at sound));
      }
  whole-committed l m place old desk pass request (Err why) w marked did fresh due counted =
      let err : desk ≡ old.desk = did.left in
      let behind = rows_behind _ _ _ _ _ did.writes.journal in
      let stories : desk.stories ≡ old.desk.stories = ap (λ (d : DeskState). d.stories) err in
      let session : desk.session ≡ old.desk.session = ap (λ (d : DeskState). d.session) err in
      let is : opens_of (rows_of (seen pass)) desk.session ≡ open_rows old =
      ap (λ (s : ℕ). opens_of (rows_of (seen pass)) s) session ∙ did.writes.opens.opens in
      record {
        marked = marked;
        row = w.row ∙ ap last_row (sym is);
        store = w.store;
        own =
            λ sound. let o = w.own (rw err at sound) in
            record { holds = rw err o.holds; agreed = rw (is, err) o.agreed };
        kept_up =
            λ none.
            rw (is, err) (w.kept_up (subst (λ (s : ℕ). commands_of old.rows s ≡ []) session none));
        rows = more_behind old pass w behind;
        file =
            λ sound. file-behind disks old desk
            (commands_woven m desk.commands) pass stories session w.rows behind
            (w.file (rw err at sound));
      }

  -- as a store was only looked at
  pub whole-looked :
      (counts_now : (d : D) (t : ℕ) (c : List ℕ) → t ≤ disks.moment d → disks.may_leave d c
      → disks.left_since d t c)
      (l : List Mark) (place : Option ℕ) (old : SharedState D) (held : Held)
      (saves : SavesState D) → Whole l place old → OnlyLooks disks old.saves.store.disk
      saves.store.disk
      → disks.faults old.saves.store.disk ≤ disks.faults saves.store.disk
      → ((side : Side) → IsTrue (disks.tells old.saves.store.disk)
      → store_area disks.seen saves.store side ≡ store_area disks.seen old.saves.store side)
      → saves.store.made ≡ old.saves.store.made
      → saves.store.slots ≡ old.saves.store.slots
      → saves.missed ≡ old.saves.missed
      → (IsSoundDesk disks (desk_tag old) → HoldsOwnWorld old.desk.stories (game old.desk) held)
      → Whole l place (rested old held saves)
  whole-looked counts_now l place old held saves w looks counts areas
      made slots missed holds =
      whole-rested l place old held saves w
      (store-kept disks old.store old.saves.store saves.store w.store looks.same counts
      (let asked = looks.asked in omega (arith, asked)) made)
      holds
      (λ sound side area e. (w.own sound).agreed side area
      (sym (areas side
      (still_tells disks old.store old.saves.store w.store sound.0)) ∙ e))
      (λ none place last. rw (slots, missed) (w.kept_up none place last))
      (λ sound. file-looked disks counts_now old held saves
      (looks.moments (still_tells disks old.store old.saves.store w.store
      sound.0)) slots (w.file sound))

  -- as a snapshot was kept
  pub whole-kept : (l : List Mark) (place : Option ℕ) (old : SharedState D) (saves : SavesState D)
      → Whole l place old
      → SameDisk disks old.saves.store.disk saves.store.disk
      × (saves.store.made ≡ old.saves.store.made)
      → disks.faults old.saves.store.disk ≤ disks.faults saves.store.disk
      → disks.reach saves.store.disk ≤ max (disks.reach old.saves.store.disk) 16781344
      → (row count : ℕ) (world : WorldState) → place ≡ Some row
      → count ≡ length (inputs_of (game old.desk))
      → old.desk.held ≡ Current world
      → (IsKeptUp row count old.saves.store.slots old.saves.missed
      → IsKeptUp row count saves.store.slots saves.missed)
      → ((stories : List Story) (rows : List ℕ) (g : List Command)
      → IsTrue (disks.tells old.saves.store.disk)
      → last_row rows ≡ Some row → length (inputs_of g) ≡ count
      → world_of stories g ≡ Some world
      → IsAgreed disks.seen stories rows g old.saves.store
      → IsAgreed disks.seen stories rows g saves.store) → (IsTrue (disks.tells old.saves.store.disk)
      → LeavesOnly disks old.saves.store.disk saves.store.disk
      (MayStandMeanwhile disks.seen world row count old.saves.store))
      → ((stories : List Story) (rows : List ℕ) (g : List Command) (least : ℕ)
      → IsTrue (disks.tells old.saves.store.disk) → ((x : ℕ) → Contains rows x → x ≤ row)
      → IsAgreed disks.seen stories rows g old.saves.store
      → HasSince row least old.saves.store.slots
      → KeepsOpen disks row least old.saves.store saves.store)
      → Whole l place (record old { saves = saves })
  whole-kept l place old saves w same counts reaches row count world at counted held keeps agrees
      crash newest =
      whole-rested l place old old.desk.held saves w
      (store-kept disks old.store old.saves.store saves.store w.store same.0 counts reaches same.1)
      (λ sound. (w.own sound).holds)
      (λ sound. let o = w.own sound in
      agrees old.desk.stories (open_rows old) (game old.desk)
      (still_tells disks old.store old.saves.store w.store sound.0)
      (sym w.row ∙ at) (sym counted) (rw held at o.holds) o.agreed)
      (λ none p last. let both = sym last ∙ sym w.row ∙ at in
      let same_row : p ≡ row = cc in
      let before = w.kept_up none p last in
      rw (same_row, sym counted) (keeps (rw (same_row, sym counted) at before)))
      (λ sound. let o = w.own sound in
      let told = still_tells disks old.store old.saves.store w.store
      sound.0 in
      let f = file-kept disks old saves row count world
      (rows-seen l old.desk old.pass w.marked) (sym w.row ∙ at) counted (rw held at o.holds)
      o.agreed (crash told)
      (λ least last has. newest old.desk.stories (open_rows old) (game old.desk) least told last
      o.agreed has) (w.file sound) in
      record { agreed = f.agreed; newest = f.newest })

  -- as a desk was opened
  pub whole-opened :
      (only_now : (d : D) (c : List ℕ) → disks.left_since d (disks.moment d) c
      → disks.may_leave d c)
      (l : List Mark) (s : ℕ) (stories : List Story) (budget : ℕ) (rows : List Row)
      (pass : Pass (Log D) JournalEntry) (store : Snapshots D)
      → IsMarked l (cold_desk s stories budget (commands_of rows s)) pass
      → seen pass ≡ rows_kept rows
      → EachImage disks store.disk (IsImageOf disks.seen store)
      → Whole l (last_row (opens_of rows s)) (as_opened s stories budget rows pass store)
  whole-opened only_now l s stories budget rows pass store marked saw are =
      let same : rows_of (seen pass) ≡ rows = ap rows_of saw ∙ rows_of-kept rows in
      record {
        marked = marked;
        row = ap (λ (x : List Row). last_row (opens_of x s)) (sym same);
        store = same-store disks store;
        own =
            λ sound. record {
              holds = tt;
              agreed =
                  subst (λ (x : List Row).
                  IsAgreed disks.seen stories (opens_of x s) (game_of (commands_of rows s)) store)
                  (sym same) sound.1;
            };
        kept_up =
            λ none place last. absurd (let e =
            sym last
            ∙ ap last_row (ap (λ (x : List Row). opens_of x s) same ∙ no_rows rows s none) in
            cc);
        rows = ([], same ∙ sym (append-nil rows));
        file =
            λ sound. file-opened disks s stories budget rows
            pass store only_now same are sound.0 sound.1;
      }

  -- the state of a desk with these marks, whose pass and store were such as it was opened
  abbrev state_at : DeskState → List Mark → Pass (Log D) JournalEntry → SavesState D → Snapshots D
      → Pass (Log D) JournalEntry → SharedState D
  state_at desk marks pass saves store first = record {
    desk = desk;
    history = commands_woven marks desk.commands;
    pass = pass;
    saves = saves;
    store = store;
    rows = rows_of (seen first);
  }

  pub whole-open :
      (only_now : (d : D) (c : List ℕ) → disks.left_since d (disks.moment d) c
      → disks.may_leave d c)
      (l : List Mark) (place : Option ℕ) (desk : DeskState) (s : ℕ) (stories : List Story)
      (budget : ℕ) (rows : List Row) (pass : Pass (Log D) JournalEntry) (saves : SavesState D)
      (given : Snapshots D) (first : Pass (Log D) JournalEntry) (store : Snapshots D)
      → l ≡ replicate (length desk.commands) (marks.Accepted 0)
      → desk ≡ cold_desk s stories budget (commands_of rows s)
      → IsPassOf s pass → seen pass ≡ rows_kept rows
      → place ≡ last_row (opens_of rows s)
      → saves ≡ own.saves_of_opened_store store → given ≡ store
      → first ≡ pass
      → EachImage disks store.disk (IsImageOf disks.seen store)
      → Whole l place (state_at desk l pass saves given first)
      × (state_at desk l pass saves given first ≡ as_opened s stories budget rows pass store)
  whole-open only_now l place desk s stories budget rows pass saves given first store
      all has of saw lies clear is was are =
      let m = marked-opened l desk s stories budget rows pass all has of saw in
      let opened : rows_of (seen first) ≡ rows =
      ap (λ (p : Pass (Log D) JournalEntry). rows_of (seen p)) was
      ∙ ap rows_of saw ∙ rows_of-kept rows in
      let same : state_at desk l pass saves given first
      ≡ as_opened s stories budget rows pass store =
      rw (m.1, has, clear, is, opened) refl in (
        subst (λ (x : SharedState D). Whole l place x) (sym same)
            (rw lies (whole-opened only_now l s stories budget rows pass store
            (subst (λ (d : DeskState). IsMarked l d pass) has m.0) saw are)),
        same,
      )

  -- what is left of the store
  pub ends_store : (l : List Mark) (place : Option ℕ) (old : SharedState D) → Whole l place old
      → EachImage disks old.saves.store.disk (IsImageOf disks.seen old.saves.store)
      → EndsStore disks old
  ends_store l place old w images = record {
    store = w.store;
    agreed =
        λ sound told image may side area e.
        (w.own sound).agreed side area ((images told image may).openable side area e);
    file = w.file;
  }
