-- What a desk keeps of its store's file, behind each of its steps.
use Rattle.std.proofs.Common.{◌≡◌, ◌∙◌, ℕ, ◌≤◌, IsTrue, List, [], ◌∷◌, ◌++◌, length}
use Rattle.std.proofs.Common.{Option, Some, sym, ap, subst, append_assoc, arith}
use Rattle.std.specs.List.{Contains}
use Rattle.std.proofs.lemmas.List.{append-nil, length-append, nil_from_length}
use Rattle.disk_model.specs.Work.{EachImage, LeavesOnly}
use Rattle.disk_model.specs.declared.disk.Disk.{Ghosts as DiskWords}
use Rattle.disk_model.proofs.Moments.{and_then, holds_now, started, weaker}
use Rattle.turn_cell.specs.declared.pass.Pass.{Pass}
use Rattle.turn_cell.specs.Passes.{seen}
use Rattle.gate_journal.specs.Log.{Log, rows_of}
use Rattle.gate_journal.specs.Rows.{EachNext, IsJournal, commands_of}
use Rattle.gate_journal.specs.declared.command.Command.{Command}
use Rattle.gate_journal.specs.declared.row.Row.{Row}
use Rattle.gate_journal.specs.declared.entry.Entry.{Entry as JournalEntry}
use Rattle.story_run.specs.declared.story.Story.{Story}
use Rattle.story_run.specs.World.{WorldState}
use Rattle.session_core.specs.declared.entry.Entry.{Entry}
use Rattle.session_core.specs.declared.entry.Outcome.{Outcome}
use Rattle.session_core.specs.History.{game_of, world_of}
use Rattle.snap_store.specs.Store.{IsImageOf, Snapshots}
use Rattle.session_saves.specs.Agreement.{AgreesWithBeginning, IsAgreed, IsAgreedFile, last_row}
use Rattle.session_saves.specs.Agreement.{opens_of}
use Rattle.session_saves.specs.Game.{inputs_of}
use Rattle.session_saves.specs.Keeping.{KeepsOpen, MayStandMeanwhile}
use Rattle.session_saves.specs.Saves.{HasOpenSince, HasSince, SavesState}
use Rattle.session_saves.proofs.AgreementLemmas.{images}
use Rattle.session_desk.specs.declared.held.Held.{Held}
use Rattle.session_desk.specs.Desk.{DeskState, game}
use Rattle.session_desk.specs.Shared.{GoesOn, SharedState, as_opened}
use Rattle.session_desk.specs.Sound.{KeepsFile, open_rows}
use Rattle.session_desk.specs.Turn.{entries_added}
use Rattle.session_desk.proofs.OpensLemmas.{opens_last, opens_of-append, rows_of-append}

-- ---- the first rows of a journal

each_first : (before rows more : List Row) → EachNext before (rows ++ more) → EachNext before rows
each_first before [] more each = tt
each_first before (r ∷ rows) more each =
    (each.0, each_first (before ++ r ∷ []) rows more each.1)

-- they are a journal
pub first_rows : (rows more : List Row) → IsJournal (rows ++ more) → IsJournal rows
first_rows rows more each = each_first [] rows more each

-- a commit goes on from the rows that were seen
pub rows_behind : (s : ℕ) (accepted : Option Command) (outcome : Outcome)
    (old new : List JournalEntry)
    → GoesOn s accepted outcome old new
    → (more : List Row) × (rows_of new ≡ rows_of old ++ more)
rows_behind s accepted outcome old new on =
    let others = on.since.0 in
    let added = entries_added (rows_of on.before) s accepted outcome in (
      rows_of others ++ rows_of added,
      ap rows_of on.adds ∙ rows_of-append on.before added
          ∙ ap (λ (rows : List Row). rows ++ rows_of added)
          (ap rows_of on.since.1 ∙ rows_of-append old others)
          ∙ append_assoc (rows_of old) (rows_of others) (rows_of added),
    )

-- where no OPEN came to these rows and then to those, none came to either
no_open : (s : ℕ) (rows mid new more later : List Row) → mid ≡ rows ++ more → new ≡ mid ++ later
    → opens_of new s ≡ opens_of rows s
    → (opens_of mid s ≡ opens_of rows s) × (opens_of new s ≡ opens_of mid s)
no_open s rows mid new more later mid_is new_is same =
    let a : opens_of mid s ≡ opens_of rows s ++ opens_of more s =
    ap (λ (x : List Row). opens_of x s) mid_is ∙ opens_of-append rows more s in
    let b : opens_of new s ≡ opens_of mid s ++ opens_of later s =
    ap (λ (x : List Row). opens_of x s) new_is ∙ opens_of-append mid later s in
    let m = ap (λ (x : List ℕ). length x) a
    ∙ length-append (opens_of rows s) (opens_of more s) in
    let n = ap (λ (x : List ℕ). length x) b
    ∙ length-append (opens_of mid s) (opens_of later s) in
    let all = ap (λ (x : List ℕ). length x) same in
    let first : opens_of more s ≡ [] =
    nil_from_length (opens_of more s) (omega (arith, m, n, all)) in
    let second : opens_of later s ≡ [] =
    nil_from_length (opens_of later s) (omega (arith, m, n, all)) in (
      a ∙ ap (λ (x : List ℕ). opens_of rows s ++ x) first ∙ append-nil (opens_of rows s),
      b ∙ ap (λ (x : List ℕ). opens_of mid s ++ x) second ∙ append-nil (opens_of mid s),
    )

some_same : (x y : ℕ) → Some x ≡ Some y → x ≡ y
some_same x y e = cc

module _ {D : Type 0} (disks : DiskWords D) where
  -- as more rows come
  pub file-behind : (old : SharedState D) (desk : DeskState) (history : List Entry)
      (pass : Pass (Log D) JournalEntry)
      → desk.stories ≡ old.desk.stories → desk.session ≡ old.desk.session
      → (more : List Row) × (rows_of (seen old.pass) ≡ old.rows ++ more)
      → (more : List Row) × (rows_of (seen pass) ≡ rows_of (seen old.pass) ++ more)
      → KeepsFile disks old → KeepsFile disks
      (record old { desk = desk; history = history; pass = pass })
  file-behind old desk history pass stories session before behind keeps = record {
    agreed =
        weaker disks old.store.disk old.saves.store.disk
        (AgreesWithBeginning old.desk.stories (rows_of (seen old.pass)) old.desk.session)
        (AgreesWithBeginning desk.stories (rows_of (seen pass)) desk.session) keeps.agreed
        (λ file a.
        subst (λ (x : List Story × ℕ). AgreesWithBeginning x.0 (rows_of (seen pass)) x.1 file)
        (λ i. (sym stories i, sym session i)) (record {
          first = a.first;
          more = a.more ++ behind.0;
          all = behind.1 ∙ ap (λ (rows : List Row). rows ++ behind.0) a.all
              ∙ append_assoc a.first a.more behind.0;
          agreed = a.agreed;
        }));
    newest = λ journal same place least last has.
        let same' : opens_of (rows_of (seen pass)) old.desk.session
        ≡ opens_of old.rows old.desk.session =
        subst (λ (s : ℕ). opens_of (rows_of (seen pass)) s ≡ opens_of old.rows s) session same in
        let last' : last_row (opens_of (rows_of (seen pass)) old.desk.session) ≡ Some place =
        subst (λ (s : ℕ). last_row (opens_of (rows_of (seen pass)) s) ≡ Some place) session
        last in
        let none =
        no_open old.desk.session old.rows (rows_of (seen old.pass)) (rows_of (seen pass))
        before.0 behind.0 before.1 behind.1 same' in
        keeps.newest
        (first_rows (rows_of (seen old.pass)) behind.0 (subst IsJournal behind.1 journal)) none.0
        place least (ap last_row (sym none.1) ∙ last') has;
  }

  -- as the store is only looked at
  module _
      (counts_now : (d : D) (t : ℕ) (c : List ℕ) → t ≤ disks.moment d → disks.may_leave d c
      → disks.left_since d t c) where
    looked : (first old new : D) (P : List ℕ → Type 0) → LeavesOnly disks first old P
        → LeavesOnly disks old new (disks.may_leave old) → LeavesOnly disks first new P
    looked first old new P leaves looks =
        and_then disks first old new P leaves
        (weaker disks old new (disks.may_leave old) P looks
        (holds_now disks first old P (counts_now old) leaves))

    pub file-looked : (old : SharedState D) (held : Held) (saves : SavesState D)
        → LeavesOnly disks old.saves.store.disk saves.store.disk
        (disks.may_leave old.saves.store.disk) → saves.store.slots ≡ old.saves.store.slots
        → KeepsFile disks old → KeepsFile disks
        (record old { desk = record old.desk { held = held }; saves = saves })
    file-looked old held saves looks slots keeps = record {
      agreed =
          looked old.store.disk old.saves.store.disk saves.store.disk _ keeps.agreed looks;
      newest = λ journal same place least last has.
          let so_far = keeps.newest journal same place least last has in
          record {
            known = rw slots so_far.known;
            images =
                looked old.store.disk old.saves.store.disk saves.store.disk
                (HasOpenSince place least) so_far.images looks;
          };
    }

  -- as a snapshot of the session's own world is kept
  pub file-kept : (old : SharedState D) (saves : SavesState D) (row count : ℕ) (world : WorldState)
      → commands_of (rows_of (seen old.pass)) old.desk.session ≡ old.desk.commands
      → last_row (open_rows old) ≡ Some row
      → count ≡ length (inputs_of (game old.desk))
      → world_of old.desk.stories (game old.desk) ≡ Some world
      → IsAgreed disks.seen old.desk.stories (open_rows old) (game old.desk) old.saves.store
      → LeavesOnly disks old.saves.store.disk saves.store.disk
      (MayStandMeanwhile disks.seen world row count old.saves.store)
      → ((least : ℕ) → ((x : ℕ) → Contains (open_rows old) x → x ≤ row)
      → HasSince row least old.saves.store.slots
      → KeepsOpen disks row least old.saves.store saves.store) → KeepsFile disks old
      → KeepsFile disks (record old { saves = saves })
  file-kept old saves row count world commands is_last counted own agreed crash keeps_open
      keeps = record {
        agreed =
            and_then disks old.store.disk old.saves.store.disk saves.store.disk _ keeps.agreed
            (weaker disks old.saves.store.disk saves.store.disk
            (MayStandMeanwhile disks.seen world row count old.saves.store)
            (AgreesWithBeginning old.desk.stories (rows_of (seen old.pass)) old.desk.session)
            crash (λ image stands. record {
              first = rows_of (seen old.pass);
              more = [];
              all = sym (append-nil (rows_of (seen old.pass)));
              agreed =
                  subst (λ (cs : List Command).
                  IsAgreedFile old.desk.stories (open_rows old) (game_of cs) image)
                  (sym commands)
                  (images disks.seen old.desk.stories (open_rows old) (game old.desk) world row
                  old.saves.store image is_last own agreed
                  (subst (λ (n : ℕ).
                  MayStandMeanwhile disks.seen world row n old.saves.store image) counted stands));
            }));
        newest = λ journal same place least last has.
            let so_far = keeps.newest journal same place least last has in
            let at : place ≡ row = some_same place row (sym last ∙ is_last) in
            let next =
            keeps_open least
            (opens_last old.desk.session (rows_of (seen old.pass)) journal row is_last)
            (subst (λ (p : ℕ). HasSince p least old.saves.store.slots) at so_far.known) in
            let then_ =
            subst (λ (p : ℕ). KeepsOpen disks p least old.saves.store saves.store)
            (sym at) next in
            record {
              known = then_.known;
              images =
                  and_then disks old.store.disk old.saves.store.disk
                  saves.store.disk (HasOpenSince place least) so_far.images then_.images;
            };
      }

  -- as a desk is opened
  pub file-opened : (s : ℕ) (stories : List Story) (budget : ℕ) (rows : List Row)
      (pass : Pass (Log D) JournalEntry) (store : Snapshots D)
      → ((d : D) (c : List ℕ) → disks.left_since d (disks.moment d) c → disks.may_leave d c)
      → rows_of (seen pass) ≡ rows
      → EachImage disks store.disk (IsImageOf disks.seen store) → IsTrue (disks.tells store.disk)
      → IsAgreed disks.seen stories (opens_of rows s) (game_of (commands_of rows s)) store
      → KeepsFile disks (as_opened s stories budget rows pass store)
  file-opened s stories budget rows pass store only_now same are told agreed = record {
    agreed =
        started disks store.disk (AgreesWithBeginning stories (rows_of (seen pass)) s)
        (λ file left. record {
          first = rows;
          more = [];
          all = same ∙ sym (append-nil rows);
          agreed = λ side area e.
              agreed side area
              ((are told file (only_now store.disk file left)).openable side area e);
        });
    newest = λ journal none place least last has. record {
      known = has;
      images =
          started disks store.disk (HasOpenSince place least)
          (λ file left.
          let there =
          (are told file (only_now store.disk file left)).synced has.side place has.count
          has.open_there in
          record {
            side = has.side;
            area = there.0;
            open_there = there.2;
            row = there.3;
            since = let c = there.4 in let m = has.since in omega (arith, c, m);
          });
    };
  }
