-- What `pipe` writes, for a caller who is told the input, what the output holds and the disks.
use Rattle.std.proofs.Common.{◌≡◌, ℕ, ◌^◌, ◌≤◌, inl, inr, List, [], ◌++◌, ◌<◌, length, map}
use Rattle.std.proofs.Common.{refl, sym, ap, ◌∙◌, subst, IsTrue, Option, Some, None, slice_get}
use Rattle.std.proofs.lemmas.List.{append-nil}
use Rattle.std.specs.Io.KnownBytes.{Consumes, IsAtEnd}
use Rattle.gate_journal.specs.Faults.{Explains}
use Rattle.gate_journal.specs.declared.fault.JournalFault.{JournalFault}
use Rattle.gate_journal.specs.declared.fault.JournalFault.TheVariants as fault
use Rattle.story_run.specs.declared.story.Story.{Story}
use Rattle.host_top.specs.Borrowed.{journal_in, snap_in}
use Rattle.disk_model.specs.declared.disk.Disk.{Ghosts as DiskWords}
use Rattle.host_top.specs.ToldBytes.{WhereTold}
use Rattle.host_top.specs.Files.{IsLentFrom, Told, Untold, Missing, There}
use Rattle.host_top.specs.declared.folder.Back.{Back}
use Rattle.host_top.specs.declared.folder.Back.TheVariants as back
use Rattle.line_talk.specs.Lines.{lines, talk, IsWithinLimits}
use Rattle.host_top.specs.Piped.{PipesOver}
use Rattle.host_top.specs.Said.{SaysFault, SaysLine, bad_journal, bad_journal_at}
use Rattle.host_top.specs.Served.{AnswersIn, AreSound, AreTold, RefusesJournal, WritesServed}
use Rattle.host_top.specs.Served.{WritesTurns}
use Rattle.host_top.specs.Status.{status_of_end, status_of_stop}
use Rattle.line_talk.specs.Streams.{SourceState, SinkState, Wrote}
use Rattle.line_talk.specs.Talked.{AnsweredOf}
use Rattle.line_talk.specs.Writing.{IsPartOf}
use Rattle.gate_journal.specs.Rows.{commands_of}
use Rattle.gate_journal.specs.declared.row.Row.{Row}
use Rattle.host_serve.specs.Opening.{AreAgreed}
use Rattle.host_serve.specs.Serves.{AnsweredLine}
use Rattle.session_core.specs.History.{game_of}
use Rattle.session_saves.specs.Agreement.{IsAgreedFile, opens_of}
use Rattle.line_talk.specs.declared.ended.Ended.{Ended}
use Rattle.line_talk.specs.declared.ended.Ended.TheVariants as ended
use Rattle.line_talk.specs.declared.sink.Stop.{Stop}
use Rattle.line_talk.specs.declared.sink.Stop.TheVariants as stop
use Rattle.host_top.specs.declared.status.Status.{Status}
use Rattle.host_top.specs.declared.status.Status.TheVariants.{BadFolder}
use Rattle.line_talk.proofs.LinesLemmas.{still_reached, talk_settled, talk_first, first_then}

-- what was read of an input that is told
pub consumed : (old new : Option (List ℕ)) (bytes read : List ℕ) → Consumes old new read
    → old ≡ Some bytes → (rest : List ℕ) × (bytes ≡ read ++ rest) × (new ≡ Some rest)
consumed None new bytes read p e = cc
consumed (Some xs) None bytes read p e = absurd p
consumed (Some xs) (Some rest) bytes read p e = (rest, cc, refl)

pub nothing_left : (left : Option (List ℕ)) (rest : List ℕ) → IsAtEnd left → left ≡ Some rest
    → rest ≡ []
nothing_left None rest p e = cc
nothing_left (Some xs) rest p e = cc

-- what a disk that was lent says of the one that is told
pub where_told : {D : Type 0} (disks : DiskWords D) (journal : Told D) (given : D)
    (P : List ℕ → Type 0)
    → (IsTrue (disks.tells given) → IsLentFrom disks journal given)
    → (IsTrue (disks.tells given) → P (disks.seen given)) → WhereTold disks journal P
where_told disks Untold given P lent has all = tt
where_told disks Missing given P lent has all = subst P (lent (all given)).0 (has (all given))
where_told disks (There told) given P lent has all = subst P (lent (all given)).0 (has (all given))

-- the lines read are those of the input that they began
answers_in : (how : Ended) (read rest : List ℕ) (now : SourceState) (answered : List (List ℕ))
    → length read ≤ 2 ^ 31 → now.left ≡ Some rest
    → AnsweredOf how read now answered → AnswersIn how (read ++ rest) answered
answers_in ended.End read rest now answered within left end =
    let all : read ++ rest ≡ read =
    ap (λ l. read ++ l) (nothing_left now.left rest end.1.at_end left) ∙ append-nil read in
    (end.0 ∙ ap lines (sym all), subst IsWithinLimits (sym all) end.1.within)
answers_in ended.ReadFault read rest now answered within left is = (read, (rest, refl), is.0)
answers_in ended.WriteFault read rest now answered within left first =
    first_then answered (talk read) (talk (read ++ rest)) first (talk_first read rest within)
answers_in ended.NoMemory read rest now answered within left first =
    first_then answered (talk read) (talk (read ++ rest)) first (talk_first read rest within)
answers_in ended.LineLimit read rest now answered within left is =
    (is.0 ∙ sym (talk_settled read rest within is.1), still_reached read rest is.1)

served_by : {D : Type 0} (disks : DiskWords D) (stories : List Story) (budget : ℕ)
    (disk : List ℕ → Told D) (folder : List ℕ) (input written : List ℕ) (how : Ended)
    → WritesTurns disks stories budget disk folder input written how
    → WritesServed (status_of_end how) disks stories budget disk folder input written
served_by disks stories budget disk folder input written ended.End w = w
served_by disks stories budget disk folder input written ended.ReadFault w = inr w
served_by disks stories budget disk folder input written ended.WriteFault w = inl w
served_by disks stories budget disk folder input written ended.NoMemory w = inr (inl w)
served_by disks stories budget disk folder input written ended.LineLimit w = w

-- something was written, and it has P
abbrev pub WroteSome : SinkState → SinkState → (List ℕ → Type 0) → Type 0
WroteSome output new P = (written : List ℕ) × Wrote output new written × P written

cut_refusal : {D : Type 0} (disks : DiskWords D) (stories : List Story) (budget : ℕ)
    (disk : List ℕ → Told D) (folder : List ℕ) (input line part : List ℕ) (cause : Stop)
    → RefusesJournal disks (disk (journal_in folder)) line → IsPartOf part line
    → WritesServed (status_of_stop cause) disks stories budget disk folder input part
cut_refusal disks stories budget disk folder input line part stop.Output refuses begins =
    inr (line, refuses, begins)
cut_refusal disks stories budget disk folder input line part stop.Memory refuses begins =
    inr (inr (line, refuses, begins))

refusal_told : {D : Type 0} (disks : DiskWords D) (stories : List Story) (budget : ℕ)
    (disk : List ℕ → Told D) (folder : List ℕ) (input line : List ℕ) (output new : SinkState)
    (status : Status)
    → RefusesJournal disks (disk (journal_in folder)) line
    → SaysLine BadFolder line output new status
    → WroteSome output new (WritesServed status disks stories budget disk folder input)
refusal_told disks stories budget disk folder input line output new status refuses (inl said) = (
  line,
  said.1,
  subst (λ (s : Status). WritesServed s disks stories budget disk folder input
      line) (sym said.0) refuses,
)
refusal_told disks stories budget disk folder input line output new status refuses
    (inr (cause, is, stopped)) = (
      stopped.wrote.part,
      stopped.wrote.wrote,
      subst (λ (s : Status). WritesServed s disks stories budget disk folder input
          stopped.wrote.part) (sym is)
          (cut_refusal disks stories budget disk folder input line stopped.wrote.part cause refuses
          (stopped.rest, stopped.wrote.split)),
    )

fault_told : {D : Type 0} (disks : DiskWords D) (stories : List Story) (budget : ℕ)
    (disk : List ℕ → Told D) (folder : List ℕ) (input : List ℕ) (given : D) (output new : SinkState)
    (status : Status) (why : JournalFault)
    → (IsTrue (disks.tells given) → IsLentFrom disks (disk (journal_in folder))
    given) → (IsTrue (disks.tells given) → Explains (disks.seen given) why)
    → SaysFault why output new status
    → WroteSome output new (WritesServed status disks stories budget disk folder input)
fault_told disks stories budget disk folder input given output new status fault.NotJournal lent
    explains says =
    refusal_told disks stories budget disk folder input bad_journal output new status
    (inl (refl, where_told disks (disk (journal_in folder)) given _ lent explains)) says
fault_told disks stories budget disk folder input given output new status (fault.Corrupt place) lent
    explains says =
    refusal_told disks stories budget disk folder input (bad_journal_at place) output new status
    (inr (place, refl, where_told disks (disk (journal_in folder)) given _ lent explains)) says
fault_told disks stories budget disk folder input given output new status (fault.DiskFault counts)
    lent explains says = (
      [],
      says.1,
      subst (λ (s : Status). WritesServed s disks stories budget disk folder input [])
          (sym says.0) refl,
    )
fault_told disks stories budget disk folder input given output new status fault.NoMemory lent
    explains says = (
      [],
      says.1,
      subst (λ (s : Status). WritesServed s disks stories budget disk folder input [])
          (sym says.0) (inl refl),
    )

-- a store's disk that was lent is the one that is told
agreed_from : {D : Type 0} (disks : DiskWords D) (told : Told D) (given : D) (P : List ℕ → Type 0)
    → IsLentFrom disks told given → AreTold disks.seen told P → P (disks.seen given)
agreed_from disks Untold given P lent told = absurd told
agreed_from disks Missing given P lent told = subst P (sym lent.0) told
agreed_from disks (There d) given P lent told = subst P (sym lent.0) told

-- what is told of the disks of a folder, and those that were lent
abbrev pub AreLentFrom : {D : Type 0} → DiskWords D → (List ℕ → Told D) → List ℕ → D → List D
    → Type 0
AreLentFrom {D} disks disk folder given givens =
    (IsTrue (disks.tells given) → IsLentFrom disks (disk (journal_in folder)) given)
    × ((s : ℕ) (g : D) → slice_get givens s ≡ Some g
    → (s < 64) × (IsTrue (disks.tells g)
    → IsLentFrom disks (disk (snap_in folder s)) g))

sound_from : {D : Type 0} (disks : DiskWords D) (stories : List Story) (disk : List ℕ → Told D)
    (folder : List ℕ) (given : D) (givens : List D) (rows : List Row)
    → AreLentFrom disks disk folder given givens → AreSound disks stories disk folder rows
    → AreAgreed disks stories rows givens
sound_from disks stories disk folder given givens rows lent sound s g there =
    let l = lent.1 s g there in (
      sound.0 g,
      agreed_from disks (disk (snap_in folder s)) g
          (IsAgreedFile stories (opens_of rows s) (game_of (commands_of rows s))) (l.1 (sound.0 g))
          (sound.1 s l.0),
    )

pub pipe_told : {D : Type 0} (disks : DiskWords D) (stories : List Story) (budget : ℕ)
    (disk : List ℕ → Told D) (folder bytes : List ℕ) (given : D) (givens : List D) (b : Back D)
    (input now : SourceState) (output new : SinkState) (status : Status)
    → AreLentFrom disks disk folder given givens → input.left ≡ Some bytes
    → PipesOver disks stories budget given givens b input now output new status
    → WroteSome output new (WritesServed status disks stories budget disk folder bytes)
pipe_told disks stories budget disk folder bytes given givens (back.All journal snaps) input now
    output new status lent left (how, is, c) =
    let read = consumed input.left now.left bytes c.read c.gave.told left in
    let turns : WritesTurns disks stories budget disk folder (c.read ++ read.0) c.written how =
    record {
      rows = c.rows;
      handed_in = where_told disks (disk (journal_in folder)) given _ lent.0 c.handed_in;
      turns = c.turns;
      which =
          answers_in how c.read read.0 now
          (map (λ (t : AnsweredLine). t.line) c.turns) c.within read.2
          c.which;
      writes = c.writes;
      histories = c.histories;
      led = c.led;
      sound =
          λ sound. c.sound (sound_from disks stories disk folder given givens c.rows lent sound);
    } in (
      c.written,
      c.wrote,
      subst (λ (s : Status). WritesServed s disks stories budget disk folder bytes c.written)
          (sym is)
          (served_by disks stories budget disk folder bytes c.written how
          (subst (λ (b : List ℕ). WritesTurns disks stories budget disk folder b c.written how)
          (sym read.1) turns)),
    )
pipe_told disks stories budget disk folder bytes given givens (back.Journal journal) input now
    output new status lent left n =
    fault_told disks stories budget disk folder bytes given output new status n.fault lent.0
    n.explains n.says
pipe_told disks stories budget disk folder bytes given givens (back.Snap session snap) input now
    output new status lent left f = (
      [],
      f.wrote,
      subst (λ (s : Status). WritesServed s disks stories budget disk folder bytes [])
          (sym f.failed) refl,
    )
pipe_told disks stories budget disk folder bytes given givens back.Nothing input now output new
    status lent left l = (
      [],
      l.wrote,
      subst (λ (s : Status). WritesServed s disks stories budget disk folder bytes [])
          (sym l.wanted) (inl refl),
    )
