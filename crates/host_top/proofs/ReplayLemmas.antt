-- A journal's disk that is lent to be looked at, and what is written of it.
use Rattle.std.proofs.Common.{◌≡◌, ◌⊎◌, inl, inr, ℕ, ◌+◌, ◌<◌, List, [], ◌∷◌, ◌++◌, length, get_or}
use Rattle.std.proofs.Common.{drop, map, refl, sym, ap, ◌∙◌, subst, Option, None, Some, IsTrue}
use Rattle.std.proofs.Common.{◌≤◌, codes, Result, Ok, Err, OnOk}
use Rattle.std.proofs.Math.ListN.{drop_of_length-le}
use Rattle.std.proofs.lemmas.Grind.{flat_map-append}
use Rattle.std.proofs.lemmas.List.{append-nil, drop_more}
use Rattle.std.proofs.lemmas.List.Concat.{flat_map-cons}
use Rattle.std.proofs.lemmas.List.Folds.{flat_map-map}
use Rattle.std.specs.List.{flat_map}
use Rattle.disk_model.specs.Work.{SameDisk}
use Rattle.disk_model.specs.declared.disk.Disk.{Ghosts as DiskWords}
use Rattle.gate_journal.specs.Faults.{Explains, IsNoFault}
use Rattle.gate_journal.specs.declared.fault.JournalFault.{JournalFault}
use Rattle.gate_journal.specs.declared.fault.JournalFault.TheVariants as fault
use Rattle.line_talk.specs.Streams.{SourceState, SinkState, Wrote}
use Rattle.line_talk.specs.declared.sink.Stop.{Stop}
use Rattle.line_talk.specs.declared.sink.Stop.TheVariants as stop
use Rattle.line_talk.proofs.StreamsLemmas.{gave_none}
use Rattle.gate_journal.specs.declared.row.Row.{Row}
use Rattle.story_replay.specs.Games.{games_of}
use Rattle.story_replay.specs.Text.{game_text, transcript}
use Rattle.story_run.specs.declared.story.Story.{Story}
use Rattle.host_top.specs.Borrowed.{Lending, journal_in, loan_by}
use Rattle.host_top.specs.Files.{IsLent, IsLentFrom, Lends, OutsideState, TakesDiskBack, Told}
use Rattle.host_top.specs.Replayed.{BeginsTranscript, IsTranscript, ReplaysFolder, ReplaysOn}
use Rattle.host_top.specs.Replayed.{ReplaysOver, WritesReplayed}
use Rattle.host_top.specs.Said.{SaysFault, SaysLine, bad_journal, bad_journal_at}
use Rattle.host_top.specs.Served.{RefusesJournal}
use Rattle.host_top.specs.Status.{status_of_stop}
use Rattle.host_top.specs.declared.loan.Loan.{Loan}
use Rattle.host_top.specs.declared.status.Status.{Status}
use Rattle.host_top.specs.declared.status.Status.TheVariants.{Done, BadFolder, DiskFault}
use Rattle.line_talk.specs.Writing.{IsPartOf, WroteUpTo}
use Rattle.host_top.proofs.BorrowLemmas.{lent_loan}
use Rattle.host_top.proofs.LendingLemmas.{returned_one}
use Rattle.host_top.proofs.LoansLemmas.{counts_one, counts_out}
use Rattle.host_top.proofs.ServedLemmas.{where_told, WroteSome}
use Rattle.host_top.proofs.WrittenLemmas.{never_begun}

-- ---- texts, one after the other

pub upto_all : {old new : SinkState} {text : List ℕ} → WroteUpTo old new text []
    → Wrote old new text
upto_all {old} {new} {text} u =
    subst (λ (t : List ℕ). Wrote old new t) (sym (u.split ∙ append-nil u.part)) u.wrote

pub texts_behind : {A : Type 0} (f : A → List ℕ) (xs : List A) (i : ℕ) (x : A) → i < length xs
    → x ≡ get_or xs i x
    → flat_map f (drop i xs) ≡ f x ++ flat_map f (drop (i + 1) xs)
texts_behind {A} f xs i x within is =
    ap (flat_map f) (drop_more xs i x within
    ∙ ap (λ (y : A). y ∷ drop (i + 1) xs) (sym is))
    ∙ flat_map-cons f x (drop (i + 1) xs)

pub none_behind : {A : Type 0} (f : A → List ℕ) (xs : List A) (i : ℕ) → length xs ≤ i
    → flat_map f (drop i xs) ≡ []
none_behind f xs i past = ap (flat_map f) (drop_of_length-le xs past)

pub games_behind : {A : Type 0} (f : A → List ℕ) (rest some more : List A)
    → rest ≡ some ++ more
    → flat_map f rest ≡ flat_map (λ (t : List ℕ). t) (map f some) ++ flat_map f more
games_behind f rest some more is =
    ap (flat_map f) is ∙ flat_map-append f some more
    ∙ ap (λ (l : List ℕ). l ++ flat_map f more) (sym (flat_map-map (λ (t : List ℕ). t) f some))

-- what holds where a call answers Ok
pub on_ok : {T E : Type 0} (r : Result T E) (P Q : Type 0) → OnOk r P → (P → Q) → OnOk r Q
on_ok (Ok v) P Q p f = f p
on_ok (Err e) P Q p f = tt

-- ---- the parts of a transcript

pub transcript_parts : (stories : List Story) (rows : List Row)
    → transcript stories rows ≡ flat_map (game_text stories) (games_of rows) ++ codes "done\n"
unfolding transcript
transcript_parts stories rows = refl

-- ---- a disk that failed, or one that reads as before

pub seen_unless : (why : JournalFault) (P : Type 0) (output new : SinkState) (status : Status)
    → SaysFault why output new status → (IsNoFault why → P) → (status ≡ DiskFault) ⊎ P
seen_unless fault.NotJournal P output new status says f = inr (f tt)
seen_unless (fault.Corrupt place) P output new status says f = inr (f tt)
seen_unless (fault.DiskFault counts) P output new status says f = inl says.0
seen_unless fault.NoMemory P output new status says f = inr (f tt)

module _ {D : Type 0} (disks : DiskWords D) where
  -- ---- the disk is lent, and put back

  pub journal_is_lent : (folder first second : List ℕ) (given back : D) (a b : OutsideState D)
      → first ≡ journal_in folder → second ≡ journal_in folder
      → Lends disks first given a b → SameDisk disks given back
      → IsLent (b.loan second) (disks.label back)
  journal_is_lent folder first second given back a b is again lends same =
      let name : List ℕ = journal_in folder in
      let l : Lending D = record { name = name; given = given; back = None } in
      let loan : b.loan name ≡ Some (loan_by disks l) =
      lent_loan disks name given a b
      (subst (λ (n : List ℕ). Lends disks n given a b) is lends) in
      subst (λ (n : List ℕ). IsLent (b.loan n) (disks.label back)) (sym again)
      (subst (λ (x : Option Loan). IsLent x (disks.label back)) (sym loan) (sym same.name, refl))

  pub folder_replayed : (stories : List Story) (folder first second : List ℕ) (given back : D)
      (a b c : OutsideState D) (input : SourceState) (output new : SinkState) (status : Status)
      → first ≡ journal_in folder → second ≡ journal_in folder
      → Lends disks first given a b
      → (IsTrue (disks.tells given) → IsLentFrom disks (a.disk first) given)
      → ReplaysOver disks stories given back output new status
      → TakesDiskBack disks.faults second back b c
      → ReplaysFolder disks stories folder a c input input output new status
  folder_replayed stories folder first second given back a b c input output new status is again
      lends lent over takes =
      let name : List ℕ = journal_in folder in
      let lends' = subst (λ (n : List ℕ). Lends disks n given a b) is lends in
      let lent' =
      subst (λ (n : List ℕ). IsTrue (disks.tells given)
      → IsLentFrom disks (a.disk n) given) is lent in
      let takes' = subst (λ (n : List ℕ). TakesDiskBack disks.faults n back b c) again takes in
      let l : Lending D = record { name = name; given = given; back = None } in
      record {
        given = given;
        back = back;
        borrowed = returned_one disks name given back a b c lends' lent' over.looks.looks.same takes';
        counts = counts_one disks a b c [] l [] back
            (counts_out disks a b (l ∷ []) (refl, tt) lends'.count)
            refl (lent_loan disks name given a b lends') takes';
        replays = over;
        gave = gave_none input;
      }

  -- ---- what is written, for a caller who is told the output and the disks

  module _ (stories : List Story) (journal : Told D) where
    cut_transcript : (text part : List ℕ) (cause : Stop) → IsTranscript disks stories journal text
        → IsPartOf part text → WritesReplayed (status_of_stop cause) disks stories journal part
    cut_transcript text part stop.Output is begins = inl (text, is, begins)
    cut_transcript text part stop.Memory is begins = inr (inl (text, is, begins))

    transcript_told : (text : List ℕ) (output new : SinkState) (status : Status)
        → IsTranscript disks stories journal text → SaysLine Done text output new status
        → WroteSome output new (WritesReplayed status disks stories journal)
    transcript_told text output new status is (inl said) = (
      text,
      said.1,
      subst (λ (s : Status). WritesReplayed s disks stories journal text) (sym said.0) is,
    )
    transcript_told text output new status is (inr (cause, ends, stopped)) = (
      stopped.wrote.part,
      stopped.wrote.wrote,
      subst (λ (s : Status). WritesReplayed s disks stories journal stopped.wrote.part) (sym ends)
          (cut_transcript text stopped.wrote.part cause is (stopped.rest, stopped.wrote.split)),
    )

    cut_refusal : (line part : List ℕ) (cause : Stop) → RefusesJournal disks journal line
        → IsPartOf part line → WritesReplayed (status_of_stop cause) disks stories journal part
    cut_refusal line part stop.Output refuses begins = inr (line, refuses, begins)
    cut_refusal line part stop.Memory refuses begins = inr (inr (line, refuses, begins))

    refusal_told : (line : List ℕ) (output new : SinkState) (status : Status)
        → RefusesJournal disks journal line → SaysLine BadFolder line output new status
        → WroteSome output new (WritesReplayed status disks stories journal)
    refusal_told line output new status refuses (inl said) = (
      line,
      said.1,
      subst (λ (s : Status). WritesReplayed s disks stories journal line) (sym said.0) refuses,
    )
    refusal_told line output new status refuses (inr (cause, ends, stopped)) = (
      stopped.wrote.part,
      stopped.wrote.wrote,
      subst (λ (s : Status). WritesReplayed s disks stories journal stopped.wrote.part) (sym ends)
          (cut_refusal line stopped.wrote.part cause refuses (stopped.rest, stopped.wrote.split)),
    )

    fault_told : (given : D) (output new : SinkState) (status : Status) (why : JournalFault)
        → (IsTrue (disks.tells given) → IsLentFrom disks journal given)
        → (IsTrue (disks.tells given) → Explains (disks.seen given) why)
        → SaysFault why output new status
        → WroteSome output new (WritesReplayed status disks stories journal)
    fault_told given output new status fault.NotJournal lent explains says =
        refusal_told bad_journal output new status
        (inl (refl, where_told disks journal given _ lent explains)) says
    fault_told given output new status (fault.Corrupt place) lent explains says =
        refusal_told (bad_journal_at place) output new status
        (inr (place, refl, where_told disks journal given _ lent explains)) says
    fault_told given output new status (fault.DiskFault counts) lent explains says = (
      [],
      says.1,
      subst (λ (s : Status). WritesReplayed s disks stories journal []) (sym says.0) refl,
    )
    fault_told given output new status fault.NoMemory lent explains says = (
      [],
      says.1,
      subst (λ (s : Status). WritesReplayed s disks stories journal []) (sym says.0) (inl refl),
    )

  pub replay_told : (stories : List Story) (folder : List ℕ) (outside beyond : OutsideState D)
      (input now : SourceState) (output new : SinkState) (status : Status)
      → ReplaysOn disks stories folder outside beyond input now output new status
      → WroteSome output new
      (WritesReplayed status disks stories (outside.disk (journal_in folder)))
  replay_told stories folder outside beyond input now output new status (inl none) = (
    [],
    none.wrote,
    never_begun
        (λ (s : Status). WritesReplayed s disks stories (outside.disk (journal_in folder)) [])
        DiskFault status _ refl (inl refl) none.cause,
  )
  replay_told stories folder outside beyond input now output new status (inr r) =
      let journal = outside.disk (journal_in folder) in
      let lent = r.borrowed.each.0.lent in
      elim r.replays.does [
        | inl t ↦ transcript_told stories journal _ output new status (record {
          rows = t.rows;
          spelled = where_told disks journal r.given _ lent t.spelled;
          text_is = refl;
        }) t.says
        | inr n ↦ fault_told stories journal r.given output new status n.fault lent n.explains n.says
      ]
