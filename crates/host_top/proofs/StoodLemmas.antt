-- Where each call for a disk stands, and each disk that came back, no command ends by a disk.
use Rattle.std.proofs.Common.{◌≡◌, ◌∙◌, ℕ, ◌<◌, Bool, true, false, List, [], ◌∷◌, Option, None}
use Rattle.std.proofs.Common.{Some, IsSomeAnd, Result, Err, IsErrOf, refl, sym, ap, subst, arith}
use Rattle.std.proofs.Common.{inl, inr}
use Rattle.std.proofs.lemmas.Option.{same_Some}
use Rattle.std.proofs.lemmas.Slice.Eq.{bytes_eq-Decides}
use Rattle.std.specs.Option.{option_map}
use Rattle.std.specs.Str.{bytes_eq}
use Rattle.disk_model.specs.declared.disk.Disk.{Ghosts as DiskWords}
use Rattle.line_talk.specs.Causes.{Rose}
use Rattle.line_talk.specs.Failing.{Failing}
use Rattle.line_talk.specs.Streams.{SourceState, SinkState}
use Rattle.story_run.specs.declared.story.Story.{Story}
use Rattle.turn_cell.specs.History.{Each}
use Rattle.turn_cell.proofs.HistoryLemmas.{each_map}
use Rattle.host_top.specs.Begun.{InitsOver}
use Rattle.host_top.specs.Borrowed.{HasFailed, IsLending, Lending, journal_in, loan_by, snaps_below}
use Rattle.host_top.specs.Calls.{DisksStand, NoneFailed, NoneIsListed, NoneIsOut}
use Rattle.host_top.specs.DoorServed.{OfDoor}
use Rattle.host_top.specs.Files.{KeepsDisks, Lends, OutsideState, TakesDiskBack, is_out, returned}
use Rattle.host_top.specs.Folder.{TakesDisks, folder_back}
use Rattle.host_top.specs.declared.folder.Back.{Back}
use Rattle.host_top.specs.Headline.{Speech}
use Rattle.host_top.specs.LinksServed.{ServesOver}
use Rattle.host_top.specs.Piped.{PipesOver}
use Rattle.host_top.specs.Replayed.{ReplaysFolder, ReplaysOver, journal_lent}
use Rattle.host_top.specs.Spoken.{Spoken}
use Rattle.host_top.specs.Status.{status_of_fetch}
use Rattle.host_top.specs.declared.loan.Loan.{Loan}
use Rattle.host_top.specs.declared.outside.Fetch.{Fetch}
use Rattle.host_top.specs.declared.outside.Fetch.TheVariants as fetch
use Rattle.host_top.specs.declared.status.Status.{Status}
use Rattle.host_top.specs.declared.status.Status.TheVariants.{DiskFault}
use Rattle.host_top.proofs.BorrowLemmas.{elsewhere, lent_loan, same_name, there}
use Rattle.host_top.proofs.CauseLemmas.{links_failed, no_line, pipe_failed, refusal_failed}
use Rattle.host_top.proofs.CauseLemmas.{replayed_failed}

-- an input of which nothing is told
pub any_source : SourceState
any_source = record { left = None; taken = 0; ended = false; faults = 0 }

-- ---- disks that came back

module _ {D : Type 0} (disks : DiskWords D) where
  back_stood : (loans : List ℕ → Option Loan) (l : Lending D) → NoneFailed loans
      → loans l.name ≡ Some (loan_by disks l) → (back : Option D) → l.back ≡ back
      → IsSomeAnd back (λ b. Rose (disks.faults l.given) (disks.faults b)) → ⊥
  back_stood loans l none loan None is failed = absurd failed
  back_stood loans l none loan (Some b) is failed =
      none l.name (loan_by disks l) (disks.faults b) loan (ap (option_map disks.faults) is) failed

  pub each_stood : (a b : OutsideState D) (ls : List (Lending D)) → NoneFailed b.loan
      → Each (IsLending disks a b) ls → Each (λ l. HasFailed disks l → ⊥) ls
  each_stood a b ls none each =
      each_map (IsLending disks a b) (λ l. HasFailed disks l → ⊥) ls
      (λ l is. back_stood b.loan l none is.loan l.back refl) each

  taken_stood : (folder : List ℕ) (P : D → List D → Back D → Type 0) (a b : OutsideState D)
      (t : TakesDisks disks folder P a b) → NoneFailed b.loan
      → Each (λ l. HasFailed disks l → ⊥)
      (folder_back (journal_in folder) (snaps_below folder 64) t.given t.givens t.back)
  taken_stood folder P a b t none =
      each_stood a b
      (folder_back (journal_in folder) (snaps_below folder 64) t.given t.givens t.back) none
      t.borrowed.each

  -- so neither `pipe` nor `serve` ends by a disk
  pub pipe_stood : {stories : List Story} {budget : ℕ} (folder : List ℕ)
      (outside beyond : OutsideState D) {input now : SourceState} (output new : SinkState)
      (status : Status)
      → TakesDisks disks folder
      (λ given givens b. PipesOver disks stories budget given givens b input now output new
      status) outside beyond
      → NoneFailed beyond.loan → status ≡ DiskFault → ⊥
  pipe_stood {stories} {budget} folder outside beyond {input} {now} output new status taken none
      is =
      let t =
      subst (λ (s : Status). TakesDisks disks folder
      (λ given givens b. PipesOver disks stories budget given givens b input now output new s)
      outside beyond) is taken in
      (pipe_failed disks folder ⊥ output new t (taken_stood folder _ outside beyond t none)).0

  pub links_stood : {OnDoor : OfDoor D} {stories : List Story} {budget workers : ℕ}
      (folder : List ℕ) (outside beyond : OutsideState D) {input now : SourceState}
      (output new : SinkState) (status : Status)
      → TakesDisks disks folder
      (λ given givens b. ServesOver disks OnDoor stories budget workers given givens b input now
      output new status) outside beyond
      → NoneFailed beyond.loan → status ≡ DiskFault → ⊥
  links_stood {OnDoor} {stories} {budget} {workers} folder outside beyond {input} {now} output new
      status taken none is =
      let t =
      subst (λ (s : Status). TakesDisks disks folder
      (λ given givens b. ServesOver disks OnDoor stories budget workers given givens b input now
      output new s) outside beyond) is taken in
      (links_failed disks folder ⊥ output new t (taken_stood folder _ outside beyond t none)).0

  -- nor does `replay`
  pub replay_stood : (stories : List Story) (folder : List ℕ) (outside beyond : OutsideState D)
      {input now : SourceState} (output new : SinkState) (status : Status)
      → ReplaysFolder disks stories folder outside beyond input now output new status
      → NoneFailed beyond.loan → status ≡ DiskFault → ⊥
  replay_stood stories folder outside beyond output new status r none is =
      (replayed_failed disks stories ⊥ output new
      (subst (λ (s : Status). ReplaysOver disks stories r.given r.back output new s) is r.replays)
      (each_stood outside beyond (journal_lent folder r.given r.back) none r.borrowed.each).0).0

  -- ---- a store's disk is lent, and put back

  out_no_more : (to : ℕ) (loan : Option Loan) → is_out (returned to loan) ≡ false
  out_no_more to None = refl
  out_no_more to (Some loan) = refl

  pub store_back : (name first second : List ℕ) (given back : D) (a b c : OutsideState D)
      → first ≡ name → second ≡ name → Lends disks first given a b
      → TakesDiskBack disks.faults second back b c
      → (other : List ℕ) → is_out (a.loan other) ≡ false → is_out (c.loan other) ≡ false
  store_back name first second given back a b c is again lends takes other out =
      of (bytes_eq second other) refl
    where
      of : (here : Bool) → bytes_eq second other ≡ here → is_out (c.loan other) ≡ false
      of true here =
          ap is_out (takes.loans other ∙ there (bytes_eq second other) _ (b.loan other) here)
          ∙ out_no_more (disks.faults back) (b.loan second)
      of false away =
          ap is_out (takes.loans other ∙ elsewhere (bytes_eq second other) _ (b.loan other) away
          ∙ lends.loans other ∙ elsewhere (bytes_eq first other) _ (a.loan other)
          (ap (λ (n : List ℕ). bytes_eq n other) (is ∙ sym again) ∙ away)) ∙ out

  -- ---- a disk that is out is put back

  lent_no_more : (k l : Loan) (to : ℕ) → Some k ≡ Some l → k.to ≡ None → l.to ≡ Some to → ⊥
  lent_no_more k l to same out is =
      grind (arith, out, ap (λ (x : Loan). x.to) (same_Some k l same), is)

  -- none failed before it was, and it didn't fail
  pub put_back_stood : (name : List ℕ) (given back : D) (b c : OutsideState D)
      → b.loan name ≡ Some (loan_by disks (record { name = name; given = given; back = None }))
      → TakesDiskBack disks.faults name back b c → NoneFailed c.loan
      → NoneFailed b.loan × (Rose (disks.faults given) (disks.faults back) → ⊥)
  put_back_stood name given back b c out takes none = (before, itself)
    where
      itself : Rose (disks.faults given) (disks.faults back) → ⊥
      itself rose =
          none name
          (loan_by disks (record { name = name; given = given; back = Some back }))
          (disks.faults back)
          (takes.loans name ∙ there (bytes_eq name name) _ (b.loan name) (same_name name)
          ∙ ap (returned (disks.faults back)) out) refl rose

      before : NoneFailed b.loan
      before other l to at is rose = of (bytes_eq name other) refl
        where
          of : (here : Bool) → bytes_eq name other ≡ here → ⊥
          of true here =
              lent_no_more
              (loan_by disks (record { name = name; given = given; back = None })) l to
              (sym out ∙ ap b.loan ((bytes_eq-Decides name other).0 here) ∙ at) refl is
          of false away =
              none other l to (takes.loans other
              ∙ elsewhere (bytes_eq name other) _ (b.loan other) away ∙ at) is rose

  -- so it is with the disk of a store
  pub store_stood : (first second : List ℕ) (given back : D) (a b c : OutsideState D)
      → first ≡ second → Lends disks first given a b
      → TakesDiskBack disks.faults second back b c → NoneFailed c.loan
      → Rose (disks.faults given) (disks.faults back) → ⊥
  store_stood first second given back a b c same lends takes none =
      (put_back_stood first given back b c (lent_loan disks first given a b lends)
      (subst (λ (n : List ℕ). TakesDiskBack disks.faults n back b c) (sym same) takes) none).1

  -- the journal wasn't begun, since its disk failed
  pub begin_failed : (given mid back : D) (output new : SinkState) (status : Status)
      → disks.faults mid ≡ disks.faults given → InitsOver disks mid back output new status
      → status ≡ DiskFault → Rose (disks.faults given) (disks.faults back)
  begin_failed given mid back output new status same over is =
      let o = subst (λ (s : Status). InitsOver disks mid back output new s) is over in
      subst (λ (n : ℕ). Rose n (disks.faults back)) same (elim o.does [
        | inl b ↦ no_line _ (λ e. absurd (grind (arith, e))) b.says
        | inr n ↦ (refusal_failed n.fault (disks.tells mid) (disks.seen mid) (disks.faults mid)
            (disks.faults back) output new n.cause n.says).0
      ])

-- ---- calls for a disk

-- the call that failed is no failure
pub fetch_stood : {T : Type 0} (why : Fetch) (status : Status) → status ≡ status_of_fetch why
    → (IsErrOf {T = T} (Err why) fetch.Failed → ⊥) → status ≡ DiskFault → ⊥
fetch_stood fetch.Failed status is f e = f refl
fetch_stood fetch.NoMemory status is f e = absurd (grind (arith, is, e))

-- a disk that isn't out isn't once another one is lent
pub others_in : {D : Type 0} (disks : DiskWords D) (name : List ℕ) (given : D)
    (a b : OutsideState D) (other : List ℕ) → Lends disks name given a b
    → bytes_eq name other ≡ false → is_out (a.loan other) ≡ false → is_out (b.loan other) ≡ false
others_in disks name given a b other lends away out =
    ap is_out (lends.loans other ∙ elsewhere (bytes_eq name other) _ (a.loan other) away) ∙ out

-- so the stores' disks aren't out once the journal's is lent
pub stores_in : {D : Type 0} (disks : DiskWords D) (name : List ℕ) (given : D)
    (a b : OutsideState D) (names : List (List ℕ)) → Lends disks name given a b
    → Each (λ n. bytes_eq name n ≡ false) names → NoneIsOut a.loan
    → Each (λ n. is_out (b.loan n) ≡ false) names
stores_in disks name given a b names lends apart out =
    each_map (λ n. bytes_eq name n ≡ false) (λ n. is_out (b.loan n) ≡ false) names
    (λ n away. others_in disks name given a b n lends away (out n)) apart

-- where the files are loaded the disks stand as before
pub stand_behind : {D : Type 0} (failing now : Option Failing) (a b c : OutsideState D)
    → now ≡ failing → KeepsDisks a b → DisksStand failing a c → DisksStand now b c
stand_behind failing now a b c same keeps stand = record {
  unlisted = subst NoneIsListed (sym same) stand.unlisted;
  none_out = λ name. ap is_out (keeps.loan name) ∙ stand.none_out name;
  none_failed = stand.none_failed;
}

-- a command that only speaks doesn't end so
pub spoken_stood : {said : Result Speech (List ℕ)} {input now : SourceState}
    {output new : SinkState} (status : Status) → Spoken said input now output new status
    → status ≡ DiskFault → ⊥
spoken_stood {said} {input} {now} {output} {new} status spoken is =
    (subst (λ (s : Status). Spoken said input now output new s) is spoken).leaves
