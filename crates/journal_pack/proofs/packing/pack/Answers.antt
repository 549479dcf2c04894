use Rattle.std.proofs.Common.{◌≡◌, ◌++◌, ◌+◌, ◌<◌, ◌≤◌, max, inl, inr, [], ◌∷◌, List, ℕ, length, sym, ◌∙◌}
use Rattle.std.proofs.Common.{ap, subst, arith, ⊎_elim}
use Rattle.std.specs.Prelude.{Result, Err, IsOk}
use Rattle.std.proofs.lemmas.Bool.{cases_lt, false≢true}
use Rattle.std.proofs.lemmas.List.{nil_from_length}
use Rattle.disk_model.specs.Disk.{Elapses, NoneNew}
use Rattle.disk_model.specs.Work.{LeavesOnly}
use Rattle.disk_model.specs.declared.disk.Disk.{Ghosts as DiskWords}
use Rattle.disk_model.proofs.CountLaws.{answered, failed_then, good_then, refused}
use Rattle.disk_model.proofs.Moments.{started, goes_on, and_then, weaker}
use Rattle.gate_journal.specs.declared.row.Row.{Row}
use Rattle.gate_journal.specs.Rows.{rows_behind_open_gates}
use Rattle.journal_pack.specs.Images.{IsRefused, NoneOrAll, closed_journal}
use Rattle.journal_pack.specs.Live.{live_rows, packed}
use Rattle.journal_pack.proofs.ImageLemmas.{short_refused, whole}
use Rattle.journal_pack.proofs.LiveLemmas.{live_journal, placed_bytes}
use Rattle.journal_pack.proofs.packing.pack.Goals as goal

-- one look before the writes
sized :
    {D : Type 0} (disks : DiskWords D) {old mid new : D} {P : List ℕ → Type 0}
    → ((f : List ℕ) → disks.left_since old (disks.moment old) f → disks.may_leave old f)
    → Elapses (disks.moment old) (disks.moment mid) (disks.left_since old) (disks.left_since mid)
    (disks.may_leave mid)
    → NoneNew (disks.may_leave old) (disks.may_leave mid)
    → ((f : List ℕ) → disks.may_leave old f → P f) → LeavesOnly disks mid new P
    → LeavesOnly disks old new P
sized disks {old = old} {mid = mid} {new = new} {P = P} only time none_new each wrote =
    and_then disks old mid new P
    (goes_on disks old old mid P (disks.may_leave mid)
    (started disks old P (λ f left. each f (only f left))) time
    (λ f now. each f (none_new f now))) wrote

-- an empty file is no journal
nothing : (f : List ℕ) → f ≡ [] → IsRefused f
nothing f is = subst (λ (l : List ℕ). IsRefused l) (sym is) (short_refused [] (omega arith))

-- the rows at their new places have the bytes of the live rows
packed_bytes : (rows : List Row) (body : List ℕ)
    → body ≡ rows_behind_open_gates (live_rows rows) ++ 0 ∷ []
    → body ≡ rows_behind_open_gates (packed rows) ++ 0 ∷ []
packed_bytes rows body is =
    is ∙ ap (λ (l : List ℕ). l ++ 0 ∷ []) (sym (placed_bytes [] (live_rows rows)))

-- how many bytes are written
packed_size : (rows : List Row) (body : List ℕ)
    → body ≡ rows_behind_open_gates (live_rows rows) ++ 0 ∷ []
    → length (closed_journal (packed rows)) ≡ 16 + length body
packed_size rows body is =
    omega (arith, ap length (whole (packed rows) body (packed_bytes rows body is)))

reaches : (rows : List Row) (body : List ℕ) (old mid new : ℕ)
    → body ≡ rows_behind_open_gates (live_rows rows) ++ 0 ∷ []
    → mid ≡ old → new ≤ max mid (16 + length body)
    → new ≤ max old (length (closed_journal (packed rows)))
reaches rows body old mid new is same le = omega (arith, packed_size rows body is, same, le)

passes :
    {T E : Type 0} (result : Result T E) {e : E} (rows : List Row) (body : List ℕ) (room mid : ℕ)
    → body ≡ rows_behind_open_gates (live_rows rows) ++ 0 ∷ []
    → mid ≡ room → (16 + length body ≤ mid → IsOk result) → result ≡ Err e
    → room < length (closed_journal (packed rows))
passes {T = T} {E = E} result rows body room mid is same works fails =
    elim (cases_lt room (length (closed_journal (packed rows)))) [
      | inl lt ↦ lt
      | inr le ↦
          absurd
          (false≢true (subst (λ (r : Result T E). IsOk r) fails
          (works (omega (arith, le, same, packed_size rows body is)))))
    ]

pub returns-in_default-write_whole-clause-reach : goal.returns-in_default-write_whole-clause-reach
returns-in_default-write_whole-clause-reach g c =
    let found = c.in-Ok-find.ensures.ok in
    inr (
      found.0,
      found.1,
      reaches found.0 _ _ _ _ (c.deref.ensures.value ∙ found.3) c.size.ensures.reach
          c.write_whole.ensures.ran.asked,
    )

pub returns-clause-reach : goal.returns-clause-reach
returns-clause-reach g c =
    let found = c.in-Ok-find.ensures.ok in
    inr (
      found.0,
      found.1,
      reaches found.0 _ _ _ _ (c.deref.ensures.value ∙ found.3) c.size.ensures.reach
          c.write_whole.ensures.ran.asked,
    )

pub returns-in_default-write_whole-clause-works : goal.returns-in_default-write_whole-clause-works
returns-in_default-write_whole-clause-works g c steady =
    let found = c.in-Ok-find.ensures.ok in
    let steady_then = (c.size.ensures.works steady).1 in (
      c.write_whole.ensures.ran.steadies steady_then,
      (
        found.0,
        found.1,
        passes c.write_whole.result found.0 _ _ _ (c.deref.ensures.value ∙ found.3)
            c.size.ensures.kept.size (c.write_whole.ensures.ran.works steady_then)
            c.in_default-write_whole.is,
      ),
    )

pub returns-in_default-write_whole-clause-crash : goal.returns-in_default-write_whole-clause-crash
returns-in_default-write_whole-clause-crash g c told only =
    let found = c.in-Ok-find.ensures.ok in
    let told_then = rw (← c.size.ensures.kept.telling) at told in
    let triple =
    c.write_whole.ensures.triple (packed found.0) (live_journal found.0 found.1.journal)
    (packed_bytes found.0 _ (c.deref.ensures.value ∙ found.3)) in
    sized g.D.Disk (g.met.D.Disk.only_now _) c.size.ensures.time
    (c.size.ensures.crash told) (λ f now. inl (nothing f (only f now)))
    (weaker g.D.Disk c.size.new.self c.write_whole.new.disk (NoneOrAll (packed found.0)) _
    (triple.meanwhile told_then (λ f now. only f (c.size.ensures.crash told f now)))
    (λ f is. inr (found.0, found.1, is)))

pub returns-clause-crash : goal.returns-clause-crash
returns-clause-crash g c told only =
    let found = c.in-Ok-find.ensures.ok in
    let told_then = rw (← c.size.ensures.kept.telling) at told in
    let triple =
    c.write_whole.ensures.triple (packed found.0) (live_journal found.0 found.1.journal)
    (packed_bytes found.0 _ (c.deref.ensures.value ∙ found.3)) in
    sized g.D.Disk (g.met.D.Disk.only_now _) c.size.ensures.time
    (c.size.ensures.crash told) (λ f now. inl (nothing f (only f now)))
    (weaker g.D.Disk c.size.new.self c.write_whole.new.disk (NoneOrAll (packed found.0)) _
    (triple.meanwhile told_then (λ f now. only f (c.size.ensures.crash told f now)))
    (λ f is. inr (found.0, found.1, is)))

pub returns-clause-ok : goal.returns-clause-ok
returns-clause-ok g c =
    let found = c.in-Ok-find.ensures.ok in (
      found.0,
      found.1,
      found.2,
      λ told.
          let empty : g.D.Disk.seen c.args.new.now ≡ [] =
          nil_from_length _ (omega (arith, c.in-Ok.ensures.ok.1 told, c.if-size-ne0.false)) in (
            empty,
            c.in-Ok-write_whole.ensures.ok (packed found.0)
                (packed_bytes found.0 _ (c.deref.ensures.value ∙ found.3))
                (rw (← c.size.ensures.kept.telling) at told)
                (c.in-Ok.ensures.seen told ∙ empty),
          ),
    )

-- the device calls
pub returns-in_default-clause-calls : goal.returns-in_default-clause-calls
returns-in_default-clause-calls g c told is_new = (
  0,
  omega arith,
  inl (refused 0 (λ found. found.clock)
      (⊎_elim (λ found. inl found) (λ listed. inr (inl listed)) (c.in_default.ensures.only told))
      (c.size.ensures.clock told) c.size.ensures.listed),
)

pub returns-in_default-write_whole-clause-calls : goal.returns-in_default-write_whole-clause-calls
returns-in_default-write_whole-clause-calls g c told is_new =
    let told_then = rw (← c.size.ensures.kept.telling) at told in
    let at = c.in_default-write_whole.ensures.calls told_then in
    let found = c.in-Ok-find.ensures.ok in (
      1 + at.0,
      omega (arith, at.1),
      inr (
        found.0,
        found.1,
        failed_then 1 at.0 _ _
            (answered (λ is_err. absurd (cc)) c.in-Ok.ensures.err (c.in-Ok.ensures.clock told)
            c.size.ensures.listed) c.size.ensures.kept.size
            (omega (arith, packed_size found.0 _ (c.deref.ensures.value ∙ found.3))) at.2,
      ),
    )

pub returns-clause-calls : goal.returns-clause-calls
returns-clause-calls g c told =
    let told_then = rw (← c.size.ensures.kept.telling) at told in
    good_then 1 6
    (answered (λ is_err. absurd (cc)) c.in-Ok.ensures.err (c.in-Ok.ensures.clock told)
    c.size.ensures.listed) (c.in-Ok-write_whole.ensures.calls told_then)
