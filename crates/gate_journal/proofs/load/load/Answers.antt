use Rattle.std.proofs.Common.{◌≡◌, ℕ, List, ◌+◌, ◌<◌, ◌⊎◌}
use Rattle.std.proofs.Common.{◌∙◌, ap, sym, subst, arith, length, get_or, inl, inr, ⊎_elim}
use Rattle.disk_model.proofs.CountLaws.{good_then, failed_then, failed_within, answered, refused}
use Rattle.std.proofs.lemmas.List.{get_or_read}
use Rattle.disk_model.specs.Disk.{Elapses, NoneNew}
use Rattle.disk_model.specs.Work.{LeavesOnly, GoodCalls}
use Rattle.disk_model.specs.declared.disk.Disk.{Ghosts as DiskWords}
use Rattle.gate_journal.specs.declared.row.Row.{Row}
use Rattle.gate_journal.specs.Rows.{journal_bytes, SpellsRows, version_byte}
use Rattle.gate_journal.specs.Opening.{MayMigrate}
use Rattle.gate_journal.specs.Log.{IsMigrating, rows_of}
use Rattle.gate_journal.proofs.Opening.{one_call, and_more, not_of_bytes, set_most, shut_second}
use Rattle.std.proofs.lemmas.Result.{err_from_is_err_and}
use Rattle.gate_journal.proofs.load.load.Goals as goal

-- a byte that was read
there :
    {items s : List ℕ} {at byte : ℕ} → items ≡ s → at < length items
    → byte ≡ get_or items at byte → get_or s at 0 ≡ byte
there {items} {s} {at} {byte} is within read =
    ap (λ (l : List ℕ). get_or l at 0) (sym is) ∙ sym (get_or_read items at byte within read 0)

-- a sync and then looks leave what was there, and then the writes what these bytes become meanwhile
written :
    {D : Type 0} (disks : DiskWords D) {old mid last new : D} {found : List Row} {s : List ℕ}
    {end : ℕ}
    → ((f : List ℕ) → disks.left_since old (disks.moment old) f → disks.may_leave old f)
    → Elapses (disks.moment old) (disks.moment mid) (disks.left_since old) (disks.left_since mid)
    (disks.may_leave mid)
    → NoneNew (disks.may_leave old) (disks.may_leave mid)
    → LeavesOnly disks mid last (disks.may_leave mid)
    → SpellsRows s found × (end ≡ length (journal_bytes found))
    → LeavesOnly disks last new (MayMigrate s end)
    → LeavesOnly disks old new (λ f. disks.may_leave old f ⊎ IsMigrating s f)
written disks {found = found} {s = s} only time none_new looks (stands, is) writes =
    and_more
    (and_more
    (one_call (λ f left. inl (only f left)) time (λ f now. inl (none_new f now)))
    looks (λ f now. inl (none_new f now)))
    writes (λ f now. inr (found, stands, subst (λ (k : ℕ). MayMigrate s k f) is now))

pub returns-in_default-migrate-clause-migrates : goal.returns-in_default-migrate-clause-migrates
returns-in_default-migrate-clause-migrates g c told =
    let told_then = rw (← c.sync.ensures.kept.telling) at told in
    let told_last = rw (← c.read_all.ensures.kept.same.telling) at told_then in
    let items_are = c.in_ok-bytes.ensures.ok told_then ∙ c.in-Ok.ensures.seen told in
    let parsed = c.in_ok-parsed.ensures.ok in
    let bytes_are = c.deref.ensures.value ∙ items_are in
    let long : c.in_ok-parsed.parsed.end < length c.in_ok-bytes.bytes.items =
    omega (arith, parsed.0.within, parsed.1, ap length c.deref.ensures.value) in
    written g.D.Disk (g.met.D.Disk.only_now _) c.sync.ensures.time
    (c.sync.ensures.crash told) (c.read_all.ensures.kept.moments told_then)
    (rw bytes_are at parsed)
    ((c.migrate.ensures.triple _ (there items_are long c.index-gate.ensures)
    (there items_are (omega (arith, long, parsed.1)) c.index.ensures)).meanwhile told_last
    (λ f now. c.in-Ok.ensures.ok told f (c.read_all.ensures.kept.images told_then f now)))

pub returns-clause-migrates : goal.returns-clause-migrates
returns-clause-migrates g c told =
    let told_then = rw (← c.sync.ensures.kept.telling) at told in
    let told_last = rw (← c.read_all.ensures.kept.same.telling) at told_then in
    let items_are = c.in_ok-bytes.ensures.ok told_then ∙ c.in-Ok.ensures.seen told in
    let parsed = c.in_ok-parsed.ensures.ok in
    let bytes_are = c.deref.ensures.value ∙ items_are in
    let long : c.in_ok-parsed.parsed.end < length c.in_ok-bytes.bytes.items =
    omega (arith, parsed.0.within, parsed.1, ap length c.deref.ensures.value) in
    written g.D.Disk (g.met.D.Disk.only_now _) c.sync.ensures.time
    (c.sync.ensures.crash told) (c.read_all.ensures.kept.moments told_then)
    (rw bytes_are at parsed)
    ((c.migrate.ensures.triple _ (there items_are long c.index-gate.ensures)
    (there items_are (omega (arith, long, parsed.1)) c.index.ensures)).meanwhile told_last
    (λ f now. c.in-Ok.ensures.ok told f (c.read_all.ensures.kept.images told_then f now)))

pub returns-clause-shut : goal.returns-clause-shut
returns-clause-shut g c told_end f now =
    let told_last = rw c.migrate.ensures.ran.same.telling at told_end in
    let told_then = rw c.read_all.ensures.kept.same.telling at told_last in
    let told = rw c.sync.ensures.kept.telling at told_then in
    let p = c.in_ok-parsed.parsed in
    let s = g.D.Disk.seen c.args.disk.now in
    let items_are : c.in_ok-bytes.bytes.items ≡ s =
    c.in_ok-bytes.ensures.ok told_then ∙ c.in-Ok.ensures.seen told in
    let bytes_are : c.deref.result.now ≡ s = c.deref.ensures.value ∙ items_are in
    let parsed = c.in_ok-parsed.ensures.ok in
    let long : c.in_ok-parsed.parsed.end < length c.in_ok-bytes.bytes.items =
    omega (arith, parsed.0.within, parsed.1, ap length c.deref.ensures.value) in
    rw ((c.in-Ok-migrate.ensures.triple s (there items_are long c.index-gate.ensures)
    (there items_are (omega (arith, long, parsed.1)) c.index.ensures)).ended told_last
    (λ l here. c.in-Ok.ensures.ok told l (c.read_all.ensures.kept.images told_then l here)) f now)
    (shut_second (rows_of p.history.list) s p.end (rw bytes_are at parsed.0) parsed.1)

-- how many device calls were made, and which of them failed
pub returns-in_default-clause-calls : goal.returns-in_default-clause-calls
returns-in_default-clause-calls g c told is_fault = (
  0,
  omega arith,
  refused 0 (λ found. found.clock)
      (⊎_elim (λ found. inl found) (λ listed. inr (inl listed)) (c.in_default.ensures.only told))
      (c.sync.ensures.clock told) c.sync.ensures.listed,
)

pub returns-in_err-bytes-clause-calls : goal.returns-in_err-bytes-clause-calls
returns-in_err-bytes-clause-calls g c told =
    let told_then = rw (← c.sync.ensures.kept.telling) at told in
    let e = err_from_is_err_and c.from_residual.result c.from_residual.ensures.1 in
    rw e.1 (λ is_fault.
    let at = c.in_err-bytes.ensures.calls told_then (rw e.2 at is_fault) in (
      1 + at.0,
      omega (arith, at.1),
      failed_then 1 at.0 0 0
          (answered (λ is_err. absurd (cc)) c.in-Ok.ensures.err (c.in-Ok.ensures.clock told)
          c.sync.ensures.listed) c.sync.ensures.kept.size (omega arith) at.2,
    ))

pub returns-in_err-parsed-clause-calls : goal.returns-in_err-parsed-clause-calls
returns-in_err-parsed-clause-calls g c told =
    let e = err_from_is_err_and c.from_residual-in_err-parsed.result
    c.from_residual-in_err-parsed.ensures.1 in
    rw e.1 (λ is_fault.
    absurd (not_of_bytes _ _ c.in_err-parsed.ensures.exact (rw e.2 at is_fault)))

pub returns-in_default-migrate-clause-calls : goal.returns-in_default-migrate-clause-calls
returns-in_default-migrate-clause-calls g c told is_fault =
    let told_then = rw (← c.sync.ensures.kept.telling) at told in
    let told_last = rw (← c.read_all.ensures.kept.same.telling) at told_then in
    let at = c.in_default-migrate.ensures.calls told_last in
    let p = c.in_ok-parsed.parsed in (
      3 + at.0,
      omega (
        arith,
        at.1,
        set_most c.index-gate.result.now 0,
        set_most c.index.result.now 1,
      ),
      failed_then 3 at.0 0 0
          (good_then 1 2
          (answered (λ is_err. absurd (cc)) c.in-Ok.ensures.err (c.in-Ok.ensures.clock told)
          c.sync.ensures.listed) (c.in_ok-bytes.ensures.calls told_then))
          (c.read_all.ensures.kept.same.size ∙ c.sync.ensures.kept.size) (omega arith)
          (failed_within (omega (
            arith,
            c.in_ok-parsed.ensures.ok.0.within,
            c.in_ok-parsed.ensures.ok.1,
            ap length c.deref.ensures.value,
            c.in_ok-bytes.ensures.within,
            c.read_all.ensures.kept.same.size,
          )) at.2),
    )

pub returns-clause-calls : goal.returns-clause-calls
returns-clause-calls g c told =
    let told_then = rw (← c.sync.ensures.kept.telling) at told in
    let three : GoodCalls g.D.Disk 3 c.args.disk.now c.read_all.new.disk =
    good_then 1 2
    (answered (λ is_err. absurd (cc)) c.in-Ok.ensures.err (c.in-Ok.ensures.clock told)
    c.sync.ensures.listed) (c.in_ok-bytes.ensures.calls told_then) in
    let told_last = rw (← c.read_all.ensures.kept.same.telling) at told_then in
    let p = c.in_ok-parsed.parsed in
    let s = g.D.Disk.seen c.args.disk.now in
    let items_are : c.in_ok-bytes.bytes.items ≡ s =
    c.in_ok-bytes.ensures.ok told_then ∙ c.in-Ok.ensures.seen told in
    let parsed = c.in_ok-parsed.ensures.ok in
    let long : c.in_ok-parsed.parsed.end < length c.in_ok-bytes.bytes.items =
    omega (arith, parsed.0.within, parsed.1, ap length c.deref.ensures.value) in
    let gate : get_or s p.end 0 ≡ c.index-gate.result.now =
    there items_are long c.index-gate.ensures in
    let version : version_byte s ≡ c.index.result.now =
    there items_are (omega (arith, long, parsed.1)) c.index.ensures in
    rw (gate, version) (good_then 3 _ three (c.in-Ok-migrate.ensures.calls told_last))
