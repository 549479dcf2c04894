use Rattle.std.proofs.Common.{List, ℕ, Bool, arith, inl, inr, refl, subst, sym, ⊎_elim}
use Rattle.std.specs.Prelude.{IsTrue}
use Rattle.disk_model.proofs.CountLaws.{among_then, answered_ok, failed_farther, good_then, refused}
use Rattle.disk_model.specs.Disk.{AfterWrite, Elapses, NoneNew}
use Rattle.disk_model.specs.Work.{LeavesOnly}
use Rattle.disk_model.specs.declared.disk.Disk.{Ghosts as DiskWords}
use Rattle.disk_model.proofs.Torn.{torn_same}
use Rattle.gate_journal.proofs.Opening.{one_call, and_more}
use Rattle.gate_journal.proofs.begin.init.Goals as goal

-- a look, and then a write that a stop may cut short
begun :
    {D : Type 0} (disks : DiskWords D) {old mid new : D} {n : ℕ}
    → ((f : List ℕ) → disks.left_since old (disks.moment old) f → disks.may_leave old f)
    → Elapses (disks.moment old) (disks.moment mid) (disks.left_since old) (disks.left_since mid)
    (disks.may_leave mid)
    → NoneNew (disks.may_leave old) (disks.may_leave mid)
    → LeavesOnly disks mid new (AfterWrite 0 n (disks.may_leave mid))
    → LeavesOnly disks old new (AfterWrite 0 n (disks.may_leave old))
begun disks {n = n} only time none_new wrote =
    and_more
    (one_call (λ f left. (f, only f left, torn_same 0 n f)) time
    (λ f now. (f, none_new f now, torn_same 0 n f)))
    wrote (λ f after. (after.0, none_new after.0 after.1, after.2))

pub returns-in_default-write_through-clause-crash :
    goal.returns-in_default-write_through-clause-crash
returns-in_default-write_through-clause-crash g c told =
    begun g.D.Disk (g.met.D.Disk.only_now _) c.size.ensures.time (c.size.ensures.crash told)
    (c.write_through.ensures.crash (rw c.size.ensures.kept.telling told))

pub returns-clause-crash : goal.returns-clause-crash
returns-clause-crash g c told =
    begun g.D.Disk (g.met.D.Disk.only_now _) c.size.ensures.time (c.size.ensures.crash told)
    (c.write_through.ensures.crash (rw c.size.ensures.kept.telling told))

pub returns-in_default-clause-calls : goal.returns-in_default-clause-calls
returns-in_default-clause-calls g c told is = (
  0,
  omega arith,
  failed_farther (omega arith)
      (refused 0 (λ found. found.clock)
      (⊎_elim (λ found. inl found) (λ listed. inr (inl listed))
      (c.in_default.ensures.only told)) (c.size.ensures.clock told) c.size.ensures.listed),
)

pub returns-then-size-ne0-clause-calls : goal.returns-then-size-ne0-clause-calls
returns-then-size-ne0-clause-calls g c told is = absurd (is refl)

pub returns-in_default-write_through-clause-calls :
    goal.returns-in_default-write_through-clause-calls
returns-in_default-write_through-clause-calls g c told is =
    among_then 1 2 17 17
    (answered_ok c.in-Ok.ensures.err (c.in-Ok.ensures.clock told) c.size.ensures.listed)
    c.size.ensures.kept.size (omega arith)
    (c.in_default-write_through.ensures.calls
    (subst (λ (b : Bool). IsTrue b) (sym c.size.ensures.kept.telling) told))

pub returns-clause-calls : goal.returns-clause-calls
returns-clause-calls g c told =
    good_then 1 2
    (answered_ok c.in-Ok.ensures.err (c.in-Ok.ensures.clock told) c.size.ensures.listed)
    (c.in-Ok-write_through.ensures.calls
    (subst (λ (b : Bool). IsTrue b) (sym c.size.ensures.kept.telling) told))
