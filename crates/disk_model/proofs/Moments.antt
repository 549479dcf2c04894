-- Laws of runs of calls: which images a stop may leave meanwhile (own).
use Rattle.std.proofs.Common.{inl, inr, ⊎_elim, ℕ, ◌≤◌, List, arith}
use Rattle.disk_model.specs.Disk.{Elapses}
use Rattle.disk_model.specs.Work.{LeavesOnly}
use Rattle.disk_model.specs.declared.disk.Disk.{Ghosts as DiskWords}

module _ {D : Type 0} (disks : DiskWords D) where
  -- before the first call
  pub started :
      (old : D) (P : List ℕ → Type 0)
      → ((c : List ℕ) → disks.left_since old (disks.moment old) c → P c)
      → LeavesOnly disks old old P
  started old P here = record {
    later = omega arith;
    each = here;
    before = λ t c le left. inl left;
    keeps = λ t c le left. left;
  }

  -- one call more, after which a stop leaves what has P
  pub goes_on :
      (old mid new : D) (P may_leave : List ℕ → Type 0)
      → LeavesOnly disks old mid P
      → Elapses (disks.moment mid) (disks.moment new) (disks.left_since mid) (disks.left_since new)
      may_leave
      → ((c : List ℕ) → may_leave c → P c)
      → LeavesOnly disks old new P
  goes_on old mid new P may_leave so_far time here = record {
    later = omega (arith, so_far.later, time.later);
    each = λ c left.
        ⊎_elim (so_far.each c) (here c) (time.nothing_else (disks.moment old) c so_far.later left);
    before = λ t c le left.
        ⊎_elim (so_far.before t c le) (λ now. inr (here c now))
        (time.nothing_else t c (omega (arith, le, so_far.later)) left);
    keeps = λ t c le left.
        time.keeps t c (omega (arith, le, so_far.later)) (so_far.keeps t c le left);
  }

  -- a weaker fact
  pub weaker :
      (old new : D) (P Q : List ℕ → Type 0)
      → LeavesOnly disks old new P → ((c : List ℕ) → P c → Q c) → LeavesOnly disks old new Q
  weaker old new P Q leaves so = record {
    later = leaves.later;
    each = λ c left. so c (leaves.each c left);
    before = λ t c le left.
        ⊎_elim (λ had. inl had) (λ is. inr (so c is)) (leaves.before t c le left);
    keeps = leaves.keeps;
  }

  -- one run after another
  pub and_then :
      (old mid new : D) (P : List ℕ → Type 0)
      → LeavesOnly disks old mid P → LeavesOnly disks mid new P → LeavesOnly disks old new P
  and_then old mid new P first second = record {
    later = omega (arith, first.later, second.later);
    each = λ c left.
        ⊎_elim (first.each c) (λ is. is) (second.before (disks.moment old) c first.later left);
    before = λ t c le left.
        ⊎_elim (first.before t c le) (λ is. inr is)
        (second.before t c (omega (arith, le, first.later)) left);
    keeps = λ t c le left.
        second.keeps t c (omega (arith, le, first.later)) (first.keeps t c le left);
  }

module _ {D : Type 0} (disks : DiskWords D) (old new : D) (P : List ℕ → Type 0) where
  -- what holds of all moments holds now
  pub holds_now :
      ((t : ℕ) (c : List ℕ) → t ≤ disks.moment new → disks.may_leave new c
      → disks.left_since new t c)
      → LeavesOnly disks old new P → (c : List ℕ) → disks.may_leave new c → P c
  holds_now counts leaves c now = leaves.each c (counts (disks.moment old) c leaves.later now)
