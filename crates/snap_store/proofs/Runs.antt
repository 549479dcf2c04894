-- Runs of device calls through which each image keeps a fact.
use Rattle.std.proofs.Common.{ℕ, List}
use Rattle.disk_model.specs.Disk.{Elapses, Torn, Follows}
use Rattle.disk_model.specs.Work.{LeavesOnly}
use Rattle.disk_model.specs.declared.disk.Disk.{Ghosts as DiskWords}
use Rattle.disk_model.proofs.Moments.{started, goes_on}

module _ {D : Type 0} (disks : DiskWords D) (P : List ℕ → Type 0) where
  -- each image of all moments since the old disk has P, and so has each image now
  pub record Keeps (old new : D) : Type 0 where
    pub since : LeavesOnly disks old new P
    pub now : (c : List ℕ) → disks.may_leave new c → P c

  pub at_start :
      (old : D) → ((c : List ℕ) → disks.left_since old (disks.moment old) c → disks.may_leave old c)
      → ((c : List ℕ) → disks.may_leave old c → P c) → Keeps old old
  at_start old only each = record {
    since = started disks old P (λ c left. each c (only c left));
    now = each;
  }

  pub after_write :
      (old mid new : D) (at n : ℕ)
      → Keeps old mid
      → Elapses (disks.moment mid) (disks.moment new) (disks.left_since mid) (disks.left_since new)
      (disks.may_leave new)
      → Follows (Torn at n) (disks.may_leave mid) (disks.may_leave new)
      → ((c d : List ℕ) → Torn at n d c → P d → P c)
      → Keeps old new
  after_write old mid new at n keeps time crash closed =
      let now : (c : List ℕ) → disks.may_leave new c → P c =
      λ c left. let was = crash c left in closed c was.0 was.2 (keeps.now was.0 was.1) in
      record {
        since = goes_on disks old mid new P (disks.may_leave new) keeps.since time now;
        now = now;
      }
