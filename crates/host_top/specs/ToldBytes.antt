-- What the bytes of a disk have, by what is told of it (own).
use Rattle.std.specs.Prelude.{ℕ, IsTrue, List, []}
use Rattle.disk_model.specs.declared.disk.Disk.{Ghosts as DiskWords}
use Rattle.host_top.specs.Files.{Told, Untold, Missing, There}

-- the bytes of a disk that is told have P; where there is told to be none, no bytes have
abbrev pub BytesHave : {D : Type 0} → (D → List ℕ) → Told D → (List ℕ → Type 0) → Type 0
BytesHave seen Untold P = Unit {0}
BytesHave seen Missing P = P []
BytesHave seen (There disk) P = P (seen disk)

-- the same where all disks tell what they hold
abbrev pub WhereTold : {D : Type 0} → DiskWords D → Told D → (List ℕ → Type 0) → Type 0
WhereTold {D} disks told P = ((d : D) → IsTrue (disks.tells d)) → BytesHave disks.seen told P
