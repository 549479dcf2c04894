-- What device calls do to the images.
use Rattle.std.proofs.Common.{Bool, List, false, length, refl, subst, sym, true, ℕ, ◌+◌, ◌^◌, ◌≡◌}
use Rattle.std.specs.Prelude.{if◌then◌else◌, nat_le}
use Rattle.disk_model.proofs.PlainLaws.{image_is}
use Rattle.disk_model.proofs.StateLaws.{if_fits, image_torn, only_settled, settled_image, wrote}
use Rattle.disk_model.proofs.Torn.{torn_same}
use Rattle.disk_model.specs.Disk.{AfterWrite, file_written}
use Rattle.disk_model.specs.DiskState.{DiskState, IsDiskImage, after_write}
use Rattle.disk_model.specs.Plain.{is_image, reading}
use Rattle.store_events.specs.Disk.{disk_after}
use Rattle.store_events.specs.declared.disk.DiskCall.{DiskCall}
use Rattle.store_events.specs.declared.disk.DiskCall.TheVariants.{Look, Sync, Write}

-- a disk that reads otherwise has the same images
pub read_otherwise : (p : DiskState) (seen c : List ℕ)
    → IsDiskImage (reading seen p) c → IsDiskImage p c
read_otherwise p seen c image =
    record { no_shorter = image.no_shorter; no_longer = image.no_longer; same = image.same }

-- nothing written is a write too
not_torn : (at n : ℕ) (p : DiskState) (c : List ℕ)
    → IsDiskImage p c → AfterWrite at n (IsDiskImage p) c
not_torn at n p c image = (c, image, torn_same at n c)

write_torn : (fits good : Bool) (at : ℕ) (piece : List ℕ) (p : DiskState) (c : List ℕ)
    → IsDiskImage (if_fits fits good at piece p) c → AfterWrite at (length piece) (IsDiskImage p) c
write_torn true good at piece p c image =
    image_torn p (if good then file_written p.seen at piece else p.seen) at (length piece) c image
write_torn false good at piece p c image = not_torn at (length piece) p c image

-- the images after a call
pub write_leaves : (good : Bool) (at : ℕ) (piece reads : List ℕ) (p : DiskState) (c : List ℕ)
    → IsDiskImage (disk_after (Write at piece) good reads p) c
    → AfterWrite at (length piece) (IsDiskImage p) c
write_leaves true at piece reads p c image =
    write_torn (nat_le (at + length piece) (2 ^ 40)) true at piece p c image
write_leaves false at piece reads p c image =
    write_torn (nat_le (at + length piece) (2 ^ 40)) false at piece p c
    (read_otherwise (after_write false at piece p) reads c image)

pub sync_leaves : (good : Bool) (reads : List ℕ) (p : DiskState) (c : List ℕ) → IsDiskImage p p.seen
    → IsDiskImage (disk_after Sync good reads p) c → IsDiskImage p c
sync_leaves true reads p c stays image =
    subst (λ (l : List ℕ). IsDiskImage p l) (sym (only_settled p.seen c image)) stays
sync_leaves false reads p c stays image = read_otherwise p reads c image

pub look_leaves : (good : Bool) (reads : List ℕ) (p : DiskState) (c : List ℕ)
    → IsDiskImage (disk_after Look good reads p) c → IsDiskImage p c
look_leaves true reads p c image = image
look_leaves false reads p c image = read_otherwise p reads c image

-- a good write within the room
wrote_there : (at : ℕ) (piece : List ℕ) (p : DiskState) (fits : Bool) → IsDiskImage p p.seen
    → IsDiskImage (if_fits fits true at piece p) (if_fits fits true at piece p).seen
wrote_there at piece p true stays = wrote p at piece stays
wrote_there at piece p false stays = stays

-- after a good call the disk reads as one of its images
pub stays_after : (call : DiskCall) (reads : List ℕ) (p : DiskState) → IsDiskImage p p.seen
    → IsDiskImage (disk_after call true reads p) (disk_after call true reads p).seen
stays_after (Write at piece) reads p stays =
    wrote_there at piece p (nat_le (at + length piece) (2 ^ 40)) stays
stays_after Sync reads p stays = settled_image p.seen
stays_after Look reads p stays = stays

-- after a bad one it reads as the event says
pub reads_are : (call : DiskCall) (reads : List ℕ) (p : DiskState)
    → (disk_after call false reads p).seen ≡ reads
reads_are (Write at piece) reads p = refl
reads_are Sync reads p = refl
reads_are Look reads p = refl

pub stays_bad : (call : DiskCall) (reads : List ℕ) (p : DiskState)
    → is_image (disk_after call false reads p) reads ≡ true
    → IsDiskImage (disk_after call false reads p) (disk_after call false reads p).seen
stays_bad call reads p is =
    subst (λ (l : List ℕ). IsDiskImage (disk_after call false reads p) l)
    (sym (reads_are call reads p))
    (image_is (disk_after call false reads p) reads is)
