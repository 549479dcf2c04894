-- Laws of what would have landed: it is an image of the greatest size (own).
use Rattle.std.proofs.Common.{◌≡◌, inl, inr, ℕ, ◌+◌, ◌^◌, ◌≤◌, true, false, List, [], ◌∷◌}
use Rattle.std.proofs.Common.{length, refl, arith, ◌%◌, ◌==◌}
use Rattle.std.specs.Prelude.{nat_le, if◌then◌else◌}
use Rattle.std.proofs.lemmas.Bool.{cases_Bool, cases_eq}
use Rattle.disk_model.specs.Drawn.{written_by}
use Rattle.disk_model.specs.Disk.{file_written}
use Rattle.disk_model.specs.DiskState.{DiskState, IsDiskImage, IsLanded, greatest_end}
use Rattle.disk_model.specs.DiskState.{settled, with_range}
use Rattle.disk_model.specs.declared.call.Call.{Call}
use Rattle.disk_model.specs.declared.call.Call.TheVariants.{Look, Write, Sync}
use Rattle.disk_model.specs.Plain.{reading}
use Rattle.disk_model.specs.Calls.{state_after_call, after_calls, landed_behind}
use Rattle.disk_model.specs.Calls.{seen_behind, landed_from}
use Rattle.disk_model.proofs.RangeLaws.{greatest_end-push}
use Rattle.disk_model.proofs.StateLaws.{wrote, settled_image}
use Rattle.disk_model.proofs.Torn.{length-written}

-- a piece more
landed_write :
    (p : DiskState) (c : List ℕ) (seen : List ℕ) (at : ℕ) (piece : List ℕ) → IsLanded p c
    → IsLanded (with_range p seen (at, at + length piece)) (file_written c at piece)
landed_write p c seen at piece landed =
    let image = landed.image in
    let q = reading c p in
    let is : IsDiskImage q c = record {
      no_shorter = image.no_shorter;
      no_longer = image.no_longer;
      same = image.same;
    } in
    let after = wrote q at piece is in
    record {
      image = record {
        no_shorter = after.no_shorter;
        no_longer = after.no_longer;
        same = after.same;
      };
      size =
          omega (
            arith,
            landed.size,
            length-written c at piece,
            greatest_end-push p.ranges (at, at + length piece) (length p.synced),
          );
    }

landed_call :
    (p : DiskState) (c : List ℕ) (call : Call) → IsLanded p c
    → IsLanded (state_after_call p call) (landed_behind call p.seen c)
landed_call p c Look landed = landed
landed_call p c (Sync true) landed = record { image = settled_image p.seen; size = refl }
landed_call p c (Sync false) landed = landed
landed_call p c (Write at piece good) landed =
    elim (cases_Bool (nat_le (at + length piece.items) (2 ^ 40))) [
      | inl fits ↦
          rw fits (landed_write p c (if good then file_written p.seen at piece.items else p.seen) at
          piece.items landed)
      | inr past ↦ rw past landed
    ]

-- what is read is that of the state
seen_call :
    (p : DiskState) (call : Call) → (state_after_call p call).seen ≡ seen_behind call p.seen
seen_call p Look = refl
seen_call p (Sync true) = refl
seen_call p (Sync false) = refl
seen_call p (Write at piece true) =
    elim (cases_Bool (nat_le (at + length piece.items) (2 ^ 40))) [
      | inl fits ↦ rw fits refl
      | inr past ↦ rw past refl
    ]
seen_call p (Write at piece false) =
    elim (cases_Bool (nat_le (at + length piece.items) (2 ^ 40))) [
      | inl fits ↦ rw fits refl
      | inr past ↦ rw past refl
    ]

landed_calls :
    (calls : List Call) (p : DiskState) (c : List ℕ) → IsLanded p c
    → IsLanded (after_calls p calls) (landed_from p.seen c calls)
landed_calls [] p c landed = landed
landed_calls (call ∷ calls) p c landed =
    rw (← seen_call p call)
    (landed_calls calls (state_after_call p call) (landed_behind call p.seen c)
    (landed_call p c call landed))

-- of a disk that began with these bytes
pub landed_well :
    (start : List ℕ) (calls : List Call)
    → IsLanded (after_calls (settled start) calls) (landed_from start start calls)
landed_well start calls =
    landed_calls calls (settled start) start
    (record { image = settled_image start; size = refl })

-- and what a choice keeps is an image, with all places of the size that it draws
pub written_image :
    (choice : ℕ) (p : DiskState) (landed : List ℕ) → IsDiskImage p p.seen → IsLanded p landed
    → IsDiskImage p (written_by choice p.seen landed)
written_image choice p landed seen lands = elim (cases_Bool (choice % 2 == 1)) [
  | inl odd ↦ rw odd lands.image
  | inr even ↦ rw even seen
]

pub written_covers :
    (choice size : ℕ) (p : DiskState) (landed : List ℕ) → IsDiskImage p p.seen → IsLanded p landed
    → (choice % 2 ≡ 0 → size ≡ length p.synced)
    → (choice % 2 ≡ 1 → size ≡ greatest_end p.ranges (length p.synced))
    → size ≤ length (written_by choice p.seen landed)
written_covers choice size p landed seen lands even odd = elim (cases_eq (choice % 2) 1) [
  | inl is ↦ rw is (omega (arith, odd is, lands.size))
  | inr not ↦
      let zero_ : choice % 2 ≡ 0 = grind (arith, not) in
      rw zero_ (omega (arith, even zero_, seen.no_shorter))
]
