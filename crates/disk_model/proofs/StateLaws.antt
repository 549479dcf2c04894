-- Laws of a disk's images: a write tears them, a sync leaves one, what is read is one (own).
use Rattle.std.proofs.Common.{◌≡◌, ◌⊎◌, inl, inr, ⊎_elim, ℕ, ◌+◌, ◌^◌, ◌<◌, ◌≤◌, min, max, Bool}
use Rattle.std.proofs.Common.{true, false, List, [], ◌∷◌, ◌++◌, length, get_or, map, refl, sym, ◌∙◌}
use Rattle.std.proofs.Common.{ap, arith}
use Rattle.std.specs.Prelude.{nat_le, nat_lt, if◌then◌else◌, ◌&&◌}
use Rattle.std.specs.List.{range_with_len}
use Rattle.std.proofs.lemmas.List.{ext_get_or}
use Rattle.std.proofs.lemmas.List.FromFn.{length-map-range_with_len, get_or-map-range_with_len}
use Rattle.std.proofs.lemmas.Bool.{cases_lt, cases_Bool}
use Rattle.std.proofs.lemmas.Bool.Decides.{nat_tests}
use Rattle.disk_model.specs.Disk.{file_written, AfterWrite}
use Rattle.disk_model.specs.DiskState.{DiskState, IsDiskImage, greatest_end, Untouched, settled}
use Rattle.disk_model.specs.DiskState.{with_range, after_write, after_sync, IsWell}
use Rattle.disk_model.proofs.RangeLaws.{greatest_end-push, greatest_end_least}
use Rattle.disk_model.proofs.RangeLaws.{untouched-push, untouched-front, untouched-last}
use Rattle.disk_model.proofs.Torn.{length-written, written_below, written_above}

-- The image from before, of which a write of n bytes may have made this one.
module _ (p : DiskState) (at n : ℕ) (c : List ℕ) where
  -- the synced byte in the range, and this image's elsewhere
  abbrev old_at : ℕ → ℕ
  old_at i =
      if nat_le at i && nat_lt i (at + n) && nat_lt i (length p.synced)
      then get_or p.synced i 0
      else get_or c i 0

  abbrev old_size : ℕ
  old_size = min (length c) (greatest_end p.ranges (length p.synced))

  abbrev old_image : List ℕ
  old_image = map old_at (range_with_len 0 old_size)

  length-old : length old_image ≡ old_size
  length-old = length-map-range_with_len old_at 0 old_size

  old_is : (i : ℕ) → i < old_size → get_or old_image i 0 ≡ old_at i
  old_is i lt = get_or-map-range_with_len old_at 0 old_size i i 0 lt (omega arith)

  at_outside : (i : ℕ) → (i < at) ⊎ (at + n ≤ i) → old_at i ≡ get_or c i 0
  at_outside i (inl before) = grind (arith, nat_tests)
  at_outside i (inr behind) = grind (arith, nat_tests)

  at_inside :
      (i : ℕ) → at ≤ i → i < at + n → i < length p.synced
      → old_at i ≡ get_or p.synced i 0
  at_inside i le lt within = grind (arith, nat_tests)

-- each image after a write is one from before, with any bytes in the range
pub image_torn :
    (p : DiskState) (seen : List ℕ) (at n : ℕ) (c : List ℕ)
    → IsDiskImage (with_range p seen (at, at + n)) c → AfterWrite at n (IsDiskImage p) c
image_torn p seen at n c image = (
  old_image p at n c,
  record {
    no_shorter = omega (arith, size, image.no_shorter, least);
    no_longer = omega (arith, size);
    same = λ i lt untouched.
        old_is p at n c i (omega (arith, image.no_shorter, least)) ∙ same_at i lt untouched;
  },
  record {
    no_shorter = omega (arith, size);
    no_longer = omega (arith, size, image.no_longer, pushed);
    below = λ i lt before.
        sym (old_is p at n c i (omega (arith, size)) ∙ at_outside p at n c i (inl before));
    above = λ i lt behind.
        sym (old_is p at n c i (omega (arith, size)) ∙ at_outside p at n c i (inr behind));
  },
)
  where
    size : length (old_image p at n c) ≡ old_size p at n c
    size = length-old p at n c

    least : length p.synced ≤ greatest_end p.ranges (length p.synced)
    least = greatest_end_least p.ranges (length p.synced)

    pushed :
        greatest_end (p.ranges ++ (at, at + n) ∷ []) (length p.synced)
        ≡ max (at + n) (greatest_end p.ranges (length p.synced))
    pushed = greatest_end-push p.ranges (at, at + n) (length p.synced)

    outside :
        (i : ℕ) → i < length p.synced → Untouched i p.ranges → (i < at) ⊎ (at + n ≤ i)
        → old_at p at n c i ≡ get_or p.synced i 0
    outside i lt untouched where_ =
        at_outside p at n c i where_
        ∙ image.same i lt (untouched-push i p.ranges (at, at + n) untouched where_)

    same_at :
        (i : ℕ) → i < length p.synced → Untouched i p.ranges
        → old_at p at n c i ≡ get_or p.synced i 0
    same_at i lt untouched = elim (cases_lt i at) [
      | inl before ↦ outside i lt untouched (inl before)
      | inr from ↦ elim (cases_lt i (at + n)) [
        | inl inside ↦ at_inside p at n c i from inside lt
        | inr behind ↦ outside i lt untouched (inr behind)
      ]
    ]

-- all of it synced: this image alone
pub only_settled : (s c : List ℕ) → IsDiskImage (settled s) c → c ≡ s
only_settled s c image =
    ext_get_or 0 c s (omega (arith, image.no_shorter, image.no_longer))
    (λ i lt. image.same i (omega (arith, image.no_longer)) tt)

-- and this one it is
pub settled_image : (s : List ℕ) → IsDiskImage (settled s) s
settled_image s = record {
  no_shorter = omega arith;
  no_longer = omega arith;
  same = λ i lt untouched. refl;
}

-- a range more takes no image away
widened :
    (p : DiskState) (seen : List ℕ) (r : ℕ × ℕ) (c : List ℕ)
    → IsDiskImage p c → IsDiskImage (with_range p seen r) c
widened p seen r c image = record {
  no_shorter = image.no_shorter;
  no_longer = omega (arith, image.no_longer, greatest_end-push p.ranges r (length p.synced));
  same = λ i lt untouched. image.same i lt (untouched-front i p.ranges r untouched);
}

-- the piece in its place
pub wrote :
    (p : DiskState) (at : ℕ) (piece : List ℕ)
    → IsDiskImage p p.seen
    → IsDiskImage (with_range p (file_written p.seen at piece) (at, at + length piece))
    (file_written p.seen at piece)
wrote p at piece image = record {
  no_shorter = omega (arith, image.no_shorter, length-written p.seen at piece);
  no_longer = omega (arith, image.no_longer, length-written p.seen at piece, pushed);
  same = λ i lt untouched.
      ⊎_elim (λ before. written_below p.seen at piece i before)
      (λ behind. written_above p.seen at piece i behind)
      (untouched-last i p.ranges (at, at + length piece) untouched)
      ∙ image.same i lt (untouched-front i p.ranges (at, at + length piece) untouched);
}
  where
    pushed :
        greatest_end (p.ranges ++ (at, at + length piece) ∷ []) (length p.synced)
        ≡ max (at + length piece) (greatest_end p.ranges (length p.synced))
    pushed = greatest_end-push p.ranges (at, at + length piece) (length p.synced)

pub well_settled : (s : List ℕ) → length s ≤ 2 ^ 40 → IsWell (settled s)
well_settled s le = record { stays = settled_image s; within = le; ends = le }

-- what a write makes where the test of the room says this
abbrev pub if_fits : Bool → Bool → ℕ → List ℕ → DiskState → DiskState
if_fits fits good at piece p =
    if fits
    then with_range p (if good then file_written p.seen at piece else p.seen)
    (at, at + length piece)
    else p

pub fits_test : (n : ℕ) → n ≤ 2 ^ 40 → nat_le n (2 ^ 40) ≡ true
fits_test n le = grind (arith, nat_tests)

pub well_write :
    (good : Bool) (at : ℕ) (piece : List ℕ) (p : DiskState)
    → IsWell p → IsWell (after_write good at piece p)
well_write good at piece p well = elim (cases_Bool (nat_le (at + length piece) (2 ^ 40))) [
  | inl fits ↦ rw fits (both good fits)
  | inr past ↦ rw past well
]
  where
    end :
        nat_le (at + length piece) (2 ^ 40) ≡ true
        → greatest_end (p.ranges ++ (at, at + length piece) ∷ []) (length p.synced) ≤ 2 ^ 40
    end fits =
        grind (
          arith,
          nat_tests,
          well.ends,
          greatest_end-push p.ranges (at, at + length piece) (length p.synced),
        )

    both :
        (good : Bool) → nat_le (at + length piece) (2 ^ 40) ≡ true
        → IsWell (if_fits true good at piece p)
    both true fits = record {
      stays = wrote p at piece well.stays;
      within = grind (arith, nat_tests, well.within, length-written p.seen at piece);
      ends = end fits;
    }
    both false fits = record {
      stays = widened p p.seen (at, at + length piece) p.seen well.stays;
      within = well.within;
      ends = end fits;
    }

-- each image after a write within the room is one from before, torn
pub crash_write :
    (good : Bool) (at : ℕ) (piece : List ℕ) (p : DiskState) → at + length piece ≤ 2 ^ 40
    → (c : List ℕ) → IsDiskImage (after_write good at piece p) c
    → AfterWrite at (length piece) (IsDiskImage p) c
crash_write good at piece p fits c image =
    image_torn p (if good then file_written p.seen at piece else p.seen) at (length piece) c
    (rw (fits_test (at + length piece) fits) at image)

-- and what it reads as
pub seen_write :
    (at : ℕ) (piece : List ℕ) (p : DiskState) → at + length piece ≤ 2 ^ 40
    → (after_write true at piece p).seen ≡ file_written p.seen at piece
seen_write at piece p fits =
    ap (λ (b : Bool). (if_fits b true at piece p).seen) (fits_test (at + length piece) fits)

-- a sync makes no image
pub crash_sync :
    (good : Bool) (p : DiskState) → IsWell p → (c : List ℕ) → IsDiskImage (after_sync good p) c
    → IsDiskImage p c
crash_sync true p well c image = rw (only_settled p.seen c image) well.stays
crash_sync false p well c image = image
