-- An open area of the last OPEN row is never lost.
use Rattle.std.proofs.Common.{◌≡◌, ◌⊎◌, ◌∙◌, ◌<◌, ◌≤◌, ◌||◌, ◌&&◌, ℕ, Bool, true, false, cond}
use Rattle.std.proofs.Common.{List, Option, Some, inl, inr, ⊎_elim, refl, sym, ap, subst, arith}
use Rattle.std.specs.Prelude.{IsTrue, nat_lt, ◌==◌}
use Rattle.std.specs.List.{Contains}
use Rattle.std.proofs.lemmas.Bool.{cases_order}
use Rattle.std.proofs.lemmas.Bool.Decides.{nat_tests}
use Rattle.disk_model.specs.Work.{EachImage, LeavesOnly}
use Rattle.disk_model.specs.declared.disk.Disk.{Ghosts as DiskWords}
use Rattle.disk_model.proofs.Moments.{weaker}
use Rattle.gate_journal.specs.declared.command.Command.{Command}
use Rattle.story_run.specs.declared.story.Story.{Story}
use Rattle.story_run.specs.World.{WorldState}
use Rattle.snap_store.specs.File.{Stored, open_area}
use Rattle.snap_store.specs.Slots.{beside, is_before, newest_side, opposite_side, slot_of}
use Rattle.snap_store.specs.Slots.{taken_side, with_slot}
use Rattle.snap_store.specs.Store.{IsImageOf, Snapshots, store_area}
use Rattle.snap_store.specs.declared.side.Side.{Side}
use Rattle.snap_store.specs.declared.side.Side.TheVariants.{A, B}
use Rattle.snap_store.specs.declared.slot.Slot.{Slot}
use Rattle.snap_store.specs.declared.slot.Slot.TheVariants.{Closed, Open, Unsure}
use Rattle.snap_store.specs.declared.slot.Slots.{Slots}
use Rattle.session_saves.specs.Agreement.{IsAgreed}
use Rattle.session_saves.specs.Keeping.{FailedPutLeaves, KeepsOpen, MayStandMeanwhile, PutsWorld}
use Rattle.session_saves.specs.Saves.{HasOpenSince, HasSince}
use Rattle.session_saves.specs.declared.missed.Cause.{Cause}
use Rattle.session_saves.specs.declared.missed.Cause.TheVariants.{NoMemory, TooLong, DiskFailed}
use Rattle.session_saves.specs.declared.missed.Cause.TheVariants.{NotMade}

-- ---- the newest of two open areas

-- this OPEN row is later, or the same after as many inputs at least
abbrev IsNoOlder : ℕ → ℕ → ℕ → ℕ → Type 0
IsNoOlder place count place' count' = (place < place') ⊎ ((place' ≡ place) × (count ≤ count'))

later : (p c p' c' : ℕ) → is_before p c p' c' ≡ true → IsNoOlder p c p' c'
later p c p' c' e =
    elim (cases_order p p') [
      | inl at ↦ inr (sym at, grind (arith, nat_tests, e, at))
      | inr (inl below) ↦ inl below
      | inr (inr above) ↦ absurd (grind (arith, nat_tests, e, above))
    ]

no_earlier : (p c p' c' : ℕ) → is_before p c p' c' ≡ false → IsNoOlder p' c' p c
no_earlier p c p' c' e =
    elim (cases_order p p') [
      | inl at ↦ inr (at, grind (arith, nat_tests, e, at))
      | inr (inl below) ↦ absurd (grind (arith, nat_tests, e, below))
      | inr (inr above) ↦ inl above
    ]

-- the newest side, which is no older than an open area
record Newest (place count : ℕ) (slots : Slots) : Type 0 where
  side : Side
  row : ℕ
  inputs : ℕ
  newest : newest_side slots ≡ Some side
  there : slot_of slots side ≡ Open row inputs
  newer : IsNoOlder place count row inputs

abbrev slots_of : Slot → Slot → Slots
slots_of a b = record { a = a; b = b }

same_newer : (p c place count : ℕ) → Open p c ≡ Open place count → IsNoOlder place count p c
same_newer p c place count e =
    let p' : p ≡ place = cc in let c' : c ≡ count = cc in inr (p', omega (arith, c'))

both_open : (p c p' c' : ℕ) (before : Bool) → is_before p c p' c' ≡ before
    → newest_side (slots_of (Open p c) (Open p' c')) ≡ Some (cond before B A)
both_open p c p' c' before e = ap (λ (x : Bool). Some (cond x B A)) e

newest_a : (place count p c : ℕ) (b : Slot) → Open p c ≡ Open place count
    → Newest place count (slots_of (Open p c) b)
newest_a place count p c Closed e = record {
  side = A;
  row = p;
  inputs = c;
  newest = refl;
  there = refl;
  newer = same_newer p c place count e;
}
newest_a place count p c Unsure e = record {
  side = A;
  row = p;
  inputs = c;
  newest = refl;
  there = refl;
  newer = same_newer p c place count e;
}
newest_a place count p c (Open p' c') e = by (is_before p c p' c') refl
  where
    by : (before : Bool) → is_before p c p' c' ≡ before
        → Newest place count (slots_of (Open p c) (Open p' c'))
    by true is = record {
      side = B;
      row = p';
      inputs = c';
      newest = both_open p c p' c' true is;
      there = refl;
      newer =
          let p_is : p ≡ place = cc in
          let c_is : c ≡ count = cc in
          subst (λ (x : ℕ × ℕ). IsNoOlder x.0 x.1 p' c') (λ i. (p_is i, c_is i))
          (later p c p' c' is);
    }
    by false is = record {
      side = A;
      row = p;
      inputs = c;
      newest = both_open p c p' c' false is;
      there = refl;
      newer = same_newer p c place count e;
    }

newest_b : (place count p c : ℕ) (a : Slot) → Open p c ≡ Open place count
    → Newest place count (slots_of a (Open p c))
newest_b place count p c Closed e = record {
  side = B;
  row = p;
  inputs = c;
  newest = refl;
  there = refl;
  newer = same_newer p c place count e;
}
newest_b place count p c Unsure e = record {
  side = B;
  row = p;
  inputs = c;
  newest = refl;
  there = refl;
  newer = same_newer p c place count e;
}
newest_b place count p c (Open p' c') e = by (is_before p' c' p c) refl
  where
    by : (before : Bool) → is_before p' c' p c ≡ before
        → Newest place count (slots_of (Open p' c') (Open p c))
    by true is = record {
      side = B;
      row = p;
      inputs = c;
      newest = both_open p' c' p c true is;
      there = refl;
      newer = same_newer p c place count e;
    }
    by false is = record {
      side = A;
      row = p';
      inputs = c';
      newest = both_open p' c' p c false is;
      there = refl;
      newer =
          let p_is : p ≡ place = cc in
          let c_is : c ≡ count = cc in
          subst (λ (x : ℕ × ℕ). IsNoOlder x.0 x.1 p' c') (λ i. (p_is i, c_is i))
          (no_earlier p' c' p c is);
    }

newest_at : (a b : Slot) (side : Side) (place count : ℕ)
    → slot_of (slots_of a b) side ≡ Open place count
    → Newest place count (slots_of a b)
newest_at (Open p c) b A place count e = newest_a place count p c b e
newest_at Closed b A place count e = absurd cc
newest_at Unsure b A place count e = absurd cc
newest_at a (Open p c) B place count e = newest_b place count p c a e
newest_at a Closed B place count e = absurd cc
newest_at a Unsure B place count e = absurd cc

newest_of : (slots : Slots) (place least : ℕ) (has : HasSince place least slots)
    → Newest place has.count slots
newest_of slots place least has =
    newest_at slots.a slots.b has.side place has.count has.open_there

-- ---- what a put leaves of it

other_slot : (slots : Slots) (side : Side) (slot : Slot)
    → slot_of (with_slot slots (opposite_side side) slot) side ≡ slot_of slots side
other_slot slots A slot = refl
other_slot slots B slot = refl

-- the area that a put takes alone has changed, or none has
abbrev pub ChangesTaken : Slots → Slots → Type 0
ChangesTaken old new =
    (new ≡ old) ⊎ ((slot : Slot) × (new ≡ with_slot old (taken_side old) slot))

beside_newest : (slots new : Slots) (side : Side) (row inputs : ℕ)
    → newest_side slots ≡ Some side → slot_of slots side ≡ Open row inputs
    → ChangesTaken slots new → slot_of new side ≡ Open row inputs
beside_newest slots new side row inputs newest there (inl same) =
    ap (λ (s : Slots). slot_of s side) same ∙ there
beside_newest slots new side row inputs newest there (inr (slot, is)) =
    ap (λ (s : Slots). slot_of s side) is
    ∙ ap (λ (taken : Side). slot_of (with_slot slots taken slot) side) (ap beside newest)
    ∙ other_slot slots side slot ∙ there

some_same : (x y : Stored) → Some x ≡ Some y → x ≡ y
some_same x y e = cc

module _ {D : Type 0} (seen : D → List ℕ) (stories : List Story) (rows : List ℕ)
    (game : List Command) (place least : ℕ) (store : Snapshots D) (file : List ℕ) where
  -- the newest area is of this row, where that is the last one
  newest_row : IsImageOf seen store file
      → ((row : ℕ) → Contains rows row → row ≤ place)
      → IsAgreed seen stories rows game store
      → (count : ℕ) (n : Newest place count store.slots)
      → (n.row ≡ place) × (count ≤ n.inputs)
  newest_row is last agreed count n =
      let there = is.synced n.side n.row n.inputs n.there in
      let before = last there.0.place (agreed n.side there.0 there.1).row in
      ⊎_elim (λ above. absurd (let at = there.3 in omega (arith, above, before, at)))
      (λ same. same) n.newer

  -- so it is open in an image that a stop may leave meanwhile
  newest_there : IsImageOf seen store file
      → (count : ℕ) (n : Newest place count store.slots)
      → (n.row ≡ place) × (count ≤ n.inputs) → least ≤ count
      → (world : WorldState) (put inputs : ℕ) (image : List ℕ)
      → MayStandMeanwhile seen world put inputs store image
      → HasOpenSince place least image
  newest_there is count n same enough world put inputs image (inl its) =
      let there = its.synced n.side n.row n.inputs n.there in
      record {
        side = n.side;
        area = there.0;
        open_there = there.2;
        row = there.3 ∙ same.0;
        since = let c = there.4 in let more = same.1 in omega (arith, c, more, enough);
      }
  newest_there is count n same enough world put inputs image (inr (bytes, has, puts)) =
      let there = is.synced n.side n.row n.inputs n.there in
      let kept = puts.newest n.side n.newest in
      let area_is : kept.area ≡ there.0 =
      some_same kept.area there.0 (sym kept.kept ∙ there.1) in
      record {
        side = n.side;
        area = kept.area;
        open_there = kept.there;
        row = ap (λ (a : Stored). a.place) area_is ∙ there.3 ∙ same.0;
        since =
            let c = ap (λ (a : Stored). a.count) area_is ∙ there.4 in
            let more = same.1 in omega (arith, c, more, enough);
      }

pub keeps_open : {D : Type 0} (disks : DiskWords D) (stories : List Story) (rows : List ℕ)
    (game : List Command) (place least : ℕ) (world : WorldState) (put inputs : ℕ)
    (old new : Snapshots D) → ((d : D) → disks.may_leave d (disks.seen d))
    → EachImage disks old.disk (IsImageOf disks.seen old) → LeavesOnly disks old.disk new.disk
    (MayStandMeanwhile disks.seen world put inputs old) → ChangesTaken old.slots new.slots
    → IsTrue (disks.tells old.disk) → ((row : ℕ) → Contains rows row → row ≤ place)
    → IsAgreed disks.seen stories rows game old → HasSince place least old.slots
    → KeepsOpen disks place least old new
keeps_open disks stories rows game place least world put inputs
    old new stays images crash changes told last agreed has =
    let file = disks.seen old.disk in
    let is = images told file (stays old.disk) in
    let n = newest_of old.slots place least has in
    let same =
    newest_row disks.seen stories rows game place least old file is last agreed has.count n in
    record {
      known = record {
        side = n.side;
        count = n.inputs;
        open_there =
            beside_newest old.slots new.slots n.side n.row n.inputs n.newest n.there changes
            ∙ ap (λ (row : ℕ). Open row n.inputs) same.0;
        since = let s = has.since in let m = same.1 in omega (arith, s, m);
      };
      images =
          weaker disks old.disk new.disk (MayStandMeanwhile disks.seen world put inputs old)
          (HasOpenSince place least) crash
          (newest_there disks.seen stories rows game place least old file is has.count n same
          has.since world put inputs);
    }

-- ---- what was put, or wasn't

pub put_changes : {D : Type 0} (disks : DiskWords D) (world : WorldState) (place count : ℕ)
    (old new : Snapshots D) → PutsWorld disks world place count old new
    → ChangesTaken old.slots new.slots
put_changes disks world place count old new puts =
    inr (Open place count, puts.slots)

pub failed_changes : {D : Type 0} (cause : Cause) (old new : Snapshots D)
    → FailedPutLeaves cause old new
    → ChangesTaken old.slots new.slots
failed_changes DiskFailed old new (inl closed) = inr (Closed, closed)
failed_changes DiskFailed old new (inr unsure) = inr (Unsure, unsure)
failed_changes NotMade old new same = inl (ap (λ (s : Snapshots _). s.slots) same)
failed_changes NoMemory old new same = inl (ap (λ (s : Snapshots _). s.slots) same)
failed_changes TooLong old new same = inl (ap (λ (s : Snapshots _). s.slots) same)
