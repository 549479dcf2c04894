-- Laws of device calls that are counted: one, and one piece of work after another.
use Rattle.std.proofs.Common.{◌≡◌, ◌⊎◌, inl, inr, ℕ, ◌+◌, ◌-◌, ◌<◌, ◌≤◌, true, false, arith, refl, ◌∙◌}
use Rattle.std.specs.Prelude.{IsTrue, Result, Ok, Err}
use Rattle.std.proofs.lemmas.Bool.{cases_lt}
use Rattle.disk_model.specs.Work.{GoodCalls, FailedCall, MakesCalls}
use Rattle.disk_model.specs.declared.disk.Disk.{Ghosts as DiskWords}

module _ {D : Type 0} {disks : DiskWords D} where
  -- no call
  pub good_none : (d : D) → GoodCalls disks 0 d d
  good_none d = record {
    clock = omega arith;
    unlisted = λ k lt. absurd (omega (arith, lt));
    list = refl;
  }

  -- the same moments, said of the disk before
  moved :
      {old mid : D} {n j : ℕ} (k : ℕ) → GoodCalls disks n old mid → j ≡ n + k
      → IsTrue (disks.fails_at old (disks.moment old + j))
      → IsTrue (disks.fails_at mid (disks.moment mid + k))
  moved {old} {mid} {n} {j} k good is told =
      let same : disks.moment mid + k ≡ disks.moment old + j = omega (arith, good.clock, is) in
      rw (same, good.list) told

  pub moved_back :
      {old mid : D} {n j : ℕ} (k : ℕ) → GoodCalls disks n old mid → j ≡ n + k
      → IsTrue (disks.fails_at mid (disks.moment mid + k))
      → IsTrue (disks.fails_at old (disks.moment old + j))
  moved_back {old} {mid} {n} {j} k good is told =
      let same : disks.moment mid + k ≡ disks.moment old + j = omega (arith, good.clock, is) in
      rw (same, good.list) at told

  none_in_front :
      {old mid : D} {n m : ℕ} → GoodCalls disks n old mid
      → ((k : ℕ) → k < m → IsTrue (disks.fails_at mid (disks.moment mid + k)) → ⊥)
      → (k : ℕ) → k < n + m → IsTrue (disks.fails_at old (disks.moment old + k)) → ⊥
  none_in_front {old} {mid} {n} {m} good none k lt told = elim (cases_lt k n) [
    | inl first ↦ good.unlisted k first told
    | inr later ↦
        none (k - n) (omega (arith, lt, later)) (moved (k - n) good (omega (arith, later)) told)
  ]

  -- good ones behind good ones
  pub good_then :
      {old mid new : D} (n m : ℕ) → GoodCalls disks n old mid
      → GoodCalls disks m mid new → GoodCalls disks (n + m) old new
  good_then n m first second = record {
    clock = omega (arith, first.clock, second.clock);
    unlisted = none_in_front first second.unlisted;
    list = second.list ∙ first.list;
  }

  -- one call that was good
  pub good_one :
      {old new : D} → (IsTrue (disks.fails_at old (disks.moment old)) → ⊥)
      → disks.moment new ≡ disks.moment old + 1
      → disks.fails_at new ≡ disks.fails_at old → GoodCalls disks 1 old new
  good_one {old} none clock list = record {
    clock = clock;
    unlisted = λ k lt told.
        let here : disks.moment old + k ≡ disks.moment old = omega (arith, lt) in
        none (rw here at told);
    list = list;
  }

  -- as its answer says
  pub answered :
      {E F : Type 0} {old new : D} → (E → ⊥)
      → (IsTrue (disks.fails_at old (disks.moment old)) → E)
      → (disks.moment new ≡ disks.moment old + 1) ⊎ (E × F)
      → disks.fails_at new ≡ disks.fails_at old → GoodCalls disks 1 old new
  answered never err (inl clock) list = good_one (λ told. never (err told)) clock list
  answered never err (inr found) list = absurd (never found.0)

  -- as it answered Ok, which is no error
  pub answered_ok :
      {F : Type 0} {old new : D} → (IsTrue (disks.fails_at old (disks.moment old)) → false ≡ true)
      → (disks.moment new ≡ disks.moment old + 1) ⊎ ((false ≡ true) × F)
      → disks.fails_at new ≡ disks.fails_at old → GoodCalls disks 1 old new
  answered_ok err clock list = answered (λ is_err. absurd (cc)) err clock list

module _ {D : Type 0} {disks : DiskWords D} where
  -- one that failed behind good ones
  pub failed_then :
      {old mid new : D} (n k end far : ℕ) → GoodCalls disks n old mid
      → disks.room mid ≡ disks.room old → end ≤ far → FailedCall disks end k mid new
      → FailedCall disks far (n + k) old new
  failed_then {old} {mid} {new} n k end far good same le fault = record {
    unlisted = none_in_front good fault.unlisted;
    failed = go fault.failed;
    list = fault.list ∙ good.list;
  }
    where
      why :
          IsTrue (disks.fails_at mid (disks.moment mid + k)) ⊎ (disks.room mid < end)
          → IsTrue (disks.fails_at old (disks.moment old + (n + k))) ⊎ (disks.room old < far)
      why (inl listed) = inl (moved_back k good refl listed)
      why (inr full) = inr (omega (arith, full, same, le))

      go :
          (disks.moment new ≡ disks.moment mid + k) ⊎ ((disks.moment new ≡ disks.moment mid + k + 1)
          × (IsTrue (disks.fails_at mid (disks.moment mid + k)) ⊎ (disks.room mid < end)))
          → (disks.moment new ≡ disks.moment old + (n + k))
          ⊎ ((disks.moment new ≡ disks.moment old + (n + k) + 1)
          × (IsTrue (disks.fails_at old (disks.moment old + (n + k))) ⊎ (disks.room old < far)))
      go (inl none) = inl (omega (arith, none, good.clock))
      go (inr counted) = inr (omega (arith, counted.0, good.clock), why counted.1)

  -- with an end that is farther
  pub failed_farther :
      {old new : D} {k end far : ℕ} → end ≤ far → FailedCall disks end k old new
      → FailedCall disks far k old new
  failed_farther {old} {new} {k} {end} {far} le fault = record {
    unlisted = fault.unlisted;
    failed = go fault.failed;
    list = fault.list;
  }
    where
      go :
          (disks.moment new ≡ disks.moment old + k) ⊎ ((disks.moment new ≡ disks.moment old + k + 1)
          × (IsTrue (disks.fails_at old (disks.moment old + k)) ⊎ (disks.room old < end)))
          → (disks.moment new ≡ disks.moment old + k)
          ⊎ ((disks.moment new ≡ disks.moment old + k + 1)
          × (IsTrue (disks.fails_at old (disks.moment old + k)) ⊎ (disks.room old < far)))
      go (inl none) = inl none
      go (inr (clock, inl listed)) = inr (clock, inl listed)
      go (inr (clock, inr full)) = inr (clock, inr (omega (arith, full, le)))

  -- within the room, one that failed was to fail or found no memory
  pub failed_within :
      {old new : D} {k end : ℕ} → end ≤ disks.room old → FailedCall disks end k old new
      → FailedCall disks 0 k old new
  failed_within {old} {new} {k} {end} le fault = record {
    unlisted = fault.unlisted;
    failed = go fault.failed;
    list = fault.list;
  }
    where
      go :
          (disks.moment new ≡ disks.moment old + k) ⊎ ((disks.moment new ≡ disks.moment old + k + 1)
          × (IsTrue (disks.fails_at old (disks.moment old + k)) ⊎ (disks.room old < end)))
          → (disks.moment new ≡ disks.moment old + k)
          ⊎ ((disks.moment new ≡ disks.moment old + k + 1)
          × (IsTrue (disks.fails_at old (disks.moment old + k)) ⊎ (disks.room old < 0)))
      go (inl none) = inl none
      go (inr (clock, inl listed)) = inr (clock, inl listed)
      go (inr (clock, inr full)) = absurd (omega (arith, full, le))

  -- Where this is the first that was to fail, it is the one that failed, or none up to it found
  -- memory.
  pub first_listed :
      {old new : D} {k end : ℕ} (j : ℕ) → end ≤ disks.room old
      → ((i : ℕ) → i < j → IsTrue (disks.fails_at old (disks.moment old + i)) → ⊥)
      → IsTrue (disks.fails_at old (disks.moment old + j)) → FailedCall disks end k old new
      → ((k ≡ j) × (disks.moment new ≡ disks.moment old + j + 1))
      ⊎ ((disks.moment new ≡ disks.moment old + k) × (k ≤ j))
  first_listed {old} {new} {k} {end} j le none listed fault = elim (cases_lt j k) [
    | inl past ↦ absurd (fault.unlisted j past listed)
    | inr upto ↦ go upto fault.failed
  ]
    where
      go :
          k ≤ j
          → (disks.moment new ≡ disks.moment old + k)
          ⊎ ((disks.moment new ≡ disks.moment old + k + 1)
          × (IsTrue (disks.fails_at old (disks.moment old + k)) ⊎ (disks.room old < end)))
          → ((k ≡ j) × (disks.moment new ≡ disks.moment old + j + 1))
          ⊎ ((disks.moment new ≡ disks.moment old + k) × (k ≤ j))
      go upto (inl found) = inr (found, upto)
      go upto (inr (clock, inr full)) = absurd (omega (arith, full, le))
      go upto (inr (clock, inl told)) = elim (cases_lt k j) [
        | inl early ↦ absurd (none k early told)
        | inr late ↦
            let same : k ≡ j = omega (arith, upto, late) in
            inl (same, omega (arith, clock, same))
      ]

  -- one call that failed
  pub failed_one :
      {old new : D} (end : ℕ)
      → (disks.moment new ≡ disks.moment old) ⊎ ((disks.moment new ≡ disks.moment old + 1)
      × (IsTrue (disks.fails_at old (disks.moment old)) ⊎ (disks.room old < end)))
      → disks.fails_at new ≡ disks.fails_at old → FailedCall disks end 0 old new
  failed_one {old} {new} end why list = record {
    unlisted = λ j lt. absurd (omega (arith, lt));
    failed = go why;
    list = list;
  }
    where
      go :
          (disks.moment new ≡ disks.moment old) ⊎ ((disks.moment new ≡ disks.moment old + 1) ×
          (IsTrue (disks.fails_at old (disks.moment old)) ⊎ (disks.room old < end)))
          → (disks.moment new ≡ disks.moment old + 0)
          ⊎ ((disks.moment new ≡ disks.moment old + 0 + 1)
          × (IsTrue (disks.fails_at old (disks.moment old + 0)) ⊎ (disks.room old < end)))
      go (inl none) = inl (omega (arith, none))
      go (inr (clock, inl listed)) =
          let here : disks.moment old + 0 ≡ disks.moment old = omega arith in
          inr (omega (arith, clock), inl (rw here listed))
      go (inr (clock, inr full)) = inr (omega (arith, clock), inr full)

  -- as its answer says
  pub refused :
      {E F : Type 0} {old new : D} (end : ℕ) → (F → disks.moment new ≡ disks.moment old)
      → F ⊎ IsTrue (disks.fails_at old (disks.moment old)) ⊎ (disks.room old < end)
      → (disks.moment new ≡ disks.moment old + 1) ⊎ (E × F)
      → disks.fails_at new ≡ disks.fails_at old → FailedCall disks end 0 old new
  refused end none (inl found) clock list = failed_one end (inl (none found)) list
  refused end none (inr why) (inl counted) list = failed_one end (inr (counted, why)) list
  refused end none (inr why) (inr found) list = failed_one end (inl (none found.1)) list

-- one of the first n calls since then failed
abbrev pub FailsAmong :
    {D : Type 0} → DiskWords D → ℕ → ℕ → D → D → Type 0
FailsAmong disks end n old new =
    (k : ℕ) × (k < n) × FailedCall disks end k old new

module _ {D : Type 0} {disks : DiskWords D} where
  -- it is one of more calls, with an end that is farther
  pub among_more :
      {old new : D} (n m end far : ℕ) → n ≤ m → end ≤ far
      → FailsAmong disks end n old new → FailsAmong disks far m old new
  among_more n m end far few le fails =
      (fails.0, omega (arith, fails.1, few), failed_farther le fails.2)

  -- and one of the calls behind good ones
  pub among_then :
      {old mid new : D} (n m end far : ℕ) → GoodCalls disks n old mid
      → disks.room mid ≡ disks.room old → end ≤ far → FailsAmong disks end m mid new
      → FailsAmong disks far (n + m) old new
  among_then n m end far good same le fails =
      (n + fails.0, omega (arith, fails.1), failed_then n fails.0 end far good same le fails.2)

-- a piece of work behind calls that were good
pub calls_then :
    {D T E : Type 0} (disks : DiskWords D) {old mid : D} (new : D) (result : Result T E)
    (n m end far : ℕ) → GoodCalls disks n old mid → disks.room mid ≡ disks.room old → end ≤ far
    → MakesCalls disks end m result mid new → MakesCalls disks far (n + m) result old new
calls_then disks new (Ok x) n m end far good same le calls = good_then n m good calls
calls_then disks new (Err e) n m end far good same le calls =
    among_then n m end far good same le calls
