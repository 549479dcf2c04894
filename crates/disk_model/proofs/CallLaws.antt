-- Laws of a disk after its calls, and of the images of all moments since one of them (own).
use Rattle.std.proofs.Common.{◌≡◌, inl, inr, ℕ, suc, ◌≤◌, true, false, List, [], ◌∷◌, ◌++◌, length}
use Rattle.std.proofs.Common.{take, refl, ◌∙◌, ap, arith, length-append}
use Rattle.std.proofs.lemmas.List.{take_all, take-append-le}
use Rattle.std.proofs.lemmas.Bool.{cases_lt}
use Rattle.disk_model.specs.Disk.{Elapses}
use Rattle.disk_model.specs.DiskState.{DiskState, IsDiskImage, settled, IsWell}
use Rattle.disk_model.proofs.StateLaws.{well_settled, well_write}
use Rattle.disk_model.specs.declared.call.Call.{Call}
use Rattle.disk_model.specs.declared.call.Call.TheVariants.{Look, Write, Sync}
use Rattle.disk_model.specs.Calls.{state_after_call, after_calls, state_after, LeftSince}

pub well_call : (p : DiskState) (call : Call) → IsWell p → IsWell (state_after_call p call)
well_call p Look well = well
well_call p (Write place piece good) well = well_write good place piece.items p well
well_call p (Sync true) well = well_settled p.seen well.within
well_call p (Sync false) well = well

-- the last call comes last
pub after_calls-push :
    (calls : List Call) (p : DiskState) (call : Call)
    → after_calls p (calls ++ call ∷ []) ≡ state_after_call (after_calls p calls) call
after_calls-push [] p call = refl
after_calls-push (x ∷ calls) p call = after_calls-push calls (state_after_call p x) call

-- one call more keeps a state well
pub well_push :
    (start : List ℕ) (calls later : List Call) (call : Call)
    → later ≡ calls ++ call ∷ [] → IsWell (state_after start calls)
    → IsWell (state_after start later)
well_push start calls later call is well =
    rw (is, after_calls-push calls (settled start) call)
    (well_call (state_after start calls) call well)

module _ (start : List ℕ) (calls : List Call) where
  -- no call was made
  pub elapses_same :
      Elapses (length calls) (length calls) (LeftSince start calls) (LeftSince start calls)
      (IsDiskImage (state_after start calls))
  elapses_same = record {
    later = omega arith;
    nothing_else = λ t c le left. inl left;
    keeps = λ t c le left. left;
  }

  -- one call more was made
  pub elapses_push :
      (call : Call) (later_calls : List Call)
      → later_calls ≡ calls ++ call ∷ []
      → Elapses (length calls) (length later_calls) (LeftSince start calls)
      (LeftSince start later_calls) (IsDiskImage (state_after start later_calls))
  elapses_push call later_calls is = record {
    later = omega (arith, longer);
    nothing_else = λ t c le left. elim (cases_lt (length calls) left.0) [
      | inl new ↦ inr (rw (take_all left.0 later_calls (omega (arith, longer))) at left.3)
      | inr old ↦ inl (left.0, left.1, old, rw (same left.0 old) at left.3)
    ];
    keeps = λ t c le left.
        (left.0, left.1, omega (arith, left.2, longer), rw (same left.0 left.2) left.3);
  }
    where
      longer : length later_calls ≡ suc (length calls)
      longer = omega (arith, ap length is, length-append calls (call ∷ []))

      same : (k : ℕ) → k ≤ length calls → take k later_calls ≡ take k calls
      same k le = ap (λ (l : List Call). take k l) is ∙ take-append-le k calls (call ∷ []) le
