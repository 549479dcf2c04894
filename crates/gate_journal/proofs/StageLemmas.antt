-- Which device call of an append failed, and how that leaves the gate.
use Rattle.std.proofs.Common.{◌≡◌, ℕ, zero, suc, ◌+◌, ◌<◌, ◌≤◌, List, [], ◌∷◌, ◌++◌, length}
use Rattle.std.proofs.Common.{refl, sym, ◌∙◌, ap, subst, arith, length-append}
use Rattle.std.specs.Prelude.{IsTrue, Option, Some, None, slice_get, is_none, false}
use Rattle.disk_model.specs.Work.{GoodCalls, FailedCall}
use Rattle.disk_model.specs.declared.disk.Disk.{Ghosts as DiskWords}
use Rattle.disk_model.proofs.CountLaws.{good_then, failed_then, failed_farther}
use Rattle.gate_journal.specs.declared.command.Command.{Command}
use Rattle.gate_journal.specs.declared.row.Row.{Row}
use Rattle.gate_journal.specs.Rows.{row_body, journal_bytes}
use Rattle.gate_journal.specs.Log.{Log, rows_of, next_row, row_end, gates_left, repair_calls}

calls_all : (u : Option Row) (r : Row) → repair_calls u + 4 ≡ length (gates_left u r)
calls_all None r = refl
calls_all (Some u) r = refl

-- of a gate that is uncertain
pub two_calls : (u : Option Row) → is_none u ≡ false → repair_calls u ≡ 2
two_calls None some = absurd (cc)
two_calls (Some u) some = refl

left_repair : (u : Option Row) (r : Row) (k : ℕ) → k < repair_calls u
    → slice_get (gates_left u r) k ≡ Some u
left_repair None r k lt = absurd (omega (arith, lt))
left_repair (Some u) r zero lt = refl
left_repair (Some u) r (suc zero) lt = refl
left_repair (Some u) r (suc (suc k)) lt = absurd (omega (arith, lt))

left_row : (u : Option Row) (r : Row) (k : ℕ) → k < 2
    → slice_get (gates_left u r) (repair_calls u + k) ≡ Some None
left_row None r zero lt = refl
left_row None r (suc zero) lt = refl
left_row None r (suc (suc k)) lt = absurd (omega (arith, lt))
left_row (Some u) r zero lt = refl
left_row (Some u) r (suc zero) lt = refl
left_row (Some u) r (suc (suc k)) lt = absurd (omega (arith, lt))

left_gate : (u : Option Row) (r : Row) (k : ℕ) → k < 2
    → slice_get (gates_left u r) (repair_calls u + (2 + k)) ≡ Some (Some r)
left_gate None r zero lt = refl
left_gate None r (suc zero) lt = refl
left_gate None r (suc (suc k)) lt = absurd (omega (arith, lt))
left_gate (Some u) r zero lt = refl
left_gate (Some u) r (suc zero) lt = refl
left_gate (Some u) r (suc (suc k)) lt = absurd (omega (arith, lt))

-- what an append says of the call that failed
abbrev Stage :
    {D : Type 0} → DiskWords D → ℕ → Command → Log D → D → Option Row → Type 0
Stage disks session command log new left =
    IsTrue (disks.tells log.disk) → (k : ℕ) × FailedCall disks
    (row_end (next_row (rows_of log.entries) session command)) k log.disk new
    × (slice_get (gates_left log.uncertain (next_row (rows_of log.entries) session command)) k
    ≡ Some left)

-- and of all of them
abbrev Calls :
    {D : Type 0} → DiskWords D → ℕ → Command → Log D → D → Type 0
Calls disks session command log new =
    IsTrue (disks.tells log.disk) → GoodCalls disks
    (length (gates_left log.uncertain (next_row (rows_of log.entries) session command)))
    log.disk new

row_is :
    {end : ℕ} {q : Row} (rows : List Row) (session : ℕ) (command : Command)
    → end ≡ length (journal_bytes rows)
    → q ≡ record { place = end; session = session; by = session + 1; command = command }
    → q ≡ next_row rows session command
row_is rows session command ends made =
    made
    ∙ ap (λ (k : ℕ). record {
      place = k;
      session = session;
      by = session + 1;
      command = command;
    }) ends

reach_is :
    {end : ℕ} {q : Row} {past : List ℕ} (rows : List Row) (session : ℕ) (command : Command)
    → end ≡ length (journal_bytes rows) → q ≡ next_row rows session command
    → past ≡ row_body q ++ 0 ∷ []
    → end + 1 + length past ≤ row_end (next_row rows session command)
reach_is {q = q} rows session command ends made bytes =
    let size : length (row_body q) ≡ length (row_body (next_row rows session command)) =
    ap (λ (x : Row). length (row_body x)) made in
    omega (arith, ends, ap length bytes, length-append (row_body q) (0 ∷ []), size)

module _ {D : Type 0} (disks : DiskWords D) {log old : Log D} {end : ℕ} (session : ℕ)
    (command : Command) (is : log ≡ old)
    (ends : end ≡ length (journal_bytes (rows_of log.entries))) where
  -- a call of the repair failed
  pub stage_repair :
      {new : D} {left : Option Row}
      → (IsTrue (disks.tells log.disk) → (k : ℕ) × (k < repair_calls log.uncertain)
      × FailedCall disks (end + 1) k log.disk new)
      → left ≡ log.uncertain → Stage disks session command old new left
  stage_repair {left = left} failed so =
      rw (← is) (λ told.
      let at = failed told in
      let r = next_row (rows_of log.entries) session command in (
        at.0,
        failed_farther (omega (arith, ends)) at.2,
        left_repair log.uncertain r at.0 at.1 ∙ ap (λ (u : Option Row). Some u) (sym so),
      ))

  module _
      {mid : D}
      (repairs : IsTrue (disks.tells log.disk)
      → GoodCalls disks (repair_calls log.uncertain) log.disk mid)
      (same : disks.tells mid ≡ disks.tells log.disk)
      (size : disks.room mid ≡ disks.room log.disk) {q : Row} {past : List ℕ}
      (made : q ≡ record { place = end; session = session; by = session + 1; command = command })
      (bytes : past ≡ row_body q ++ 0 ∷ []) where
    -- a call of the row
    pub stage_row :
        {new : D} {left : Option Row}
        → (IsTrue (disks.tells mid) → (k : ℕ) × (k < 2)
        × FailedCall disks (end + 1 + length past) k mid new)
        → left ≡ None → Stage disks session command old new left
    stage_row {left = left} failed so =
        let rows = rows_of log.entries in
        let r = next_row rows session command in
        let is_row = row_is rows session command ends made in
        rw (← is) (λ told.
        let at = failed (rw same told) in (
          repair_calls log.uncertain + at.0,
          failed_then (repair_calls log.uncertain) at.0 (end + 1 + length past) (row_end r)
              (repairs told) size (reach_is rows session command ends is_row bytes) at.2,
          left_row log.uncertain r at.0 at.1 ∙ ap (λ (u : Option Row). Some u) (sym so),
        ))

    -- a call of its gate
    pub stage_gate :
        {new : D} {left : Option Row}
        → (IsTrue (disks.tells mid) → (k : ℕ) × (k < 2)
        × FailedCall disks (end + 1 + length past) (2 + k) mid new)
        → left ≡ Some q → Stage disks session command old new left
    stage_gate {left = left} failed so =
        let rows = rows_of log.entries in
        let r = next_row rows session command in
        let is_row = row_is rows session command ends made in
        rw (← is) (λ told.
        let at = failed (rw same told) in (
          repair_calls log.uncertain + (2 + at.0),
          failed_then (repair_calls log.uncertain) (2 + at.0) (end + 1 + length past) (row_end r)
              (repairs told) size (reach_is rows session command ends is_row bytes) at.2,
          left_gate log.uncertain r at.0 at.1
              ∙ ap (λ (x : Row). Some (Some x)) (sym is_row)
              ∙ ap (λ (u : Option Row). Some u) (sym so),
        ))

    -- none failed
    pub calls_row :
        {new : D} → (IsTrue (disks.tells mid) → GoodCalls disks 4 mid new)
        → Calls disks session command old new
    calls_row {new = new} good =
        rw (← is) (λ told.
        subst (λ (n : ℕ). GoodCalls disks n log.disk new)
        (calls_all log.uncertain (next_row (rows_of log.entries) session command))
        (good_then (repair_calls log.uncertain) 4 (repairs told) (good (rw same told))))
