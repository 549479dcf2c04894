use Rattle.std.proofs.Common.{◌≡◌, ◌+◌, ◌++◌, ◌∷◌, [], ◌∙◌, ℕ, refl, ap, arith, length, rules}
use Rattle.gate_journal.specs.Rows.{row_body}
use Rattle.disk_model.proofs.Moments.{holds_now}
use Rattle.gate_journal.proofs.AppendLemmas.{faulted_rows, kept_rows, crash_repair}
use Rattle.gate_journal.proofs.AppendLemmas.{crash_row, row_is, sound_unrepaired}
use Rattle.gate_journal.proofs.AppendLemmas.{sound_before, sound_at_gate, sound_row}
use Rattle.gate_journal.proofs.SinceLemmas.{since_more, asked_row, same_then}
use Rattle.gate_journal.proofs.SinceLemmas.{unsure_still, unsure_now, unsure_none}
use Rattle.gate_journal.proofs.StageLemmas.{stage_repair, stage_row, stage_gate, calls_row}
use Rattle.gate_journal.proofs.journal.Journal.append.Goals as goal

-- the repair failed
pub returns-in_default-clause-rows : goal.returns-in_default-clause-rows
returns-in_default-clause-rows g c = faulted_rows _ _ _ c.self.view_is c.note_fault-fault.ensures.entry

pub returns-in_default-clause-crash : goal.returns-in_default-clause-crash
returns-in_default-clause-crash g c =
    crash_repair c.self.view_is c.self.invariant.0 c.requires.stands c.settle.ensures.triple

pub invariant_of-self : goal.invariant_of-self
invariant_of-self g c =
    let sound = c.self.invariant.0 in
    let now =
    sound_unrepaired c.self.view_is sound c.requires.stands _ c.in_default.ensures.gate
    (λ told. holds_now g.D.Disk c.self.inside.disk c.settle.new.disk _
    (g.met.D.Disk.counts_now c.settle.new.disk)
    (let told_then = rw c.settle.ensures.ran.same.telling at told in
    (c.settle.ensures.triple _ sound.ends).meanwhile told_then (sound.images told_then)))
    c.note_fault-fault.ensures.entry c.settle.ensures.ran.same.size c.faults-from.ensures.value
    c.faults-to.ensures.value refl c.in_default.ensures.ran.counts
    in (
      now,
      since_more c.self.view_is c.self.invariant.1 c.requires.stands _ _
          c.note_fault-fault.ensures.entry
          (row_is c.self.view_is sound c.requires.stands c.fill-row.ensures.row)
          c.note.ensures
          (unsure_still c.self.view_is c.self.invariant.1 c.requires.stands _ _ _
          c.note_fault-fault.ensures.entry c.in_default.ensures.gate) c.settle.ensures.ran.same
          (returns-in_default-clause-crash g c)
          (omega (arith, sound.ends, c.settle.ensures.ran.asked))
          (g.met.D.Disk.only_now c.settle.new.disk) now,
    )

-- the row was written
pub returns-in-Ok-write_row-clause-rows : goal.returns-in-Ok-write_row-clause-rows
returns-in-Ok-write_row-clause-rows g c =
    kept_rows c.self.view_is c.self.invariant.0 c.requires.stands c.note_row.ensures
    c.fill-row.ensures.row

pub returns-in-Ok-write_row-clause-crash : goal.returns-in-Ok-write_row-clause-crash
returns-in-Ok-write_row-clause-crash g c =
    crash_row c.self.view_is c.self.invariant.0 c.requires.stands c.in-Ok.ensures.triple
    c.settle.ensures.ran.same.telling c.fill-row.ensures.row
    (c.deref.ensures.value ∙ c.fill-row.ensures.bytes) c.write_row.ensures.triple

pub invariant_of-self-in-Ok-write_row : goal.invariant_of-self-in-Ok-write_row
invariant_of-self-in-Ok-write_row g c =
    let past = c.deref.result.now in
    let bytes : past ≡ row_body c.fill-row.result.0 ++ 0 ∷ [] =
    c.deref.ensures.value ∙ c.fill-row.ensures.bytes in
    let size : c.len.result ≡ length past = search rules in
    let now =
    sound_row c.self.view_is c.self.invariant.0 c.requires.stands c.in-Ok.ensures.triple
    c.settle.ensures.ran.same.telling c.fill-row.ensures.row bytes c.in-Ok.ensures.gate
    c.in-Ok-write_row.ensures.triple c.write_row.ensures.ran.same.telling
    c.note_row.ensures (c.write_row.ensures.ran.same.size ∙ c.settle.ensures.ran.same.size)
    (omega (arith, c.in-Ok.ensures.ran.counts, c.in-Ok-write_row.ensures.ran.counts))
    (ap (λ (k : ℕ). c.self.inside.end + k) size)
    (omega (arith, c.in-Ok-write_row.ensures.fits, c.write_row.ensures.ran.same.size, size))
    in (
      now,
      since_more c.self.view_is c.self.invariant.1 c.requires.stands _ _ c.note_row.ensures
          (row_is c.self.view_is c.self.invariant.0 c.requires.stands c.fill-row.ensures.row)
          c.note-in-Ok-write_row.ensures
          (unsure_none _ c.in-Ok.ensures.gate)
          (same_then g.D.Disk c.settle.ensures.ran.same c.write_row.ensures.ran.same)
          (returns-in-Ok-write_row-clause-crash g c)
          (asked_row c.self.view_is c.self.invariant.1 c.requires.stands _ _ _ _
          c.self.invariant.0.ends c.fill-row.ensures.row bytes c.settle.ensures.ran.asked
          c.write_row.ensures.ran.asked)
          (g.met.D.Disk.only_now c.write_row.new.disk) now,
    )

-- the row failed before its gate
pub returns-in-Err-Before-clause-rows : goal.returns-in-Err-Before-clause-rows
returns-in-Err-Before-clause-rows g c =
    faulted_rows _ _ _ c.self.view_is c.note_fault-fault-in-Err-Before.ensures.entry

pub returns-in-Err-Before-clause-crash : goal.returns-in-Err-Before-clause-crash
returns-in-Err-Before-clause-crash g c =
    crash_row c.self.view_is c.self.invariant.0 c.requires.stands c.in-Ok.ensures.triple
    c.settle.ensures.ran.same.telling c.fill-row.ensures.row
    (c.deref.ensures.value ∙ c.fill-row.ensures.bytes) c.write_row.ensures.triple

pub invariant_of-self-in-Err-Before : goal.invariant_of-self-in-Err-Before
invariant_of-self-in-Err-Before g c =
    let now =
    sound_before c.self.view_is c.self.invariant.0 c.requires.stands c.in-Ok.ensures.triple
    c.settle.ensures.ran.same.telling _ c.in-Ok.ensures.gate
    (c.in-Err-Before.ensures.before (search rules))
    c.note_fault-fault-in-Err-Before.ensures.entry
    (c.write_row.ensures.ran.same.size ∙ c.settle.ensures.ran.same.size)
    c.faults-from.ensures.value
    c.faults-to-in-Err-Before.ensures.value c.in-Ok.ensures.ran.counts
    c.in-Err-Before.ensures.ran.counts
    in (
      now,
      since_more c.self.view_is c.self.invariant.1 c.requires.stands _ _
          c.note_fault-fault-in-Err-Before.ensures.entry
          (row_is c.self.view_is c.self.invariant.0 c.requires.stands c.fill-row.ensures.row)
          c.note-in-Err-Before.ensures
          (unsure_none _ c.in-Ok.ensures.gate)
          (same_then g.D.Disk c.settle.ensures.ran.same c.write_row.ensures.ran.same)
          (returns-in-Err-Before-clause-crash g c)
          (asked_row c.self.view_is c.self.invariant.1 c.requires.stands _ _ _ _ c.self.invariant.0.ends
          c.fill-row.ensures.row (c.deref.ensures.value ∙ c.fill-row.ensures.bytes)
          c.settle.ensures.ran.asked c.write_row.ensures.ran.asked)
          (g.met.D.Disk.only_now c.write_row.new.disk) now,
    )

-- and at its gate
pub returns-clause-rows : goal.returns-clause-rows
returns-clause-rows g c = faulted_rows _ _ _ c.self.view_is c.note_fault-fault-in-Err-AtGate.ensures.entry

pub returns-clause-crash : goal.returns-clause-crash
returns-clause-crash g c =
    crash_row c.self.view_is c.self.invariant.0 c.requires.stands c.in-Ok.ensures.triple
    c.settle.ensures.ran.same.telling c.fill-row.ensures.row
    (c.deref.ensures.value ∙ c.fill-row.ensures.bytes) c.write_row.ensures.triple

pub invariant_of-self-in-Err-AtGate : goal.invariant_of-self-in-Err-AtGate
invariant_of-self-in-Err-AtGate g c =
    let now =
    sound_at_gate c.self.view_is c.self.invariant.0 c.requires.stands c.in-Ok.ensures.triple
    c.settle.ensures.ran.same.telling c.fill-row.ensures.row
    (c.deref.ensures.value ∙ c.fill-row.ensures.bytes) c.note_uncertain.ensures
    (c.in-Err-AtGate.ensures.at_gate (search rules))
    c.note_fault-fault-in-Err-AtGate.ensures.entry
    (c.write_row.ensures.ran.same.size ∙ c.settle.ensures.ran.same.size)
    c.faults-from.ensures.value
    c.faults-to-in-Err-AtGate.ensures.value c.in-Ok.ensures.ran.counts
    c.in-Err-AtGate.ensures.ran.counts
    in (
      now,
      since_more c.self.view_is c.self.invariant.1 c.requires.stands _ _
          c.note_fault-fault-in-Err-AtGate.ensures.entry
          (row_is c.self.view_is c.self.invariant.0 c.requires.stands c.fill-row.ensures.row)
          c.note-in-Err-AtGate.ensures
          (unsure_now c.self.view_is c.self.invariant.1 c.requires.stands c.fill-row.result.0 _ _
          c.note_fault-fault-in-Err-AtGate.ensures.entry c.note_uncertain.ensures)
          (same_then g.D.Disk c.settle.ensures.ran.same c.write_row.ensures.ran.same)
          (crash_row c.self.view_is c.self.invariant.0 c.requires.stands c.in-Ok.ensures.triple
          c.settle.ensures.ran.same.telling c.fill-row.ensures.row
          (c.deref.ensures.value ∙ c.fill-row.ensures.bytes) c.write_row.ensures.triple)
          (asked_row c.self.view_is c.self.invariant.1 c.requires.stands _ _ _ _ c.self.invariant.0.ends
          c.fill-row.ensures.row (c.deref.ensures.value ∙ c.fill-row.ensures.bytes)
          c.settle.ensures.ran.asked c.write_row.ensures.ran.asked)
          (g.met.D.Disk.only_now c.write_row.new.disk) now,
    )

-- which device call failed
pub returns-in_default-clause-stage : goal.returns-in_default-clause-stage
returns-in_default-clause-stage g c =
    stage_repair g.D.Disk c.args.session
    c.args.command.now c.self.view_is c.self.invariant.0.ends c.in_default.ensures.calls
    c.in_default.ensures.gate

pub returns-in-Err-Before-clause-stage : goal.returns-in-Err-Before-clause-stage
returns-in-Err-Before-clause-stage g c =
    stage_row g.D.Disk c.args.session
    c.args.command.now c.self.view_is c.self.invariant.0.ends c.in-Ok.ensures.calls
    c.settle.ensures.ran.same.telling c.settle.ensures.ran.same.size c.fill-row.ensures.row
    (c.deref.ensures.value ∙ c.fill-row.ensures.bytes)
    (c.in-Err-Before.ensures.row_failed (search rules)) c.in-Ok.ensures.gate

pub returns-clause-stage : goal.returns-clause-stage
returns-clause-stage g c =
    stage_gate g.D.Disk c.args.session
    c.args.command.now c.self.view_is c.self.invariant.0.ends c.in-Ok.ensures.calls
    c.settle.ensures.ran.same.telling c.settle.ensures.ran.same.size c.fill-row.ensures.row
    (c.deref.ensures.value ∙ c.fill-row.ensures.bytes)
    (c.in-Err-AtGate.ensures.gate_failed (search rules)) c.note_uncertain.ensures

pub returns-in-Ok-write_row-clause-calls : goal.returns-in-Ok-write_row-clause-calls
returns-in-Ok-write_row-clause-calls g c =
    calls_row g.D.Disk c.args.session
    c.args.command.now c.self.view_is c.self.invariant.0.ends c.in-Ok.ensures.calls
    c.settle.ensures.ran.same.telling c.settle.ensures.ran.same.size c.fill-row.ensures.row
    (c.deref.ensures.value ∙ c.fill-row.ensures.bytes) c.in-Ok-write_row.ensures.calls
