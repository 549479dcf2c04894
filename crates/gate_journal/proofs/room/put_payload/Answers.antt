use Rattle.std.proofs.Common.{append_assoc}
use Rattle.gate_journal.proofs.room.put_payload.Goals as goal

pub returns-in-Open-clause-value : goal.returns-in-Open-clause-value
returns-in-Open-clause-value c =
    let whole =
    simp (
      c.put-in-Open-5.ensures.value,
      c.put-in-Open-4.ensures.value,
      c.put-in-Open-3.ensures.value,
      c.put-in-Open-2.ensures.value,
      c.put-in-Open.ensures.value,
      c.put.ensures.value,
      append_assoc,
    ) at c.put-in-Open-6.ensures.value in
    rw c.in-Open.is (rw (
      c.as_slice.ensures,
      c.as_slice-in-Open.ensures,
      c.to_be_bytes.ensures,
      c.to_be_bytes-in-Open.ensures,
      c.to_be_bytes-in-Open-2.ensures,
    ) at whole)
