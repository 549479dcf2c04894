use Rattle.snap_fields.proofs.PutLemmas.{◌followed◌}
use Rattle.snap_fields.proofs.writing.put_machine.Goals as goal

pub returns : goal.returns
returns c =
    let memory = rw c.as_slice.ensures at c.in_ok-put_bytes.ensures in
    let stack = rw c.as_slice-2.ensures at c.in_ok-put_bytes-2.ensures in
    let heap = rw c.as_slice-3.ensures at c.in_ok-put_list.ensures in
    let h = c.in_ok-put4.ensures followed c.in_ok-put4-2.ensures followed memory followed stack
    followed c.in_ok-put4-3.ensures followed heap in
    record {
      added = h.added;
      good = record {
        pc = h.good.0;
        frame = h.good.1.0;
        memory = h.good.1.1.0;
        stack = h.good.1.1.1.0;
        heap_start = h.good.1.1.1.1.0;
        heap = h.good.1.1.1.1.1;
      };
    }
