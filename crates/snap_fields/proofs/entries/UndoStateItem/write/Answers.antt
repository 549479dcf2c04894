use Rattle.snap_fields.proofs.PutLemmas.{◌followed◌}
use Rattle.snap_fields.proofs.entries.UndoStateItem.write.Goals as goal

pub returns : goal.returns
returns c =
    let contents = rw c.as_slice.ensures at c.in_ok-put_bytes.ensures in
    let stack = rw c.as_slice-2.ensures at c.in_ok-put_bytes-2.ensures in
    let heap = rw c.as_slice-3.ensures at c.in_ok-put_list.ensures in
    let h = contents followed stack followed c.in_ok-put4.ensures followed heap in
    record {
      added = h.added;
      good = record {
        contents = h.good.0;
        stack = h.good.1.0;
        heap_start = h.good.1.1.0;
        heap = h.good.1.1.1;
      };
    }
