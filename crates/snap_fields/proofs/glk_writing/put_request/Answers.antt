use Rattle.snap_fields.proofs.PutLemmas.{◌followed◌}
use Rattle.snap_fields.proofs.glk_writing.put_request.Goals as goal

pub returns-in_ok-put_list-in-Line : goal.returns-in_ok-put_list-in-Line
returns-in_ok-put_list-in-Line c =
    let terminators = rw c.as_slice.ensures at c.in_ok-put_list-in-Line.ensures in
    let h = c.in_ok-put1-in-Line.ensures followed c.in_ok-put_flag1-in-Line.ensures
    followed c.in_ok-put4-in-Line.ensures followed c.in_ok-put4-in-Line-2.ensures
    followed c.in_ok-put4-in-Line-3.ensures followed c.in_ok-put_flag1-in-Line-2.ensures
    followed terminators in
    rw c.in-Line.is (record {
      added = h.added;
      good = (h.good.1.1.0, h.good.1.1.1.0, h.good.1.1.1.1.0, h.good.1.1.1.1.1.1);
    })
