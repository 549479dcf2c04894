use Rattle.snap_fields.proofs.PutLemmas.{◌followed◌}
use Rattle.snap_fields.proofs.entries.SnapWindowItem.write.Goals as goal

pub returns : goal.returns
returns c =
    let kind = rw c.kind.ensures at c.in_ok-put4-2.ensures in
    let terminators = rw c.as_slice.ensures at c.in_ok-put_list.ensures in
    let h = c.in_ok-put4.ensures followed kind followed c.in_ok-put4-3.ensures
    followed c.in_ok-put4-4.ensures followed c.in_ok-put4-5.ensures
    followed c.in_ok-put4-6.ensures followed c.in_ok-put_flag4.ensures followed terminators
    followed c.in_ok-put_area.ensures followed c.in_ok-put_content.ensures
    followed c.in_ok-put_request.ensures in
    record {
      added = h.added;
      good = record {
        number = h.good.0;
        rock = h.good.1.1.0;
        stream = h.good.1.1.1.0;
        echo_stream = h.good.1.1.1.1.0;
        parent = h.good.1.1.1.1.1.0;
        terminators = h.good.1.1.1.1.1.1.1.0;
        area = h.good.1.1.1.1.1.1.1.1.0;
        content = h.good.1.1.1.1.1.1.1.1.1.0;
        request = h.good.1.1.1.1.1.1.1.1.1.1;
      };
    }
