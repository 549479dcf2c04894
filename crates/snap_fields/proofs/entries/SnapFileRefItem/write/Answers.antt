use Rattle.snap_fields.proofs.PutLemmas.{◌followed◌}
use Rattle.snap_fields.proofs.entries.SnapFileRefItem.write.Goals as goal

pub returns : goal.returns
returns c =
    let name = rw c.as_slice.ensures at c.in_ok-put_list.ensures in
    let h = c.in_ok-put4.ensures followed c.in_ok-put4-2.ensures
    followed c.in_ok-put4-3.ensures followed name in
    record {
      added = h.added;
      good = record {
        number = h.good.0;
        usage = h.good.1.0;
        rock = h.good.1.1.0;
        name = h.good.1.1.1;
      };
    }
