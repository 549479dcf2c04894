use Rattle.snap_fields.proofs.PutLemmas.{◌followed◌}
use Rattle.snap_fields.proofs.entries.SnapStreamItem.write.Goals as goal

pub returns : goal.returns
returns c =
    let kind = rw c.kind.ensures at c.in_ok-put1.ensures in
    let h = c.in_ok-put4.ensures followed kind followed c.in_ok-put4-2.ensures
    followed c.in_ok-put4-3.ensures followed c.in_ok-put4-4.ensures
    followed c.in_ok-put4-5.ensures followed c.in_ok-put4-6.ensures
    followed c.in_ok-put4-7.ensures followed c.in_ok-put_flag1.ensures
    followed c.in_ok-put_target.ensures in
    record {
      added = h.added;
      good = record {
        number = h.good.0;
        rock = h.good.1.1.0;
        mode = h.good.1.1.1.0;
        style = h.good.1.1.1.1.0;
        read = h.good.1.1.1.1.1.0;
        written = h.good.1.1.1.1.1.1.0;
        position = h.good.1.1.1.1.1.1.1.0;
        target = h.good.1.1.1.1.1.1.1.1.1;
      };
    }
