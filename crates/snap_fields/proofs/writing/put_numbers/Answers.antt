use Rattle.snap_fields.proofs.PutLemmas.{◌followed◌}
use Rattle.snap_fields.proofs.writing.put_numbers.Goals as goal

pub returns : goal.returns
returns c =
    let h = c.in_ok-put4.ensures followed c.in_ok-put4-2.ensures followed c.in_ok-put4-3.ensures
    followed c.in_ok-put4-4.ensures followed c.in_ok-put4-5.ensures in
    record {
      added = h.added;
      good = record {
        window = h.good.0;
        stream = h.good.1.0;
        fileref = h.good.1.1.0;
        root = h.good.1.1.1.0;
        current = h.good.1.1.1.1;
      };
    }
