use Rattle.snap_fields.proofs.PutLemmas.{◌followed◌}
use Rattle.snap_fields.proofs.writing.put_settings.Goals as goal

pub returns : goal.returns
returns c =
    let h = c.in_ok-put4.ensures followed c.in_ok-put4-2.ensures followed c.in_ok-put4-3.ensures
    followed c.in_ok-put4-4.ensures followed c.in_ok-put4-5.ensures in
    record {
      added = h.added;
      good = record {
        mode = h.good.0;
        rock = h.good.1.0;
        string_table = h.good.1.1.0;
        protect_start = h.good.1.1.1.0;
        protect_length = h.good.1.1.1.1;
      };
    }
