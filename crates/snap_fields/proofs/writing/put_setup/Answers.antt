use Rattle.snap_fields.proofs.PutLemmas.{◌followed◌}
use Rattle.snap_fields.proofs.writing.put_setup.Goals as goal

pub returns : goal.returns
returns c =
    let h = c.in_ok-put8.ensures followed c.in_ok-put1.ensures followed c.in_ok-put1-2.ensures
    followed c.in_ok-put8-2.ensures in
    record {
      added = h.added;
      good = record {
        seed = h.good.0;
        cols = h.good.1.0;
        rows = h.good.1.1.0;
        budget = h.good.1.1.1;
      };
    }
