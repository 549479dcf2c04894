use Rattle.snap_fields.proofs.PutLemmas.{◌followed◌}
use Rattle.snap_fields.proofs.glk_writing.put_content.Goals as goal

pub returns-in_ok-put4-in-Pair-5 : goal.returns-in_ok-put4-in-Pair-5
returns-in_ok-put4-in-Pair-5 c =
    let h = c.in_ok-put4-in-Pair.ensures followed c.in_ok-put4-in-Pair-2.ensures
    followed c.in_ok-put4-in-Pair-3.ensures followed c.in_ok-put4-in-Pair-4.ensures
    followed c.in_ok-put4-in-Pair-5.ensures in
    rw c.in-Pair.is (record {
      added = h.added;
      good = (h.good.0, h.good.1.0, h.good.1.1.0, h.good.1.1.1.0, h.good.1.1.1.1);
    })
