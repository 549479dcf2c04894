use Rattle.snap_fields.proofs.PutLemmas.{◌followed◌}
use Rattle.snap_fields.proofs.writing.put_waiting.Goals as goal

pub returns-in_ok-put_store-in-Prompt : goal.returns-in_ok-put_store-in-Prompt
returns-in_ok-put_store-in-Prompt c =
    let h = c.in_ok-put1-in-Prompt.ensures followed c.in_ok-put4-in-Prompt.ensures
    followed c.in_ok-put4-in-Prompt-2.ensures followed c.in_ok-put4-in-Prompt-3.ensures
    followed c.in_ok-put_store-in-Prompt.ensures in
    rw c.in-Prompt.is (record {
      added = h.added;
      good = (h.good.1.0, h.good.1.1.0, h.good.1.1.1.0, h.good.1.1.1.1);
    })
