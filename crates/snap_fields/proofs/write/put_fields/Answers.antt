use Rattle.snap_fields.specs.Printing.{print_fields}
use Rattle.snap_fields.proofs.PutLemmas.{◌followed◌}
use Rattle.snap_fields.proofs.write.put_fields.Goals as goal

pub returns : goal.returns
unfolding print_fields
returns c =
    let undo = rw c.as_slice.ensures at c.in_ok-put_list.ensures in
    let windows = rw c.as_slice-2.ensures at c.in_ok-put_list-2.ensures in
    let streams = rw c.as_slice-3.ensures at c.in_ok-put_list-3.ensures in
    let filerefs = rw c.as_slice-4.ensures at c.in_ok-put_list-4.ensures in
    let files = rw c.as_slice-5.ensures at c.in_ok-put_list-5.ensures in
    let show = rw c.as_slice-6.ensures at c.in_ok-put_bytes.ensures in
    let h = c.in_ok-put4.ensures followed c.in_ok-put_setup.ensures
    followed c.in_ok-put_machine.ensures followed c.in_ok-put_settings.ensures
    followed c.in_ok-put_random.ensures followed undo followed c.in_ok-put_waiting.ensures
    followed c.in_ok-put_numbers.ensures followed windows followed streams followed filerefs
    followed files followed show in
    record {
      added = h.added;
      good = record {
        setup = h.good.1.0;
        machine = h.good.1.1.0;
        settings = h.good.1.1.1.0;
        random = h.good.1.1.1.1.0;
        undo = h.good.1.1.1.1.1.0;
        waiting = h.good.1.1.1.1.1.1.0;
        numbers = h.good.1.1.1.1.1.1.1.0;
        windows = h.good.1.1.1.1.1.1.1.1.0;
        streams = h.good.1.1.1.1.1.1.1.1.1.0;
        filerefs = h.good.1.1.1.1.1.1.1.1.1.1.0;
        files = h.good.1.1.1.1.1.1.1.1.1.1.1.0;
        show = h.good.1.1.1.1.1.1.1.1.1.1.1.1;
      };
    }
