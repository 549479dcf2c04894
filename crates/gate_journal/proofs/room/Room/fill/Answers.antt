use Rattle.std.proofs.Common.{refl, ◌+◌}
use Rattle.gate_journal.proofs.room.Room.fill.Goals as goal

pub returns-clause-bytes : goal.returns-clause-bytes
returns-clause-bytes c =
    c.put_row.ensures (record {
      place = c.args.place;
      session = c.args.session;
      by = c.args.session + 1;
      command = c.command_in.result;
    }) refl
    c.command_in.ensures
