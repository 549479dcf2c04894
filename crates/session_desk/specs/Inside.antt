-- A desk's state by its fields, and what holds of these (own).
use Rattle.disk_model.specs.declared.disk.Disk.{Ghosts as DiskWords}
use Rattle.turn_cell.specs.Passes.{seen}
use Rattle.gate_journal.specs.Log.{rows_of}
use Rattle.session_desk.specs.declared.desk.Desk.TheInside.{Inside}
use Rattle.session_desk.specs.Desk.{BeginsAt, IsDesk}
use Rattle.session_desk.specs.Marks.{commands_woven}
use Rattle.session_desk.specs.Shared.{SharedState}
use Rattle.session_desk.specs.Sound.{IsWhole}

abbrev pub state_of : {D : Type 0} → Inside D → SharedState D
state_of d = record {
  desk = record {
    session = d.session;
    stories = d.stories.now;
    budget = d.budget;
    commands = d.commands.items;
    held = d.held;
  };
  history = commands_woven d.marks.items d.commands.items;
  pass = d.pass;
  saves = d.saves;
  store = d.store.value;
  rows = rows_of (seen d.first.value);
}

abbrev pub IsWholeInside : {D : Type 0} → DiskWords D → Inside D → Type 0
IsWholeInside disks d =
    IsDesk (state_of d).desk
    × BeginsAt d.begins d.commands.items
    × IsWhole disks d.marks.items d.place (state_of d)
