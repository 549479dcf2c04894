-- A history as it is kept: the commands apart, and marks for who made each entry (own).
use Rattle.std.specs.Prelude.{ℕ, suc, List, [], ◌∷◌, Result, Ok, Err}
use Rattle.gate_journal.specs.declared.command.Command.{Command}
use Rattle.session_core.specs.declared.entry.Entry.{Entry}
use Rattle.session_core.specs.declared.entry.Entry.TheVariants as entries
use Rattle.session_desk.specs.declared.refused.Refused.{Refused}
use Rattle.session_desk.specs.declared.refused.Refused.TheVariants.{DiskFault, NoMemory}
use Rattle.session_desk.specs.declared.desk.mark.Mark.{Mark}
use Rattle.session_desk.specs.declared.desk.mark.Mark.TheVariants.{Accepted, Faulted}

-- how many marks are of commands
abbrev pub count_commands : List Mark → ℕ
count_commands [] = 0
count_commands (Accepted by ∷ more) = suc (count_commands more)
count_commands (Faulted by from to ∷ more) = count_commands more

-- the entries: each mark of a command takes the next command
abbrev pub commands_woven : List Mark → List Command → List Entry
commands_woven [] commands = []
commands_woven (Accepted by ∷ more) [] = []
commands_woven (Accepted by ∷ more) (c ∷ commands) =
    entries.Accepted by c ∷ commands_woven more commands
commands_woven (Faulted by from to ∷ more) commands =
    entries.Faulted by from to ∷ commands_woven more commands

-- the marks of what a commit by the pass of this number gave
abbrev pub marks_by : {T : Type 0} → ℕ → Result T Refused → List Mark
marks_by by (Ok x) = Accepted by ∷ []
marks_by by (Err (DiskFault fault)) = Faulted by fault.from fault.to ∷ []
marks_by by (Err NoMemory) = []
