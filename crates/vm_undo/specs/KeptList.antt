-- Where undo keeps its states (own).
use Rattle.std.specs.Prelude.{List, [], Option, Some, None, Vec}
use Rattle.std.specs.declared.alloc.Global.{Global}
use Rattle.vm_undo.specs.declared.kept.KeptState.{KeptState}

-- the states of a vector, or none where none was made yet
abbrev pub kept_in : Option (Vec KeptState Global) → List KeptState
kept_in None = []
kept_in (Some states) = states.items
