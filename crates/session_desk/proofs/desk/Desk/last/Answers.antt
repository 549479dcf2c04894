use Rattle.std.proofs.Common.{◌≡◌, ◌==◌, false, length, refl, ◌∙◌}
use Rattle.session_core.specs.History.{game_of, is_in_use}
use Rattle.session_desk.specs.Desk.{world_now}
use Rattle.session_desk.proofs.HeldLemmas.{shown-held, shown-closed}
use Rattle.session_desk.proofs.desk.Desk.last.Goals as goal

pub returns-in-Current-clause-value : goal.returns-in-Current-clause-value
returns-in-Current-clause-value g c =
    let used = rw c.in-Current.is at c.self.invariant.0.in_use in
    rw (← c.self.view_is)
    (rw c.in-Current.is (c.last.ensures.value
    ∙ shown-held (game_of c.self.inside.commands.items) c.in-Current.world used))

pub returns-in_default-3 : goal.returns-in_default-3
returns-in_default-3 g c =
    let free : is_in_use (game_of c.self.inside.commands.items) ≡ false = cc in
    let some : (length (game_of c.self.inside.commands.items) == 0) ≡ false = cc in
    rw (← c.self.view_is)
    (record {
      cold = rw free refl;
      value =
          shown-closed (game_of c.self.inside.commands.items)
          (world_now c.self.inside.held) free some;
    })
