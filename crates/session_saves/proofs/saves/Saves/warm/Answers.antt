use Rattle.std.proofs.Common.{◌∙◌, ◌+◌, ap, arith, ℕ, Option, sym, subst}
use Rattle.std.specs.Prelude.{IsTrue}
use Rattle.story_run.specs.declared.setup.Setup.{Setup}
use Rattle.snap_store.specs.File.{area_given, newest_area}
use Rattle.snap_store.specs.declared.area.Area.{Area}
use Rattle.session_saves.specs.Agreement.{IsAgreed}
use Rattle.session_saves.specs.Game.{inputs_of, turns_after}
use Rattle.session_saves.specs.Warming.{FindsArea, Warms, count_in}
use Rattle.session_saves.specs.Saves.{SavesState}
use Rattle.session_saves.proofs.GameLemmas.{inputs_within}
use Rattle.session_saves.proofs.WarmingLemmas.{no_story, warms_own}
use Rattle.session_saves.proofs.saves.Saves.warm.Goals as goal

pub overflow_cast-most : goal.overflow_cast-most
overflow_cast-most g c =
    omega (arith, c.requires, inputs_within c.args.game.now, c.inputs_of-most.ensures.value)

pub returns-in_default-clause-found : goal.returns-in_default-clause-found
returns-in_default-clause-found g c =
    no_story (g.D.Disk.tells c.args.self.now.store.disk) (g.D.Disk.seen c.args.self.now.store.disk)
    c.args.place (g.D.Disk.faults c.args.self.now.store.disk)
    c.args.stories.now c.args.game.now c.args.steps.now c.in_default.ensures

pub returns-clause-value : goal.returns-clause-value
returns-clause-value g c rows told last same agreed =
    let store = c.self.inside.store in
    let story = c.in-Some.story.now in
    let told_inside = subst (λ (s : SavesState g.row.D.Denot). IsTrue (g.D.Disk.tells s.store.disk))
    (sym c.self.view_is) told in
    let agreed_inside = subst (λ (s : SavesState g.row.D.Denot).
    IsAgreed g.D.Disk.seen c.args.stories.now rows c.args.game.now s.store) (sym c.self.view_is)
    agreed in
    let warms = subst (λ (s : Setup).
    Warms story s (inputs_of c.args.game.now) c.in_ok-area.area c.in_ok-world.world
    c.args.steps.now c.play.new.steps) c.in-Some.ensures.1 c.in_ok-world.ensures in
    (warms_own g.D.Disk.seen c.has_one_world.ensures c.args.stories.now rows c.args.game.now
    c.args.place store last same agreed_inside story c.in-Some.ensures.0
    c.inputs_of-most.result c.in_ok-area.area c.in_ok-world.world c.args.steps.now c.play.new.steps
    (c.in_ok-area.ensures.given told_inside) warms).0

pub returns-clause-cost : goal.returns-clause-cost
returns-clause-cost g c rows told steady last same agreed =
    let store = c.self.inside.store in
    let story = c.in-Some.story.now in
    let told_inside = subst (λ (s : SavesState g.row.D.Denot). IsTrue (g.D.Disk.tells s.store.disk))
    (sym c.self.view_is) told in
    let agreed_inside = subst (λ (s : SavesState g.row.D.Denot).
    IsAgreed g.D.Disk.seen c.args.stories.now rows c.args.game.now s.store) (sym c.self.view_is)
    agreed in
    let warms = subst (λ (s : Setup).
    Warms story s (inputs_of c.args.game.now) c.in_ok-area.area c.in_ok-world.world
    c.args.steps.now c.play.new.steps) c.in-Some.ensures.1 c.in_ok-world.ensures in
    let takes = (warms_own g.D.Disk.seen c.has_one_world.ensures c.args.stories.now rows
    c.args.game.now c.args.place store last same agreed_inside story c.in-Some.ensures.0
    c.inputs_of-most.result c.in_ok-area.area c.in_ok-world.world c.args.steps.now c.play.new.steps
    (c.in_ok-area.ensures.given told_inside) warms).1 in
    let finds = subst (λ (s : SavesState g.row.D.Denot).
    FindsArea (g.D.Disk.tells s.store.disk) (g.D.Disk.seen s.store.disk) c.args.place
    c.inputs_of-most.result
    (g.D.Disk.faults s.store.disk) (g.D.Disk.faults c.found.new.store.disk) c.in_ok-area.area)
    c.self.view_is c.in_ok-area.ensures.value in
    let newest = finds.newest told steady
    ∙ ap (λ (n : ℕ). area_given (newest_area c.args.place n
    (g.D.Disk.seen c.args.self.now.store.disk))) c.inputs_of-most.ensures.value in
    takes ∙ ap (λ (area : Option Area).
    c.args.steps.now + turns_after c.args.stories.now c.args.game.now (count_in area)) newest
