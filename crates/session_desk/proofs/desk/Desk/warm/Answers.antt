use Rattle.std.proofs.Common.{◌≡◌, true, false, refl}
use Rattle.session_core.specs.Checks.{is_other_story}
use Rattle.session_desk.specs.Desk.{game, is_cold}
use Rattle.session_desk.specs.Inside.{state_of}
use Rattle.session_desk.proofs.DeskWarming.{cold_used, has_place, warm_cost, warm_own, warms_held}
use Rattle.session_desk.proofs.DeskWarming.{whole_cold, whole_warmed}
use Rattle.session_desk.proofs.StoryLemmas.{warms_some}
use Rattle.session_desk.proofs.desk.Desk.warm.Goals as goal

pub unwrap-place-requires : goal.unwrap-place-requires
unwrap-place-requires g c =
    let old = state_of c.self.inside in
    let cold : is_cold old.desk ≡ true = rw (← c.self.view_is) at c.requires.cold in
    has_place g.D.Disk c.self.inside.marks.items c.self.inside.place old c.self.invariant.2
    (cold_used old.desk cold)

pub invariant_of-self : goal.invariant_of-self
invariant_of-self g c = (
  c.self.invariant.0,
  c.self.invariant.1,
  whole_cold g.D.Disk g.met.D.Disk.counts_now c.self.inside.marks.items
      c.self.inside.place _ c.warm.new.self c.self.invariant.2
      c.warm.ensures.kept c.warm.ensures.counts c.warm.ensures.areas c.warm.ensures.slots,
)

pub returns-in_err-world-clause-own : goal.returns-in_err-world-clause-own
returns-in_err-world-clause-own g c =
    rw (← c.self.view_is) (λ sound. (c.self.invariant.2.own sound).holds)

pub unwrap-requires : goal.unwrap-requires
unwrap-requires g c =
    let old = state_of c.self.inside in
    let cold : is_cold old.desk ≡ true = rw (← c.self.view_is) at c.requires.cold in
    let other : is_other_story old.desk.stories (game old.desk) ≡ false =
    rw (← c.self.view_is) at c.requires.story in
    warms_some (g.D.Disk.tells old.saves.store.disk) (g.D.Disk.seen old.saves.store.disk)
    c.unwrap-place.result (g.D.Disk.faults old.saves.store.disk)
    (g.D.Disk.faults c.warm.new.self.store.disk)
    old.desk.stories old.desk.commands c.in_ok-world.world c.args.steps.now c.warm.new.steps
    (cold_used old.desk cold) other
    (rw (c.game_at-game.ensures.value, c.deref.ensures.value) at c.in_ok-world.ensures.found)

pub invariant_of-self-2 : goal.invariant_of-self-2
invariant_of-self-2 g c =
    let old = state_of c.self.inside in
    let cold : is_cold old.desk ≡ true = rw (← c.self.view_is) at c.requires.cold in
    let other : is_other_story old.desk.stories (game old.desk) ≡ false =
    rw (← c.self.view_is) at c.requires.story in
    let played = rw c.deref.ensures.value at c.game_at-game.ensures.value in (
      record {
        numbered = c.self.invariant.0.numbered;
        within = c.self.invariant.0.within;
        in_use = cold_used old.desk cold;
      },
      c.self.invariant.1,
      whole_warmed g.D.Disk g.met.D.Disk.counts_now c.self.inside.marks.items
          c.self.inside.place old c.warm.new.self c.unwrap.result c.self.invariant.2
          c.in_ok-world.ensures.kept c.in_ok-world.ensures.counts
          c.in_ok-world.ensures.areas c.in_ok-world.ensures.slots
          (warm_own g.D.Disk c.self.inside.marks.items c.self.inside.place old
          c.game_at-game.result.now c.unwrap-place.result c.in_ok-world.world c.unwrap.result
          c.self.invariant.2 c.unwrap-place.ensures played
          c.unwrap.ensures other c.in_ok-world.ensures.value),
    )

pub returns : goal.returns
returns g c =
    let old = state_of c.self.inside in
    let other : is_other_story old.desk.stories (game old.desk) ≡ false =
    rw (← c.self.view_is) at c.requires.story in
    let played = rw c.deref.ensures.value at c.game_at-game.ensures.value in
    rw (← c.self.view_is)
    (record {
      found =
          warms_held g.D.Disk c.self.inside.marks.items c.self.inside.place old
          c.warm.new.self c.game_at-game.result.now c.unwrap-place.result c.in_ok-world.world
          c.unwrap.result c.args.steps.now c.warm.new.steps c.self.invariant.2
          c.unwrap-place.ensures played
          c.unwrap.ensures c.in_ok-world.ensures.found;
      own =
          warm_own g.D.Disk c.self.inside.marks.items c.self.inside.place old
          c.game_at-game.result.now c.unwrap-place.result c.in_ok-world.world c.unwrap.result
          c.self.invariant.2 c.unwrap-place.ensures played
          c.unwrap.ensures other c.in_ok-world.ensures.value;
      cost =
          warm_cost g.D.Disk c.self.inside.marks.items c.self.inside.place old c.warm.new.self
          c.game_at-game.result.now c.unwrap-place.result c.args.steps.now
          c.warm.new.steps c.self.invariant.2 c.unwrap-place.ensures
          played
          other c.in_ok-world.ensures.cost;
      err = tt;
      rests = record { desk = refl; history = refl; pass = refl; tag = refl };
      counts = c.in_ok-world.ensures.counts;
      looks = c.in_ok-world.ensures.kept;
      slots = (
        c.in_ok-world.ensures.slots.1,
        c.in_ok-world.ensures.slots.2,
        c.in_ok-world.ensures.slots.3,
      );
    })
