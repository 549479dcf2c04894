use Rattle.std.proofs.Common.{◌∙◌, sym}
use Rattle.host_world.proofs.FollowLemmas.{each_lives, isolated, none_lost, openings_find}
use Rattle.host_world.proofs.FollowLemmas.{run_end, run_next}
use Rattle.host_world.proofs.Shows.{shows_alone}
use Rattle.host_world.proofs.following.follow_journal.Goals as goal

pub loop-event-preserved : goal.loop-event-preserved
loop-event-preserved c =
    run_next c.args.stories.now c.args.budget c.args.events.now c.loop-event.event-index
    c.event-item.result c.loop-event.state c.happen.new.self c.loop-event-test.true c.event-item.is
    c.in_ok-happen.ensures
    ∙ c.loop-event.invariant

pub returns-clause-value : goal.returns-clause-value
returns-clause-value c =
    sym (run_end c.args.stories.now c.args.budget c.args.events.now c.loop-event.event-index
    c.loop-event.state c.loop-event-test.false)
    ∙ c.loop-event.invariant

pub returns-clause-lives : goal.returns-clause-lives
returns-clause-lives c =
    each_lives c.args.stories.now c.args.budget c.args.state c.args.events.now c.loop-event.state
    (returns-clause-value c)

pub returns-clause-shows : goal.returns-clause-shows
returns-clause-shows c = shows_alone

pub returns-clause-finds : goal.returns-clause-finds
returns-clause-finds c =
    openings_find c.args.stories.now c.args.budget c.args.state c.args.events.now c.loop-event.state
    (returns-clause-value c)

pub returns-clause-kept : goal.returns-clause-kept
returns-clause-kept c =
    none_lost c.args.stories.now c.args.budget c.args.state c.args.events.now c.loop-event.state
    (returns-clause-value c)

pub returns-clause-isolated : goal.returns-clause-isolated
returns-clause-isolated c =
    isolated c.args.stories.now c.args.budget c.args.state c.args.events.now c.loop-event.state
    (returns-clause-value c)

pub returns-in_err-happen-clause-shows : goal.returns-in_err-happen-clause-shows
returns-in_err-happen-clause-shows c = shows_alone
