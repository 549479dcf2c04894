use Rattle.std.proofs.Common.{◌∙◌, subst, sym}
use Rattle.host_world.specs.Whole.{all_to_host}
use Rattle.host_world.specs.WholeHeadline.{FilesAgree, LivesAsHost, NothingIsLostInAll}
use Rattle.host_world.specs.WholeHeadline.{SessionWarmsInSixteen}
use Rattle.host_world.specs.declared.whole.HostState.{HostState}
use Rattle.host_world.proofs.FollowLemmas.{each_lives, isolated, openings_find}
use Rattle.host_world.proofs.Shows.{shows_alone}
use Rattle.host_world.proofs.WholeLemmas.{files_agree, lives_as_host, none_lost_in_all, own_end}
use Rattle.host_world.proofs.WholeLemmas.{own_next, session_warms, whole_end, whole_next}
use Rattle.host_world.proofs.following.follow.Goals as goal

pub loop-event-preserved : goal.loop-event-preserved
loop-event-preserved c = (
  whole_next c.args.stories.now c.args.budget c.args.events.now c.loop-event.event-index
      c.event-item.result c.loop-event.state c.happen.new.self c.loop-event-test.true
      c.event-item.is c.in_ok-happen.ensures.value
      ∙ c.loop-event.invariant.0,
  (λ own. c.loop-event.invariant.1
      (own_next c.args.stories.now c.args.budget c.args.events.now c.loop-event.event-index
      c.event-item.result c.loop-event.state c.happen.new.self c.loop-event-test.true
      c.event-item.is c.in_ok-happen.ensures.value c.in_ok-happen.ensures.own own)),
)

pub returns-clause-value : goal.returns-clause-value
returns-clause-value c =
    sym (whole_end c.args.stories.now c.args.budget c.args.events.now c.loop-event.event-index
    c.loop-event.state c.loop-event-test.false)
    ∙ c.loop-event.invariant.0

pub returns-clause-own : goal.returns-clause-own
returns-clause-own c =
    c.loop-event.invariant.1 (own_end c.args.stories.now c.args.budget c.args.events.now
    c.loop-event.event-index c.loop-event.state c.loop-event-test.false)

pub returns-clause-host : goal.returns-clause-host
returns-clause-host c =
    subst (λ (v : HostState). LivesAsHost c.args.stories.now c.args.budget c.args.state
    c.args.events.now v)
    (sym (returns-clause-value c))
    (lives_as_host c.args.stories.now c.args.budget c.args.state c.args.events.now)

pub returns-clause-lives : goal.returns-clause-lives
returns-clause-lives c =
    each_lives c.args.stories.now c.args.budget c.args.state.host
    (all_to_host c.args.stories.now c.args.budget c.args.state c.args.events.now)
    c.loop-event.state.host (returns-clause-host c)

pub returns-clause-shows : goal.returns-clause-shows
returns-clause-shows c = shows_alone

pub returns-in_err-happen-clause-shows : goal.returns-in_err-happen-clause-shows
returns-in_err-happen-clause-shows c = shows_alone

pub returns-clause-finds : goal.returns-clause-finds
returns-clause-finds c =
    openings_find c.args.stories.now c.args.budget c.args.state.host
    (all_to_host c.args.stories.now c.args.budget c.args.state c.args.events.now)
    c.loop-event.state.host (returns-clause-host c)

pub returns-clause-isolated : goal.returns-clause-isolated
returns-clause-isolated c =
    isolated c.args.stories.now c.args.budget c.args.state.host
    (all_to_host c.args.stories.now c.args.budget c.args.state c.args.events.now)
    c.loop-event.state.host (returns-clause-host c)

pub returns-clause-kept : goal.returns-clause-kept
returns-clause-kept c =
    subst (λ (v : HostState). NothingIsLostInAll c.args.stories.now c.args.budget c.args.state
    c.args.events.now v)
    (sym (returns-clause-value c))
    (none_lost_in_all c.args.stories.now c.args.budget c.args.state c.args.events.now)

pub returns-clause-files : goal.returns-clause-files
returns-clause-files c =
    subst (λ (v : HostState). FilesAgree c.args.stories.now c.args.budget c.args.state
    c.args.events.now v)
    (sym (returns-clause-value c))
    (files_agree c.args.stories.now c.args.budget c.args.state c.args.events.now
    (returns-clause-own c))

pub returns-clause-warms : goal.returns-clause-warms
returns-clause-warms c =
    subst (λ (v : HostState). SessionWarmsInSixteen c.args.stories.now c.args.budget c.args.state
    c.args.events.now v)
    (sym (returns-clause-value c))
    (session_warms c.args.stories.now c.args.budget c.args.state c.args.events.now
    (returns-clause-own c))
