use Rattle.std.proofs.Common.{sym, ◌∙◌, ap}
use Rattle.story_run.specs.Solo.{opening}
use Rattle.host_top.proofs.SpeechLemmas.{spoken_nothing, spoken_silent, run_stopped, run_over}
use Rattle.host_top.proofs.SpeechLemmas.{run_talked}
use Rattle.host_top.proofs.StopLemmas.{stop_is_no_read, stop_is_write}
use Rattle.host_top.proofs.run.run.Goals as goal

pub returns-in_default-clause-value : goal.returns-in_default-clause-value
returns-in_default-clause-value g c = rw (← c.in_default.ensures.value) (spoken_silent _ _)

pub returns-in_default-start-clause-value : goal.returns-in_default-start-clause-value
returns-in_default-start-clause-value g c = spoken_nothing _ _ _

pub returns-in-Err-clause-value : goal.returns-in-Err-clause-value
returns-in-Err-clause-value g c =
    rw (← c.in-Some.ensures.value, c.of_stop.ensures)
    (run_stopped c.in-Some.story.now _ _ c.in-Ok.world
    (c.in-Ok.ensures.value ∙ ap (λ s. opening c.in-Some.story.now.image s) c.alone.ensures)
    c.in-Err.ensures.err)

pub returns-in-Err-clause-read_fault : goal.returns-in-Err-clause-read_fault
returns-in-Err-clause-read_fault g c =
    λ e. stop_is_no_read c.in-Err.stop _ (sym c.of_stop.ensures ∙ e)

pub returns-in-Err-clause-write_fault : goal.returns-in-Err-clause-write_fault
returns-in-Err-clause-write_fault g c =
    λ e. stop_is_write c.in-Err.stop _ c.in-Err.ensures.err.rose (sym c.of_stop.ensures ∙ e)

pub returns-then-is_over-clause-value : goal.returns-then-is_over-clause-value
returns-then-is_over-clause-value g c =
    rw (← c.in-Some.ensures.value)
    (run_over c.in-Some.story.now _ _ c.in-Ok.world
    (c.in-Ok.ensures.value ∙ ap (λ s. opening c.in-Some.story.now.image s) c.alone.ensures)
    (sym c.is_over.ensures.value ∙ c.if-is_over.true) c.in-Ok-say.ensures.ok)

pub returns-clause-value : goal.returns-clause-value
returns-clause-value g c =
    rw (← c.in-Some.ensures.value, c.of_end.ensures)
    (run_talked c.in-Some.story.now _ _ c.in-Ok.world
    (c.in-Ok.ensures.value ∙ ap (λ s. opening c.in-Some.story.now.image s) c.alone.ensures)
    c.in-Ok-say.ensures.ok (rw c.new-player.ensures at c.converse_between.ensures.value))
