use Rattle.glk_dispatch.specs.Answer.{glk_call}
use Rattle.glk_dispatch.proofs.CalledLemmas.{event_does, event_keeps, event_readies, prompt_readies}
use Rattle.glk_dispatch.proofs.waiting.answer.Goals as goal

pub returns-in-Line-clause-does : goal.returns-in-Line-clause-does
returns-in-Line-clause-does c =
    event_does (glk_call c.args.glk.now c.args.memory.now c.args.stack.now) c.args.input.now
    c.answer_event.new.glk c.answer_event.new.memory c.answer_event.new.stack c.answer_event.result
    c.in-Line.is c.answer_event.ensures

pub returns-in-Line-clause-kept : goal.returns-in-Line-clause-kept
returns-in-Line-clause-kept c =
    event_keeps (glk_call c.args.glk.now c.args.memory.now c.args.stack.now) c.args.input.now
    c.answer_event.new.glk c.answer_event.new.memory c.answer_event.new.stack c.answer_event.result
    c.answer_event.ensures

pub returns-in-Line-clause-valid : goal.returns-in-Line-clause-valid
returns-in-Line-clause-valid c =
    event_readies (glk_call c.args.glk.now c.args.memory.now c.args.stack.now) c.args.input.now
    c.answer_event.new.glk c.answer_event.new.memory c.answer_event.new.stack c.answer_event.result
    c.answer_event.ensures

pub returns-in_ok-answer_prompt-in-File-clause-valid :
    goal.returns-in_ok-answer_prompt-in-File-clause-valid
returns-in_ok-answer_prompt-in-File-clause-valid c =
    prompt_readies c.args.glk.now c.answer_prompt.new.glk c.in-File.name _
    c.in_ok-answer_prompt-in-File.ensures
