use Rattle.host_serve.proofs.ToldLemmas.{speaks_of}
use Rattle.host_serve.proofs.speaker.SpeakerAnswers.answer.Goals as goal

pub returns-in-Ok-clause-ok : goal.returns-in-Ok-clause-ok
returns-in-Ok-clause-ok g c = record {
  reply = _;
  turned = speaks_of _ _ _ _ _ _ c.answer_to-answer.result c.answer_to-answer.ensures.holders
      c.push_reserved.ensures.items c.answer_to-answer.ensures.value;
  wrote = c.in-Ok.ensures.ok;
}

pub returns-clause-err : goal.returns-clause-err
returns-clause-err g c = record {
  reply = _;
  turned = speaks_of _ _ _ _ _ _ c.answer_to-answer.result c.answer_to-answer.ensures.holders
      c.push_reserved.ensures.items c.answer_to-answer.ensures.value;
  stopped = c.in-Err.ensures.err;
}
