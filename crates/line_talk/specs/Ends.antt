-- How a conversation ends by a reply that wasn't written whole (own).
use Rattle.line_talk.specs.declared.ended.Ended.{Ended}
use Rattle.line_talk.specs.declared.ended.Ended.TheVariants.{WriteFault, NoMemory}
use Rattle.line_talk.specs.declared.sink.Stop.{Stop}
use Rattle.line_talk.specs.declared.sink.Stop.TheVariants.{Output, Memory}

abbrev pub ended_by : Stop → Ended
ended_by Output = WriteFault
ended_by Memory = NoMemory
