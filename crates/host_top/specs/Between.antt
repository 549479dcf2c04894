-- The lines that a host answers between a source and a sink (own).
use Rattle.std.specs.Prelude.{List, []}
use Rattle.host_serve.specs.Chain.{AnswersInOrder}
use Rattle.host_serve.specs.Holders.{holders, seens}
use Rattle.host_serve.specs.Serves.{AnsweredLine}
use Rattle.host_serve.specs.Told.{TellsLink}
use Rattle.host_serve.specs.declared.host.Host.{Host}
use Rattle.host_serve.specs.declared.host.Passes.{Passes}
use Rattle.host_serve.specs.declared.mark.Mark.{Mark}
use Rattle.line_talk.specs.declared.ended.Ended.{Ended}
use Rattle.line_talk.specs.Streams.{SourceState, SinkState}

-- what was read, which lines of it had which turns, what was written, and how these turns follow
-- one another on what the passes had seen; `sound` says that the host is sound
pub record ServesBetween {D : Type 0} (sound : Type 0) (host : Host D) (old new : Passes D)
    (input now : SourceState) (output after : SinkState) (served : Ended) : Type 0 where
  pub turns : List AnsweredLine
  pub marks : List Mark
  pub tells : TellsLink turns input now output after [] marks served
  pub chain : AnswersInOrder host.stories.now host.budget sound (holders old.desks.items)
      (seens old.desks.items) turns (seens new.desks.items)
