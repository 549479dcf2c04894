use Rattle.std.proofs.Common.{rules, sym, ap, ◌∙◌, Err}
use Rattle.host_top.proofs.ToldLemmas.{does_nothing, both, left_alone}
use Rattle.line_talk.proofs.StreamsLemmas.{wrote_none}
use Rattle.host_top.proofs.StoodLemmas.{spoken_stood}
use Rattle.host_top.proofs.program.act.Goals as goal

pub returns-in_default-clause-value : goal.returns-in_default-clause-value
returns-in_default-clause-value g c = does_nothing _ _ _ _ _ _

pub returns-in-Err-NoMemory-clause-value : goal.returns-in-Err-NoMemory-clause-value
returns-in-Err-NoMemory-clause-value g c = does_nothing _ _ _ _ _ _

pub returns-in-Err-NoMemory-clause-unsaid : goal.returns-in-Err-NoMemory-clause-unsaid
returns-in-Err-NoMemory-clause-unsaid g c = λ once none. wrote_none _

pub returns-in-Err-Refused-clause-value : goal.returns-in-Err-Refused-clause-value
returns-in-Err-Refused-clause-value g c =
    let found = rw c.in-Err-Refused.field-0-is at c.in-Err-Refused.ensures.err in
    rw (found ∙ ap (λ r. Err r) (sym c.in-Err-Refused.refusal-is))
    (left_alone _ (c.refuse.ensures.value _))

pub returns-in-Run-clause-value : goal.returns-in-Run-clause-value
returns-in-Run-clause-value g c =
    let said =
    left_alone (g.O.Outside.outside c.args.outside.now) c.run.ensures.value in search
    (rules)

pub returns-in-Check-clause-value : goal.returns-in-Check-clause-value
returns-in-Check-clause-value g c =
    let said =
    left_alone (g.O.Outside.outside c.args.outside.now)
    (c.check.ensures.value (g.S.Source.source c.args.input.now)) in search (rules)

pub returns-in-Init-clause-value : goal.returns-in-Init-clause-value
returns-in-Init-clause-value g c =
    rw (c.in-Init.is, c.in-Ok-stories_of.ensures.ok)
    (both (c.init_folder.ensures.value (g.S.Source.source c.args.input.now))
    c.init_folder.ensures.doors)

pub returns-in-Pipe-clause-value : goal.returns-in-Pipe-clause-value
returns-in-Pipe-clause-value g c =
    rw (c.in-Pipe.is, c.in-Ok-stories_of.ensures.ok, ← c.deref-in-Pipe.ensures.value)
    (both c.pipe.ensures.value c.pipe.ensures.doors)

pub returns-in-Pack-clause-value : goal.returns-in-Pack-clause-value
returns-in-Pack-clause-value g c =
    rw (c.in-Pack.is, c.in-Ok-stories_of.ensures.ok)
    (both (c.pack_folder.ensures.value (g.S.Source.source c.args.input.now))
    c.pack_folder.ensures.doors)

pub returns-in-Serve-clause-value : goal.returns-in-Serve-clause-value
returns-in-Serve-clause-value g c =
    rw (c.in-Serve.is, c.in-Ok-stories_of.ensures.ok, ← c.deref-in-Serve.ensures.value)
    (both (c.serve.ensures.value (g.S.Source.source c.args.input.now)) c.serve.ensures.doors)

pub returns-in-Replay-clause-value : goal.returns-in-Replay-clause-value
returns-in-Replay-clause-value g c =
    rw (c.in-Replay.is, c.in-Ok-stories_of.ensures.ok, ← c.deref-in-Replay.ensures.value)
    (both (c.replay.ensures.value (g.S.Source.source c.args.input.now)) c.replay.ensures.doors)

pub returns-in-Drill-clause-value : goal.returns-in-Drill-clause-value
returns-in-Drill-clause-value g c =
    let said =
    left_alone (g.O.Outside.outside c.args.outside.now)
    (c.drill.ensures.value (g.S.Source.source c.args.input.now)) in search (rules)

pub returns-in-Help-clause-value : goal.returns-in-Help-clause-value
returns-in-Help-clause-value g c =
    let said =
    left_alone (g.O.Outside.outside c.args.outside.now)
    (c.say_once.ensures.value (g.S.Source.source c.args.input.now)) in search (rules)

pub returns-clause-value : goal.returns-clause-value
returns-clause-value g c =
    let said =
    left_alone (g.O.Outside.outside c.args.outside.now)
    (c.say_once-in-Version.ensures.value (g.S.Source.source c.args.input.now)) in search (rules)

pub returns-in-Err-Refused-clause-stood : goal.returns-in-Err-Refused-clause-stood
returns-in-Err-Refused-clause-stood g c =
    λ stand. spoken_stood _ (c.refuse.ensures.value (g.S.Source.source c.args.input.now))

pub returns-in-Run-clause-stood : goal.returns-in-Run-clause-stood
returns-in-Run-clause-stood g c = λ stand. spoken_stood _ c.run.ensures.value

pub returns-in-Check-clause-stood : goal.returns-in-Check-clause-stood
returns-in-Check-clause-stood g c =
    λ stand. spoken_stood _ (c.check.ensures.value (g.S.Source.source c.args.input.now))

pub returns-in-Drill-clause-stood : goal.returns-in-Drill-clause-stood
returns-in-Drill-clause-stood g c =
    λ stand. spoken_stood _ (c.drill.ensures.value (g.S.Source.source c.args.input.now))

pub returns-in-Help-clause-stood : goal.returns-in-Help-clause-stood
returns-in-Help-clause-stood g c =
    λ stand. spoken_stood _ (c.say_once.ensures.value (g.S.Source.source c.args.input.now))

pub returns-clause-stood : goal.returns-clause-stood
returns-clause-stood g c =
    λ stand.
    spoken_stood _ (c.say_once-in-Version.ensures.value (g.S.Source.source c.args.input.now))
