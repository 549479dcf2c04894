use Rattle.std.proofs.Common.{arith, refl, ◌∙◌, ap, Ok}
use Rattle.std.proofs.Math.Bool.{or-true, or-false}
use Rattle.line_talk.proofs.TalkLemmas.{talk_start, talk_none, talk_on, talk_end, talk_fault}
use Rattle.line_talk.proofs.TalkLemmas.{talk_full, talk_over, talk_limit, talk_stopped, talk_rose}
use Rattle.line_talk.proofs.talk.converse.Goals as goal

pub returns-in_default-clause-value : goal.returns-in_default-clause-value
returns-in_default-clause-value g c = rw c.make_room.ensures.state (talk_none _ _ _ _ _ _)

pub loop-room-init : goal.loop-room-init
loop-room-init g c = (
  rw c.new-line.ensures (talk_start _ _ _ _ _ (rw c.make_room.ensures.state c.requires.going)),
  c.make_room.ensures.invariant,
  c.in-Ok.ensures.ready,
  refl,
  refl,
  refl,
)

pub returns-in-End-clause-value : goal.returns-in-End-clause-value
returns-in-End-clause-value g c =
    rw ((g.met.L.Link.read_keeps _ _ c.in-End.ensures.beside).0, ← c.make_room.ensures.state)
    (talk_end c.loop-room.invariant.0 _ c.in-End.ensures.value (c.in-End.ensures.ended ∙ or-true _)
    (c.in-End.ensures.at_end refl) c.loop-room-test.true)

pub returns-in-Failed-clause-value : goal.returns-in-Failed-clause-value
returns-in-Failed-clause-value g c =
    rw ((g.met.L.Link.read_keeps _ _ c.in-Failed.ensures.beside).0, ← c.make_room.ensures.state)
    (talk_fault c.loop-room.invariant.0 _ c.in-Failed.ensures.value c.loop-room-test.true)

pub returns-in-Ok-Over-clause-value : goal.returns-in-Ok-Over-clause-value
returns-in-Ok-Over-clause-value g c =
    rw ((g.met.L.Link.write_keeps _ _ c.in-Ok-Over.ensures.beside).0, ← c.make_room.ensures.state)
    (talk_over c.loop-room.invariant.0 c.split_at.result.0.now
    (rw c.split_at.ensures.front c.in-Bytes.ensures.value)
    (omega (arith, c.split_at.ensures.front_len, c.in-Bytes.ensures.within)) _
    (rw ((g.met.L.Link.read_keeps _ _ c.in-Bytes.ensures.beside).0, c.in-Ok-Over.field-0-is)
    at c.in-Ok-Over.ensures.leads))

pub returns-in-Ok-Limit-clause-value : goal.returns-in-Ok-Limit-clause-value
returns-in-Ok-Limit-clause-value g c =
    rw ((g.met.L.Link.write_keeps _ _ c.in-Ok-Limit.ensures.beside).0, ← c.make_room.ensures.state)
    (talk_limit c.loop-room.invariant.0 c.split_at.result.0.now
    (rw c.split_at.ensures.front c.in-Bytes.ensures.value)
    (omega (arith, c.split_at.ensures.front_len, c.in-Bytes.ensures.within)) _
    (rw ((g.met.L.Link.read_keeps _ _ c.in-Bytes.ensures.beside).0, c.in-Ok-Limit.field-0-is)
    at c.in-Ok-Limit.ensures.leads))

pub returns-in-Err-clause-value : goal.returns-in-Err-clause-value
returns-in-Err-clause-value g c =
    rw (
      (g.met.L.Link.write_keeps _ _ c.in-Err.ensures.beside).0,
      c.ended.ensures,
      ← c.make_room.ensures.state,
    )
    (talk_stopped c.loop-room.invariant.0 c.split_at.result.0.now
    (rw c.split_at.ensures.front c.in-Bytes.ensures.value)
    (omega (arith, c.split_at.ensures.front_len, c.in-Bytes.ensures.within))
    (rw ((g.met.L.Link.read_keeps _ _ c.in-Bytes.ensures.beside).0) at c.in-Err.ensures.err))

pub returns-in-Err-clause-write_fault : goal.returns-in-Err-clause-write_fault
returns-in-Err-clause-write_fault g c =
    rw c.ended.ensures (talk_rose c.loop-room.invariant.0 _
    (rw ((g.met.L.Link.read_keeps _ _ c.in-Bytes.ensures.beside).0) at c.in-Err.ensures.err))

pub returns-clause-value : goal.returns-clause-value
returns-clause-value g c =
    rw (← c.make_room.ensures.state) (talk_full c.loop-room.invariant.0 _ (omega arith))

pub loop-room-preserved : goal.loop-room-preserved
loop-room-preserved g c =
    let leads =
    rw ((g.met.L.Link.read_keeps _ _ c.in-Bytes.ensures.beside).0, c.in-Ok-More.field-0-is)
    at c.in-Ok-More.ensures.leads in (
      rw ((g.met.L.Link.write_keeps _ _ c.in-Ok-More.ensures.beside).0)
          (talk_on c.loop-room.invariant.0 c.split_at.result.0.now
          (rw c.split_at.ensures.front c.in-Bytes.ensures.value)
          (omega (arith, c.split_at.ensures.front_len, c.in-Bytes.ensures.within))
          leads.0 leads.1 leads.2),
      c.in-Ok-More.ensures.invariant,
      c.in-Ok-More.ensures.ready (ap Ok c.in-Ok-More.field-0-is),
      c.in-Ok-More.ensures.lent ∙ c.loop-room.invariant.3,
      (g.met.L.Link.write_keeps _ _ c.in-Ok-More.ensures.beside).1
          ∙ (g.met.L.Link.read_keeps _ _ c.in-Bytes.ensures.beside).1
          ∙ c.loop-room.invariant.4,
      ap (λ s. s.ended) (g.met.L.Link.write_keeps _ _ c.in-Ok-More.ensures.beside).0
          ∙ c.in-Bytes.ensures.ended ∙ or-false _
          ∙ c.loop-room.invariant.5,
    )

pub returns-in-End-clause-link : goal.returns-in-End-clause-link
returns-in-End-clause-link g c =
    (g.met.L.Link.read_keeps _ _ c.in-End.ensures.beside).1 ∙ c.loop-room.invariant.4

pub returns-in-Failed-clause-link : goal.returns-in-Failed-clause-link
returns-in-Failed-clause-link g c =
    (g.met.L.Link.read_keeps _ _ c.in-Failed.ensures.beside).1 ∙ c.loop-room.invariant.4

pub returns-in-Ok-Over-clause-link : goal.returns-in-Ok-Over-clause-link
returns-in-Ok-Over-clause-link g c =
    (g.met.L.Link.write_keeps _ _ c.in-Ok-Over.ensures.beside).1
    ∙ (g.met.L.Link.read_keeps _ _ c.in-Bytes.ensures.beside).1
    ∙ c.loop-room.invariant.4

pub returns-in-Ok-Limit-clause-link : goal.returns-in-Ok-Limit-clause-link
returns-in-Ok-Limit-clause-link g c =
    (g.met.L.Link.write_keeps _ _ c.in-Ok-Limit.ensures.beside).1
    ∙ (g.met.L.Link.read_keeps _ _ c.in-Bytes.ensures.beside).1
    ∙ c.loop-room.invariant.4

pub returns-in-Err-clause-link : goal.returns-in-Err-clause-link
returns-in-Err-clause-link g c =
    (g.met.L.Link.write_keeps _ _ c.in-Err.ensures.beside).1
    ∙ (g.met.L.Link.read_keeps _ _ c.in-Bytes.ensures.beside).1
    ∙ c.loop-room.invariant.4
