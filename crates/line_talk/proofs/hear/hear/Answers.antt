use Rattle.std.proofs.Common.{◌≡◌, List, ℕ, ◌+◌, ◌<◌, ◌^◌, ◌≢◌, ◌∷◌, drop, length}
use Rattle.std.proofs.Common.{get_or, arith, refl, drop-cons, add-one, ◌∙◌}
use Rattle.line_talk.proofs.HearingLemmas.{hearing_byte, hearing_line, hearing_on, hearing_over}
use Rattle.line_talk.proofs.HearingLemmas.{hearing_limit, hearing_stops, hearing_memory}
use Rattle.line_talk.proofs.hear.hear.Goals as goal

-- the bytes that are left begin with the one at the index
next_byte : (piece : List ℕ) (i : ℕ)
    → i < length piece
    → drop i piece ≡ get_or piece i 0 ∷ drop (i + 1) piece
next_byte piece i lt = rw (add-one, drop-cons piece i 0) refl

pub loop-byte-preserved-in-Ok : goal.loop-byte-preserved-in-Ok
loop-byte-preserved-in-Ok g c =
    let (hearing, fit, ready, lent, beside) = c.loop-byte.invariant in (
      rw c.in-Ok.ensures
          (hearing_byte hearing _ _ (next_byte _ _ c.loop-byte-test.true) c.if-byte-ne10.true),
      fit,
      ready,
      lent,
      beside,
    )

pub returns-in-Err-answer-clause-err : goal.returns-in-Err-answer-clause-err
returns-in-Err-answer-clause-err g c =
    hearing_stops c.loop-byte.invariant.0 _ _ _ (next_byte _ _ c.loop-byte-test.true)
    c.if-byte-ne10.false _ c.line.ensures.value c.in-Err-answer.ensures.err

pub returns-then-is_over-clause-leads : goal.returns-then-is_over-clause-leads
returns-then-is_over-clause-leads g c =
    hearing_over (hearing_line c.loop-byte.invariant.0 _ _ (next_byte _ _ c.loop-byte-test.true)
    c.if-byte-ne10.false _ c.line.ensures.value c.in-Ok-answer.ensures.ok)
    (grind (arith, c.is_over.ensures, c.if-is_over.true))

pub returns-then-count-eq-MOST_LINES-clause-leads :
    goal.returns-then-count-eq-MOST_LINES-clause-leads
returns-then-count-eq-MOST_LINES-clause-leads g c =
    hearing_limit (hearing_line c.loop-byte.invariant.0 _ _ (next_byte _ _ c.loop-byte-test.true)
    c.if-byte-ne10.false _ c.line.ensures.value c.in-Ok-answer.ensures.ok)
    (omega arith)

pub returns-in_default-clause-err : goal.returns-in_default-clause-err
returns-in_default-clause-err g c =
    let not_last : c.loop-byte.count + 1 ≢ 2 ^ 20 = c.if-count-eq-MOST_LINES.false in
    let room : c.loop-byte.count < 2 ^ 20 = c.loop-byte.invariant.0.few in
    rw c.make_room.ensures.state (hearing_memory
    (hearing_on (hearing_line c.loop-byte.invariant.0 _ _ (next_byte _ _ c.loop-byte-test.true)
    c.if-byte-ne10.false _ c.line.ensures.value c.in-Ok-answer.ensures.ok)
    (grind (arith, c.is_over.ensures, c.if-is_over.false)) (omega (arith, room, not_last))) _)

pub loop-byte-preserved : goal.loop-byte-preserved
loop-byte-preserved g c =
    let not_last : c.loop-byte.count + 1 ≢ 2 ^ 20 = c.if-count-eq-MOST_LINES.false in
    let room : c.loop-byte.count < 2 ^ 20 = c.loop-byte.invariant.0.few in (
      rw (c.clear.ensures, c.make_room.ensures.state)
          (hearing_on (hearing_line c.loop-byte.invariant.0 _ _
          (next_byte _ _ c.loop-byte-test.true)
          c.if-byte-ne10.false _ c.line.ensures.value c.in-Ok-answer.ensures.ok)
          (grind (arith, c.is_over.ensures, c.if-is_over.false)) (omega (arith, room, not_last))),
      c.make_room.ensures.invariant,
      c.in-Ok-make_room.ensures.ready,
      c.make_room.ensures.lent ∙ c.in-Ok-answer.ensures.lent ∙ c.loop-byte.invariant.3,
      c.in-Ok-answer.ensures.beside ∙ c.loop-byte.invariant.4,
    )
