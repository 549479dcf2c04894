use Rattle.std.proofs.Common.{sym, ◌∙◌, ap}
use Rattle.std.specs.Str.{chars}
use Rattle.std.proofs.lemmas.List.{nil_from_length}
use Rattle.std.proofs.lemmas.Str.{IsUtf8-past_char, chars_past_char, chars-nil}
use Rattle.story_text.proofs.read.are_allowed.Goals as goal

pub returns-then-not-is_allowed : goal.returns-then-not-is_allowed
returns-then-not-is_allowed c =
    let held = c.loop-code.invariant in
    let step = chars_past_char _ _ c.in-Some.code held.0 c.in-Some.ensures.steps.0 in
    let refused = sym c.is_allowed.ensures ∙ c.if-not-is_allowed.true in
    rw (step, refused) at held.1

pub loop-code-preserved : goal.loop-code-preserved
loop-code-preserved c =
    let held = c.loop-code.invariant in
    let parts = c.in-Some.ensures.steps.0 in
    let taken = sym c.is_allowed.ensures ∙ c.if-not-is_allowed.false in (
      IsUtf8-past_char _ _ c.in-Some.code held.0 parts,
      rw (chars_past_char _ _ c.in-Some.code held.0 parts, taken) at held.1,
    )

pub returns : goal.returns
returns c =
    rw (ap chars (nil_from_length _ c.in-None.ensures.steps.0.0) ∙ chars-nil)
    at c.loop-code.invariant.1
