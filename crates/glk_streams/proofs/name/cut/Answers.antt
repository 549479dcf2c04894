use Rattle.std.specs.String.{string_bytes}
use Rattle.std.proofs.Common.{◌-◌, sym, ◌∙◌, ap, subst, refl, arith}
use Rattle.std.specs.Str.{chars, IsUtf8}
use Rattle.std.specs.Str.Iter.{chars_rest}
use Rattle.std.proofs.lemmas.List.{nil_from_length}
use Rattle.std.proofs.lemmas.Str.{IsUtf8-past_char, chars_past_char, chars-nil}
use Rattle.glk_streams.proofs.NameLemmas.{period_ends, end_ends}
use Rattle.glk_streams.proofs.name.cut.Goals as goal

pub loop-c-init : goal.loop-c-init
loop-c-init c =
    let r = ap chars_rest c.into_iter-c-iterator.ensures.into_iter_gives
    ∙ c.chars-c-items.ensures.rest in (
      subst IsUtf8 (sym r) c.utf8.name,
      rw
          (c.new-clean.ensures.bytes, chars-nil, r) refl,
      omega arith,
    )

pub returns-then-c-eq46 : goal.returns-then-c-eq46
returns-then-c-eq46 c =
    let held = c.loop-c.invariant in
    let step = chars_past_char _ _ c.in-Some.c held.0 c.in-Some.ensures.steps.0 in
    period_ends (chars (string_bytes c.loop-c.clean)) (chars (chars_rest c.next.new.self)) _
    (64 - c.loop-c.count) _
    c.if-c-eq46.true (rw step at held.1)

pub loop-c-preserved : goal.loop-c-preserved
loop-c-preserved c =
    let held = c.loop-c.invariant in
    let parts = c.in-Some.ensures.steps.0 in
    let step = chars_past_char _ _ c.in-Some.c held.0 parts in (
      IsUtf8-past_char _ _ c.in-Some.c held.0 parts,
      c.in_ok-count.ensures.rest (chars (chars_rest c.next.new.self)) ∙ (rw step at held.1),
      c.in_ok-count.ensures.within,
    )

pub returns : goal.returns
returns c =
    let held = c.loop-c.invariant in
    end_ends _ _ _ (rw (ap chars (nil_from_length _ c.in-None.ensures.steps.0.0)
    ∙ chars-nil) at held.1)
