use Rattle.std.proofs.Common.{◌∙◌, sym, arith}
use Rattle.glk_dispatch.proofs.glk.Glk.are_valid.Goals as goal
use Rattle.glk_dispatch.proofs.glk.Glk.are_valid.Goals.{then-is_valid, else-is_valid}

pub returns-then-is_valid-2 : goal.returns-then-is_valid-2
returns-then-is_valid-2 c = (
  λ e. elim c.if-is_valid.branch [
    | then-is_valid w ↦ record {
      windows = c.is_valid.ensures.holds.0 w.if-is_valid.true;
      streams = sym w.is_valid-then-is_valid.ensures ∙ sym w.value-is ∙ c.if-is_valid-2.true;
      requests = sym c.is_valid-then-is_valid-2.ensures ∙ e;
      next = (let h = c.is_valid.ensures.within in omega (arith, h));
    }
    | else-is_valid w ↦ absurd cc
  ],
  λ v. c.is_valid-then-is_valid-2.ensures ∙ v.requests,
)
