use Rattle.std.proofs.Common.{◌≡◌, ◌∙◌, sym, true, false}
use Rattle.glk_dispatch.specs.Fields.{parts_fit}
use Rattle.glk_dispatch.proofs.FitLemmas.{fit-of-valid, valid-of-fit}
use Rattle.glk_dispatch.proofs.glk.Glk.is_valid.Goals as goal
use Rattle.glk_dispatch.proofs.glk.Glk.is_valid.Goals.{then-are_valid, else-are_valid}

pub returns-then-parts_fit : goal.returns-then-parts_fit
returns-then-parts_fit c = (
  λ e. elim c.if-are_valid.branch [
    | then-are_valid w ↦
        let fit : parts_fit c.args.self.now ≡ true =
        sym w.parts_fit.ensures ∙ sym w.value-is ∙ c.if-parts_fit.true in
        valid-of-fit c.args.self.now (c.are_valid.ensures.0 w.if-are_valid.true) fit
        (c.have_areas.ensures.0 e)
    | else-are_valid w ↦ absurd cc
  ],
  λ v. c.have_areas.ensures.1 v.areas,
)

pub returns-else-parts_fit : goal.returns-else-parts_fit
returns-else-parts_fit c = (
  λ e. let not : true ≡ false = sym e ∙ c.if-parts_fit.false in absurd cc,
  λ v. elim c.if-are_valid.branch [
    | then-are_valid w ↦ w.value-is ∙ w.parts_fit.ensures ∙ fit-of-valid c.args.self.now v
    | else-are_valid w ↦
        let not : true ≡ false = sym (c.are_valid.ensures.1 v.parts) ∙ w.if-are_valid.false in
        absurd cc
  ],
)
