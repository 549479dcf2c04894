use Rattle.std.proofs.Common.{◌∙◌, sym}
use Rattle.glk_windows.proofs.FieldLemmas.{of-valid, valid-of}
use Rattle.glk_windows.proofs.windows.Windows.is_valid.Goals as goal

pub returns-clause-holds : goal.returns-clause-holds
returns-clause-holds c = (
  λ e. valid-of c.args.self.now (sym c.passes.ensures.value ∙ e),
  λ v. c.passes.ensures.value ∙ of-valid c.args.self.now v,
)
