use Rattle.std.proofs.Common.{◌∙◌, sym}
use Rattle.glk_windows.proofs.AreaTestLemmas.{areas-of, of-areas}
use Rattle.glk_windows.proofs.windows.Windows.have_areas.Goals as goal

pub returns : goal.returns
returns c = (
  λ e. areas-of c.args.self.now c.args.cols c.args.rows (sym c.fill.ensures ∙ e),
  λ h. c.fill.ensures ∙ of-areas c.args.self.now c.args.cols c.args.rows c.requires h,
)
