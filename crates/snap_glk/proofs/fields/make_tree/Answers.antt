use Rattle.std.proofs.Common.{map, true}
use Rattle.std.specs.List.{list_all}
use Rattle.std.proofs.lemmas.Result.{err_from_is_err_and}
use Rattle.glk_windows.specs.Valid as windows
use Rattle.snap_fields.specs.declared.glk.SnapWindow.{SnapWindow}
use Rattle.snap_glk.specs.Made.{window_made, windows_made}
use Rattle.snap_glk.specs.Texts.{AreTexts}
use Rattle.snap_glk.proofs.FitLemmas.{all-fit, unsound}
use Rattle.snap_glk.proofs.fields.make_tree.Goals as goal

pub returns-in_err-slots : goal.returns-in_err-slots
returns-in_err-slots c =
    let fields = c.args.fields.now in
    let list = c.as_slice-list.result.now in
    let p = err_from_is_err_and c.from_residual.result c.from_residual.ensures.1 in
    rw (p.1, p.2) (unsound (map window_made) (list_all (λ (w : SnapWindow). true)) list
    (AreTexts fields) windows.IsValidTree (windows_made fields) c.in_err-slots.field-0.0
    c.in_err-slots.ensures
    (λ t v. all-fit list))
