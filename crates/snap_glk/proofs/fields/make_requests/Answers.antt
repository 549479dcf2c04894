use Rattle.std.proofs.Common.{map}
use Rattle.std.specs.List.{list_all}
use Rattle.std.proofs.lemmas.Result.{err_from_is_err_and}
use Rattle.snap_glk.specs.Made.{input_made, requests_made}
use Rattle.snap_glk.specs.Making.{AreRequests, has_few_keys}
use Rattle.snap_glk.specs.Texts.{AreTexts}
use Rattle.snap_glk.proofs.FitLemmas.{are-few, unsound}
use Rattle.snap_glk.proofs.fields.make_requests.Goals as goal

pub returns-in_err-inputs : goal.returns-in_err-inputs
returns-in_err-inputs c =
    let fields = c.args.fields.now in
    let list = c.as_slice-list.result.now in
    let p = err_from_is_err_and c.from_residual.result c.from_residual.ensures.1 in
    rw (p.1, p.2) (unsound (map input_made) (list_all has_few_keys) list (AreTexts fields)
    AreRequests (requests_made fields) c.in_err-inputs.field-0.0
    c.in_err-inputs.ensures
    (λ t v. rw c.as_slice-list.ensures (are-few fields.windows v)))
