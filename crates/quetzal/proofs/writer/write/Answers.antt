use Rattle.std.proofs.Common.{◌≡◌, ap, ◌∙◌, Result, Ok, Err}
use Rattle.std.specs.Result.{IfOk}
use Rattle.quetzal.specs.Save.{canon, save_in}
use Rattle.quetzal.proofs.WriteLemmas.{state_given_back}
use Rattle.quetzal.proofs.writer.write.Goals as goal

with_value : {A E : Type 0} (r : Result A E) (P Q : A → Type 0)
    → ((x : A) → P x → Q x) → IfOk r P → IfOk r Q
with_value (Ok x) P Q f h = f x h
with_value (Err e) P Q f h = h

pub returns-clause-read : goal.returns-clause-read
returns-clause-read c =
    let image = c.args.image.now in
    let state = c.args.state.now in
    let back =
    state_given_back image state c.spelled.ensures.laid c.requires c.spelled.ensures.kept in
    with_value c.spelled.result (λ v. v.items ≡ canon image state)
    (λ v. save_in image v.items ≡ Ok state)
    (λ v e. ap (save_in image) e ∙ back) c.spelled.ensures.ok
