use Rattle.std.proofs.Common.{append_assoc, ◌∷◌, [], rules}
use Rattle.story_make.proofs.LineLemmas.{print_opening}
use Rattle.story_make.proofs.line.push_open.Goals as goal

pub returns : goal.returns
returns c =
    let text = c.format.ensures.ok in
    rw (print_opening c.args.number c.args.session (10 ∷ [])) (search (rules, append_assoc))
