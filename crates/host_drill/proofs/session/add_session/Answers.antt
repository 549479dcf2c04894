use Rattle.std.proofs.Common.{ap, ◌∙◌, length, rules}
use Rattle.hex.specs.Hex.{encode_lower}
use Rattle.host_drill.proofs.PlayLemmas.{line_told}
use Rattle.host_drill.proofs.session.add_session.Goals as goal

pub returns-clause-told : goal.returns-clause-told
returns-clause-told g c =
    let played = c.in_ok-played.ensures.value in
    let told =
    line_told c.args.number c.args.session _ _ _ _ _ c.in_ok-line.ensures
    (c.in_ok-accepted.ensures.value ∙ ap length played.history)
    played.refused (c.deref.ensures ∙ c.in_ok-digest.ensures ∙ ap encode_lower c.as_slice.ensures)
    played.digest in
    let added = c.extend_from_slice.ensures.items in
    let bytes = c.as_bytes.ensures.value in
    search (rules)
