use Rattle.std.proofs.Common.{◌≡◌, ◌≤◌, length, sym, ◌∙◌, ap, arith}
use Rattle.std.proofs.Common.{rules, string_bytes, string_len}
use Rattle.std.specs.Str.{chars, encode_utf8_all}
use Rattle.std.proofs.lemmas.Str.{encodes-chars}
use Rattle.gate_journal.proofs.LimitLemmas.{text_most}
use Rattle.gate_journal.proofs.room.text_in.Goals as goal

pub returns : goal.returns
returns c =
    let same : encode_utf8_all c.args.text.now ≡ c.as_str.result.now =
    ap encode_utf8_all (sym c.as_str.ensures) ∙ encodes-chars c.as_str.result.now c.as_str.utf8 in
    let fits : length c.as_str.result.now ≤ 4096 =
    omega (arith, ap length same, text_most c.args.text.now c.requires.text) in
    let empty : string_len c.args.into ≡ 0 = search rules in
    let fine = c.push_str.ensures.succeeds (omega (arith, fits, empty, c.requires.fits)) in
    let bytes : string_bytes c.push_str.new.self ≡ c.as_str.result.now = search rules in
    c.of.ensures ∙ ap chars bytes ∙ c.as_str.ensures
