use Rattle.std.proofs.Common.{◌≡◌, ◌∙◌, ◌++◌, [], sym, drop, arith}
use Rattle.std.specs.Str.{encode_utf8_all}
use Rattle.std.proofs.lemmas.List.{append-nil, drop_all}
use Rattle.std.proofs.lemmas.Str.{chars_from_encodes, IsUtf8-string_bytes}
use Rattle.snap_glk.proofs.texts.text_of.Goals as goal

pub returns : goal.returns
returns c =
    let done : drop c.loop-code.code-index c.args.codes.now ≡ [] =
    drop_all c.loop-code.code-index c.args.codes.now (omega (arith, c.loop-code-test.false)) in
    let all : c.loop-code.utf8.bytes.items ++ [] ≡ encode_utf8_all c.args.codes.now =
    rw done at c.loop-code.invariant.all in
    let same : c.loop-code.utf8.bytes.items ≡ encode_utf8_all c.args.codes.now =
    sym (append-nil c.loop-code.utf8.bytes.items) ∙ all in
    c.of.ensures ∙ sym (chars_from_encodes c.args.codes.now c.loop-code.utf8.bytes.items
    (IsUtf8-string_bytes c.loop-code.utf8) (sym same))
