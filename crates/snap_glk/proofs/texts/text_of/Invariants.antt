use Rattle.std.proofs.Common.{◌≡◌, ◌++◌, drop}
use Rattle.std.specs.Str.{all_scalars, encode_utf8_all}
use Rattle.snap_glk.proofs.texts.text_of.Given as goal

-- the characters that are there and those that are left are all
abbrev pub invariant-loop-code : goal.invariant-loop-code
invariant-loop-code l = record {
  all : l.utf8.bytes.items ++ encode_utf8_all (drop l.code-index l.codes) ≡ encode_utf8_all l.codes;
  sofar : all_scalars l.codes ≡ all_scalars (drop l.code-index l.codes);
}
