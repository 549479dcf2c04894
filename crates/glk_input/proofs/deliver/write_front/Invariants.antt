use Rattle.std.proofs.Common.{◌≡◌, ◌+◌, ◌-◌, ◌≤◌, IsUtf8, chars, length, map, take}
use Rattle.std.specs.Str.Iter.{chars_rest}
use Rattle.glk_input.specs.Delivery.{line_written, code_taken}
use Rattle.glk_input.proofs.DeliveryLemmas.{HasWritten}
use Rattle.glk_input.proofs.deliver.write_front.Given as goal

-- what is left to write gives what was to write
abbrev pub invariant-loop-c : goal.invariant-loop-c
invariant-loop-c l = record {
  utf8 : IsUtf8 (chars_rest l.c-iterator);
  below : l.count ≤ l.max;
  written : line_written l.unicode l.memory l.at
      (map (code_taken l.unicode) (take (l.max - l.count) (chars (chars_rest l.c-iterator))))
      ≡ line_written l.unicode l.fn.memory l.from
      (map (code_taken l.unicode) (take l.max (chars l.text)));
  counted : l.count + length (take (l.max - l.count) (chars (chars_rest l.c-iterator))) ≡ length
      (take l.max (chars l.text));
  part : HasWritten l.unicode l.fn.memory l.memory l.from l.at
      (take (l.max - l.count) (chars (chars_rest l.c-iterator))) (take l.max (chars l.text));
}
