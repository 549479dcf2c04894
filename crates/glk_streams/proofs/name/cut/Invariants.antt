use Rattle.std.proofs.Common.{◌≡◌, ◌≤◌, ◌-◌, ◌++◌, IsUtf8, chars}
use Rattle.std.specs.Str.Iter.{chars_rest}
use Rattle.std.specs.String.{string_bytes}
use Rattle.glk_streams.specs.Names.{name_cut}
use Rattle.glk_streams.proofs.name.cut.Given as goal

abbrev pub invariant-loop-c : goal.invariant-loop-c
invariant-loop-c l = IsUtf8 (chars_rest l.c-iterator)
    × (chars (string_bytes l.clean) ++ name_cut (64 - l.count) (chars (chars_rest l.c-iterator))
    ≡ name_cut 64 (chars l.fn.name))
    × (l.count ≤ 64)
