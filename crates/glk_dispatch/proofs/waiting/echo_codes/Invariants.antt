use Rattle.std.proofs.Common.{◌≡◌, drop}
use Rattle.glk_dispatch.specs.Events as rows
use Rattle.glk_dispatch.proofs.waiting.echo_codes.Given as goal

-- what is left to show gives what was to show
abbrev pub invariant-loop-code : goal.invariant-loop-code
invariant-loop-code l =
    rows.echoed l.glk l.memory l.stream (drop l.code-index l.codes)
    ≡ rows.echoed l.fn.glk l.fn.memory l.stream l.codes
