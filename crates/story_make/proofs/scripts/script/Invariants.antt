use Rattle.std.proofs.Common.{◌≡◌, ◌≤◌, ◌-◌, ◌++◌, flat_map}
use Rattle.rand_core.specs.Steps.{first_words}
use Rattle.rand_pcg.specs.Pcg.{pcg32}
use Rattle.story_make.specs.Script.{line_of_request, requests_from, script_bytes}
use Rattle.story_make.specs.Lines.{kept_place}
use Rattle.story_make.proofs.scripts.script.Given as goal

-- what is written, and the lines of the turns that are left, are the script
abbrev pub invariant-loop : goal.invariant-loop
invariant-loop l = record {
  counted : l.place.sent ≤ l.counter;
  sofar : l.out.items ++ flat_map line_of_request
      (requests_from l.session (kept_place l.session l.place)
      (first_words pcg32 (l.turns - l.counter) l.words))
      ≡ script_bytes l.number l.session l.turns;
}
