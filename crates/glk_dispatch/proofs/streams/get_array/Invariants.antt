use Rattle.std.proofs.Common.{◌≡◌, ◌≤◌, ◌-◌}
use Rattle.glk_dispatch.specs.Streams as rows
use Rattle.glk_dispatch.proofs.streams.get_array.Given as goal

-- what is left to read gives what was to read
abbrev pub invariant-loop-count : goal.invariant-loop-count
invariant-loop-count l = record {
  below : l.count ≤ l.most;
  sofar : rows.got_array (l.most - l.count) l.line l.unicode l.glk l.memory l.stream l.at l.count
      ≡ rows.got_array l.most l.line l.unicode l.fn.glk l.fn.memory l.stream l.buf 0;
}

abbrev pub decreases-loop-count : goal.decreases-loop-count
decreases-loop-count l = l.most - l.count
