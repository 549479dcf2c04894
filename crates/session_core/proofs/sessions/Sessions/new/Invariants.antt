use Rattle.std.proofs.Common.{◌≡◌, ◌≤◌, All, replicate, length, []}
use Rattle.session_core.proofs.sessions.Sessions.new.Given as goal

abbrev pub invariant-loop : goal.invariant-loop
invariant-loop l =
    (l.histories.items ≡ replicate l.counter [])
    × All (λ history. length history ≤ 8192) l.histories.items
