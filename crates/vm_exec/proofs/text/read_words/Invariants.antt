use Rattle.std.proofs.Common.{◌≡◌, ◌-◌}
use Rattle.vm_exec.specs.Rows.Text as rows
use Rattle.vm_exec.proofs.WordLemmas.{behind}
use Rattle.vm_exec.proofs.text.read_words.Given as goal

-- what is left to read comes behind what was read
abbrev pub invariant-loop : goal.invariant-loop
invariant-loop l =
    rows.words_at l.memory l.at l.count
    ≡ behind l.words.items (rows.words_at l.memory l.place (l.count - l.counter))
