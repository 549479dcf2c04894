use Rattle.std.proofs.Common.{Some, ap, ◌∙◌, ℕ, List, string_bytes}
use Rattle.std.proofs.lemmas.Map.Text.{btree_map_updates_text}
use Rattle.std.specs.BTreeMap.{get_by_text}
use Rattle.std.specs.Map.{update}
use Rattle.std.specs.Str.{bytes_eq}
use Rattle.storyhost.proofs.edge.files.note.Goals as goal

pub returns-clause-ok : goal.returns-clause-ok
returns-clause-ok c = λ other.
    btree_map_updates_text (string_bytes c.in_ok-name.name) c.args.loans.now c.insert.new.self
    (Some c.args.loan) c.in_ok-insert.ensures.updates other
    ∙ ap (λ (n : List ℕ). update bytes_eq (get_by_text c.args.loans.now) n (Some c.args.loan) other)
    c.in_ok-name.ensures.ok
