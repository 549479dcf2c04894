use Rattle.std.proofs.Common.{◌∙◌, ◌++◌, ap, List, ℕ}
use Rattle.std.proofs.lemmas.List.{drop-replicate}
use Rattle.snap_store.specs.File.{snapshot_header, empty_snapshot_file}
use Rattle.snap_store.proofs.begin.first_page.Goals as goal

pub returns : goal.returns
unfolding empty_snapshot_file
returns c =
    c.put_header.ensures ∙ ap (λ (l : List ℕ). snapshot_header ++ l) (drop-replicate 8 4096 0)
