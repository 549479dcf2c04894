use Rattle.std.proofs.Common.{rules, Some, ap, ◌∙◌, ℕ, List, Option}
use Rattle.std.proofs.lemmas.Map.Text.{btree_map_updates_text}
use Rattle.std.specs.BTreeMap.{get_by_text}
use Rattle.std.specs.Map.{update}
use Rattle.std.specs.Str.{bytes_eq}
use Rattle.host_top.specs.declared.memory_outside.Shelf.{Shelf}
use Rattle.host_top.proofs.OutsideLemmas.{part_at, told_part_at}
use Rattle.host_top.proofs.memory_outside.lend.Goals as goal

pub returns-in-Some-clause-disks : goal.returns-in-Some-clause-disks
returns-in-Some-clause-disks c =
    let name : List ℕ = c.args.name.now in
    let old : List ℕ → Option Shelf = get_by_text c.args.shelves.now in
    let new : List ℕ → Option Shelf = get_by_text (c.get_mut.follows.lender c.lend.new.self) in
    let at =
    btree_map_updates_text name c.args.shelves.now (c.get_mut.follows.lender c.lend.new.self)
    (Some c.lend.new.self) ((c.get_mut.follows.holds c.lend.new.self).3 (search (rules))) in
    told_part_at (λ s. s.disk) old new name _
    (λ other. at other ∙ ap (λ (s : Shelf). update bytes_eq old name (Some s) other)
    c.lend.ensures.loan)

pub returns-in-Some-clause-loans : goal.returns-in-Some-clause-loans
returns-in-Some-clause-loans c =
    let name : List ℕ = c.args.name.now in
    let old : List ℕ → Option Shelf = get_by_text c.args.shelves.now in
    let new : List ℕ → Option Shelf = get_by_text (c.get_mut.follows.lender c.lend.new.self) in
    let at =
    btree_map_updates_text name c.args.shelves.now (c.get_mut.follows.lender c.lend.new.self)
    (Some c.lend.new.self) ((c.get_mut.follows.holds c.lend.new.self).3 (search (rules))) in
    part_at (λ s. s.loan) old new name _
    (λ other. at other ∙ ap (λ (s : Shelf). update bytes_eq old name (Some s) other)
    c.lend.ensures.loan)
