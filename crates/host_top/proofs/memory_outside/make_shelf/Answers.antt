use Rattle.std.proofs.Common.{Some, None, ◌≡◌, refl, sym, ap, ◌∙◌, ℕ, List, string_bytes, is_some}
use Rattle.std.proofs.lemmas.Map.Text.{btree_map_updates_text}
use Rattle.std.specs.BTreeMap.{get_by_text}
use Rattle.std.specs.Map.{update}
use Rattle.std.specs.Str.{bytes_eq}
use Rattle.host_top.specs.Files.{told_of_all}
use Rattle.host_top.specs.declared.memory_outside.Shelf.{Shelf}
use Rattle.host_top.proofs.OutsideLemmas.{no_part_at, none_copied, some_copied, stands_at}
use Rattle.host_top.proofs.memory_outside.make_shelf.Goals as goal

pub returns-then-is_some-clause-there : goal.returns-then-is_some-clause-there
returns-then-is_some-clause-there c =
    some_copied c.get.result _ c.get.ensures.value (sym c.is_some.ensures ∙ c.if-is_some.true)

pub returns-clause-kept : goal.returns-clause-kept
returns-clause-kept c =
    let name : List ℕ = c.args.name.now in
    let same : string_bytes c.in_ok-name.name ≡ name = c.in_ok-name.ensures.ok in
    let absent : get_by_text c.args.shelves.now name ≡ None =
    none_copied c.get.result _ c.get.ensures.value (sym c.is_some.ensures ∙ c.if-is_some.false)
    in
    let now : Shelf = record { disk = None; loan = None } in
    let at : (other : List ℕ) → get_by_text c.insert.new.self other ≡ update bytes_eq
    (get_by_text c.args.shelves.now) name (Some now) other
    =
    λ other. btree_map_updates_text (string_bytes c.in_ok-name.name) c.args.shelves.now
    c.insert.new.self (Some now) c.in_ok-insert.ensures.updates other
    ∙ ap (λ (n : List ℕ). update bytes_eq (get_by_text c.args.shelves.now) n (Some now) other) same
    in
    λ other. (
      ap told_of_all (no_part_at (λ s. s.disk) (get_by_text c.args.shelves.now)
          (get_by_text c.insert.new.self) name now at refl absent other),
      no_part_at (λ s. s.loan) (get_by_text c.args.shelves.now) (get_by_text c.insert.new.self) name
          now at refl absent other,
    )

pub returns-clause-there : goal.returns-clause-there
returns-clause-there c =
    let name : List ℕ = c.args.name.now in
    let same : string_bytes c.in_ok-name.name ≡ name = c.in_ok-name.ensures.ok in
    let now : Shelf = record { disk = None; loan = None } in
    ap is_some (stands_at (get_by_text c.args.shelves.now) (get_by_text c.insert.new.self) name now
    (λ other. btree_map_updates_text (string_bytes c.in_ok-name.name) c.args.shelves.now
    c.insert.new.self (Some now) c.in_ok-insert.ensures.updates other
    ∙ ap (λ (n : List ℕ). update bytes_eq (get_by_text c.args.shelves.now) n (Some now) other)
    same))
