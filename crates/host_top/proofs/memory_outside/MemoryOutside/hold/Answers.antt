use Rattle.std.proofs.Common.{rules, arith, Some, ◌≡◌, refl, sym, ap, ◌∙◌, ℕ, List, Option}
use Rattle.std.proofs.Common.{if◌then◌else◌}
use Rattle.std.proofs.lemmas.Map.Text.{btree_map_updates_text}
use Rattle.std.specs.BTreeMap.{get_by_text}
use Rattle.std.specs.Option.{option_and_then}
use Rattle.std.specs.Str.{bytes_eq}
use Rattle.disk_model.specs.declared.memory.MemDisk.{MemDisk}
use Rattle.host_top.specs.Files.{AreBelow, Told, There, told_now}
use Rattle.host_top.specs.MemoryOutside.{loan_in}
use Rattle.host_top.specs.declared.memory_outside.Shelf.{Shelf}
use Rattle.host_top.proofs.OutsideLemmas.{below_at, below_same, part_at, part_stays, told_part_at}
use Rattle.host_top.proofs.memory_outside.MemoryOutside.hold.Goals as goal

pub invariant_of-self-in-Some : goal.invariant_of-self-in-Some
invariant_of-self-in-Some c =
    let name : List ℕ = c.args.name.now in
    let calls : ℕ = c.args.self.now.calls in
    let old : List ℕ → Option Shelf = get_by_text c.make_shelf.new.shelves in
    let now : Shelf = record { disk = Some c.args.disk; loan = c.in-Some.shelf.now.loan } in
    let new : List ℕ → Option Shelf = get_by_text (c.get_mut.follows.lender now) in
    let at =
    btree_map_updates_text name c.make_shelf.new.shelves (c.get_mut.follows.lender now)
    (Some now) ((c.get_mut.follows.holds now).3 (search (rules))) in
    let before : AreBelow (loan_in c.make_shelf.new.shelves) calls =
    below_same (loan_in c.args.self.now.shelves) (loan_in c.make_shelf.new.shelves) calls calls
    (λ other. (c.make_shelf.ensures.kept other).1) (omega arith) c.args.self.now.below in
    let here : loan_in c.make_shelf.new.shelves name ≡ c.in-Some.shelf.now.loan =
    ap (option_and_then (λ s. s.loan)) (sym c.in-Some.ensures.value) in
    record {
      below =
          below_at (loan_in c.make_shelf.new.shelves) (loan_in (c.get_mut.follows.lender now)) name
          c.in-Some.shelf.now.loan calls calls
          (part_at (λ s. s.loan) old new name now at) (omega arith)
          (λ l e. before name l (here ∙ e)) before;
    }

pub returns-clause-ok : goal.returns-clause-ok
returns-clause-ok c =
    let name : List ℕ = c.args.name.now in
    let old : List ℕ → Option Shelf = get_by_text c.make_shelf.new.shelves in
    let now : Shelf = record { disk = Some c.args.disk; loan = c.in-Some.shelf.now.loan } in
    let new : List ℕ → Option Shelf = get_by_text (c.get_mut.follows.lender now) in
    let at =
    btree_map_updates_text name c.make_shelf.new.shelves (c.get_mut.follows.lender now)
    (Some now) ((c.get_mut.follows.holds now).3 (search (rules))) in
    let here : loan_in c.make_shelf.new.shelves name ≡ c.in-Some.shelf.now.loan =
    ap (option_and_then (λ s. s.loan)) (sym c.in-Some.ensures.value) in
    record {
      disk = λ other. told_part_at (λ s. s.disk) old new name now at other
          ∙ ap (λ (t : Told MemDisk).
          if bytes_eq name other then told_now t (There c.args.disk) else t)
          (c.make_shelf.ensures.kept other).0;
      loan = λ other. part_stays (λ s. s.loan) old new name now at here other
          ∙ (c.make_shelf.ensures.kept other).1;
      disk_faults = refl;
    }
