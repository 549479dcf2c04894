use Rattle.std.proofs.Common.{rules, arith, None, Some, ◌≡◌, refl, sym, ap, ◌∙◌, ℕ, List, Option}
use Rattle.std.proofs.Common.{IfNone, IfSome}
use Rattle.std.proofs.lemmas.Map.Text.{btree_map_updates_text}
use Rattle.std.specs.BTreeMap.{get_by_text}
use Rattle.std.specs.Option.{option_and_then}
use Rattle.disk_model.specs.declared.memory.MemDisk.{MemDisk}
use Rattle.host_top.specs.Files.{told_at, told_of_all}
use Rattle.host_top.specs.MemoryOutside.{disk_in, loan_in}
use Rattle.host_top.specs.declared.memory_outside.Shelf.{Shelf}
use Rattle.host_top.proofs.OutsideLemmas.{below_at, part_at, part_stays, told_part_at}
use Rattle.host_top.proofs.memory_outside.MemoryOutside.release.Goals as goal

whatever_some : {A : Type 0} (o : Option A) (P : Type 0) → P → IfSome o (λ a. P)
whatever_some None P is = tt
whatever_some (Some a) P is = is

where_none : {A : Type 0} (o : Option A) (P : Type 0) → (o ≡ None → P) → IfNone o P
where_none None P is = is refl
where_none (Some a) P is = tt

pub invariant_of-self : goal.invariant_of-self
invariant_of-self c =
    let name : List ℕ = c.args.name.now in
    let calls : ℕ = c.args.self.now.calls in
    let old : List ℕ → Option Shelf = get_by_text c.args.self.now.shelves in
    let now : Shelf = record { disk = c.take.new.self; loan = c.in-Some.shelf.now.loan } in
    let new : List ℕ → Option Shelf = get_by_text (c.get_mut.follows.lender now) in
    let at =
    btree_map_updates_text name c.args.self.now.shelves (c.get_mut.follows.lender now)
    (Some now) ((c.get_mut.follows.holds now).3 (search (rules))) in
    let here : loan_in c.args.self.now.shelves name ≡ c.in-Some.shelf.now.loan =
    ap (option_and_then (λ s. s.loan)) (sym c.in-Some.ensures.value) in
    record {
      below =
          below_at (loan_in c.args.self.now.shelves) (loan_in (c.get_mut.follows.lender now)) name
          c.in-Some.shelf.now.loan calls calls
          (part_at (λ s. s.loan) old new name now at) (omega arith)
          (λ l e. c.args.self.now.below name l (here ∙ e)) c.args.self.now.below;
    }

pub returns-in-Some-clause-ok : goal.returns-in-Some-clause-ok
returns-in-Some-clause-ok c =
    let name : List ℕ = c.args.name.now in
    let old : List ℕ → Option Shelf = get_by_text c.args.self.now.shelves in
    let now : Shelf = record { disk = c.take.new.self; loan = c.in-Some.shelf.now.loan } in
    let new : List ℕ → Option Shelf = get_by_text (c.get_mut.follows.lender now) in
    let at =
    btree_map_updates_text name c.args.self.now.shelves (c.get_mut.follows.lender now)
    (Some now) ((c.get_mut.follows.holds now).3 (search (rules))) in
    let here : loan_in c.args.self.now.shelves name ≡ c.in-Some.shelf.now.loan =
    ap (option_and_then (λ s. s.loan)) (sym c.in-Some.ensures.value) in
    whatever_some c.take.result _ (record {
      disk = λ other. told_part_at (λ s. s.disk) old new name now at other
          ∙ ap (λ (d : Option MemDisk).
          told_at (disk_in c.args.self.now.shelves) name (told_of_all d) other)
          c.take.ensures.after;
      loan = part_stays (λ s. s.loan) old new name now at here;
      disk_faults = refl;
    })

pub returns-in-Some-clause-none : goal.returns-in-Some-clause-none
returns-in-Some-clause-none c =
    let name : List ℕ = c.args.name.now in
    let old : List ℕ → Option Shelf = get_by_text c.args.self.now.shelves in
    let now : Shelf = record { disk = c.take.new.self; loan = c.in-Some.shelf.now.loan } in
    let new : List ℕ → Option Shelf = get_by_text (c.get_mut.follows.lender now) in
    let at =
    btree_map_updates_text name c.args.self.now.shelves (c.get_mut.follows.lender now)
    (Some now) ((c.get_mut.follows.holds now).3 (search (rules))) in
    let stood = sym c.in-Some.ensures.value in
    where_none c.take.result _ (λ none. record {
      disk = λ other. ap told_of_all (part_stays (λ s. s.disk) old new name now at
          (ap (option_and_then (λ s. s.disk)) stood ∙ sym c.take.ensures.value ∙ none
          ∙ sym c.take.ensures.after) other);
      loan =
          part_stays (λ s. s.loan) old new name now at
          (ap (option_and_then (λ s. s.loan)) stood);
      disk_faults = refl;
    })
