-- Disks of many loans, and what becomes of the disks, files and doors of an outside.
use Rattle.std.proofs.Common.{◌≡◌, ℕ, ◌≤◌, List, [], ◌∷◌, ◌++◌, arith, refl, sym, ◌∙◌, subst}
use Rattle.std.proofs.Common.{append_assoc, false, Option, None, Some, IsSomeAnd}
use Rattle.std.specs.Str.{bytes_eq}
use Rattle.line_talk.specs.Causes.{Rose}
use Rattle.turn_cell.specs.History.{Each}
use Rattle.turn_cell.proofs.HistoryLemmas.{each_append, each_first, each_map}
use Rattle.host_top.specs.Borrowed.{AreDifferentNames, Borrowed, CountsFaults, HasFailed, IsLending}
use Rattle.host_top.specs.Borrowed.{IsOther, Lending, PutsBack, back_as, lent_as, loan_by}
use Rattle.disk_model.specs.declared.disk.Disk.{Ghosts as DiskWords}
use Rattle.host_top.specs.Files.{KeepsDisks, KeepsDoors}
use Rattle.host_top.specs.Files.{KeepsFiles, OutsideState, RisesWith, TakesDiskBack}
use Rattle.host_top.specs.Folder.{AreSame}
use Rattle.host_top.specs.declared.loan.Loan.{Loan}
use Rattle.host_top.proofs.BorrowLemmas.{turned_about, each_last, lending_still, one_back}

-- ---- many disks

module _ {D : Type 0} (disks : DiskWords D) where
  pub lent_nothing : (a b : OutsideState D)
      → ((other : List ℕ) → (b.disk other ≡ a.disk other) × (b.loan other ≡ a.loan other))
      → Borrowed disks a b []
  lent_nothing a b same = record { each = tt; others = λ other away. same other }

  -- nothing becomes of them where the disks stay
  pub borrowed_same : (a b c : OutsideState D) (ls : List (Lending D)) → Borrowed disks a b ls
      → ((other : List ℕ) → (c.disk other ≡ b.disk other) × (c.loan other ≡ b.loan other))
      → Borrowed disks a c ls
  borrowed_same a b c ls is same = record {
    each = each_map (IsLending disks a b) (IsLending disks a c) ls
        (λ l one. lending_still disks a b c [] l (lent_nothing b c same) tt one) is.each;
    others = λ other away. (
      (same other).0 ∙ (is.others other away).0,
      (same other).1 ∙ (is.others other away).1,
    );
  }

  pub borrowed_still : (a b c : OutsideState D) (ls : List (Lending D)) → Borrowed disks a b ls
      → KeepsDisks b c → Borrowed disks a c ls
  borrowed_still a b c ls is keeps =
      borrowed_same a b c ls is (λ other. (keeps.disk other, keeps.loan other))

  -- ---- counts of faults

  out_rose : (ls : List (Lending D)) (P : Type 0) → Each (λ (l : Lending D). l.back ≡ None) ls
      → Each (λ l. HasFailed disks l → P) ls
  out_rose [] P out = tt
  out_rose (l ∷ ls) P out = (
    λ failed. absurd (subst (λ (o : Option D). IsSomeAnd o
        (λ back. Rose (disks.faults l.given) (disks.faults back))) out.0 failed),
    out_rose ls P out.1,
  )

  pub counts_out : (a b : OutsideState D) (ls : List (Lending D))
      → Each (λ (l : Lending D). l.back ≡ None) ls → b.disk_faults ≡ a.disk_faults
      → CountsFaults disks a b ls
  counts_out a b ls out same = record {
    rose = out_rose ls (Rose a.disk_faults b.disk_faults) out;
    stays = λ none. same;
    later = omega (arith, same);
  }

  pub counts_still : (a b c : OutsideState D) (ls : List (Lending D)) → CountsFaults disks a b ls
      → c.disk_faults ≡ b.disk_faults → CountsFaults disks a c ls
  counts_still a b c ls counts same = record {
    rose =
        subst (λ (n : ℕ). Each (λ l. HasFailed disks l → Rose a.disk_faults n) ls) (sym same)
        counts.rose;
    stays = λ none. same ∙ counts.stays none;
    later = omega (arith, same, counts.later);
  }

  rose_more : (before now then : ℕ) (ls : List (Lending D)) → now ≤ then
      → Each (λ l. HasFailed disks l → Rose before now) ls
      → Each (λ l. HasFailed disks l → Rose before then) ls
  rose_more before now then ls le each =
      each_map (λ l. HasFailed disks l → Rose before now)
      (λ l. HasFailed disks l → Rose before then) ls
      (λ l f failed. let rose = f failed in omega (arith, rose, le)) each

  rises_at : (b c : OutsideState D) (l : Lending D) (back : D)
      → TakesDiskBack disks.faults l.name back b c → b.loan l.name ≡ Some (loan_by disks l)
      → RisesWith (disks.faults l.given) (disks.faults back) b.disk_faults c.disk_faults
  rises_at b c l back takes loan =
      subst (λ (o : Option Loan). IsSomeAnd o
      (λ x. RisesWith x.from (disks.faults back) b.disk_faults c.disk_faults)) loan takes.count

  pub counts_one : (a b c : OutsideState D) (front : List (Lending D)) (l : Lending D)
      (rest : List (Lending D)) (back : D)
      → CountsFaults disks a b (front ++ l ∷ rest) → l.back ≡ None
      → b.loan l.name ≡ Some (loan_by disks l)
      → TakesDiskBack disks.faults l.name back b c
      → CountsFaults disks a c (front ++ record l { back = Some back } ∷ rest)
  counts_one a b c front l rest back counts out loan takes =
      let rises = rises_at b c l back takes loan in
      let F : Lending D → Type 0 = λ k. HasFailed disks k → Rose a.disk_faults b.disk_faults in
      let G : Lending D → Type 0 = λ k. HasFailed disks k → Rose a.disk_faults c.disk_faults in
      let N : Lending D → Type 0 = λ k. HasFailed disks k → ⊥ in
      record {
        rose = each_append G front (record l { back = Some back } ∷ rest)
            (rose_more a.disk_faults b.disk_faults c.disk_faults front rises.later
            (each_first F front (l ∷ rest) counts.rose)) (
              λ failed. let up = rises.rose failed in omega (arith, up, counts.later),
              rose_more a.disk_faults b.disk_faults c.disk_faults rest rises.later
                  (each_last F front (l ∷ rest) counts.rose).1,
            );
        stays = λ none.
            let after = each_last N front (record l { back = Some back } ∷ rest) none in
            rises.stays after.0 ∙ counts.stays
            (each_append N front (l ∷ rest)
            (each_first N front (record l { back = Some back } ∷ rest) none) (
              λ failed. absurd (subst (λ (o : Option D). IsSomeAnd o
                  (λ d. Rose (disks.faults l.given) (disks.faults d))) out failed),
              after.1,
            ));
        later = omega (arith, counts.later, rises.later);
      }

  -- ---- lists of disks

  pub same_all : (ds : List D) → AreSame disks ds ds
  same_all [] = tt
  same_all (d ∷ ds) = (record { telling = refl; size = refl; name = refl }, same_all ds)

  -- what holds of the names holds of the disks
  pub named_each : (P : List ℕ → Type 0) (ns : List (List ℕ)) (ds : List D) → Each P ns
      → Each (λ (l : Lending D). P l.name) (lent_as ns ds)
  named_each P [] ds each = tt
  named_each P (n ∷ ns) [] each = tt
  named_each P (n ∷ ns) (d ∷ ds) each = (each.0, named_each P ns ds each.1)

  named_back : (P : List ℕ → Type 0) (ls : List (Lending D)) (ds : List D)
      → Each (λ (l : Lending D). P l.name) ls → Each (λ (l : Lending D). P l.name) (back_as ls ds)
  named_back P [] ds each = tt
  named_back P (l ∷ ls) [] each = each
  named_back P (l ∷ ls) (d ∷ ds) each = (each.0, named_back P ls ds each.1)

  pub lent_out : (ns : List (List ℕ)) (ds : List D)
      → Each (λ (l : Lending D). l.back ≡ None) (lent_as ns ds)
  lent_out [] ds = tt
  lent_out (n ∷ ns) [] = tt
  lent_out (n ∷ ns) (d ∷ ds) = (refl, lent_out ns ds)

  pub others_turned : (name : List ℕ) (ns : List (List ℕ))
      → Each (λ other. bytes_eq name other ≡ false) ns
      → Each (λ other. bytes_eq other name ≡ false) ns
  others_turned name ns apart =
      each_map (λ other. bytes_eq name other ≡ false) (λ other. bytes_eq other name ≡ false) ns
      (λ other e. turned_about name other e) apart

  pub with_none : (ns : List (List ℕ)) → Each (λ n. Each {A = Lending D} (IsOther n) []) ns
  with_none [] = tt
  with_none (n ∷ ns) = (tt, with_none ns)

  pub behind : (front : List (Lending D)) (l : Lending D) (ls : List (Lending D))
      → front ++ l ∷ ls ≡ (front ++ l ∷ []) ++ ls
  behind front l ls = sym (append_assoc front (l ∷ []) ls)

  pub away_from : (front : List (Lending D)) (n : List ℕ) (d : D) (ns : List (List ℕ))
      → Each (λ m. Each (IsOther m) front) ns → Each (λ other. bytes_eq n other ≡ false) ns
      → Each (λ m. Each (IsOther m) (front ++ record { name = n; given = d; back = None } ∷ [])) ns
  away_from front n d [] far apart = tt
  away_from front n d (m ∷ ns) far apart = (
    each_append (IsOther m) front (record { name = n; given = d; back = None } ∷ []) far.0
        (apart.0, tt),
    away_from front n d ns far.1 apart.1,
  )

  -- what becomes of disks, and of the counts of faults, from one state to the next
  abbrev pub Goes : OutsideState D → OutsideState D → OutsideState D → OutsideState D
      → List (Lending D) → List (Lending D) → Type 0
  Goes s a b c ls ks =
      Borrowed disks a c ks × (CountsFaults disks s b ls → CountsFaults disks s c ks)

  -- they are put back, behind others
  pub all_back : (s a b c : OutsideState D) (front : List (Lending D)) (ns : List (List ℕ))
      (gs bs : List D) → Borrowed disks a b (front ++ lent_as ns gs)
      → AreDifferentNames ns
      → Each (λ n. Each (IsOther n) front) ns
      → AreSame disks gs bs → PutsBack disks.faults ns bs b c
      → Goes s a b c (front ++ lent_as ns gs) (front ++ back_as (lent_as ns gs) bs)
  all_back s a b c front [] gs bs is apart before same puts = (
    borrowed_still a b c (front ++ []) is puts,
    λ counts. counts_still s b c (front ++ []) counts puts.disk_faults,
  )
  all_back s a b c front (n ∷ ns) [] [] is apart before same puts = (
    borrowed_still a b c (front ++ []) is puts,
    λ counts. counts_still s b c (front ++ []) counts puts.disk_faults,
  )
  all_back s a b c front (n ∷ ns) [] (d ∷ bs) is apart before same puts = absurd same
  all_back s a b c front (n ∷ ns) (g ∷ gs) [] is apart before same puts = absurd same
  all_back s a b c front (n ∷ ns) (g ∷ gs) (d ∷ bs) is apart before same puts =
      let l : Lending D = record { name = n; given = g; back = None } in
      let mid : OutsideState D = puts.0 in
      let was : List (Lending D) = lent_as ns gs in
      let now : List (Lending D) = back_as (lent_as ns gs) bs in
      let inner : Goes s a b mid ((front ++ l ∷ []) ++ was) ((front ++ l ∷ []) ++ now) =
      all_back s a b mid (front ++ l ∷ []) ns gs bs
      (subst (λ (x : List (Lending D)). Borrowed disks a b x) (behind front l was) is)
      apart.1 (away_from front n g ns before.1 apart.0) same.1 puts.1 in
      let here : Goes s a b mid (front ++ l ∷ was) (front ++ l ∷ now) =
      subst (λ (x : List (Lending D)). Goes s a b mid x (front ++ l ∷ now))
      (sym (behind front l was))
      (subst (λ (x : List (Lending D)). Goes s a b mid ((front ++ l ∷ []) ++ was) x)
      (sym (behind front l now)) inner) in
      let loan = each_last (IsLending disks a mid) front (l ∷ now) here.0.each in
      let far : Each (IsOther n) now = named_back (λ m. bytes_eq m n ≡ false) (lent_as ns gs) bs
      (named_each (λ m. bytes_eq m n ≡ false) ns gs (others_turned n ns apart.0)) in (
        one_back disks a mid c front l now d here.0 before.0 far puts.2 same.0,
        λ counts. counts_one s mid c front l now d (here.1 counts) refl loan.0.loan puts.2,
      )

-- ---- disks, files and doors that stay

pub keeps_none : {D : Type 0} (outside : OutsideState D) → KeepsDisks outside outside
keeps_none outside = record { disk = λ name. refl; loan = λ name. refl; disk_faults = refl }

pub keeps_then : {D : Type 0} {a b c : OutsideState D} → KeepsDisks a b → KeepsDisks b c
    → KeepsDisks a c
keeps_then p q = record {
  disk = λ name. q.disk name ∙ p.disk name;
  loan = λ name. q.loan name ∙ p.loan name;
  disk_faults = q.disk_faults ∙ p.disk_faults;
}

pub doors_none : {D : Type 0} (outside : OutsideState D) → KeepsDoors outside outside
doors_none outside = record { door_faults = refl; shut = refl; door_calls = refl }

pub doors_then : {D : Type 0} {a b c : OutsideState D} → KeepsDoors a b → KeepsDoors b c
    → KeepsDoors a c
doors_then p q = record {
  door_faults = q.door_faults ∙ p.door_faults;
  shut = q.shut ∙ p.shut;
  door_calls = q.door_calls ∙ p.door_calls;
}

pub files_then : {D : Type 0} {a b c : OutsideState D} → KeepsFiles a b → KeepsFiles b c
    → KeepsFiles a c
files_then p q = record { file = q.file ∙ p.file; faults = q.faults ∙ p.faults }
