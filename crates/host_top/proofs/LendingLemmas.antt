-- The loops over the disks of a folder.
use Rattle.std.proofs.Common.{◌≡◌, ℕ, zero, suc, ◌<◌, ◌≤◌, List, [], ◌∷◌, ◌++◌, length, map, take}
use Rattle.std.proofs.Common.{drop, arith, refl, sym, ap, ◌∙◌, subst, Option, None, Some, IsSomeAnd}
use Rattle.std.proofs.Common.{Result, Ok, Err, OnErr, IsErrOf, slice_get, get_or, String, false}
use Rattle.std.proofs.Common.{IsTrue, string_bytes}
use Rattle.std.proofs.Math.ListN.{drop_of_length-le}
use Rattle.std.proofs.Math.Seq.{drop-cons, take-suc}
use Rattle.std.proofs.lemmas.List.{same_from_push}
use Rattle.std.proofs.lemmas.Option.{get_or_from_slice_get, slice_get-get_or, slice_get-map}
use Rattle.std.proofs.lemmas.Option.{slice_get_read, slice_get_within}
use Rattle.std.specs.Option.{option_map}
use Rattle.std.specs.Str.{bytes_eq}
use Rattle.disk_model.specs.Work.{SameDisk}
use Rattle.turn_cell.specs.History.{Each}
use Rattle.turn_cell.proofs.HistoryLemmas.{each_map}
use Rattle.host_top.specs.Borrowed.{AreDifferentNames, AreAsGiven, AreNamed, Borrowed}
use Rattle.host_top.specs.Borrowed.{IsLending, IsOther, Lending, PutsBack, back_as, lent_as}
use Rattle.disk_model.specs.declared.disk.Disk.{Ghosts as DiskWords}
use Rattle.host_top.specs.Files.{IsLent, IsLentFrom, Lends, OutsideState, RisesWith, TakesDiskBack}
use Rattle.line_talk.specs.Causes.{Rose}
use Rattle.host_top.specs.declared.loan.Loan.{Loan}
use Rattle.host_top.specs.declared.outside.Fetch.{Fetch}
use Rattle.host_top.specs.declared.outside.Fetch.TheVariants as fetch
use Rattle.host_top.proofs.BorrowLemmas.{elsewhere, lent_one}
use Rattle.host_top.proofs.LoansLemmas.{all_back, borrowed_same, keeps_none, lent_nothing}
use Rattle.host_top.proofs.BorrowLemmas.{one_back, together, turned_about}
use Rattle.host_top.proofs.LoansLemmas.{named_each, same_all, with_none}

pub on_err : {T E : Type 0} (r : Result T E) (P : Type 0) → P → OnErr r P
on_err (Ok x) P p = tt
on_err (Err e) P p = p

module _ {D : Type 0} (disks : DiskWords D) where
  -- a disk that was lent and put back at once
  pub returned_one : (name : List ℕ) (given back : D) (a b c : OutsideState D)
      → Lends disks name given a b
      → (IsTrue (disks.tells given) → IsLentFrom disks (a.disk name) given)
      → SameDisk disks given back → TakesDiskBack disks.faults name back b c
      → Borrowed disks a c (record { name = name; given = given; back = Some back } ∷ [])
  returned_one name given back a b c lends lent same takes =
      one_back disks a b c [] (record { name = name; given = given; back = None }) [] back
      (lent_one disks name given a b lends lent) tt tt takes same

-- ---- places in lists

module _ {A : Type 0} where
  pub same_item : (x y : A) → Some x ≡ Some y → x ≡ y
  same_item x y e = cc

  pub drop_step : (xs : List A) (k : ℕ) (x : A) → slice_get xs k ≡ Some x
      → drop k xs ≡ x ∷ drop (suc k) xs
  drop_step xs k x e = drop-cons xs k x (slice_get_within xs k x e)
      ∙ ap (λ (y : A). y ∷ drop (suc k) xs) (get_or_from_slice_get xs k x x e)

  -- the last of the first ones
  pub pop_last : (xs : List A) (k : ℕ) (rest : List A) (x : A) → rest ++ x ∷ [] ≡ take (suc k) xs
      → k < length xs → (rest ≡ take k xs) × (slice_get xs k ≡ Some x)
  pop_last xs k rest x e within =
      let last = same_from_push rest (take k xs) x (get_or xs k x) (e ∙ take-suc xs k x within) in
      (last.0, slice_get_read xs (length xs) k x refl within last.1)

-- the name at a place
pub named_at : {Y : Type 0} (names : List (String Y)) (k : ℕ) (name : String Y) → k < length names
    → name ≡ get_or names k name
    → slice_get (map string_bytes names) k ≡ Some (string_bytes name)
named_at {Y} names k name within is =
    slice_get-map string_bytes names k
    ∙ ap (option_map string_bytes)
    (slice_get-get_or names k name within ∙ ap (λ (n : String Y). Some n) (sym is))

pub each_at : (P : List ℕ → Type 0) (ns : List (List ℕ)) (i : ℕ) (n : List ℕ) → Each P ns
    → slice_get ns i ≡ Some n → P n
each_at P [] i n each e = cc
each_at P (m ∷ ns) zero n each e = subst P (same_item m n e) each.0
each_at P (m ∷ ns) (suc i) n each e = each_at P ns i n each.1 e

pub apart_at : (ns : List (List ℕ)) (i k : ℕ) (a b : List ℕ)
    → AreDifferentNames ns → slice_get ns i ≡ Some a
    → slice_get ns k ≡ Some b → i < k → bytes_eq a b ≡ false
apart_at [] i k a b apart here there low = cc
apart_at (n ∷ ns) zero zero a b apart here there low = absurd (omega arith)
apart_at (n ∷ ns) zero (suc k) a b apart here there low =
    subst (λ (m : List ℕ). bytes_eq m b ≡ false) (same_item n a here)
    (each_at (λ other. bytes_eq n other ≡ false) ns k b apart.0 there)
apart_at (n ∷ ns) (suc i) zero a b apart here there low = absurd (omega arith)
apart_at (n ∷ ns) (suc i) (suc k) a b apart here there low =
    apart_at ns i k a b apart.1 here there (omega arith)

-- ---- one disk more is put back

module _ {D : Type 0} (faults : D → ℕ) where
  pub puts_none : (ns : List (List ℕ)) (ds : List D) (a : OutsideState D) (n : ℕ) → length ds ≤ n
      → PutsBack faults (drop n ns) (drop n ds) a a
  puts_none ns ds a n le =
      subst (λ (l : List D). PutsBack faults (drop n ns) l a a) (sym (drop_of_length-le ds le))
      (nothing (drop n ns))
    where
      nothing : (l : List (List ℕ)) → PutsBack faults l [] a a
      nothing [] = keeps_none a
      nothing (x ∷ xs) = keeps_none a

  pub puts_more : (ns : List (List ℕ)) (ds : List D) (k : ℕ) (name : List ℕ) (d : D)
      (a b c : OutsideState D) → PutsBack faults (drop (suc k) ns) (drop (suc k) ds) a b
      → slice_get ns k ≡ Some name → slice_get ds k ≡ Some d → TakesDiskBack faults name d b c
      → PutsBack faults (drop k ns) (drop k ds) a c
  puts_more ns ds k name d a b c puts named is takes =
      subst (λ (l : List (List ℕ)). PutsBack faults l (drop k ds) a c)
      (sym (drop_step ns k name named))
      (subst (λ (l : List D). PutsBack faults (name ∷ drop (suc k) ns) l a c)
      (sym (drop_step ds k d is)) (b, puts, takes))

  -- the others are lent still
  pub lent_beside : (ns : List (List ℕ)) (i k : ℕ) (name other : List ℕ) (d : D)
      (b c : OutsideState D) (label : ℕ) → AreDifferentNames ns → slice_get ns k ≡ Some name
      → slice_get ns i ≡ Some other
      → i < k → TakesDiskBack faults name d b c → IsLent (b.loan other) label
      → IsLent (c.loan other) label
  lent_beside ns i k name other d b c label apart named there low takes lent =
      subst (λ (l : Option Loan). IsLent l label)
      (sym (takes.loans other ∙ elsewhere (bytes_eq name other) _ (b.loan other)
      (turned_about other name (apart_at ns i k other name apart there named low)))) lent

  takes_later : (name : List ℕ) (d : D) (b c : OutsideState D) → TakesDiskBack faults name d b c
      → b.disk_faults ≤ c.disk_faults
  takes_later name d b c takes = of (b.loan name) takes.count
    where
      of : (l : Option Loan) → IsSomeAnd l
          (λ loan. RisesWith loan.from (faults d) b.disk_faults c.disk_faults)
          → b.disk_faults ≤ c.disk_faults
      of None is = absurd is
      of (Some loan) is = is.later

  pub puts_later : (ns : List (List ℕ)) (ds : List D) (a b : OutsideState D)
      → PutsBack faults ns ds a b → a.disk_faults ≤ b.disk_faults
  puts_later [] ds a b keeps = omega (arith, keeps.disk_faults)
  puts_later (n ∷ ns) [] a b keeps = omega (arith, keeps.disk_faults)
  puts_later (n ∷ ns) (d ∷ ds) a b puts = let more =
      puts_later ns ds a puts.0 puts.1 in omega (arith, more, takes_later n d puts.0 b puts.2)

-- ---- one disk more is lent

module _ {D : Type 0} (disks : DiskWords D) where
  lent_first : (ns : List (List ℕ)) (ds : List D) → lent_as ns ds ≡ lent_as (take (length ds) ns) ds
  lent_first [] [] = refl
  lent_first [] (d ∷ ds) = refl
  lent_first (n ∷ ns) [] = refl
  lent_first (n ∷ ns) (d ∷ ds) =
      ap (λ (l : List (Lending D)). record { name = n; given = d; back = None } ∷ l)
      (lent_first ns ds)

  lent_more : (ns : List (List ℕ)) (ds : List D) (name : List ℕ) (d : D)
      → slice_get ns (length ds) ≡ Some name
      → lent_as ns (ds ++ d ∷ []) ≡ lent_as ns ds
      ++ record { name = name; given = d; back = None } ∷ []
  lent_more [] ds name d e = cc
  lent_more (n ∷ ns) [] name d e =
      ap (λ (m : List ℕ). record { name = m; given = d; back = None } ∷ lent_as ns [])
      (same_item n name e) ∙ ap (λ (l : List (Lending D)).
      record { name = name; given = d; back = None } ∷ l) (lent_none ns)
    where
      lent_none : (l : List (List ℕ)) → lent_as {D = D} l [] ≡ []
      lent_none [] = refl
      lent_none (m ∷ ms) = refl
  lent_more (n ∷ ns) (g ∷ gs) name d e =
      ap (λ (l : List (Lending D)). record { name = n; given = g; back = None } ∷ l)
      (lent_more ns gs name d e)

  -- the next name is another
  next_apart : (ns : List (List ℕ)) (ds : List D) (name : List ℕ) → AreDifferentNames ns
      → slice_get ns (length ds) ≡ Some name
      → Each (λ n. bytes_eq n name ≡ false) (take (length ds) ns)
  next_apart [] ds name apart e = cc
  next_apart (n ∷ ns) [] name apart e = tt
  next_apart (n ∷ ns) (d ∷ ds) name apart e = (
    each_at (λ other. bytes_eq n other ≡ false) ns (length ds) name apart.0 e,
    next_apart ns ds
        name apart.1 e,
  )

  -- and its loan is as before
  pub next_loan : (a b : OutsideState D) (ns : List (List ℕ)) (ds : List D) (name : List ℕ)
      → AreDifferentNames ns → slice_get ns (length ds) ≡ Some name
      → Borrowed disks a b (lent_as ns ds) → b.loan name ≡ a.loan name
  next_loan a b ns ds name apart e is =
      (is.others name (subst (λ (l : List (Lending D)). Each (IsOther name) l)
      (sym (lent_first ns ds))
      (named_each disks (λ n. bytes_eq n name ≡ false) (take (length ds) ns) ds
      (next_apart ns ds name apart e)))).1

  pub take_more : (a b c : OutsideState D) (ns : List (List ℕ)) (ds : List D) (name : List ℕ)
      (d : D) → AreDifferentNames ns → slice_get ns (length ds) ≡ Some name
      → Borrowed disks a b (lent_as ns ds)
      → Borrowed disks b c (record { name = name; given = d; back = None } ∷ [])
      → Borrowed disks a c (lent_as ns (ds ++ d ∷ []))
  take_more a b c ns ds name d apart e first more =
      let l : Lending D = record { name = name; given = d; back = None } in
      subst (λ (k : List (Lending D)). Borrowed disks a c k) (sym (lent_more ns ds name d e))
      (together disks a b c (lent_as ns ds) (l ∷ []) first more
      (subst (λ (k : List (Lending D)). Each (λ m. Each (IsOther m.name) (l ∷ [])) k)
      (sym (lent_first ns ds)) (named_each disks (λ n. Each (IsOther n) (l ∷ []))
      (take (length ds) ns) ds (each_map (λ n. bytes_eq n name ≡ false)
      (λ n. Each (IsOther n) (l ∷ [])) (take (length ds) ns)
      (λ n other. (turned_about n name other, tt)) (next_apart ns ds name apart e)))))

  given_all : (ns : List (List ℕ)) (ds : List D) → AreAsGiven (back_as (lent_as ns ds) ds)
  given_all [] ds = tt
  given_all (n ∷ ns) [] = tt
  given_all (n ∷ ns) (d ∷ ds) = (refl, given_all ns ds)

  back_named : (P : List ℕ → Type 0) (ns : List (List ℕ)) (ds : List D) → Each P ns
      → Each (λ (l : Lending D). P l.name) (back_as (lent_as ns ds) ds)
  back_named P [] ds each = tt
  back_named P (n ∷ ns) [] each = tt
  back_named P (n ∷ ns) (d ∷ ds) each = (each.0, back_named P ns ds each.1)

  -- each that is out may be put back
  pub lent_at : (a b : OutsideState D) (ns : List (List ℕ)) (ds : List D) (i : ℕ) (name : List ℕ)
      (d : D) → Each (IsLending disks a b) (lent_as ns ds)
      → slice_get ns i ≡ Some name → slice_get ds i ≡ Some d → IsLent (b.loan name) (disks.label d)
  lent_at a b [] ds i name d each named is = cc
  lent_at a b (n ∷ ns) [] i name d each named is = cc
  lent_at a b (n ∷ ns) (g ∷ gs) zero name d each named is =
      subst (λ (m : List ℕ). IsLent (b.loan m) (disks.label d)) (same_item n name named)
      (subst (λ (l : Option Loan). IsLent l (disks.label d)) (sym each.0.loan)
      (ap disks.label (same_item g d is), refl))
  lent_at a b (n ∷ ns) (g ∷ gs) (suc i) name d each named is =
      lent_at a b ns gs i name d each.1 named is

  -- where one isn't lent, those that were are out still, and may be put back as they were given
  pub take_not : (a b c : OutsideState D) (ns : List (List ℕ)) (ds : List D)
      → AreDifferentNames ns → Borrowed disks a b (lent_as ns ds)
      → ((other : List ℕ) → (c.disk other ≡ b.disk other) × (c.loan other ≡ b.loan other))
      → ((i : ℕ) (other : List ℕ) (d : D) → slice_get ns i ≡ Some other
      → slice_get ds i ≡ Some d → IsLent (c.loan other) (disks.label d))
      × ((e : OutsideState D) → PutsBack disks.faults ns ds c e
      → (ks : List (Lending D)) × AreAsGiven ks × AreNamed ns ks × Borrowed disks a e ks)
  take_not a b c ns ds apart first same =
      let still = borrowed_same disks a b c (lent_as ns ds) first same in (
        λ i other d there is. lent_at a c ns ds i other d still.each there is,
        λ e puts. (
          back_as (lent_as ns ds) ds,
          given_all ns ds,
          (λ other away. back_named (λ n. bytes_eq n other ≡ false) ns ds away),
          (all_back disks a a c e [] ns ds ds still apart (with_none disks ns) (same_all disks ds)
              puts).0,
        ),
      )

  pub none_lent : (a : OutsideState D) (ns : List (List ℕ)) (ds : List D) → ds ≡ []
      → Borrowed disks a a (lent_as ns ds)
  none_lent a ns ds none =
      subst (λ (l : List D). Borrowed disks a a (lent_as ns l)) (sym none) (of ns)
    where
      of : (l : List (List ℕ)) → Borrowed disks a a (lent_as l [])
      of [] = lent_nothing disks a a (λ other. (refl, refl))
      of (n ∷ l) = lent_nothing disks a a (λ other. (refl, refl))

pub failed_so : {T U : Type 0} (why : Fetch) → IsErrOf {T = T} (Err why) fetch.Failed
    → IsErrOf {T = U} (Err why) fetch.Failed
failed_so why is = of why is
  where
    of : {T U : Type 0} (why : Fetch) → IsErrOf {T = T} (Err why) fetch.Failed
        → IsErrOf {T = U} (Err why) fetch.Failed
    of fetch.Failed is = refl
    of fetch.NoMemory is = absurd (grind (arith, is))

-- the call that lends a disk failed, and its count rose
pub cause_failed : {D T U : Type 0} (why : Fetch) (a b c e : OutsideState D)
    → b.disk_faults ≡ a.disk_faults
    → (IsErrOf {T = U} (Err why) fetch.Failed → Rose b.disk_faults c.disk_faults)
    → c.disk_faults ≤ e.disk_faults
    → IsErrOf {T = T} (Err why) fetch.Failed → Rose a.disk_faults e.disk_faults
cause_failed {D} {T} {U} why a b c e same rose later failed = let up =
    rose (failed_so why failed) in omega (arith, up, same, later)
