-- The disks of a folder, taken and put back.
use Rattle.std.proofs.Common.{◌≡◌, ℕ, zero, suc, List, [], ◌∷◌, ◌++◌, length, map, arith, refl, sym}
use Rattle.std.proofs.Common.{ap, ◌∙◌, subst, None, Some, slice_get, slice_index_or, false, String}
use Rattle.std.proofs.Common.{Global, Option, Vec, remove, string_bytes}
use Rattle.std.specs.Str.{bytes_eq}
use Rattle.disk_model.specs.Work.{SameDisk}
use Rattle.turn_cell.specs.History.{Each}
use Rattle.host_top.specs.Borrowed.{AreDifferentNames, Borrowed, IsLending, IsOther}
use Rattle.host_top.specs.Borrowed.{Lending, PutsBack, journal_in, lent_as, names_of}
use Rattle.host_top.specs.Borrowed.{snaps_below}
use Rattle.disk_model.specs.declared.disk.Disk.{Ghosts as DiskWords}
use Rattle.host_top.specs.Calls.{NoneIsOut}
use Rattle.host_top.specs.Files.{IsLent, KeepsDisks, OutsideState, TakesDiskBack, is_out}
use Rattle.host_top.specs.Folder.{AreOut, AreSame, Handled, TakesDisks, back_at, folder_back}
use Rattle.host_top.specs.declared.folder.Back.{Back}
use Rattle.host_top.specs.declared.folder.Back.TheVariants as back
use Rattle.host_top.specs.declared.loan.Loan.{Loan}
use Rattle.host_top.proofs.BorrowLemmas.{each_last, elsewhere, one_back, turned_about}
use Rattle.host_top.proofs.LoansLemmas.{all_back, away_from, behind, borrowed_still, counts_one}
use Rattle.host_top.proofs.LoansLemmas.{counts_out, lent_out, named_each, others_turned, with_none}
use Rattle.host_top.proofs.LendingLemmas.{lent_at, same_item}
use Rattle.host_top.proofs.NameLemmas.{names_apart, snaps_many}

pub short_names : {Y : Type 0} (names : List (String Y))
    → length names ≡ length (map string_bytes names)
short_names [] = refl
short_names (n ∷ names) = omega (arith, short_names names)

-- the journal's comes first, then 64 others
same_parts : (x y : List ℕ) (xs ys : List (List ℕ)) → x ∷ xs ≡ y ∷ ys → (x ≡ y) × (xs ≡ ys)
same_parts x y xs ys e = (cc, cc)

pub parted : {Y : Type 0} (folder : List ℕ) (all rest : List (String Y)) (first : String Y)
    → all ≡ first ∷ rest → map string_bytes all ≡ names_of folder
    → (string_bytes first ≡ journal_in folder)
    × (map string_bytes rest ≡ snaps_below folder 64)
parted folder all rest first is named =
    same_parts _ _ _ _ (ap (map string_bytes) (sym is) ∙ named)

pub sixty_four : {Y : Type 0} (folder : List ℕ) (names : List (String Y))
    → map string_bytes names ≡ snaps_below folder 64 → length names ≡ 64
sixty_four folder names named =
    omega (arith, short_names names, ap length named, snaps_many folder 64)

-- where no disk is out, none of these is
pub none_out : (loans : List ℕ → Option Loan) (names : List (List ℕ)) → NoneIsOut loans
    → Each (λ n. is_out (loans n) ≡ false) names
none_out loans [] none = tt
none_out loans (n ∷ names) none = (none n, none_out loans names none)

module _ {D : Type 0} (disks : DiskWords D) where
  -- the disks as they were lent
  pub taken : (folder : List ℕ) (ns : List (List ℕ)) (ds rest : List D) (first : D)
      (a b : OutsideState D) → ns ≡ names_of folder → length ds ≡ length ns
      → first ≡ slice_index_or ds 0 first → rest ≡ remove ds 0
      → Borrowed disks a b (lent_as ns ds) → b.disk_faults ≡ a.disk_faults
      → AreOut disks folder a b first rest
  taken folder ns [] rest first a b named many one others is count =
      absurd (omega (arith, many, ap length named))
  taken folder ns (d ∷ ds) rest first a b named many one others is count = record {
    many = ap length others ∙ omega (arith, many, ap length named, snaps_many folder 64);
    borrowed =
        subst (λ (n : List (List ℕ)). Borrowed disks a b (lent_as n (first ∷ rest))) named
        (subst (λ (l : List D). Borrowed disks a b (lent_as ns l)) (λ i. sym one i ∷ sym others i)
        is);
    count = count;
  }

  -- nothing becomes of them where the disks stay
  pub out_still : {folder : List ℕ} {a b c : OutsideState D} {given : D} {givens : List D}
      → AreOut disks folder a b given givens → KeepsDisks b c
      → AreOut disks folder a c given givens
  out_still out keeps = record {
    many = out.many;
    borrowed = borrowed_still disks _ _ _ _ out.borrowed keeps;
    count = keeps.disk_faults ∙ out.count;
  }

  -- and once they are back, this is done with them
  pub folder_used : {named folder : List ℕ} {a b c : OutsideState D} {given : D}
      {givens : List D} {x : Back D} (P : D → List D → Back D → Type 0) → named ≡ folder
      → AreOut disks named a b given givens
      → Handled disks a c (folder_back (journal_in named) (snaps_below named 64) given givens x)
      → P given givens x → TakesDisks disks folder P a c
  folder_used {named} {folder} {a} {b} {c} {given} {givens} {x} P same out handled done =
      subst (λ (f : List ℕ). TakesDisks disks f P a c) same (record {
        given = given;
        givens = givens;
        back = x;
        many = out.many;
        borrowed = handled.0;
        counts = handled.1;
        done = done;
      })

  -- ---- put back

  pub same_long : (gs bs : List D) → AreSame disks gs bs → length bs ≡ length gs
  same_long [] [] same = refl
  same_long [] (b ∷ bs) same = absurd same
  same_long (g ∷ gs) [] same = absurd same
  same_long (g ∷ gs) (b ∷ bs) same = omega (arith, same_long gs bs same.1)

  pub same_at : (gs bs : List D) (i : ℕ) (d : D) → AreSame disks gs bs → slice_get bs i ≡ Some d
      → (g : D) × (slice_get gs i ≡ Some g) × SameDisk disks g d
  same_at [] [] i d same there = cc
  same_at [] (b ∷ bs) i d same there = absurd same
  same_at (g ∷ gs) [] i d same there = absurd same
  same_at (g ∷ gs) (b ∷ bs) zero d same there = (
    g,
    refl,
    subst (λ (x : D). SameDisk disks g x) (same_item b d there) same.0,
  )
  same_at (g ∷ gs) (b ∷ bs) (suc i) d same there = same_at gs bs i d same.1 there

  -- what is put back, between others
  handled_one : (a b c : OutsideState D) (front : List (Lending D)) (l : Lending D)
      (rest : List (Lending D)) (d : D) → Handled disks a b (front ++ l ∷ rest) → l.back ≡ None
      → Each (IsOther l.name) front → Each (IsOther l.name) rest
      → TakesDiskBack disks.faults l.name d b c
      → SameDisk disks l.given d
      → Handled disks a c (front ++ record l { back = Some d } ∷ rest)
  handled_one a b c front l rest d is out before behind takes same =
      let here = each_last (IsLending disks a b) front (l ∷ rest) is.0.each in (
        one_back disks a b c front l rest d is.0 before behind takes same,
        counts_one disks a b c front l rest d is.1 out here.0.loan takes,
      )

  -- the disk at a place is put back, behind others
  one_back_at : (front : List (Lending D)) (ns : List (List ℕ)) (gs : List D) (k : ℕ)
      (n : List ℕ) (g d : D) (a b c : OutsideState D) → AreDifferentNames ns
      → Each (λ m. Each (IsOther m) front) ns
      → slice_get ns k ≡ Some n → slice_get gs k ≡ Some g
      → SameDisk disks g d → TakesDiskBack disks.faults n d b c
      → Handled disks a b (front ++ lent_as ns gs)
      → Handled disks a c (front ++ back_at k d (lent_as ns gs))
  one_back_at front [] gs k n g d a b c apart far at there same takes is = cc
  one_back_at front (m ∷ ns) [] k n g d a b c apart far at there same takes is = cc
  one_back_at front (m ∷ ns) (h ∷ gs) zero n g d a b c apart far at there same takes is =
      handled_one a b c front (record { name = m; given = h; back = None }) (lent_as ns gs) d is
      refl far.0
      (named_each disks (λ x. bytes_eq x m ≡ false) ns gs (others_turned disks m ns apart.0))
      (subst (λ (x : List ℕ). TakesDiskBack disks.faults x d b c) (sym (same_item m n at)) takes)
      (subst (λ (x : D). SameDisk disks x d)
      (sym (same_item h g there)) same)
  one_back_at front (m ∷ ns) (h ∷ gs) (suc k) n g d a b c apart far at there same takes is =
      let l : Lending D = record { name = m; given = h; back = None } in
      subst (λ (x : List (Lending D)). Handled disks a c x)
      (sym (behind disks front l (back_at k d (lent_as ns gs))))
      (one_back_at (front ++ l ∷ []) ns gs k n g d a b c apart.1
      (away_from disks front m h ns far.1 apart.0) at there same takes
      (subst (λ (x : List (Lending D)). Handled disks a b x) (behind disks front l (lent_as ns gs))
      is))

  -- the journal's loan stays while the stores' disks are put back
  pub journal_still : (name : List ℕ) (ns : List (List ℕ)) (ds : List D) (label : ℕ)
      (a b : OutsideState D) → Each (λ n. bytes_eq name n ≡ false) ns
      → PutsBack disks.faults ns ds a b → IsLent (a.loan name) label → IsLent (b.loan name) label
  journal_still name [] ds label a b far puts lent =
      subst (λ (l : Option Loan). IsLent l label) (sym (puts.loan name)) lent
  journal_still name (n ∷ ns) [] label a b far puts lent =
      subst (λ (l : Option Loan). IsLent l label) (sym (puts.loan name)) lent
  journal_still name (n ∷ ns) (d ∷ ds) label a b far puts lent =
      subst (λ (l : Option Loan). IsLent l label)
      (sym (puts.2.loans name ∙ elsewhere (bytes_eq n name) _ (puts.0.loan name)
      (turned_about name n far.0))) (journal_still name ns ds label a puts.0 far.1 puts.1 lent)

-- the disks of a folder are out
module _ {D : Type 0} {disks : DiskWords D} {folder : List ℕ} {given : D} {givens : List D}
    {a b : OutsideState D} (out : AreOut disks folder a b given givens) where
  abbrev back_so : OutsideState D → Back D → Type 0
  back_so c x =
      Handled disks a c (folder_back (journal_in folder) (snaps_below folder 64) given givens x)

  out_so : back_so b back.Nothing
  out_so = (
    out.borrowed,
    counts_out disks a b _ (lent_out disks (names_of folder) (given ∷ givens)) out.count,
  )

  -- each may be put back
  pub may_put : (k : ℕ) {name : List ℕ} {g d : D} → slice_get (names_of folder) k ≡ Some name
      → slice_get (given ∷ givens) k ≡ Some g → SameDisk disks g d
      → IsLent (b.loan name) (disks.label d)
  may_put k {name} {g} {d} at there same =
      subst (λ (l : ℕ). IsLent (b.loan name) l) (sym same.name)
      (lent_at disks a b (names_of folder) (given ∷ givens) k name g out.borrowed.each at there)

  -- and is then, by what comes back
  pub all_put : {x : Back D} {journal : D} {snaps : Vec D Global} {c e : OutsideState D}
      → x ≡ back.All journal snaps → SameDisk disks given journal
      → AreSame disks givens snaps.items
      → PutsBack disks.faults (snaps_below folder 64) snaps.items b c
      → TakesDiskBack disks.faults (journal_in folder) journal c e → back_so e x
  all_put {x} {journal} {snaps} {c} {e} is same sames puts takes =
      let goes =
      all_back disks a a b e [] (names_of folder) (given ∷ givens) (journal ∷ snaps.items)
      out.borrowed (names_apart folder) (with_none disks (names_of folder)) (same, sames)
      (c, puts, takes) in
      subst (back_so e) (sym is) (goes.0, goes.1 out_so.1)

  place_put : (k : ℕ) {name : List ℕ} {g d : D} {c : OutsideState D}
      → slice_get (names_of folder) k ≡ Some name → slice_get (given ∷ givens) k ≡ Some g
      → SameDisk disks g d → TakesDiskBack disks.faults name d b c
      → Handled disks a c (back_at k d (lent_as (names_of folder) (given ∷ givens)))
  place_put k at there same takes =
      one_back_at disks [] (names_of folder) (given ∷ givens) k _ _ _ a b _ (names_apart folder)
      (with_none disks (names_of folder)) at there same takes out_so

  pub journal_put : {x : Back D} {journal : D} {c : OutsideState D} → x ≡ back.Journal journal
      → SameDisk disks given journal
      → TakesDiskBack disks.faults (journal_in folder) journal b c → back_so c x
  journal_put {c = c} is same takes =
      subst (back_so c) (sym is) (place_put 0 refl refl same takes)

  pub snap_put : {x : Back D} {s : ℕ} {name : List ℕ} {g snap : D} {c : OutsideState D}
      → x ≡ back.Snap s snap → slice_get (snaps_below folder 64) s ≡ Some name
      → slice_get givens s ≡ Some g → SameDisk disks g snap
      → TakesDiskBack disks.faults name snap b c → back_so c x
  snap_put {s = s} {c = c} is at there same takes =
      subst (back_so c) (sym is) (place_put (suc s) at there same takes)

  pub none_put : {x : Back D} → x ≡ back.Nothing → back_so b x
  none_put is = subst (back_so b) (sym is) out_so
