-- A disk that is lent and put back.
use Rattle.std.proofs.Common.{◌≡◌, ◌≢◌, ◌⊎◌, inl, inr, ℕ, List, [], ◌∷◌, ◌++◌, arith, refl, sym, ap}
use Rattle.std.proofs.Common.{◌∙◌, subst, cond, Bool, true, false, Option, None, Some, IsTrue}
use Rattle.std.proofs.lemmas.Slice.Eq.{bytes_eq-Decides}
use Rattle.std.proofs.lemmas.Option.{same_Some}
use Rattle.std.specs.Str.{bytes_eq}
use Rattle.disk_model.specs.Work.{SameDisk}
use Rattle.turn_cell.specs.History.{Each}
use Rattle.turn_cell.proofs.HistoryLemmas.{each_append, each_first, each_map}
use Rattle.host_top.specs.Borrowed.{Borrowed, IsLending, IsOther, Lending, left_by, loan_by}
use Rattle.disk_model.specs.declared.disk.Disk.{Ghosts as DiskWords}
use Rattle.host_top.specs.Files.{HasOwnLabel, IsLent, IsLentFrom, Lends, OutsideState}
use Rattle.host_top.specs.Files.{TakesDiskBack, Told, Untold, Missing, There, told_now, returned}
use Rattle.host_top.specs.declared.loan.Loan.{Loan}

-- ---- names

pub same_name : (name : List ℕ) → bytes_eq name name ≡ true
same_name name = (bytes_eq-Decides name name).1 refl

pub turned_about : (a b : List ℕ) → bytes_eq a b ≡ false → bytes_eq b a ≡ false
turned_about a b other = of (bytes_eq b a) refl
  where
    of : (c : Bool) → bytes_eq b a ≡ c → bytes_eq b a ≡ false
    of false is = is
    of true is =
        absurd (grind (
          arith,
          sym ((bytes_eq-Decides a b).1 (sym ((bytes_eq-Decides b a).0 is)))
              ∙ other,
        ))

-- what stands at a name, and at another
pub there : {A : Type 0} (b : Bool) (now was : A) → b ≡ true → cond b now was ≡ now
there true now was e = refl
there false now was e = absurd (grind (arith, e))

pub elsewhere : {A : Type 0} (b : Bool) (now was : A) → b ≡ false → cond b now was ≡ was
elsewhere true now was e = absurd (grind (arith, e))
elsewhere false now was e = refl

-- what is told of a name is the last that stands there
told_last : {D : Type 0} (told : Told D) (back : Option D) (last : Told D)
    → told_now (told_now told (left_by back)) last ≡ told_now told last
told_last Untold back last = refl
told_last Missing None last = refl
told_last Missing (Some d) last = refl
told_last (There a) None last = refl
told_last (There a) (Some d) last = refl

each_both : {A : Type 0} (P Q : A → Type 0) (xs : List A) → Each P xs → Each Q xs
    → Each (λ x. P x × Q x) xs
each_both P Q [] p q = tt
each_both P Q (x ∷ xs) p q = ((p.0, q.0), each_both P Q xs p.1 q.1)

pub each_last : {A : Type 0} (P : A → Type 0) (xs ys : List A) → Each P (xs ++ ys) → Each P ys
each_last P [] ys p = p
each_last P (x ∷ xs) ys p = each_last P xs ys p.1

module _ {D : Type 0} (disks : DiskWords D) where
  -- ---- one disk

  -- the loan of a disk that was lent
  pub lent_loan : (name : List ℕ) (given : D) (outside mid : OutsideState D)
      → Lends disks name given outside mid
      → mid.loan name ≡ Some (loan_by disks (record { name = name; given = given; back = None }))
  lent_loan name given outside mid lends =
      lends.loans name ∙ there (bytes_eq name name) _ (outside.loan name) (same_name name)

  -- and it is out while others are lent and put back
  pub out_still : (name : List ℕ) (given : D) (outside mid now : OutsideState D)
      (ls : List (Lending D))
      → Lends disks name given outside mid → Borrowed disks mid now ls → Each (IsOther name) ls
      → now.loan name ≡ Some (loan_by disks (record { name = name; given = given; back = None }))
  out_still name given outside mid now ls lends borrowed far =
      (borrowed.others name far).1 ∙ lent_loan name given outside mid lends

  -- so it may be put back
  pub is_lent : (name : List ℕ) (given back : D) (outside mid : OutsideState D)
      → Lends disks name given outside mid → SameDisk disks given back
      → IsLent (mid.loan name) (disks.label back)
  is_lent name given back outside mid lends same =
      subst (λ (l : Option Loan). IsLent l (disks.label back))
      (sym (lent_loan name given outside mid lends)) (sym same.name, refl)

  pub lent_one : (name : List ℕ) (given : D) (outside mid : OutsideState D)
      → Lends disks name given outside mid
      → (IsTrue (disks.tells given) → IsLentFrom disks (outside.disk name) given)
      → Borrowed disks outside mid (record { name = name; given = given; back = None } ∷ [])
  lent_one name given outside mid lends lent = record {
    each = (
      record {
        lent = lent;
        own =
            λ other loan apart is. lends.own other loan apart
            (sym (lends.loans other ∙ elsewhere (bytes_eq name other) _ (outside.loan other) apart)
            ∙ is);
        kept = tt;
        held = lends.disks name ∙ there (bytes_eq name name) _ (outside.disk name) (same_name name);
        loan = lent_loan name given outside mid lends;
      },
      tt,
    );
    others = λ other apart. (
      lends.disks other ∙ elsewhere (bytes_eq name other) _ (outside.disk other) apart.0,
      lends.loans other ∙ elsewhere (bytes_eq name other) _ (outside.loan other) apart.0,
    );
  }

  -- ---- disks of one run, and those of the next

  -- one of them has the name, or none
  named_or : (other : List ℕ) (ls : List (Lending D)) (a b : OutsideState D)
      → Each (IsLending disks a b) ls
      → ((l : Lending D) × (l.name ≡ other) × IsLending disks a b l) ⊎ Each (IsOther other) ls
  named_or other [] a b each = inr tt
  named_or other (l ∷ ls) a b each = of (bytes_eq l.name other) refl (named_or other ls a b each.1)
    where
      of : (c : Bool) → bytes_eq l.name other ≡ c
          → ((k : Lending D) × (k.name ≡ other) × IsLending disks a b k) ⊎ Each (IsOther other) ls
          → ((k : Lending D) × (k.name ≡ other) × IsLending disks a b k)
          ⊎ Each (IsOther other) (l ∷ ls)
      of true is more = inl (l, (bytes_eq-Decides l.name other).0 is, each.0)
      of false is (inl found) = inl found
      of false is (inr none) = inr (is, none)

  -- a disk that was lent is as it was, while others are lent and put back
  pub lending_still : (a b c : OutsideState D) (ks : List (Lending D)) (l : Lending D)
      → Borrowed disks b c ks → Each (IsOther l.name) ks
      → IsLending disks a b l → IsLending disks a c l
  lending_still a b c ks l more apart is = record {
    lent = is.lent;
    own = λ other loan away at. elim (named_or other ks b c more.each) [
      | inl found ↦ λ same. found.2.own l.name (loan_by disks l)
          (ap (λ (n : List ℕ). bytes_eq n l.name) found.1 ∙ turned_about l.name other away)
          ((more.others l.name apart).1 ∙ is.loan)
          (sym same ∙ ap (λ (x : Loan). x.label)
          (same_Some loan (loan_by disks found.0)
          (sym at ∙ ap c.loan (sym found.1) ∙ found.2.loan)))
      | inr none ↦ is.own other loan away (sym (more.others other none).1 ∙ at)
    ];
    kept = is.kept;
    held = (more.others l.name apart).0 ∙ is.held;
    loan = (more.others l.name apart).1 ∙ is.loan;
  }

  -- and one that is lent then stood there as before
  lending_from : (a b c : OutsideState D) (ls : List (Lending D)) (k : Lending D)
      → Borrowed disks a b ls → Each (IsOther k.name) ls
      → IsLending disks b c k → IsLending disks a c k
  lending_from a b c ls k first apart is = record {
    lent =
        λ told. subst (λ (t : Told D). IsLentFrom disks t k.given)
        (first.others k.name apart).0 (is.lent told);
    own = is.own;
    kept = is.kept;
    held = is.held ∙ ap (λ (t : Told D). told_now t (left_by k.back)) (first.others k.name apart).0;
    loan = is.loan;
  }

  stay_all : (a b c : OutsideState D) (ls ks : List (Lending D)) → Borrowed disks b c ks
      → Each (λ l. Each (IsOther l.name) ks) ls
      → Each (IsLending disks a b) ls → Each (IsLending disks a c) ls
  stay_all a b c [] ks more apart each = tt
  stay_all a b c (l ∷ ls) ks more apart each =
      (lending_still a b c ks l more apart.0 each.0, stay_all a b c ls ks more apart.1 each.1)

  from_all : (a b c : OutsideState D) (ls ks : List (Lending D)) → Borrowed disks a b ls
      → Each (λ k. Each (IsOther k.name) ls) ks
      → Each (IsLending disks b c) ks → Each (IsLending disks a c) ks
  from_all a b c ls [] first apart each = tt
  from_all a b c ls (k ∷ ks) first apart each =
      (lending_from a b c ls k first apart.0 each.0, from_all a b c ls ks first apart.1 each.1)

  -- names apart, seen from the other side
  apart_one : (l : Lending D) (ks : List (Lending D)) → Each (IsOther l.name) ks
      → Each (λ k. IsOther k.name l) ks
  apart_one l ks apart =
      each_map (IsOther l.name) (λ k. IsOther k.name l) ks
      (λ k other. turned_about k.name l.name other) apart

  apart_none : (ks : List (Lending D)) → Each (λ (k : Lending D). Unit {0}) ks
  apart_none [] = tt
  apart_none (k ∷ ks) = (tt, apart_none ks)

  apart_all : (ls ks : List (Lending D)) → Each (λ l. Each (IsOther l.name) ks) ls
      → Each (λ k. Each (IsOther k.name) ls) ks
  apart_all [] ks apart = apart_none ks
  apart_all (l ∷ ls) ks apart =
      each_both (λ k. IsOther k.name l) (λ k. Each (IsOther k.name) ls) ks (apart_one l ks apart.0)
      (apart_all ls ks apart.1)

  pub together : (a b c : OutsideState D) (ls ks : List (Lending D)) → Borrowed disks a b ls
      → Borrowed disks b c ks
      → Each (λ l. Each (IsOther l.name) ks) ls → Borrowed disks a c (ls ++ ks)
  together a b c ls ks first more apart = record {
    each = each_append (IsLending disks a c) ls ks (stay_all a b c ls ks more apart first.each)
        (from_all a b c ls ks first (apart_all ls ks apart) more.each);
    others = λ other away.
        let before = first.others other (each_first (IsOther other) ls ks away) in
        let then = more.others other (each_last (IsOther other) ls ks away) in
        (then.0 ∙ before.0, then.1 ∙ before.1);
  }

  pub lent_none : (a : OutsideState D) → Borrowed disks a a []
  lent_none a = record { each = tt; others = λ other away. (refl, refl) }

  -- ---- one of them is put back

  labels_still : (name : List ℕ) (back : D) (b c : OutsideState D)
      → TakesDiskBack disks.faults name back b c
      → (n : List ℕ) (label : ℕ) → HasOwnLabel b n label → HasOwnLabel c n label
  labels_still name back b c takes n label own other loan away at =
      of (bytes_eq name other) refl (b.loan name) refl
    where
      of : (e : Bool) → bytes_eq name other ≡ e → (was : Option Loan) → b.loan name ≡ was
          → loan.label ≢ label
      of false is was was_is =
          own other loan away (sym (takes.loans other
          ∙ elsewhere (bytes_eq name other) _ (b.loan other) is) ∙ at)
      of true is None none =
          absurd (grind (
            arith,
            sym at ∙ takes.loans other
                ∙ there (bytes_eq name other) _ (b.loan other) is
                ∙ ap (returned (disks.faults back)) none,
          ))
      of true is (Some l) some =
          λ same. own other l away (ap b.loan (sym ((bytes_eq-Decides name other).0 is)) ∙ some)
          (ap (λ (x : Loan). x.label) (same_Some (record l { to = Some (disks.faults back) }) loan
          (sym (takes.loans other ∙ there (bytes_eq name other) _ (b.loan other) is
          ∙ ap (returned (disks.faults back)) some) ∙ at)) ∙ same)

  lending_beside : (name : List ℕ) (back : D) (a b c : OutsideState D)
      → TakesDiskBack disks.faults name back b c
      → (l : Lending D) → IsOther name l → IsLending disks a b l → IsLending disks a c l
  lending_beside name back a b c takes l other is = record {
    lent = is.lent;
    own = labels_still name back b c takes l.name (disks.label l.given) is.own;
    kept = is.kept;
    held =
        takes.disks l.name ∙ elsewhere (bytes_eq name l.name) _ (b.disk l.name)
        (turned_about l.name name other) ∙ is.held;
    loan =
        takes.loans l.name ∙ elsewhere (bytes_eq name l.name) _ (b.loan l.name)
        (turned_about l.name name other) ∙ is.loan;
  }

  beside_all : (name : List ℕ) (back : D) (a b c : OutsideState D)
      → TakesDiskBack disks.faults name back b c
      → (ls : List (Lending D)) → Each (IsOther name) ls → Each (IsLending disks a b) ls
      → Each (IsLending disks a c) ls
  beside_all name back a b c takes [] other each = tt
  beside_all name back a b c takes (l ∷ ls) other each = (
    lending_beside name back a b c takes l other.0 each.0,
    beside_all name back a b c takes ls
        other.1 each.1,
  )

  lending_back : (a b c : OutsideState D) (l : Lending D) (back : D)
      → TakesDiskBack disks.faults l.name back b c
      → SameDisk disks l.given back
      → IsLending disks a b l → IsLending disks a c (record l { back = Some back })
  lending_back a b c l back takes same is = record {
    lent = is.lent;
    own = labels_still l.name back b c takes l.name (disks.label l.given) is.own;
    kept = same;
    held = takes.disks l.name ∙ there (bytes_eq l.name l.name) _ (b.disk l.name) (same_name l.name)
        ∙ ap (λ (t : Told D). told_now t (There back)) is.held
        ∙ told_last (a.disk l.name) l.back (There back);
    loan =
        takes.loans l.name ∙ there (bytes_eq l.name l.name) _ (b.loan l.name) (same_name l.name)
        ∙ ap (returned (disks.faults back)) is.loan;
  }

  pub one_back : (a b c : OutsideState D) (front : List (Lending D)) (l : Lending D)
      (rest : List (Lending D)) (back : D)
      → Borrowed disks a b (front ++ l ∷ rest) → Each (IsOther l.name) front
      → Each (IsOther l.name) rest
      → TakesDiskBack disks.faults l.name back b c
      → SameDisk disks l.given back
      → Borrowed disks a c (front ++ record l { back = Some back } ∷ rest)
  one_back a b c front l rest back is before behind takes same =
      let last = each_last (IsLending disks a b) front (l ∷ rest) is.each in
      record {
        each = each_append (IsLending disks a c) front (record l { back = Some back } ∷ rest)
            (beside_all l.name back a b c takes front before
            (each_first (IsLending disks a b) front (l ∷ rest) is.each)) (
              lending_back a b c l back takes same last.0,
              beside_all l.name back a b c takes rest
                  behind last.1,
            );
        others = λ other away.
            let here =
            each_last (IsOther other) front (record l { back = Some back } ∷ rest) away in
            let was =
            is.others other (each_append (IsOther other) front (l ∷ rest)
            (each_first (IsOther other) front (record l { back = Some back } ∷ rest) away) here)
            in (
              takes.disks other ∙ elsewhere (bytes_eq l.name other) _ (b.disk other) here.0 ∙ was.0,
              takes.loans other ∙ elsewhere (bytes_eq l.name other) _ (b.loan other) here.0 ∙ was.1,
            );
      }

  -- the loan of one of them, which may be put back
  pub loan_still : (a b : OutsideState D) (front : List (Lending D)) (l : Lending D)
      (rest : List (Lending D)) (back : D) → Borrowed disks a b (front ++ l ∷ rest) → l.back ≡ None
      → SameDisk disks l.given back → IsLent (b.loan l.name) (disks.label back)
  loan_still a b front l rest back is none same =
      let last = each_last (IsLending disks a b) front (l ∷ rest) is.each in
      subst (λ (x : Option Loan). IsLent x (disks.label back)) (sym last.0.loan)
      (sym same.name, ap (λ (o : Option D). (loan_by disks (record l { back = o })).to) none)
