-- The stores of a new folder are made.
use Rattle.std.proofs.Common.{◌≡◌, ℕ, ◌+◌, ◌<◌, List, [], ◌∷◌, ◌++◌, length, map, arith, refl}
use Rattle.std.proofs.Common.{sym, ap, ◌∙◌, subst, None, Some, Bool, true, false, IsTrue, IsSomeAnd}
use Rattle.std.proofs.lemmas.List.{map-append}
use Rattle.std.specs.Str.{bytes_eq}
use Rattle.disk_model.specs.Disk.{Elapses, NoneNew}
use Rattle.disk_model.specs.Work.{SameDisk}
use Rattle.disk_model.proofs.Moments.{goes_on, started}
use Rattle.line_talk.specs.Causes.{Rose}
use Rattle.turn_cell.specs.History.{Each}
use Rattle.turn_cell.proofs.HistoryLemmas.{each_append, each_first, each_map}
use Rattle.host_top.specs.Begun.{IsLookedAt, IsMade, IsTried, MakesStores, TriesStores}
use Rattle.host_top.specs.Borrowed.{AreNamed, CountsFaults, HasFailed, IsOther, Lending}
use Rattle.host_top.specs.Borrowed.{snap_in, snaps_below}
use Rattle.disk_model.specs.declared.disk.Disk.{Ghosts as DiskWords}
use Rattle.host_top.specs.Files.{IsLentFrom, Lends, OutsideState, TakesDiskBack}
use Rattle.host_top.proofs.BorrowLemmas.{each_last, lent_loan}
use Rattle.host_top.proofs.LoansLemmas.{counts_one, counts_out, lent_nothing}
use Rattle.host_top.proofs.BorrowLemmas.{together, turned_about}
use Rattle.host_top.proofs.NameLemmas.{each_snap, snap_each, snaps_before, snaps_more, snaps_none}
use Rattle.host_top.proofs.LendingLemmas.{returned_one}

-- ---- a disk's size

pub empty_so : (seen : List ℕ) (size : ℕ) (empty : Bool) → size ≡ length seen
    → (empty ≡ true → size ≡ 0) → (empty ≡ false → 0 < size)
    → (empty ≡ true → seen ≡ []) × (empty ≡ false → 0 < length seen)
empty_so seen size empty is none some =
    ((λ e. of seen (omega (arith, none e, is))), λ e. omega (arith, some e, is))
  where
    of : (s : List ℕ) → length s ≡ 0 → s ≡ []
    of [] e = refl
    of (x ∷ xs) e = absurd (grind (arith, e))

pub looked_at : {D : Type 0} (disks : DiskWords D) (old new : D) → disks.reach new ≡ disks.reach old
    → (IsTrue (disks.tells old) → NoneNew (disks.may_leave old) (disks.may_leave new))
    → Elapses (disks.moment old) (disks.moment new) (disks.left_since old) (disks.left_since new)
    (disks.may_leave new)
    → ((c : List ℕ) → disks.left_since old (disks.moment old) c → disks.may_leave old c)
    → IsLookedAt disks old new
looked_at disks old new reach crash time now = (
  reach,
  λ told.
      goes_on disks old old new (disks.may_leave old) (disks.may_leave new)
      (started disks old (disks.may_leave old) now) time (crash told),
)

-- ---- one store

module _ {D : Type 0} (disks : DiskWords D) where
  abbrev one : List ℕ → D → D → Lending D
  one name given back = record { name = name; given = given; back = Some back }

  counts_at : (name : List ℕ) (given back : D) (a b c : OutsideState D)
      → Lends disks name given a b → TakesDiskBack disks.faults name back b c
      → CountsFaults disks a c (one name given back ∷ [])
  counts_at name given back a b c lends takes =
      let l : Lending D = record { name = name; given = given; back = None } in
      counts_one disks a b c [] l [] back (counts_out disks a b (l ∷ []) (refl, tt) lends.count)
      refl (lent_loan disks name given a b lends) takes

  pub store_made : (name first second : List ℕ) (given back : D) (a b c : OutsideState D)
      → first ≡ name → second ≡ name → Lends disks first given a b
      → (IsTrue (disks.tells given) → IsLentFrom disks (a.disk first) given)
      → SameDisk disks given back → TakesDiskBack disks.faults second back b c
      → IsTried disks given back → IsMade disks given back
      → MakesStores disks (name ∷ []) a c
  store_made name first second given back a b c is again lends lent same takes tried made =
      let lends' = subst (λ (n : List ℕ). Lends disks n given a b) is lends in
      let lent' =
      subst (λ (n : List ℕ). IsTrue (disks.tells given)
      → IsLentFrom disks (a.disk n) given) is lent in
      let takes' = subst (λ (n : List ℕ). TakesDiskBack disks.faults n back b c) again takes in
      record {
        stores = one name given back ∷ [];
        names_are = refl;
        tried = (tried, tt);
        made = (made, tt);
        borrowed = returned_one disks name given back a b c lends' lent' same takes';
        counts = counts_at name given back a b c lends' takes';
      }

  pub store_tried : (name first second : List ℕ) (given back : D) (a b c : OutsideState D)
      → first ≡ name → second ≡ name → Lends disks first given a b
      → (IsTrue (disks.tells given) → IsLentFrom disks (a.disk first) given)
      → SameDisk disks given back
      → TakesDiskBack disks.faults second back b c → IsTried disks given back
      → TriesStores disks (name ∷ []) a c
  store_tried name first second given back a b c is again lends lent same takes tried = record {
    stores = one name given back ∷ [];
    named = λ other away. away;
    tried = (tried, tt);
    borrowed = returned_one disks name given back a b c
        (subst (λ (n : List ℕ). Lends disks n given a b) is lends)
        (subst (λ (n : List ℕ). IsTrue (disks.tells given)
        → IsLentFrom disks (a.disk n) given) is lent)
        same (subst (λ (n : List ℕ). TakesDiskBack disks.faults n back b c) again takes);
  }

  pub no_stores : (names : List (List ℕ)) (a c : OutsideState D)
      → ((other : List ℕ) → (c.disk other ≡ a.disk other) × (c.loan other ≡ a.loan other))
      → TriesStores disks names a c
  no_stores names a c same =
      record {
        stores = [];
        named = λ other away. tt;
        tried = tt;
        borrowed = lent_nothing disks a c
            same;
      }

  -- ---- stores one after the other

  pub counts_then : (a b c : OutsideState D) (ls ks : List (Lending D)) → CountsFaults disks a b ls
      → CountsFaults disks b c ks → CountsFaults disks a c (ls ++ ks)
  counts_then a b c ls ks first more = record {
    rose = each_append (λ l. HasFailed disks l → Rose a.disk_faults c.disk_faults) ls ks
        (each_map (λ l. HasFailed disks l → Rose a.disk_faults b.disk_faults)
        (λ l. HasFailed disks l → Rose a.disk_faults c.disk_faults) ls
        (λ l f failed. let rose = f failed in omega (arith, rose, more.later)) first.rose)
        (each_map (λ l. HasFailed disks l → Rose b.disk_faults c.disk_faults)
        (λ l. HasFailed disks l → Rose a.disk_faults c.disk_faults) ks
        (λ l f failed. let rose = f failed in omega (arith, rose, first.later)) more.rose);
    stays =
        λ none. more.stays (each_last (λ l. HasFailed disks l → ⊥) ls ks none)
        ∙ first.stays (each_first (λ l. HasFailed disks l → ⊥) ls ks none);
    later = omega (arith, first.later, more.later);
  }

  -- what holds of the names holds of those disks
  pub each_named : (P : List ℕ → Type 0) (ls : List (Lending D))
      → Each P (map (λ (l : Lending D). l.name) ls) → Each (λ (l : Lending D). P l.name) ls
  each_named P [] each = tt
  each_named P (l ∷ ls) each = (each.0, each_named P ls each.1)

  apart_so : (folder : List ℕ) (s : ℕ) (ls ks : List (Lending D)) → s < 64
      → map (λ (l : Lending D). l.name) ls ≡ snaps_below folder s
      → AreNamed (snap_in folder s ∷ []) ks
      → Each (λ l. Each (IsOther l.name) ks) ls
  apart_so folder s ls ks within names named =
      each_map (λ l. bytes_eq l.name (snap_in folder s) ≡ false) (λ l. Each (IsOther l.name) ks) ls
      (λ l away. named l.name (turned_about l.name (snap_in folder s) away, tt))
      (each_named (λ n. bytes_eq n (snap_in folder s) ≡ false) ls
      (subst (Each (λ n. bytes_eq n (snap_in folder s) ≡ false)) (sym names)
      (snaps_before folder s within)))

  one_named : (name : List ℕ) (ks : List (Lending D))
      → map (λ (l : Lending D). l.name) ks ≡ name ∷ [] → AreNamed (name ∷ []) ks
  one_named name ks is =
      λ other away. each_named (λ n. bytes_eq n other ≡ false) ks
      (subst (Each (λ n. bytes_eq n other ≡ false)) (sym is) away)

  pub stores_none : (folder : List ℕ) (a : OutsideState D)
      → MakesStores disks (snaps_below folder 0) a a
  stores_none folder a = record {
    stores = [];
    names_are = sym (snaps_none folder);
    tried = tt;
    made = tt;
    borrowed = lent_nothing disks a a (λ other. (refl, refl));
    counts = record { rose = tt; stays = λ none. refl; later = omega arith };
  }

  pub stores_more : (folder : List ℕ) (s : ℕ) (a b c : OutsideState D) → s < 64
      → MakesStores disks (snaps_below folder s) a b → MakesStores disks (snap_in folder s ∷ []) b c
      → MakesStores disks (snaps_below folder (s + 1)) a c
  stores_more folder s a b c within first more = record {
    stores = first.stores ++ more.stores;
    names_are =
        map-append (λ (l : Lending D). l.name) first.stores more.stores
        ∙ ap (λ (x : List (List ℕ)). x ++ map (λ (l : Lending D). l.name) more.stores)
        first.names_are
        ∙ ap (λ (x : List (List ℕ)). snaps_below folder s ++ x) more.names_are
        ∙ sym (snaps_more folder s);
    tried =
        each_append (λ l. IsSomeAnd l.back (IsTried disks l.given)) first.stores more.stores
        first.tried more.tried;
    made =
        each_append (λ l. IsSomeAnd l.back (IsMade disks l.given)) first.stores more.stores
        first.made more.made;
    borrowed = together disks a b c first.stores more.stores first.borrowed more.borrowed
        (apart_so folder s first.stores more.stores within first.names_are
        (one_named (snap_in folder s) more.stores more.names_are));
    counts = counts_then a b c first.stores more.stores first.counts more.counts;
  }

  pub stores_tried : (folder : List ℕ) (s : ℕ) (a b c : OutsideState D) → s < 64
      → MakesStores disks (snaps_below folder s) a b → TriesStores disks (snap_in folder s ∷ []) b c
      → TriesStores disks (snaps_below folder 64) a c
  stores_tried folder s a b c within first more = record {
    stores = first.stores ++ more.stores;
    named = λ other away. each_append (IsOther other) first.stores more.stores
        (each_named (λ n. bytes_eq n other ≡ false) first.stores
        (subst (Each (λ n. bytes_eq n other ≡ false)) (sym first.names_are)
        (snap_each (λ n. bytes_eq n other ≡ false) folder s
        (λ t low. each_snap (λ n. bytes_eq n other ≡ false) folder 64 t away (omega arith)))))
        (more.named other (each_snap (λ n. bytes_eq n other ≡ false) folder 64 s away within, tt));
    tried =
        each_append (λ l. IsSomeAnd l.back (IsTried disks l.given)) first.stores more.stores
        first.tried more.tried;
    borrowed = together disks a b c first.stores more.stores first.borrowed more.borrowed
        (apart_so folder s first.stores more.stores within first.names_are more.named);
  }

  pub all_named : (folder : List ℕ) (ls : List (Lending D))
      → map (λ (l : Lending D). l.name) ls ≡ snaps_below folder 64
      → AreNamed (snaps_below folder 64) ls
  all_named folder ls is =
      λ other away. each_named (λ n. bytes_eq n other ≡ false) ls
      (subst (Each (λ n. bytes_eq n other ≡ false)) (sym is) away)
