-- The passes of workers are joined into the roots that they were split off, the last of the list
-- first.
use Rattle.std.proofs.Common.{◌≡◌, ◌<◌, ◌≤◌, ℕ, List, [], ◌∷◌, ◌++◌, length, sym, subst, ap}
use Rattle.std.proofs.Common.{◌∙◌, append_assoc, append-nil, arith, inl, inr, refl}
use Rattle.turn_cell.specs.History.{Continues, Each, IsForeign}
use Rattle.turn_cell.proofs.HistoryLemmas.{continues_all, each_append, each_first, each_map}
use Rattle.host_serve.specs.Holders.{Holder, holder_at, holders, seen_at, seens}
use Rattle.host_serve.specs.Hosts.{AreOf}
use Rattle.host_serve.specs.Joining.{ArePartsOf, HasNoRoot, HaveGiven, HoldApart, JoinsPasses}
use Rattle.host_serve.specs.declared.host.Host.{Host}
use Rattle.host_serve.specs.declared.host.Passes.{Passes}
use Rattle.host_serve.proofs.JoinLemmas.{parts_of_parts}
use Rattle.host_serve.proofs.ListLemmas.{goes_on}
use Rattle.session_core.specs.Turning.{entry_by}
use Rattle.session_core.specs.declared.entry.Entry.{Entry}
use Rattle.host_top.specs.Rejoining.{AreAllApart, IsSeenByOne, JoinsAll}

-- the root of a session gives no number more, and stays a root
abbrev pub KeepsRoot : {D : Type 0} → Passes D → Passes D → ℕ → Type 0
KeepsRoot old new s =
    ((holder_at (holders new.desks.items) s).made
    ≡ (holder_at (holders old.desks.items) s).made)
    × ((holder_at (holders new.desks.items) s).number
    ≡ (holder_at (holders old.desks.items) s).number)

-- what holds of each, and of one more
pub each_with : {A : Type 0} (P : A → Type 0) (xs ys : List A) (y : A) → ys ≡ xs ++ y ∷ []
    → Each P xs → P y → Each P ys
each_with P xs ys y is each one =
    subst (Each P) (sym is) (each_append P xs (y ∷ []) each (one, tt))

-- the passes so far to be joined, and those that were: these are part of the roots, and so is what
-- these were as the first was joined
pub record JoinsSo {D : Type 0} (host : Host D) (old roots : Passes D)
    (all left : List (Passes D)) : Type 0 where
  pub done : List (Passes D)
  pub whole : all ≡ left ++ done
  pub first : ArePartsOf roots old
  pub parts : Each (ArePartsOf roots) done
  pub apart : AreAllApart (old ∷ done)
  pub given : HaveGiven old roots
  pub seen :
      (s : ℕ) → s < 64
      → IsSeenByOne s (seen_at (seens roots.desks.items) s) (old ∷ done)
  pub keep : (s : ℕ) → s < 64 → KeepsRoot old roots s
  pub are : Each (AreOf host) left
  pub no_root : Each HasNoRoot left
  pub kept : AreOf host roots

pub joins_none : {D : Type 0} (host : Host D) (roots : Passes D) (all : List (Passes D))
    → AreOf host roots → Each (AreOf host) all → Each HasNoRoot all
    → JoinsSo host roots roots all all
joins_none host roots all kept are no_root = record {
  done = [];
  whole = sym (append-nil all);
  first = λ s low. record {
    numbers = λ n own. own;
    since = continues_all (IsForeign entry_by (holder_at (holders roots.desks.items) s).holds)
        (seen_at (seens roots.desks.items) s);
  };
  parts = tt;
  apart = (tt, tt);
  given = λ s low zero. continues_all (λ (e : Entry). entry_by e
      ≤ (holder_at (holders roots.desks.items) s).made) (seen_at (seens roots.desks.items) s);
  seen = λ s low. inl refl;
  keep = λ s low. (refl, refl);
  are = are;
  no_root = no_root;
  kept = kept;
}

last_of : {A : Type 0} (P : A → Type 0) (xs : List A) (y : A) → Each P (xs ++ y ∷ []) → P y
last_of P [] y a = a.0
last_of P (x ∷ xs) y a = last_of P xs y a.1

-- the last of those that are left
pub joined_last : {D : Type 0} (host : Host D) (old roots : Passes D)
    (all left rest : List (Passes D)) (p : Passes D) → JoinsSo host old roots all left
    → left ≡ rest ++ p ∷ [] → AreOf host p × HasNoRoot p
joined_last host old roots all left rest p j is = (
  last_of (AreOf host) rest p (subst (Each (AreOf host)) is j.are),
  last_of HasNoRoot rest p (subst (Each HasNoRoot) is j.no_root),
)

-- what roots had given stays given as they join more
given_on : {D : Type 0} (old roots then : Passes D) → HaveGiven old roots → HaveGiven roots then
    → ((s : ℕ) → s < 64 → KeepsRoot old roots s) → HaveGiven old then
given_on old roots then given more keep s low zero =
    let k = keep s low in
    let P : Entry → Type 0 = λ e. entry_by e ≤ (holder_at (holders old.desks.items) s).made in
    goes_on P (seen_at (seens old.desks.items) s) (seen_at (seens roots.desks.items) s)
    (seen_at (seens then.desks.items) s) (given s low zero)
    (subst (λ (n : ℕ). Continues (λ (e : Entry). entry_by e ≤ n)
    (seen_at (seens then.desks.items) s) (seen_at (seens roots.desks.items) s)) k.0
    (more s low (k.1 ∙ zero)))

-- what one of the passes has seen, where there is one more
seen_by_more : {D : Type 0} (s : ℕ) (history : List Entry) (old p : Passes D)
    (done : List (Passes D)) → IsSeenByOne s history (old ∷ done)
    → IsSeenByOne s history (old ∷ p ∷ done)
seen_by_more s history old p done (inl first) = inl first
seen_by_more s history old p done (inr other) = inr (inr other)

-- once it was joined
pub joins_on : {D : Type 0} (host : Host D) (old roots then : Passes D)
    (all left rest : List (Passes D)) (p : Passes D)
    → JoinsSo host old roots all left → left ≡ rest ++ p ∷ [] → JoinsPasses roots p then
    → AreOf host then → JoinsSo host old then all rest
joins_on host old roots then all left rest p j is joined kept = record {
  done = p ∷ j.done;
  whole =
      j.whole ∙ (ap (λ (l : List (Passes _)). l ++ j.done) is ∙ append_assoc rest (p ∷ []) j.done);
  first = parts_of_parts old roots then joined.first j.first;
  parts = (
    joined.second,
    each_map (ArePartsOf roots) (ArePartsOf then) j.done
        (λ passes parts. parts_of_parts passes roots then joined.first parts) j.parts,
  );
  apart = (
    (λ s low n own other. joined.apart s low n ((j.first s low).numbers n own) other, j.apart.0),
    (
      each_map (ArePartsOf roots) (HoldApart p) j.done
          (λ passes parts s low n own other.
          joined.apart s low n ((parts s low).numbers n other) own)
          j.parts,
      j.apart.1,
    ),
  );
  given = given_on old roots then j.given joined.given j.keep;
  seen = λ s low. elim (joined.seen s low) [
    | inl same ↦ subst (λ (l : List Entry). IsSeenByOne s l (old ∷ p ∷ j.done)) (sym same)
        (seen_by_more s _ old p j.done (j.seen s low))
    | inr other ↦ inr (inl other)
  ];
  keep = λ s low. (
    ap (λ (h : Holder). h.made) (joined.holders s low) ∙ (j.keep s low).0,
    ap (λ (h : Holder). h.number) (joined.holders s low) ∙ (j.keep s low).1,
  );
  are = each_first (AreOf host) rest (p ∷ []) (subst (Each (AreOf host)) is j.are);
  no_root = each_first HasNoRoot rest (p ∷ []) (subst (Each HasNoRoot) is j.no_root);
  kept = kept;
}

none_left : {A : Type 0} (xs : List A) → length xs ≡ 0 → xs ≡ []
none_left [] none = refl
none_left (x ∷ xs) none = absurd (omega arith)

pub joins_all : {D : Type 0} (host : Host D) (old roots : Passes D) (all left : List (Passes D))
    → JoinsSo host old roots all left → length left ≡ 0 → JoinsAll old all roots
joins_all host old roots all left j none =
    let same = j.whole ∙ ap (λ (l : List (Passes _)). l ++ j.done) (none_left left none) in
    subst (λ (l : List (Passes _)). JoinsAll old l roots) (sym same) (record {
      first = j.first;
      parts = j.parts;
      apart = j.apart;
      given = j.given;
      made = λ s low. (j.keep s low).0;
      seen = j.seen;
    })
