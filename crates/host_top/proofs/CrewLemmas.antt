-- Passes that are split off roots for workers and joined again: the numbers that they hold, and what
-- they have seen.
use Rattle.std.proofs.Common.{◌≡◌, ◌⊎◌, ℕ, zero, suc, ◌+◌, ◌<◌, ◌≤◌, List, [], ◌∷◌, ◌++◌}
use Rattle.std.proofs.Common.{length, map, get_or, refl, sym, ap, ◌∙◌, subst, inl, inr, arith}
use Rattle.std.proofs.lemmas.Bool.{cases_lt}
use Rattle.std.proofs.lemmas.List.{get_or-map, length-map}
use Rattle.std.proofs.lemmas.List.FromFn.{get_or-map-range_with_len}
use Rattle.turn_cell.specs.History.{Continues, Each, IsAmong}
use Rattle.turn_cell.proofs.HistoryLemmas.{among_first, among_second}
use Rattle.host_serve.specs.Holders.{Holder, IsWholeHolder, holder_at, holders, nobody, seen_at}
use Rattle.host_serve.specs.Holders.{seens}
use Rattle.host_serve.specs.Hosts.{sessions_below}
use Rattle.host_serve.specs.Joining.{ArePartsOf, IsPart}
use Rattle.host_serve.specs.Opening.{lone, roots}
use Rattle.host_serve.specs.Splitting.{AreRoots, after_split, first_by, newest_of, with_newest_pass}
use Rattle.host_serve.specs.declared.host.Passes.{Passes}
use Rattle.host_serve.proofs.RootLemmas.{root_at}
use Rattle.session_core.specs.declared.entry.Entry.{Entry}
use Rattle.session_core.specs.Turning.{entry_by}
use Rattle.host_top.specs.Rejoining.{AreAllHeld, HaveSeen, IsHeldByOne, IsSeenByOne, JoinsAll}
use Rattle.host_top.specs.Rejoining.{Rejoins, SeeNoMore, SplitsFrom}

lone_there : (s : ℕ) → s < 64 → holder_at roots s ≡ lone
unfolding sessions_below
lone_there s below = get_or-map-range_with_len (λ (t : ℕ). lone) 0 64 s s _ below (omega arith)

-- the holder of a session, after each of them changed
changed_at : (f : Holder → Holder) (hs hs' : List Holder) (s : ℕ) → hs' ≡ map f hs
    → s < length hs → holder_at hs' s ≡ f (holder_at hs s)
changed_at f hs hs' s is low =
    ap (λ (l : List Holder). holder_at l s) is ∙ get_or-map f hs s nobody nobody low

-- and those that were joined again at once
back_at : (f : Holder → Holder) (many : ℕ) (hs : List Holder) (s : ℕ) → s < length hs
    → (holder_at (first_by f many hs) s ≡ f (holder_at hs s))
    ⊎ (holder_at (first_by f many hs) s ≡ holder_at hs s)
back_at f zero hs s low = inr refl
back_at f (suc many) [] s low = absurd (omega arith)
back_at f (suc many) (h ∷ hs) zero low = inl refl
back_at f (suc many) (h ∷ hs) (suc s) low = back_at f many hs s (omega arith)

module _ {D : Type 0} where
  -- the holder of a session, and what its pass has seen
  abbrev pub who : Passes D → ℕ → Holder
  who passes s = holder_at (holders passes.desks.items) s

  abbrev pub heard : Passes D → ℕ → List Entry
  heard passes s = seen_at (seens passes.desks.items) s

  -- ---- a number that is held

  held_front : (s n : ℕ) (xs ys : List (Passes D)) → IsHeldByOne s n xs → IsHeldByOne s n (xs ++ ys)
  held_front s n [] ys h = absurd h
  held_front s n (x ∷ xs) ys (inl h) = inl h
  held_front s n (x ∷ xs) ys (inr h) = inr (held_front s n xs ys h)

  held_back : (s n : ℕ) (xs ys : List (Passes D)) → IsHeldByOne s n ys → IsHeldByOne s n (xs ++ ys)
  held_back s n [] ys h = h
  held_back s n (x ∷ xs) ys h = inr (held_back s n xs ys h)

  -- is held by the whole of which each is part
  held_whole : (s n : ℕ) (whole : Passes D) (xs : List (Passes D)) → s < 64
      → Each (ArePartsOf whole) xs → IsHeldByOne s n xs → IsAmong n (who whole s).holds
  held_whole s n whole [] low parts h = absurd h
  held_whole s n whole (x ∷ xs) low parts (inl h) = (parts.0 s low).numbers n h
  held_whole s n whole (x ∷ xs) low parts (inr h) = held_whole s n whole xs low parts.1 h

  pub whole_again : (old new : Passes D) (workers : List (Passes D)) → JoinsAll old workers new
      → AreAllHeld old (old ∷ workers) → AreAllHeld new (new ∷ [])
  whole_again old new workers j held s n low n_low = inl
      (held_whole s n new (old ∷ workers) low (j.first, j.parts)
      (held s n low (subst (λ (m : ℕ). n ≤ m) (j.made s low) n_low)))

  -- roots that hold all numbers that they gave
  pub holds_all : (p : Passes D) (s : ℕ) → s < 64 → AreAllHeld p (p ∷ [])
      → IsWholeHolder (who p s)
  holds_all p s low held n n_low = elim (held s n low n_low) [
    | inl own ↦ own
    | inr none ↦ absurd none
  ]

  -- ---- passes that are split off

  split_at : (old mid more : Passes D) (s : ℕ)
      → holders mid.desks.items ≡ map after_split (holders old.desks.items)
      → holders more.desks.items ≡ map newest_of (holders mid.desks.items)
      → length (holders old.desks.items) ≡ 64 → s < 64
      → (who mid s ≡ after_split (who old s)) × (who more s ≡ newest_of (who mid s))
  split_at old mid more s split newest many low =
      let long = length-map (holders old.desks.items) after_split in
      let same = ap (λ (l : List Holder). length l) split in (
        changed_at after_split (holders old.desks.items) (holders mid.desks.items) s split
            (omega arith),
        changed_at newest_of (holders mid.desks.items) (holders more.desks.items) s newest
            (omega arith),
      )

  -- nothing was split off yet
  pub split_none : (p : Passes D) → AreRoots 0 (holders p.desks.items)
      → length (holders p.desks.items) ≡ 64 → SplitsFrom p p
  split_none p all many = record {
    same = λ s low. (refl, (root_at 0 s (holders p.desks.items) all (omega arith)).0);
    seen = refl;
  }

  pub split_held : (old mid more : Passes D) (passes passes' : List (Passes D))
      → holders mid.desks.items ≡ map after_split (holders old.desks.items)
      → holders more.desks.items ≡ map newest_of (holders mid.desks.items)
      → length (holders old.desks.items) ≡ 64 → passes' ≡ passes ++ more ∷ []
      → AreAllHeld old (old ∷ passes) → AreAllHeld mid (mid ∷ passes')
  split_held old mid more passes passes' split newest many is held s n low n_low =
      let at = split_at old mid more s split newest many low in
      let made : (who mid s).made ≡ (who old s).made + 1 = ap (λ (h : Holder). h.made) at.0 in
      let kept : (who mid s).holds ≡ (who old s).holds = ap (λ (h : Holder). h.holds) at.0 in
      let new : (who more s).holds ≡ (who mid s).made ∷ [] = ap (λ (h : Holder). h.holds) at.1 in
      subst (λ (l : List (Passes D)). IsHeldByOne s n (mid ∷ l)) (sym is)
      (elim (cases_lt n ((who old s).made + 1)) [
        | inl below ↦ elim (held s n low (omega arith)) [
          | inl own ↦ inl (subst (IsAmong n) (sym kept) own)
          | inr other ↦ inr (held_front s n passes (more ∷ []) other)
        ]
        | inr next ↦
            inr (held_back s n passes (more ∷ []) (inl (subst (IsAmong n) (sym new)
            (inl (omega arith)))))
      ])

  pub split_from : (old mid next more : Passes D) → SplitsFrom old mid
      → holders next.desks.items ≡ map after_split (holders mid.desks.items)
      → holders more.desks.items ≡ map newest_of (holders next.desks.items)
      → length (holders mid.desks.items) ≡ 64
      → seens next.desks.items ≡ seens mid.desks.items → SplitsFrom old next
  split_from old mid next more from split newest many seen = record {
    same = λ s low. let at = split_at mid next more s split newest many low in (
      ap (λ (h : Holder). h.holds) at.0 ∙ (from.same s low).0,
      ap (λ (h : Holder). h.number) at.0 ∙ (from.same s low).1,
    );
    seen = seen ∙ from.seen;
  }

  pub again_held : (old new : Passes D) (passes : List (Passes D)) (many : ℕ)
      → holders new.desks.items
      ≡ first_by (λ (h : Holder). with_newest_pass (after_split h)) many
      (holders old.desks.items)
      → length (holders old.desks.items) ≡ 64
      → AreAllHeld old (old ∷ passes) → AreAllHeld new (new ∷ passes)
  again_held old new passes many is long held s n low n_low =
      let at = ap (λ (l : List Holder). holder_at l s) is in
      elim (back_at (λ (h : Holder). with_newest_pass (after_split h)) many
      (holders old.desks.items) s (omega arith)) [
        | inl more ↦
            let made : (who new s).made ≡ (who old s).made + 1 =
            ap (λ (h : Holder). h.made) (at ∙ more) in
            let holds : (who new s).holds ≡ (who old s).holds ++ ((who old s).made + 1) ∷ [] =
            ap (λ (h : Holder). h.holds) (at ∙ more) in
            elim (cases_lt n ((who old s).made + 1)) [
              | inl below ↦ elim (held s n low (omega arith)) [
                | inl own ↦ inl (subst (IsAmong n) (sym holds)
                    (among_first n (who old s).holds (((who old s).made + 1) ∷ []) own))
                | inr other ↦ inr other
              ]
              | inr next ↦ inl (subst (IsAmong n) (sym holds)
                  (among_second n (who old s).holds (((who old s).made + 1) ∷ [])
                  (inl (omega arith))))
            ]
        | inr same ↦
            let made : (who new s).made ≡ (who old s).made =
            ap (λ (h : Holder). h.made) (at ∙ same) in
            elim (held s n low (omega arith)) [
              | inl own ↦ inl (subst (IsAmong n)
                  (sym (ap (λ (h : Holder). h.holds) (at ∙ same))) own)
              | inr other ↦ inr other
            ]
      ]

  -- the roots of a host that was just opened
  lone_at : (p : Passes D) (s : ℕ) → holders p.desks.items ≡ roots → s < 64 → who p s ≡ lone
  lone_at p s is low = ap (λ (l : List Holder). holder_at l s) is ∙ lone_there s low

  pub lone_held : (p : Passes D) → holders p.desks.items ≡ roots → AreAllHeld p (p ∷ [])
  lone_held p is s n low n_low =
      let at = lone_at p s is low in
      let made = ap (λ (h : Holder). h.made) at in
      inl (subst (IsAmong n) (sym (ap (λ (h : Holder). h.holds) at)) (inl (omega arith)))

  -- ---- passes of workers, joined again

  pub rejoins : (old mid new : Passes D) (workers : List (Passes D)) → SplitsFrom old mid
      → AreAllHeld mid (mid ∷ workers) → JoinsAll mid workers new → Rejoins old workers new
  rejoins old mid new workers split held j = record {
    first = λ s low. subst (λ (x : List ℕ × List Entry).
        IsPart (record { number = (who old s).number; made = (who old s).made; holds = x.0 }) x.1
        (who new s) (heard new s))
        (λ i. ((split.same s low).0 i, ap (λ (l : List (List Entry)). seen_at l s) split.seen i))
        (record { numbers = (j.first s low).numbers; since = (j.first s low).since });
    given = λ s low. subst (λ (x : ℕ × List Entry).
        Continues (λ (e : Entry). entry_by e ≤ x.0) (heard new s) x.1)
        (λ i. (
          sym (j.made s low) i,
          ap (λ (l : List (List Entry)). seen_at l s) split.seen i,
        ))
        (j.given s low (split.same s low).1);
    held = λ s n low n_low.
        elim (held s n low (subst (λ (m : ℕ). n ≤ m) (j.made s low) n_low)) [
          | inl own ↦ inl (subst (IsAmong n) (split.same s low).0 own)
          | inr other ↦ inr other
        ];
  }

  -- workers that hold what they held hold all numbers still
  pub held_then : (mid : Passes D) (before after : List (Passes D))
      → ((s n : ℕ) → IsHeldByOne s n before → IsHeldByOne s n after)
      → AreAllHeld mid (mid ∷ before) → AreAllHeld mid (mid ∷ after)
  held_then mid before after still held s n low n_low = elim (held s n low n_low) [
    | inl own ↦ inl own
    | inr other ↦ inr (still s n other)
  ]

  -- ---- what was seen

  -- where all have seen the same, this is it
  same_seen : (s : ℕ) (seen : List (List Entry)) (history : List Entry) (xs : List (Passes D))
      → Each (HaveSeen seen) xs → IsSeenByOne s history xs → history ≡ seen_at seen s
  same_seen s seen history [] each is = absurd is
  same_seen s seen history (x ∷ xs) each (inl own) =
      own ∙ ap (λ (l : List (List Entry)). seen_at l s) each.0
  same_seen s seen history (x ∷ xs) each (inr other) =
      same_seen s seen history xs each.1 other

  -- passes that were split off, and saw nothing, are joined again: nothing more is seen
  pub none_seen : (old mid new : Passes D) (workers : List (Passes D))
      → seens mid.desks.items ≡ seens old.desks.items
      → Each (HaveSeen (seens old.desks.items)) workers → JoinsAll mid workers new
      → SeeNoMore old new
  none_seen old mid new workers seen each j s low =
      same_seen s (seens old.desks.items) (heard new s) (mid ∷ workers) (seen, each)
      (j.seen s low)
