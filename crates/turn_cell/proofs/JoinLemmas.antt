-- A join of two passes keeps the rule, and what it tells.
use Rattle.std.proofs.Common.{◌≡◌, ◌≢◌, ℕ, ◌<◌, List, [], ◌∷◌, ◌++◌, length, sym}
use Rattle.std.proofs.Common.{refl, ap, ◌∙◌, subst, ⊎_elim, arith, Option, length-append}
use mathlib.Core.Option.{none}
use Rattle.atomic_table.specs.Table.{Me, step}
use Rattle.turn_cell.specs.declared.view.View.{View}
use Rattle.turn_cell.specs.declared.view.Stage.TheVariants.{Idle}
use Rattle.turn_cell.specs.History.{AreApart, Continues, IsAmong, IsForeign, longer_list}
use Rattle.turn_cell.specs.Views.{at_stage, joined, HasNumberFirst}
use Rattle.turn_cell.specs.Steps.{LearnsBoth}
use Rattle.turn_cell.proofs.HistoryLemmas.{among_either}
use Rattle.std.proofs.Common.{◌⊎◌, ◌≤◌, set, inl, inr, length-set}
use mathlib.Core.Logic.{dite}
use mathlib.Core.Option.{some}
use native.Mathlib.Decide.{ℕ_discrete}
use lib.ListN.{get_elem?}
use Rattle.atomic_table.specs.Table.{State, Joins}
use Rattle.atomic_table.proofs.Lists.{at_set, set_here, set_else}
use Rattle.turn_cell.specs.History.{Each}
use Rattle.turn_cell.specs.Views.{HasTicket, ticket_count, spent}
use Rattle.turn_cell.specs.Rule.{Knows, Legal}
use Rattle.turn_cell.proofs.HistoryLemmas.{continues_map, longer_first, longer_second, longer_whole}
use Rattle.turn_cell.proofs.HistoryLemmas.{among_first, tickets_out_set, at_low, one_item}
use Rattle.std.proofs.lemmas.List.{get_or_append_left}
use Rattle.turn_cell.proofs.StepLemmas.{is_root, place_stays}

-- what the pass is after a join
abbrev Ended : {T E : Type 0}
    → (E → ℕ) → Me (Option T) (View E T) → View E T
    → Me (Option T) (View E T) → Type 0
Ended by m0 w m2 =
    (m2 ≡ (at_stage (joined m0.0 w) Idle (longer_list m0.0.seen w.seen), []))
    × Continues (IsForeign by m0.0.holds) (longer_list m0.0.seen w.seen) m0.0.seen
    × Continues (IsForeign by w.holds) (longer_list m0.0.seen w.seen) w.seen
    × AreApart m0.0.holds w.holds
    × (IsAmong 0 m0.0.holds
    → Continues (λ e. by e ≤ m0.0.made) (longer_list m0.0.seen w.seen) m0.0.seen)

pub learn_end : {T E : Type 0} (by : E → ℕ) (m0 m1 m2 : Me (Option T) (View E T)) (w : View E T)
    → m1 ≡ (joined m0.0 w, m0.1) → m0.1 ≡ []
    → LearnsBoth by (step 0 0 0 0 none) m1 0 m2
    → Ended by m0 w m2
learn_end {T} {E} by m0 m1 m2 w is bare told =
    let is' : m1 ≡ (joined m0.0 w, []) =
    is ∙ ap (λ (c : List (ℕ × Option T)). let v : View E T = joined m0.0 w in (v, c)) bare in
    let k =
    told m0.0.seen m0.0.holds w.seen w.holds
    (ap (λ (m : Me (Option T) (View E T)). m.0.stage) is') in (
      k.0
          ∙ ap (λ (m : Me (Option T) (View E T)).
          let v : View E T = at_stage m.0 Idle m.0.seen in (v, m.1)) is',
      subst
          (λ (m : Me (Option T) (View E T)). Continues (IsForeign by m0.0.holds) m.0.seen m0.0.seen)
          is' k.1,
      subst (λ (m : Me (Option T) (View E T)). Continues (IsForeign by w.holds) m.0.seen w.seen)
          is' k.2,
      k.3,
      (λ zero. subst
          (λ (m : Me (Option T) (View E T)). Continues (λ e. by e ≤ m.0.made) m.0.seen m0.0.seen)
          is' (k.4 zero)),
    )

pub joined_numbered : {T E : Type 0} (v w u : View E T)
    → u ≡ at_stage (joined v w) Idle (longer_list v.seen w.seen)
    → HasNumberFirst v → HasNumberFirst w → w.number ≢ 0
    → HasNumberFirst u
joined_numbered {T} {E} v w u is a b other = subst (λ (x : View E T). HasNumberFirst x) (sym is) (
  omega (arith, a.0, length-append v.holds w.holds),
  get_or_append_left v.holds w.holds 0 0 a.0 ∙ a.1,
  λ h. ⊎_elim a.2 (λ t. absurd (other (b.2 t))) (among_either 0 v.holds w.holds h),
)

module _ {T E G : Type 0} (entries : T → List E) (by : E → ℕ) (tag : T → G) (first : T) where
  abbrev CellState : Type 0
  CellState = State (Option T) (View E T)

  abbrev Rule : CellState → Type 0
  Rule = Legal entries by tag first

  abbrev ViewKnows : List ℕ → List E → ℕ → View E T → Type 0
  ViewKnows words log made v = Knows entries by tag words log made first v

  each_any : (xs : List E) → Each (IsForeign by []) xs
  each_any [] = tt
  each_any (x ∷ xs) = ((λ h. h), each_any xs)

  each_true : (xs : List E) → Each (λ (_ : E). Unit {0}) xs
  each_true [] = tt
  each_true (x ∷ xs) = (tt, each_true xs)

  -- a view after a join, and where its numbers came from
  abbrev From : CellState → ℕ → ℕ → ℕ → ℕ → Type 0
  From s id other j n =
      (u : View E T) × (k : ℕ) × (get_elem? s.views k ≡ some u)
      × IsAmong n u.holds
      × (((k ≡ j) × (j ≢ other)) ⊎ ((k ≡ other) × (j ≡ id)))

  module _ (s : CellState) (r : Rule s) (id : ℕ) (v : View E T)
      (other : ℕ) (w : View E T) (at : get_elem? s.views id ≡ some v) (apart : other ≢ id)
      (at_other : get_elem? s.views other ≡ some w) (idle : v.stage ≡ Idle)
      (idle_other : w.stage ≡ Idle) where
    abbrev middle : List (View E T)
    middle = set s.views id (joined v w)

    abbrev after : List (View E T)
    after = set middle other spent

    views_after_join : (P : ℕ → View E T → Type 0)
        → P other spent → P id (joined v w)
        → ((j : ℕ) (d : View E T) → j ≢ other → j ≢ id → get_elem? s.views j ≡ some d → P j d)
        → (j : ℕ) (d : View E T) → get_elem? after j ≡ some d
        → P j d
    views_after_join P a b c j d e = elim (at_set middle other j spent d e) [
      | inl t ↦ subst (λ (x : ℕ × View E T). P x.0 x.1) (λ i. (sym t.0 i, t.1 i)) a
      | inr t ↦
          elim (at_set s.views id j (joined v w) d t.1) [
            | inl x ↦ subst (λ (y : ℕ × View E T). P y.0 y.1) (λ i. (sym x.0 i, x.1 i)) b
            | inr x ↦ c j d t.0 x.0 x.1
          ]
    ]

    mine : ViewKnows s.words r.log r.root.made v
    mine = r.each id v at

    others : ViewKnows s.words r.log r.root.made w
    others = r.each other w at_other

    one_log : v.seen ++ mine.known.0 ≡ w.seen ++ others.known.0
    one_log = sym mine.known.1 ∙ others.known.1

    knows_joined : ViewKnows s.words r.log r.root.made (joined v w)
    knows_joined = record {
      known =
          subst (λ (l : List E).
          Continues (IsForeign by (v.holds ++ w.holds)) l (longer_list v.seen w.seen))
          (sym mine.known.1)
          (continues_map (λ e. IsForeign by v.holds e × IsForeign by w.holds e)
          (IsForeign by (v.holds ++ w.holds)) (v.seen ++ mine.known.0)
          (longer_list v.seen w.seen)
          (λ e f h. ⊎_elim f.0 f.1 (among_either (by e) v.holds w.holds h))
          (longer_whole (IsForeign by v.holds) (IsForeign by w.holds) v.seen w.seen
          mine.known.0 others.known.0 one_log mine.known.2 others.known.2));
      low = (λ n h. ⊎_elim (mine.low n) (others.low n) (among_either n v.holds w.holds h));
      tagged = mine.tagged;
      at = (
        longer_first (IsForeign by v.holds) v.seen w.seen mine.known.0 others.known.0 one_log
            mine.known.2,
        longer_second (IsForeign by w.holds) v.seen w.seen mine.known.0 others.known.0 one_log
            others.known.2,
        (λ n h g. apart (r.apart other id w v n at_other at g h)),
        (λ zero. let root = is_root entries by tag first s r id v at zero in
            let given : Continues (λ e. by e ≤ v.made) r.log v.seen = rw root.1 r.given in
            longer_first (λ e. by e ≤ v.made) v.seen w.seen given.0 others.known.0
            (sym given.1 ∙ others.known.1) given.2),
      );
    }

    knows_spent : ViewKnows s.words r.log r.root.made spent
    knows_spent = record {
      known = (r.log, refl, each_any r.log);
      low = (λ n h. absurd h);
      tagged = (λ g e. absurd cc);
      at = tt;
    }

    came_from : (j : ℕ) (d : View E T)
        → get_elem? after j ≡ some d → (n : ℕ) → IsAmong n d.holds
        → From s id other j n
    came_from = views_after_join (λ j d. (n : ℕ) → IsAmong n d.holds → From s id other j n)
        (λ n h. absurd h)
        (λ n h. elim (among_either n v.holds w.holds h) [
          | inl x ↦ (v, id, at, x, inl (refl, λ e. apart (sym e)))
          | inr x ↦ (w, other, at_other, x, inr (refl, refl))
        ])
        (λ j d no_other no_id e n h. (d, j, e, h, inl (refl, no_other)))

    joins_apart : (i j : ℕ) (c d : View E T) (n : ℕ)
        → get_elem? after i ≡ some c → get_elem? after j ≡ some d
        → IsAmong n c.holds → IsAmong n d.holds → i ≡ j
    joins_apart i j c d n ei ej hc hd =
        let x = came_from i c ei n hc in
        let y = came_from j d ej n hd in
        let same : x.1 ≡ y.1 = r.apart x.1 y.1 x.0 y.0 n x.2 y.2 x.3 y.3 in
        elim x.4 [
          | inl a ↦
              elim y.4 [
                | inl b ↦ omega arith
                | inr b ↦ absurd (a.1 (omega arith))
              ]
          | inr a ↦
              elim y.4 [
                | inl b ↦ absurd (b.1 (omega arith))
                | inr b ↦ omega arith
              ]
        ]

    joins_turns : (i j : ℕ) (c d : View E T) (t : ℕ)
        → get_elem? after i ≡ some c → get_elem? after j ≡ some d
        → HasTicket t c.stage → HasTicket t d.stage → i ≡ j
    joins_turns i j c d t ei ej oc od =
        let old : (k : ℕ) (u : View E T)
        → get_elem? after k ≡ some u → HasTicket t u.stage
        → get_elem? s.views k ≡ some u =
        views_after_join (λ k u. HasTicket t u.stage → get_elem? s.views k ≡ some u)
        (λ o. absurd o) (λ o. absurd o) (λ k u no_other no_id e o. e) in
        r.turns i j c d t (old i c ei oc) (old j d ej od) oc od

    at_middle : get_elem? middle other ≡ some w
    at_middle = set_else s.views id other (joined v w) apart ∙ at_other

    joins_with : (root : View E T)
        → get_elem? after 0 ≡ some root → IsAmong 0 root.holds
        → root.made ≡ r.root.made
        → Continues (λ e. by e ≤ r.root.made) r.log root.seen
        → (r.root.made ≡ 0 → root.seen ≡ r.log)
        → Rule record { words = s.words; homes = s.homes; views = after }
    joins_with root rooted zero_held made given alone = record {
      log = r.log;
      root = root;
      three_words = r.three_words;
      one_slot = r.one_slot;
      served = r.served;
      in_order = r.in_order;
      tickets = omega (
        arith,
        r.tickets,
        tickets_out_set s.views id v (joined v w) at,
        tickets_out_set middle other w spent at_middle,
        ap ticket_count idle,
        ap ticket_count idle_other,
      );
      counted = r.counted;
      rooted = rooted;
      zero_held = zero_held;
      all_made =
          rw made (length-set middle other spent
          ∙ (length-set s.views id (joined v w) ∙ r.all_made));
      made_low = rw made r.made_low;
      given = rw made given;
      alone = (λ z. alone (sym made ∙ z));
      each =
          (λ j d e. rw made
          (views_after_join (λ _ u. ViewKnows s.words r.log r.root.made u) knows_spent knows_joined
          (λ k u no_other no_id at_k. r.each k u at_k) j d e));
      apart = joins_apart;
      turns = joins_turns;
      place =
          place_stays entries by tag first middle other w spent s.homes r.log at_middle
          (λ t e. cc)
          (place_stays entries by tag first s.views id v (joined v w) s.homes r.log at
          (λ t e. cc) r.place);
    }

    joins_rule : (IsAmong 0 w.holds → ⊥)
        → Rule record { words = s.words; homes = s.homes; views = after }
    joins_rule no_root =
        let not_zero : other ≢ 0 =
        λ e. no_root (rw (← one_item s.views 0 other r.root w (sym e) r.rooted at_other)
        r.zero_held) in
        let rooted : get_elem? after 0 ≡ get_elem? middle 0 =
        set_else middle other 0 spent (λ z. not_zero (sym z)) in
        dite (ℕ_discrete id 0)
        (λ (here : id ≡ 0).
        let same : v ≡ r.root = one_item s.views id 0 v r.root here at r.rooted in
        let given : Continues (λ e. by e ≤ r.root.made) r.log v.seen = rw same r.given in
        let low_at : id < length s.views = at_low s.views id v at in
        let other_at : other < length s.views = at_low s.views other w at_other in
        joins_with (joined v w)
        (rooted ∙ rw (← here) (set_here s.views id (joined v w) low_at))
        (among_first 0 v.holds w.holds (rw same r.zero_held))
        (ap (λ (u : View E T). u.made) same)
        (subst (λ (l : List E). Continues (λ e. by e ≤ r.root.made) l (longer_list v.seen w.seen))
        (sym given.1)
        (continues_map (λ e. (by e ≤ r.root.made) × Unit {0}) (λ e. by e ≤ r.root.made)
        (v.seen ++ given.0) (longer_list v.seen w.seen) (λ e f. f.0)
        (longer_whole (λ e. by e ≤ r.root.made) (λ _. Unit {0}) v.seen w.seen given.0
        others.known.0 (sym given.1 ∙ others.known.1) given.2 (each_true others.known.0))))
        (λ z. absurd (not_zero (omega (arith, r.all_made)))))
        (λ (elsewhere : id ≢ 0). joins_with r.root
        (rooted ∙ (set_else s.views id 0 (joined v w) (λ z. elsewhere (sym z)) ∙ r.rooted))
        r.zero_held refl r.given r.alone)

  pub joins : (id : ℕ) (v : View E T) (other : ℕ) (w : View E T)
      → v.stage ≡ Idle → w.stage ≡ Idle → (IsAmong 0 w.holds → ⊥)
      → Joins Rule id v other w (joined v w) spent
  joins id v other w idle idle_other no_root s r at apart at_other =
      joins_rule s r id v other w at apart
      (sym (set_else s.views id other (joined v w) apart) ∙ at_other) idle idle_other no_root
