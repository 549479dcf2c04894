-- A cell begins with its rule, and a pass that is split keeps it.
use Rattle.std.proofs.Common.{◌≡◌, ◌⊎◌, ℕ, zero, suc, ◌+◌, ◌^◌, ◌<◌, ◌≤◌, List, []}
use Rattle.std.proofs.Common.{◌∷◌, ◌++◌, length, set, sym, refl, ap, ◌∙◌, subst}
use Rattle.std.proofs.Common.{inl, inr, arith, Option, Some, length-set, length-append}
use mathlib.Core.Option.{some, some-injective, some-ne-none}
use lib.ListN.{get_elem?}
use Rattle.atomic_table.specs.Table.{State, Splits, opening}
use Rattle.atomic_table.proofs.Lists.{at_set, set_here, at_longer}
use Rattle.turn_cell.specs.declared.view.View.{View}
use Rattle.turn_cell.specs.declared.view.Stage.TheVariants.{Idle}
use Rattle.turn_cell.specs.History.{Continues, IsAmong, IsForeign}
use Rattle.turn_cell.specs.Views.{HasTicket, with_one_more, split_off, starting}
use Rattle.turn_cell.specs.Rule.{Knows, Legal}
use Rattle.turn_cell.proofs.HistoryLemmas.{continues_all, continues_map}
use Rattle.turn_cell.proofs.HistoryLemmas.{tickets_out_set, tickets_out_append, at_low}
use Rattle.turn_cell.proofs.StepLemmas.{is_root, place_stays}

module _ {A : Type 0} where
  -- an item of a longer list is one of before, or the last
  at_end : (l : List A) (a b : A) (j : ℕ)
      → get_elem? (l ++ a ∷ []) j ≡ some b
      → (get_elem? l j ≡ some b) ⊎ ((j ≡ length l) × (a ≡ b))
  at_end [] a b zero e = inr (refl, some-injective a b e)
  at_end [] a b (suc j) e = absurd (some-ne-none b (sym e))
  at_end (x ∷ xs) a b zero e = inl e
  at_end (x ∷ xs) a b (suc j) e =
      elim (at_end xs a b j e) [ inl t ↦ inl t | inr t ↦ inr (omega (arith, t.0), t.1) ]

module _ {T E G : Type 0} (entries : T → List E) (by : E → ℕ) (tag : T → G) (first : T) where
  abbrev CellState : Type 0
  CellState = State (Option T) (View E T)

  abbrev Rule : CellState → Type 0
  Rule = Legal entries by tag first

  abbrev ViewKnows : List ℕ → List E → ℕ → View E T → Type 0
  ViewKnows words log made v = Knows entries by tag words log made first v

  -- after a split: the view is that of a seat from before, with its numbers and its stage
  record IsOld (s : CellState) (r : Rule s) (j : ℕ) (d : View E T) : Type 0 where
    old : View E T
    there : get_elem? s.views j ≡ some old
    holds : d.holds ≡ old.holds
    stage : d.stage ≡ old.stage
    known : ViewKnows s.words r.log (r.root.made + 1) d

  -- or that of the new pass
  abbrev IsNew : CellState → View E T → ℕ → View E T → Type 0
  IsNew s v j d = (d ≡ split_off v) × (j ≡ length s.views)

  views_after_split : (s : CellState) (r : Rule s) (id : ℕ) (v : View E T)
      → get_elem? s.views id ≡ some v → v.stage ≡ Idle
      → (j : ℕ) (d : View E T)
      → get_elem? (set s.views id (with_one_more v) ++ split_off v ∷ []) j ≡ some d
      → IsNew s v j d ⊎ IsOld s r j d
  views_after_split s r id v at idle j d e =
      let low : (u : View E T) (k : ℕ)
      → get_elem? s.views k ≡ some u → (n : ℕ) → IsAmong n u.holds
      → n ≤ r.root.made + 1 =
      λ u k at_k n h. omega (arith, (r.each k u at_k).low n h) in
      elim (at_end (set s.views id (with_one_more v)) (split_off v) d j e) [
        | inl t ↦
            elim (at_set s.views id j (with_one_more v) d t) [
              | inl x ↦
                  inr (subst (λ (y : ℕ × View E T). IsOld s r y.0 y.1) (λ i. (sym x.0 i, x.1 i))
                  record {
                    old = v;
                    there = at;
                    holds = refl;
                    stage = refl;
                    known = record {
                      known = (r.each id v at).known;
                      low = low v id at;
                      tagged = (r.each id v at).tagged;
                      at = rw idle tt;
                    };
                  })
              | inr x ↦
                  let k = r.each j d x.1 in
                  inr (record {
                    old = d;
                    there = x.1;
                    holds = refl;
                    stage = refl;
                    known =
                        record { known = k.known; low = low d j x.1; tagged = k.tagged; at = k.at };
                  })
            ]
        | inr t ↦ inl (sym t.1, t.0 ∙ length-set s.views id (with_one_more v))
      ]

  pub splits : (id : ℕ) (v : View E T)
      → v.stage ≡ Idle → IsAmong 0 v.holds → v.made < 2 ^ 32
      → Splits Rule id v (with_one_more v) (split_off v)
  splits id v idle zero_in room s r at =
      let root = is_root entries by tag first s r id v at zero_in in
      let made : v.made ≡ r.root.made = ap (λ (u : View E T). u.made) root.1 in
      let middle : List (View E T) = set s.views id (with_one_more v) in
      let given : Continues (λ e. by e ≤ v.made) r.log v.seen = rw root.1 r.given in
      let next : (n : ℕ) → IsAmong n (split_off v).holds → n ≡ v.made + 1 =
      λ n h. elim h [ inl x ↦ sym x | inr x ↦ absurd x ] in
      let new : ViewKnows s.words r.log (r.root.made + 1) (split_off v) = record {
        known =
            continues_map (λ e. by e ≤ v.made) (IsForeign by (split_off v).holds) r.log v.seen
            (λ e le h. omega (arith, next (by e) h)) given;
        low = (λ n h. omega (arith, next n h));
        tagged = (r.each id v at).tagged;
        at = tt;
      } in
      let part = views_after_split s r id v at idle in
      -- no pass of before has the new pass's number, and the new one has no ticket
      let fresh : (j : ℕ) (u d : View E T) (k n : ℕ)
      → IsOld s r j u → IsAmong n u.holds → IsNew s v k d → IsAmong n d.holds → ⊥ =
      λ j u d k n o h is hd. omega (
        arith,
        (r.each j o.old o.there).low n (subst (IsAmong n) o.holds h),
        next n (subst (λ (w : View E T). IsAmong n w.holds) is.0 hd),
      ) in
      let no_ticket : (d : View E T) (k t : ℕ) → IsNew s v k d → HasTicket t d.stage → ⊥ =
      λ d k t is o. subst (λ (u : View E T). HasTicket t u.stage) is.0 o in
      record {
        log = r.log;
        root = with_one_more v;
        three_words = r.three_words;
        one_slot = r.one_slot;
        served = r.served;
        in_order = r.in_order;
        tickets = omega (
          arith,
          r.tickets,
          tickets_out_append middle (split_off v),
          tickets_out_set s.views id v (with_one_more v) at,
        );
        counted = r.counted;
        rooted =
            at_longer middle (split_off v ∷ []) 0 (with_one_more v)
            (rw (← root.0) (set_here s.views id (with_one_more v) (at_low s.views id v at)));
        zero_held = zero_in;
        all_made = omega (
          arith,
          r.all_made,
          length-append middle (split_off v ∷ []),
          length-set s.views id (with_one_more v),
        );
        made_low = omega arith;
        given =
            continues_map (λ e. by e ≤ v.made) (λ e. by e ≤ v.made + 1) r.log v.seen
            (λ e le. omega arith) given;
        alone = (λ z. absurd (omega arith));
        each = (λ j d e. rw made (elim (part j d e) [
          | inl x ↦ rw x.0 new
          | inr x ↦ x.known
        ]));
        apart = (λ i j c d n ei ej hc hd. elim (part i c ei) [
          | inl x ↦
              elim (part j d ej) [
                | inl y ↦ x.1 ∙ sym y.1
                | inr y ↦ absurd (fresh j d c i n y hd x hc)
              ]
          | inr x ↦
              elim (part j d ej) [
                | inl y ↦ absurd (fresh i c d j n x hc y hd)
                | inr y ↦
                    r.apart i j x.old y.old n x.there y.there (subst (IsAmong n) x.holds hc)
                    (subst (IsAmong n) y.holds hd)
              ]
        ]);
        turns = (λ i j c d t ei ej oc od. elim (part i c ei) [
          | inl x ↦ absurd (no_ticket c i t x oc)
          | inr x ↦
              elim (part j d ej) [
                | inl y ↦ absurd (no_ticket d j t y od)
                | inr y ↦
                    r.turns i j x.old y.old t x.there y.there (subst (HasTicket t) x.stage oc)
                    (subst (HasTicket t) y.stage od)
              ]
        ]);
        place =
            elim (place_stays entries by tag first s.views id v (with_one_more v) s.homes r.log at
            (λ t e. cc) r.place) [
              | inl h ↦ inl h
              | inr (j, u, t, at_j, is) ↦
                  inr (j, u, t, at_longer middle (split_off v ∷ []) j u at_j, is)
            ];
      }

  pub starts : (value : T)
      → first ≡ value
      → Rule
      (opening (0 ∷ 0 ∷ length (entries value) ∷ []) (Some value ∷ []) (starting entries value))
  starts value is =
      let root : View E T = starting entries value in
      let only : (j : ℕ) (d : View E T) → get_elem? (root ∷ []) j ≡ some d → (j ≡ 0) × (root ≡ d) =
      λ j d e. elim (at_end [] root d j e) [
        | inl x ↦ absurd (some-ne-none d (sym x))
        | inr x ↦ x
      ] in
      record {
        log = entries value;
        root = root;
        three_words = refl;
        one_slot = refl;
        served = omega arith;
        in_order = omega arith;
        tickets = omega arith;
        counted = refl;
        rooted = refl;
        zero_held = inl refl;
        all_made = refl;
        made_low = omega arith;
        given = continues_all (λ e. by e ≤ 0) (entries value);
        alone = (λ z. refl);
        each =
            (λ j d e. subst
            (λ (u : View E T). ViewKnows (0 ∷ 0 ∷ length (entries value) ∷ []) (entries value) 0 u)
            (only j d e).1 record {
              known = continues_all (IsForeign by (0 ∷ [])) (entries value);
              low = (λ n h. elim h [ inl x ↦ omega arith | inr x ↦ absurd x ]);
              tagged = (λ x e. let same : value ≡ x = cc in ap tag (sym same) ∙ ap tag (sym is));
              at = tt;
            });
        apart = (λ i j c d n ei ej hc hd. (only i c ei).0 ∙ sym (only j d ej).0);
        turns = (λ i j c d t ei ej oc od. (only i c ei).0 ∙ sym (only j d ej).0);
        place = inl (value, refl, refl, ap tag (sym is));
      }

  pub starts_at : (value : T) (count : ℕ) (slots : List (Option T))
      → first ≡ value → count ≡ length (entries value)
      → slots ≡ Some value ∷ []
      → Rule (opening (0 ∷ 0 ∷ count ∷ []) slots (starting entries first))
  starts_at value count slots is counts holds = rw (counts, holds, ← is) (starts first refl)
