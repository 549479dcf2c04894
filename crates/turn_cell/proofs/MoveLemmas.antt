-- A step of one seat that leaves its numbers keeps the rule.
use Rattle.std.proofs.Common.{◌≡◌, ◌≢◌, ◌⊎◌, ℕ, ◌+◌, ◌^◌, ◌≤◌, List, ◌++◌, length, get_or}
use Rattle.std.proofs.Common.{set, sym, refl, ap, ◌∙◌, subst, arith, Option, length-set}
use mathlib.Core.Logic.{dite}
use mathlib.Core.Option.{none, some, some-injective, some-ne-none}
use mathlib.Core.Option as maybe
use native.Mathlib.Decide.{ℕ_discrete}
use lib.ListN.{get_elem?}
use Rattle.atomic_table.specs.Table.{State}
use Rattle.atomic_table.proofs.Lists.{at_set, set_here, set_else}
use Rattle.turn_cell.specs.declared.view.View.{View}
use Rattle.turn_cell.specs.declared.view.Stage.{Stage}
use Rattle.turn_cell.specs.declared.view.Stage.TheVariants.{Idle, Waits, Served, Joined}
use Rattle.turn_cell.specs.History.{Each, Continues, IsAmong, IsForeign}
use Rattle.turn_cell.specs.Views.{HasTicket, ticket_count, tickets_out, at_stage}
use Rattle.turn_cell.specs.Rule.{KnowsStage, Knows, IsHome, IsAway, Legal}
use Rattle.std.proofs.Common.{inl, inr}
use Rattle.turn_cell.proofs.HistoryLemmas.{one_item, each_map, continues_all}
use Rattle.turn_cell.proofs.HistoryLemmas.{continues_more, tickets_out_set, at_low}

module _ {T E G : Type 0} (entries : T → List E) (by : E → ℕ) (tag : T → G) (first : T) where
  abbrev CellState : Type 0
  CellState = State (Option T) (View E T)

  abbrev Rule : CellState → Type 0
  Rule = Legal entries by tag first

  abbrev Homes : Type 0
  Homes = List (maybe.Option (Option T))

  abbrev StageKnows : List ℕ → List E → View E T → Stage E → Type 0
  StageKnows = KnowsStage entries by tag

  abbrev ViewKnows : List ℕ → List E → ℕ → View E T → Type 0
  ViewKnows words log made v = Knows entries by tag words log made first v

  -- no other seat's move, where the served number grows by at most one, and stays with the history
  -- where that seat is served
  stage_kept : (words words' : List ℕ) (log log' : List E) (d : View E T) (stage : Stage E)
      → get_or words' 1 0 ≤ get_or words 1 0 + 1
      → get_or words 0 0 ≤ get_or words' 0 0
      → (HasTicket (get_or words 1 0) stage → (get_or words' 1 0 ≡ get_or words 1 0) × (log ≡ log'))
      → StageKnows words log d stage → StageKnows words' log' d stage
  stage_kept words words' log log' d Idle one two same k = tt
  stage_kept words words' log log' d (Waits t) one two same k =
      elim (ℕ_discrete t (get_or words 1 0)) [
        | yes e ↦ (omega (arith, (same e).0), omega arith)
        | no other ↦ (omega arith, omega arith)
      ]
  stage_kept words words' log log' d (Served t) one two same k =
      let x = same k.0 in (k.0 ∙ sym x.0, omega arith, k.2, k.3 ∙ x.1)
  stage_kept words words' log log' d (Joined a an b bn) one two same k = k

  -- what a step of the seat id has to be, which leaves its numbers: the history is now `log`
  pub record Moves (s : CellState) (r : Rule s) (id : ℕ) (v : View E T) (stage : Stage E)
      (seen log : List E) (words : List ℕ) (homes : Homes) : Type 0 where
    pub more : List E
    pub grown : log ≡ r.log ++ more
    pub own : Each (λ e. IsAmong (by e) v.holds) more
    pub three_words : length words ≡ 3
    pub one_slot : length homes ≡ 1
    pub served : get_or words 1 0 ≤ 2 ^ 62
    pub in_order : get_or words 1 0 ≤ get_or words 0 0
    pub tickets : get_or words 0 0 + ticket_count v.stage
        ≤ get_or words 1 0 + (tickets_out s.views + ticket_count stage)
    pub counted : get_or words 2 0 ≡ length log
    pub new : (seen ≡ log) ⊎ ((seen ≡ v.seen) × (log ≡ r.log))
    pub stays : StageKnows words log (at_stage v stage seen) stage
    -- a ticket is drawn or not, and a turn is passed on or not
    pub onward : (get_or s.words 0 0 ≤ get_or words 0 0)
        × (get_or words 1 0 ≤ get_or s.words 1 0 + 1)
    -- where another seat is served, its turn goes on
    pub others : (j : ℕ) (d : View E T)
        → j ≢ id → get_elem? s.views j ≡ some d
        → HasTicket (get_or s.words 1 0) d.stage
        → (get_or words 1 0 ≡ get_or s.words 1 0) × (r.log ≡ log)
    pub differ : (t : ℕ)
        → HasTicket t stage → (j : ℕ) (d : View E T) → j ≢ id
        → get_elem? s.views j ≡ some d → HasTicket t d.stage → ⊥
    pub place : IsHome entries by tag homes log first
        ⊎ IsAway entries by tag (set s.views id (at_stage v stage seen))

  module _ (s : CellState) (r : Rule s) (id : ℕ) (v : View E T) (at : get_elem? s.views id ≡ some v)
      (stage : Stage E) (seen log : List E) (words : List ℕ) (homes : Homes)
      (m : Moves s r id v stage seen log words homes) where
    abbrev w : View E T
    w = at_stage v stage seen

    -- what is known of the history, by a fact that each added entry meets
    goes_on : (P : E → Type 0) (known : List E)
        → Each P m.more → Continues P r.log known
        → Continues P log known
    goes_on P known each h = rw m.grown (continues_more P r.log known m.more h each)

    -- and from what the seat has now seen
    seen_on : (P : E → Type 0) → Continues P r.log v.seen → Continues P log seen
    seen_on P h = elim m.new [
      | inl e ↦ rw e (continues_all P log)
      | inr t ↦ rw (t.0, t.1) h
    ]

    low_more : Each (λ e. by e ≤ r.root.made) m.more
    low_more =
        each_map (λ e. IsAmong (by e) v.holds) (λ e. by e ≤ r.root.made) m.more
        (λ e h. (r.each id v at).low (by e) h) m.own

    -- the views after the step: each has the numbers that it had
    back : (j : ℕ) (d : View E T)
        → get_elem? (set s.views id w) j ≡ some d
        → (u : View E T) × (get_elem? s.views j ≡ some u) × (d.holds ≡ u.holds)
    back j d e = elim (at_set s.views id j w d e) [
      | inl t ↦ (v, rw t.0 at, ap (λ (u : View E T). u.holds) (sym t.1))
      | inr t ↦ (d, t.1, refl)
    ]

    knows_each : (j : ℕ) (d : View E T)
        → get_elem? (set s.views id w) j ≡ some d
        → ViewKnows words log r.root.made d
    knows_each j d e = elim (at_set s.views id j w d e) [
      | inl t ↦
          let k = r.each id v at in
          subst (λ (u : View E T). ViewKnows words log r.root.made u) t.1 record {
            known = seen_on (IsForeign by v.holds) k.known;
            low = k.low;
            tagged = k.tagged;
            at = m.stays;
          }
      | inr t ↦
          let k = r.each j d t.1 in
          let foreign =
          each_map (λ x. IsAmong (by x) v.holds) (IsForeign by d.holds) m.more
          (λ x h g. t.0 (r.apart j id d v (by x) t.1 at g h)) m.own in
          record {
            known = goes_on (IsForeign by d.holds) d.seen foreign k.known;
            low = k.low;
            tagged = k.tagged;
            at =
                stage_kept s.words words r.log log d d.stage m.onward.1 m.onward.0
                (m.others j d t.0 t.1) k.at;
          }
    ]

    turns_differ : (i j : ℕ) (c d : View E T) (t : ℕ)
        → get_elem? (set s.views id w) i ≡ some c
        → get_elem? (set s.views id w) j ≡ some d
        → HasTicket t c.stage → HasTicket t d.stage → i ≡ j
    turns_differ i j c d t ei ej oc od =
        elim (at_set s.views id i w c ei) [
          | inl x ↦
              elim (at_set s.views id j w d ej) [
                | inl y ↦ x.0 ∙ sym y.0
                | inr y ↦ absurd (m.differ t (stage_of c x.1 oc) j d y.0 y.1 od)
              ]
          | inr x ↦
              elim (at_set s.views id j w d ej) [
                | inl y ↦ absurd (m.differ t (stage_of d y.1 od) i c x.0 x.1 oc)
                | inr y ↦ r.turns i j c d t x.1 y.1 oc od
              ]
        ] where
          stage_of : (u : View E T) → w ≡ u → HasTicket t u.stage → HasTicket t stage
          stage_of u is o = subst (λ (x : View E T). HasTicket t x.stage) (sym is) o

    with_root : (root : View E T)
        → get_elem? (set s.views id w) 0 ≡ some root
        → root.holds ≡ r.root.holds → root.made ≡ r.root.made
        → Continues (λ e. by e ≤ r.root.made) log root.seen
        → (r.root.made ≡ 0 → root.seen ≡ log)
        → Rule record { words = words; homes = homes; views = set s.views id w }
    with_root root rooted holds made given alone = record {
      log = log;
      root = root;
      three_words = m.three_words;
      one_slot = m.one_slot;
      served = m.served;
      in_order = m.in_order;
      tickets = (let a = tickets_out_set s.views id v w at in let b = m.tickets in omega arith);
      counted = m.counted;
      rooted = rooted;
      zero_held = rw holds r.zero_held;
      all_made = rw made (length-set s.views id w ∙ r.all_made);
      made_low = rw made r.made_low;
      given = rw made given;
      alone = (λ z. alone (sym made ∙ z));
      each = (λ j d e. rw made (knows_each j d e));
      apart =
          (λ i j c d n ei ej hc hd. let x = back i c ei in let y = back j d ej in
          r.apart i j x.0 y.0 n x.1 y.1 (subst (IsAmong n) x.2 hc) (subst (IsAmong n) y.2 hd));
      turns = turns_differ;
      place = m.place;
    }

    pub moved : Rule record { words = words; homes = homes; views = set s.views id w }
    moved = dite (ℕ_discrete id 0)
        (λ (here : id ≡ 0).
        let same : v ≡ r.root = one_item s.views id 0 v r.root here at r.rooted in
        let made : v.made ≡ r.root.made = ap (λ (u : View E T). u.made) same in
        with_root w (rw (← here) (set_here s.views id w (at_low s.views id v at)))
        (ap (λ (u : View E T). u.holds) same) made
        (seen_on (λ e. by e ≤ r.root.made) (rw same r.given))
        (λ z. elim m.new [
          | inl e ↦ e
          | inr t ↦ t.0 ∙ (ap (λ (u : View E T). u.seen) same ∙ (r.alone z ∙ sym t.1))
        ]))
        (λ (elsewhere : id ≢ 0).
        with_root r.root (set_else s.views id 0 w (λ z. elsewhere (sym z)) ∙ r.rooted) refl refl
        (goes_on (λ e. by e ≤ r.root.made) r.root.seen low_more r.given)
        (λ z.
        let low = at_low s.views id v at in let n = r.all_made in absurd (elsewhere (omega arith))))
