-- Each step of a turn, and the last of a join, keeps the rule.
use Rattle.std.proofs.Common.{◌≡◌, ◌≢◌, ℕ, suc, ◌+◌, ◌^◌, ◌%◌, ◌<◌, ◌≤◌, List, [], ◌∷◌, ◌++◌}
use Rattle.std.proofs.Common.{length, get_or, set, sym, refl, ap, ◌∙◌, subst, ◌⊎◌, inl, inr, arith}
use Rattle.std.proofs.Common.{Option, Some, None, length-set, length-append}
use mathlib.Core.Option.{none, some, some-injective, some-ne-none}
use mathlib.Core.Option as maybe
use native.Mathlib.Decide.{ℕ_discrete, dec_le}
use lib.ListN.{get_elem?}
use lib.Seq.{set-get_or}
use Rattle.atomic_table.specs.Table.{State, Me, Step, keeps, takes, gives, Allows}
use Rattle.atomic_table.proofs.Lists.{set_here, set_else, set_again}
use Rattle.turn_cell.specs.declared.view.View.{View}
use Rattle.turn_cell.specs.declared.view.Stage.{Stage}
use Rattle.turn_cell.specs.declared.view.Stage.TheVariants.{Idle, Waits, Served, Joined}
use Rattle.turn_cell.specs.History.{Continues, IsAmong, IsForeign}
use Rattle.turn_cell.specs.Views.{HasTicket, ticket_count, at_stage}
use Rattle.turn_cell.specs.Steps.{Draws, PassesOn, FindsValue, LooksAtServed, Raises, LearnsBoth}
use Rattle.turn_cell.specs.Rule.{KnowsStage, IsHome, IsAway, Legal}
use Rattle.turn_cell.proofs.MoveLemmas.{moved}
use Rattle.turn_cell.specs.Steps.{Learned}
use Rattle.turn_cell.proofs.HistoryLemmas.{nil_right, one_item, tickets_out_le, at_low}
use Rattle.turn_cell.proofs.HistoryLemmas.{Grows, grows}

module _ {T E G : Type 0} (entries : T → List E) (by : E → ℕ) (tag : T → G) (first : T) where
  abbrev CellState : Type 0
  CellState = State (Option T) (View E T)

  abbrev Rule : CellState → Type 0
  Rule = Legal entries by tag first

  abbrev Homes : Type 0
  Homes = List (maybe.Option (Option T))

  abbrev StageKnows : List ℕ → List E → View E T → Stage E → Type 0
  StageKnows = KnowsStage entries by tag

  away_here : (views : List (View E T)) (id : ℕ) (v w : View E T) (t : ℕ)
      → get_elem? views id ≡ some v → w.stage ≡ Served t
      → IsAway entries by tag (set views id w)
  away_here views id v w t at is = (id, w, t, set_here views id w (at_low views id v at), is)

  -- the value stays where it is in a step of a seat that isn't served
  pub place_stays : (views : List (View E T)) (id : ℕ) (v w : View E T) (homes : Homes)
      (log : List E)
      → get_elem? views id ≡ some v → ((t : ℕ) → v.stage ≡ Served t → ⊥)
      → IsHome entries by tag homes log first ⊎ IsAway entries by tag views
      → IsHome entries by tag homes log first ⊎ IsAway entries by tag (set views id w)
  place_stays views id v w homes log at free place = elim place [
    | inl h ↦ inl h
    | inr (j, u, t, at_j, is) ↦
        let other : j ≢ id =
        λ e. let same : u ≡ v = one_item views j id u v e at_j at in
        free t (ap (λ (x : View E T). x.stage) (sym same) ∙ is) in
        inr (j, u, t, set_else views id j w other ∙ at_j, is)
  ]

  -- what a seat knows at its stage
  knows_at : (s : CellState) (r : Rule s) (id : ℕ) (v : View E T) (stage : Stage E)
      → get_elem? s.views id ≡ some v → v.stage ≡ stage
      → StageKnows s.words r.log v stage
  knows_at s r id v stage at is =
      subst (λ (x : Stage E). StageKnows s.words r.log v x) is (r.each id v at).at

  ticket_low : (words : List ℕ) (log : List E) (d : View E T) (stage : Stage E) (t : ℕ)
      → StageKnows words log d stage → HasTicket t stage
      → t < get_or words 0 0
  ticket_low words log d Idle t k o = absurd o
  ticket_low words log d (Waits u) t k o = omega arith
  ticket_low words log d (Served u) t k o = omega arith
  ticket_low words log d (Joined a an b bn) t k o = absurd o

  -- a word that is read stays
  reads : (i : ℕ) (words : List ℕ) (homes : Homes) (views : List (View E T))
      → Rule record { words = words; homes = homes; views = views }
      → Rule record { words = set words i (get_or words i 0); homes = homes; views = views }
  reads i words homes views h =
      subst (λ (ws : List ℕ). Rule record { words = ws; homes = homes; views = views })
      (sym (set-get_or words i 0)) h

  pub draws : (slots id : ℕ) (st : Step (Option T)) (m : Me (Option T) (View E T))
      → m.0.stage ≡ Idle
      → Allows Rule slots id m 0 (λ n. (n + 1) % 2 ^ 64) (Draws st m)
  draws slots id st m idle s r sized at low =
      let v : View E T = m.0 in let n : ℕ = get_or s.words 0 0 in
      let words : List ℕ = set s.words 0 ((n + 1) % 2 ^ 64) in
      let few : n < 2 ^ 63 = omega (arith, tickets_out_le s.views) in
      let g : Grows s.words words 0 = grows s.words 0 (omega arith) (omega arith) in
      let one_is = g.elsewhere 1 (λ e. omega arith) in
      let none_out : ticket_count v.stage ≡ 0 = ap ticket_count idle in (
        at_stage v (Waits n) v.seen,
        keeps,
        tt,
        moved entries by tag first s r id v at (Waits n) v.seen r.log words s.homes record {
          more = [];
          grown = sym (nil_right r.log);
          own = tt;
          three_words = g.long ∙ r.three_words;
          one_slot = r.one_slot;
          served = omega arith;
          in_order = omega arith;
          tickets = omega arith;
          counted = g.elsewhere 2 (λ e. omega arith) ∙ r.counted;
          new = inr (refl, refl);
          stays = (omega arith, omega arith);
          onward = (omega arith, omega arith);
          others = (λ j d other e o. (one_is, refl));
          differ =
              (λ t e j d other ej od.
              omega (arith, ticket_low s.words r.log d d.stage t (r.each j d ej).at od));
          place =
              place_stays s.views id v (at_stage v (Waits n) v.seen) s.homes r.log at
              (λ t e. cc) r.place;
        },
        refl,
      )

  looks_hit : (s : CellState) (r : Rule s) (id : ℕ) (v : View E T)
      (at : get_elem? s.views id ≡ some v) (t : ℕ)
      → v.stage ≡ Waits t → get_or s.words 1 0 ≡ t → t < 2 ^ 62
      → (value : T) → entries value ≡ r.log
      → Rule record {
        words = s.words;
        homes = set s.homes 0 none;
        views = set s.views id (at_stage v (Served t) (entries value));
      }
  looks_hit s r id v at t waits now low value is =
      moved entries by tag first s r id v at (Served t) (entries value) r.log s.words
      (set s.homes 0 none) record {
        more = [];
        grown = sym (nil_right r.log);
        own = tt;
        three_words = r.three_words;
        one_slot = length-set s.homes 0 none ∙ r.one_slot;
        served = r.served;
        in_order = r.in_order;
        tickets =
            omega (arith, ap ticket_count waits);
        counted = r.counted;
        new = inl is;
        stays = (sym now, (knows_at s r id v (Waits t) at waits).1, low, is);
        onward = (omega arith, omega arith);
        others = (λ j d other e o. (refl, refl));
        differ =
            (λ u e j d other ej od. other
            (r.turns j id d v u ej at od (rw waits e)));
        place =
            inr (away_here s.views id v (at_stage v (Served t) (entries value)) t at refl);
      }

  pub is_root : (s : CellState) (r : Rule s) (id : ℕ) (v : View E T)
      → get_elem? s.views id ≡ some v → IsAmong 0 v.holds
      → (id ≡ 0) × (v ≡ r.root)
  is_root s r id v at zero_in =
      let here : id ≡ 0 = r.apart id 0 v r.root 0 at r.rooted zero_in r.zero_held in
      (here, one_item s.views id 0 v r.root here at r.rooted)

  -- what the seat learns of the value, as the value is at home
  learned : (s : CellState) (r : Rule s) (id : ℕ) (v : View E T)
      → get_elem? s.views id ≡ some v
      → (h : IsHome entries by tag s.homes r.log first)
      → Learned entries by tag v h.0
  learned s r id v at h = (
    subst (λ (l : List E). Continues (IsForeign by v.holds) l v.seen) (sym h.2)
        (r.each id v at).known,
    (λ zero_in none_made. let z = is_root s r id v at zero_in in
        h.2
        ∙ (sym (r.alone (ap (λ (u : View E T). u.made) (sym z.1) ∙ none_made))
        ∙ ap (λ (u : View E T). u.seen) (sym z.1))),
    (λ zero_in. let z = is_root s r id v at zero_in in
        let given : Continues (λ e. by e ≤ v.made) r.log v.seen = rw z.1 r.given in
        subst (λ (l : List E). Continues (λ e. by e ≤ v.made) l v.seen) (sym h.2) given),
    (λ x tg. h.3 ∙ sym ((r.each id v at).tagged x tg)),
  )

  -- where the seat's ticket is the one served now, the value isn't away
  not_away : (s : CellState) (r : Rule s) (id : ℕ) (v : View E T) (t : ℕ)
      → get_elem? s.views id ≡ some v → v.stage ≡ Waits t
      → get_or s.words 1 0 ≡ t → IsAway entries by tag s.views
      → ⊥
  not_away s r id v t at waits now a =
      let u = a.1 in
      let u_served = knows_at s r a.0 u (Served a.2) a.3 a.4 in
      let here : a.0 ≡ id =
      r.turns a.0 id u v t a.3 at
      (rw a.4 (u_served.0 ∙ now)) (rw waits refl) in
      let same = one_item s.views a.0 id u v here a.3 at in
      cc

  pub looks : (slots id : ℕ) (st : Step (Option T)) (m : Me (Option T) (View E T)) (t : ℕ)
      → m.0.stage ≡ Waits t
      → Allows Rule slots id m 1 (λ n. n) (LooksAtServed entries by tag st m)
  looks slots id st m t waits s r sized at low =
      let v : View E T = m.0 in let n : ℕ = get_or s.words 1 0 in
      let own : (k : ℕ) → v.stage ≡ Waits k → t ≡ k = λ k is. cc in
      elim (now_or_not n t) [
        | inl now ↦
            elim r.place [
              | inl h ↦
                  let w : View E T = at_stage v (Served t) (entries h.0) in (
                    w,
                    takes 0 (Some h.0),
                    h.1,
                    reads 1 s.words (set s.homes 0 none) (set s.views id w)
                        (looks_hit s r id v at t waits now.0 now.1 h.0 h.2),
                    (λ k is. (
                      (λ other. absurd (other (now.0 ∙ own k is))),
                      (λ e few. subst
                          (λ (j : ℕ). FindsValue entries by tag m j (w, (0, Some h.0) ∷ m.1))
                          (own k is) (h.0, refl, learned s r id v at h)),
                      (λ many. absurd (omega (arith, own k is))),
                    )),
                  )
              | inr a ↦ absurd (not_away s r id v t at waits now.0 a)
            ]
        | inr not_now ↦ (
          v,
          keeps,
          tt,
          reads 1 s.words s.homes (set s.views id v)
              (subst (λ (vs : List (View E T)).
              Rule record { words = s.words; homes = s.homes; views = vs })
              (sym (set_again s.views id v at)) r),
          (λ k is. let a = own k is in (
            (λ other. refl),
            (λ e few. absurd (not_now (omega arith) (omega arith))),
            (λ many. refl),
          )),
        )
      ]
    where
      now_or_not : (n t : ℕ) → ((n ≡ t) × (t < 2 ^ 62)) ⊎ (n ≡ t → t < 2 ^ 62 → ⊥)
      now_or_not n t = elim (ℕ_discrete n t) [
        | yes now ↦
            elim (dec_le (suc t) (2 ^ 62)) [
              | yes few ↦ inl (now, few)
              | no many ↦ inr (λ e few. many few)
            ]
        | no other ↦ inr (λ e few. other e)
      ]

  -- no other seat is served where this one is
  alone_served : (s : CellState) (r : Rule s) (id : ℕ) (v : View E T) (t : ℕ)
      → get_elem? s.views id ≡ some v → v.stage ≡ Served t
      → (j : ℕ) (d : View E T) → j ≢ id
      → get_elem? s.views j ≡ some d → (u : ℕ)
      → HasTicket u d.stage → u ≢ get_or s.words 1 0
  alone_served s r id v t at is j d other e u o now =
      let kv = knows_at s r id v (Served t) at is in
      other
      (r.turns j id d v u e at o (rw is (kv.0 ∙ sym now)))

  pub raises : (slots id : ℕ) (st : Step (Option T)) (m : Me (Option T) (View E T)) (t : ℕ)
      (value : T) (e : E)
      → m.0.stage ≡ Served t → m.1 ≡ (0, Some value) ∷ []
      → entries value ≡ m.0.seen ++ e ∷ []
      → IsAmong (by e) m.0.holds
      → length (entries value) < 2 ^ 64
      → Allows Rule slots id m 2 (λ n. (n + 1) % 2 ^ 64) (Raises entries st m)
  raises slots id st m t value e is held goes mine room s r sized at low =
      let v : View E T = m.0 in let n : ℕ = get_or s.words 2 0 in
      let words : List ℕ = set s.words 2 ((n + 1) % 2 ^ 64) in
      let kv = knows_at s r id v (Served t) at is in
      let whole : entries value ≡ r.log ++ e ∷ [] = goes ∙ ap (λ (l : List E). l ++ e ∷ []) kv.3 in
      let long : length (entries value) ≡ length r.log + 1 =
      ap length whole ∙ length-append r.log (e ∷ []) in
      let g : Grows s.words words 2 = grows s.words 2 (omega arith) (omega arith) in
      let one_is = g.elsewhere 1 (λ x. omega arith) in
      let zero_is = g.elsewhere 0 (λ x. omega arith) in (
        at_stage v v.stage (entries value),
        keeps,
        tt,
        moved entries by tag first s r id v at v.stage (entries value)
            (entries value) words s.homes record {
              more = e ∷ [];
              grown = whole;
              own = (mine, tt);
              three_words = g.long ∙ r.three_words;
              one_slot = r.one_slot;
              served = omega arith;
              in_order = omega arith;
              tickets = omega arith;
              counted = omega arith;
              new = inl refl;
              stays =
                  subst (λ (x : Stage E).
                  StageKnows words (entries value) (at_stage v v.stage (entries value)) x)
                  (sym is)
                  (kv.0 ∙ sym one_is, omega arith, kv.2, refl);
              onward = (omega arith, omega arith);
              others =
                  (λ j d other x o. absurd (alone_served s r id v t at is j d other x _ o refl));
              differ =
                  (λ u o j d other x od. alone_served s r id v t at is j d other x u od
                  (sym (subst (λ (y : Stage E). HasTicket u y) is o) ∙ kv.0));
              place =
                  inr (away_here s.views id v (at_stage v v.stage (entries value)) t at is);
            },
        (λ value' held'. let same : value ≡ value' =
            cc (ap (λ (l : List (ℕ × Option T)). (get_or l 0 (0, None)).1) (sym held ∙ held')) in
            ap (λ (x : T). let w : View E T = at_stage v v.stage (entries x) in (w, m.1)) same),
      )

  passes_of : (s : CellState) (r : Rule s) (id : ℕ) (v : View E T)
      (at : get_elem? s.views id ≡ some v) (t : ℕ) (value : T)
      → v.stage ≡ Served t → entries value ≡ v.seen
      → tag value ≡ tag first
      → Rule record {
        words = set s.words 1 ((get_or s.words 1 0 + 1) % 2 ^ 64);
        homes = set s.homes 0 (some (Some value));
        views = set s.views id (at_stage v Idle v.seen);
      }
  passes_of s r id v at t value is goes tagged =
      let n : ℕ = get_or s.words 1 0 in let words : List ℕ = set s.words 1 ((n + 1) % 2 ^ 64) in
      let kv = knows_at s r id v (Served t) at is in
      let g : Grows s.words words 1 = grows s.words 1 (omega arith) (omega arith) in
      let one_is = g.here in
      let zero_is = g.elsewhere 0 (λ x. omega arith) in
      moved entries by tag first s r id v at Idle v.seen r.log words
      (set s.homes 0 (some (Some value))) record {
        more = [];
        grown = sym (nil_right r.log);
        own = tt;
        three_words = g.long ∙ r.three_words;
        one_slot = length-set s.homes 0 (some (Some value)) ∙ r.one_slot;
        served = omega arith;
        in_order = omega arith;
        tickets =
            omega (arith, ap ticket_count is);
        counted = g.elsewhere 2 (λ x. omega arith) ∙ r.counted;
        new = inr (refl, refl);
        stays = tt;
        onward = (omega arith, omega arith);
        others = (λ j d other x o. absurd (alone_served s r id v t at is j d other x _ o refl));
        differ = (λ u o. absurd o);
        place =
            inl (
              value,
              set_here s.homes 0 (some (Some value)) (omega arith),
              goes ∙ kv.3,
              tagged,
            );
      }

  pub passes : (slots id : ℕ) (st : Step (Option T)) (m : Me (Option T) (View E T)) (t : ℕ)
      (value x : T)
      → m.0.stage ≡ Served t → m.1 ≡ (0, Some value) ∷ []
      → entries value ≡ m.0.seen → m.0.sample ≡ Some x
      → tag value ≡ tag x
      → Allows Rule slots id m 1 (λ n. (n + 1) % 2 ^ 64) (PassesOn st m)
  passes slots id st m t value x is held goes tagged same =
      subst (λ (c : List (ℕ × Option T)).
      Allows Rule slots id (m.0, c) 1 (λ n. (n + 1) % 2 ^ 64) (PassesOn st (m.0, c))) (sym held)
      (λ s r sized at low. (
        at_stage m.0 Idle m.0.seen,
        gives,
        tt,
        passes_of s r id m.0 at t value is goes (same ∙ (r.each id m.0 at).tagged x tagged),
        refl,
      ))

  pub learns : (slots id : ℕ) (st : Step (Option T)) (m : Me (Option T) (View E T))
      (a : List E) (an : List ℕ) (b : List E) (bn : List ℕ)
      → m.0.stage ≡ Joined a an b bn
      → Allows Rule slots id m 0 (λ n. n) (LearnsBoth by st m)
  learns slots id st m a an b bn is s r sized at low =
      let v : View E T = m.0 in let w : View E T = at_stage v Idle v.seen in (
        w,
        keeps,
        tt,
        reads 0 s.words s.homes (set s.views id w)
            (moved entries by tag first s r id v at Idle v.seen r.log s.words s.homes record {
              more = [];
              grown = sym (nil_right r.log);
              own = tt;
              three_words = r.three_words;
              one_slot = r.one_slot;
              served = r.served;
              in_order = r.in_order;
              tickets =
                  omega (arith, ap ticket_count is);
              counted = r.counted;
              new = inr (refl, refl);
              stays = tt;
              onward = (omega arith, omega arith);
              others = (λ j d other e o. (refl, refl));
              differ = (λ u o. absurd o);
              place =
                  place_stays s.views id v w s.homes r.log at (λ t e. cc) r.place;
            }),
        (λ a' an' b' bn' is'. let k = knows_at s r id v (Joined a' an' b' bn') at is' in
            (refl, k.0, k.1, k.2, k.3)),
      )
