-- From turns one after the other to what is said of all of them.
use Rattle.std.proofs.Common.{◌≡◌, ◌⊎◌, ◌≢◌, ℕ, zero, suc, ◌+◌, ◌<◌, ◌≤◌, Some, None, List, [], ◌∷◌}
use Rattle.std.proofs.Common.{◌++◌, length, set, take, refl, ap, sym, ◌∙◌, subst, inl, inr, ⊎_elim}
use Rattle.std.proofs.Common.{append_assoc, arith, slice_get}
use Rattle.std.proofs.lemmas.Bool.{cases_eq, cases_lt}
use Rattle.std.proofs.lemmas.List.{length-append, set_past}
use Rattle.std.proofs.lemmas.Option.{slice_get_past}
use Rattle.std.proofs.Math.Seq.{take-append_seam}
use Rattle.std.proofs.Math.ListN.{get_or-eq_default}
use Rattle.turn_cell.specs.History.{IsAmong, IsForeign}
use Rattle.story_run.specs.declared.story.Story.{Story}
use Rattle.session_core.specs.declared.entry.Entry.{Entry}
use Rattle.session_core.specs.Turning.{entry_by, AddsTo, Turned}
use Rattle.host_serve.proofs.SaidLemmas.{said_adds}
use Rattle.host_serve.specs.Holders.{Holder, nobody, IsAloneHolder, holder_at, seen_at}
use Rattle.host_serve.specs.Serves.{AnsweredLine, IsTurn, IsOfItsSession, IsOfNoSession, MayMeetIn}
use Rattle.host_serve.specs.Serves.{marked, own_world, turned_again, turned, AddsItsEntry}
use Rattle.host_serve.specs.Serves.{AddsNothing, AddedOnce, Folds, IsExact, ServesLines}
use Rattle.host_serve.specs.Chain.{TurnsIn, Answers, AnswersInOrder}
use Rattle.host_serve.proofs.TurnLemmas.{none_adds}
use Rattle.host_serve.proofs.ExactLemmas.{exact}
use Rattle.host_serve.proofs.ListLemmas.{same_some, none_some, each_there, get_last, length_more}
use Rattle.host_serve.proofs.ChainLemmas.{Grows, seen_there, seen_elsewhere, answer_wide}
use Rattle.host_serve.proofs.ChainLemmas.{answer_grows, chain_wide, chain_grows}

empty_there : (seens : List (List Entry)) (s : ℕ) → length seens ≡ 64 → s ≡ 64
    → seen_at seens s ≡ []
empty_there seens s wide e = get_or-eq_default seens [] (omega arith)

module _ (stories : List Story) (budget : ℕ) (sound : Type 0) where
  -- in one session: the turn on the prefix of the final history that its mark names
  abbrev MarkedTurn : Holder → List Entry → AnsweredLine → Turned
  MarkedTurn h final t = turned_again stories budget (take t.mark.length final) h.number t

  -- in one session: the turn adds the entry that stands there in the end
  abbrev AddsIn : Holder → List Entry → AnsweredLine → Type 0
  AddsIn h final t = (e : Entry)
      × ((MarkedTurn h final t).history ≡ take t.mark.length final ++ e ∷ [])
      × (slice_get final t.mark.length ≡ Some e) × (entry_by e ≡ h.number)

  -- in one session: what a turn is, with what was seen before it, after it and in the end
  record Stands (h : Holder) (old : List Entry) (t : AnsweredLine)
      (mid final : List Entry) : Type 0 where
    pub prefix : t.mark.length ≤ length final
    pub begins : length old ≤ t.mark.length
    pub least : t.mark.length ≤ length mid
    pub more : AddsIn h final t → length mid ≡ t.mark.length + 1
    pub reply : t.reply ≡ (MarkedTurn h final t).reply
    pub own : sound → t.world ≡ own_world stories (take t.mark.length final)
    pub met : MayMeetIn stories budget (take t.mark.length final) t
    pub adds : ((MarkedTurn h final t).history ≡ take t.mark.length final) ⊎ AddsIn h final t
    pub made : (place : ℕ) (e : Entry) → length old ≤ place → place < length mid
        → slice_get final place ≡ Some e → IsAmong (entry_by e) h.holds
        → (t.mark.length ≡ place) × AddsIn h final t

  stands_in : (h : Holder) (old : List Entry) (t : AnsweredLine) (mid final rest : List Entry)
      → TurnsIn stories budget sound h old t mid → final ≡ mid ++ rest → Stands h old t mid final
  stands_in h old t mid final rest i goes =
      of (said_adds stories budget i.before t.world h.number t.line t.outcome)
    where
      taken : (tail : List Entry) → final ≡ i.before ++ tail → i.before ≡ take t.mark.length final
      taken tail is = subst (λ (x : ℕ × List Entry). i.before ≡ take x.0 x.1)
          (λ j. (sym i.length j, sym is j)) (sym (take-append_seam i.before tail))

      -- an entry that came since and was there as the turn began is another's
      others : (tail : List Entry) → final ≡ i.before ++ tail → (place : ℕ) (e : Entry)
          → length old ≤ place → place < length i.before → slice_get final place ≡ Some e
          → IsAmong (entry_by e) h.holds → ⊥
      others tail is place e low high there held =
          each_there (IsForeign entry_by h.holds) old i.since.0 tail place e i.since.2 low
          (subst (λ (l : List Entry). place < length l) i.since.1 high)
          (subst (λ (l : List Entry). slice_get l place ≡ Some e)
          (is ∙ ap (λ (l : List Entry). l ++ tail) i.since.1) there) held

      -- whether the turn adds or not, this much stands in the end behind what it began with
      begun : (tail : List Entry) → final ≡ i.before ++ tail → length i.before ≤ length mid
          → (AddsIn h final t → length mid ≡ t.mark.length + 1)
          → ((MarkedTurn h final t).history ≡ take t.mark.length final) ⊎ AddsIn h final t
          → ((place : ℕ) → length i.before ≤ place → place < length mid
          → (t.mark.length ≡ place) × AddsIn h final t)
          → Stands h old t mid final
      begun tail is least more adds made =
          let same = taken tail is in let c = i.length in
          let a = ap (λ (l : List Entry). length l) is in
          let b = length-append i.before tail in
          let d = ap (λ (l : List Entry). length l) i.since.1 in
          let f = length-append old i.since.0 in
          record {
            prefix = omega arith;
            begins = omega arith;
            least = omega arith;
            more = more;
            reply = subst (λ (l : List Entry). t.reply
                ≡ (turned_again stories budget l h.number t).reply) same i.reply;
            own = λ s. subst (λ (l : List Entry). t.world ≡ own_world stories l) same (i.own s);
            met = subst (λ (l : List Entry). MayMeetIn stories budget l t) same i.met;
            adds = adds;
            made = λ place e low high there held. ⊎_elim
                (λ (within : place < length i.before).
                absurd (others tail is place e low within there held))
                (λ (past : length i.before ≤ place). made place past high)
                (cases_lt place (length i.before));
          }

      of : AddsTo i.before h.number (turned_again stories budget i.before h.number t).history
          → Stands h old t mid final
      of (inl same) = let ended : mid ≡ i.before = i.history ∙ same in
          let is : final ≡ i.before ++ rest = goes ∙ ap (λ (l : List Entry). l ++ rest) ended in
          let d = ap (λ (l : List Entry). length l) ended in
          let nothing : (MarkedTurn h final t).history ≡ take t.mark.length final =
          subst (λ (l : List Entry). (turned_again stories budget l h.number t).history ≡ l)
          (taken rest is) same in
          begun rest is (omega arith)
          (λ p. let f = ap (λ (l : List Entry). length l) (sym nothing ∙ p.1) in
          let g = length_more (take t.mark.length final) p.0 in absurd (omega arith))
          (inl nothing) (λ place past high. absurd (omega arith))
      of (inr more) = let ended : mid ≡ i.before ++ more.0 ∷ [] = i.history ∙ more.1 in
          let is : final ≡ i.before ++ (more.0 ∷ rest) =
          goes ∙ (ap (λ (l : List Entry). l ++ rest) ended
          ∙ append_assoc i.before (more.0 ∷ []) rest) in
          let c = i.length in let d = ap (λ (l : List Entry). length l) ended in
          let f = length_more i.before more.0 in
          let added : AddsIn h final t = (
            more.0,
            subst (λ (l : List Entry). (turned_again stories budget l h.number t).history
                ≡ l ++ more.0 ∷ []) (taken (more.0 ∷ rest) is) more.1,
            subst (λ (x : ℕ × List Entry). slice_get x.1 x.0 ≡ Some more.0)
                (λ j. (sym i.length j, sym is j)) (get_last i.before rest more.0),
            more.2,
          ) in
          begun (more.0 ∷ rest) is (omega arith) (λ p. omega arith) (inr added)
          (λ place past high. (omega arith, added))

  stands_none : (t : AnsweredLine) → IsOfNoSession t → t.world ≡ None
      → MayMeetIn stories budget [] t
      → t.reply ≡ (turned_again stories budget [] 0 t).reply → Stands nobody [] t [] []
  stands_none t none world met reply = let e = none.1 in
      let nil = ap (λ (k : ℕ). take {A = Entry} k []) none.1 in
      let same = ap (λ (l : List Entry). turned_again stories budget l 0 t) nil in
      record {
        prefix = omega arith;
        begins = omega arith;
        least = omega arith;
        more = λ p. absurd (none_some p.0 p.2);
        reply = reply ∙ sym (ap (λ (x : Turned). x.reply) same);
        own = λ s. world ∙ ap (own_world stories) (sym nil);
        met = subst (λ (l : List Entry). MayMeetIn stories budget l t) (sym nil) met;
        adds = inl (ap (λ (x : Turned). x.history) same
            ∙ (none_adds stories budget t.world t.line t.outcome none.2 ∙ sym nil));
        made = λ place x low high there held. absurd (omega arith);
      }

  module _ (holders : List Holder) (many : length holders ≡ 64) where
    -- an answered line, against what is seen in the end
    abbrev StandsAt : List (List Entry) → AnsweredLine → List (List Entry) → List (List Entry)
        → Type 0
    StandsAt old t mid new = Stands (holder_at holders t.mark.session)
        (seen_at old t.mark.session) t (seen_at mid t.mark.session) (seen_at new t.mark.session)

    head_stands : (old : List (List Entry)) (t : AnsweredLine) (mid new : List (List Entry))
        → length old ≡ 64 → length new ≡ 64 → Answers stories budget sound holders old t mid
        → Grows mid new → StandsAt old t mid new
    head_stands old t mid new wide wide' (inl o) grows = let g = grows t.mark.session in
        let there = seen_there stories budget sound holders old t mid wide o in
        subst (λ (l : List Entry). Stands (holder_at holders t.mark.session)
        (seen_at old t.mark.session) t l (seen_at new t.mark.session)) (sym there)
        (stands_in (holder_at holders t.mark.session) (seen_at old t.mark.session) t o.after
        (seen_at new t.mark.session) g.0 o.turn
        (g.1 ∙ ap (λ (l : List Entry). l ++ g.0) there))
    head_stands old t mid new wide wide' (inr n) grows = let s = n.none.0 in
        let h : holder_at holders t.mark.session ≡ nobody =
        get_or-eq_default holders nobody (omega arith) in
        let a = empty_there old t.mark.session wide s in
        let b = ap (λ (x : List (List Entry)). seen_at x t.mark.session) n.seen ∙ a in
        let c = empty_there new t.mark.session wide' s in
        subst (λ (x : Holder × List Entry × List Entry × List Entry). Stands x.0 x.1 t x.2 x.3)
        (λ j. (sym h j, sym a j, sym b j, sym c j)) (stands_none t n.none n.world n.met n.reply)

    -- the first turn of a chain
    first_stands : (old : List (List Entry)) (t : AnsweredLine) (ts : List AnsweredLine)
        (new : List (List Entry)) → length old ≡ 64
        → (c : AnswersInOrder stories budget sound holders old (t ∷ ts) new)
        → StandsAt old t c.0 new
    first_stands old t ts new wide c =
        let wide' = answer_wide stories budget sound holders old t c.0 wide c.1 in
        head_stands old t c.0 new wide
        (chain_wide stories budget sound holders c.0 ts new wide' c.2) c.1
        (chain_grows stories budget sound holders c.0 ts new wide' c.2)

    session_of_turn : (old : List (List Entry)) (t : AnsweredLine) (mid : List (List Entry))
        → Answers stories budget sound holders old t mid → IsOfItsSession t ⊎ IsOfNoSession t
    session_of_turn old t mid (inl o) = inl o.session
    session_of_turn old t mid (inr n) = inr n.none

    -- what holds of each turn by itself
    abbrev Settled : List (List Entry) → AnsweredLine → Type 0
    Settled new t = (IsOfItsSession t ⊎ IsOfNoSession t)
        × (t.mark.length ≤ length (seen_at new t.mark.session))
        × (t.reply ≡ (turned stories budget holders new t).reply)
        × (AddsNothing stories budget holders new t ⊎ AddsItsEntry stories budget holders new t)
        × MayMeetIn stories budget (marked new t) t
        × (sound → t.world ≡ own_world stories (marked new t))

    settled : (old : List (List Entry)) (ts : List AnsweredLine) (new : List (List Entry))
        → length old ≡ 64 → AnswersInOrder stories budget sound holders old ts new
        → (i : ℕ) (t : AnsweredLine) → IsTurn ts i t → Settled new t
    settled old [] new wide c i t is = absurd (none_some t is)
    settled old (x ∷ xs) new wide c zero t is =
        let s = first_stands old x xs new wide c in
        subst (Settled new) (same_some x t is)
        (session_of_turn old x c.0 c.1, s.prefix, s.reply, s.adds, s.met, s.own)
    settled old (x ∷ xs) new wide c (suc i) t is =
        settled c.0 xs new (answer_wide stories budget sound holders old x c.0 wide c.1) c.2 i t is

    begins_all : (old : List (List Entry)) (ts : List AnsweredLine) (new : List (List Entry))
        → length old ≡ 64 → AnswersInOrder stories budget sound holders old ts new
        → (i : ℕ) (t : AnsweredLine) → IsTurn ts i t
        → length (seen_at old t.mark.session) ≤ t.mark.length
    begins_all old [] new wide c i t is = absurd (none_some t is)
    begins_all old (x ∷ xs) new wide c zero t is =
        let s = first_stands old x xs new wide c in
        subst (λ (u : AnsweredLine). length (seen_at old u.mark.session) ≤ u.mark.length)
        (same_some x t is) s.begins
    begins_all old (x ∷ xs) new wide c (suc i) t is =
        let more = begins_all c.0 xs new
        (answer_wide stories budget sound holders old x c.0 wide c.1) c.2 i t is in
        let g = answer_grows stories budget sound holders old x c.0 wide c.1 t.mark.session in
        let a = ap (λ (l : List Entry). length l) g.1 in
        let b = length-append (seen_at old t.mark.session) g.0 in omega arith

    abbrev Rises : List (List Entry) → AnsweredLine → AnsweredLine → Type 0
    Rises new t u = (t.mark.length ≤ u.mark.length)
        × (AddsItsEntry stories budget holders new t → t.mark.length < u.mark.length)

    rises_all : (old : List (List Entry)) (ts : List AnsweredLine) (new : List (List Entry))
        → length old ≡ 64 → AnswersInOrder stories budget sound holders old ts new
        → (i j : ℕ) (t u : AnsweredLine) → IsTurn ts i t → IsTurn ts j u → i < j
        → t.mark.session ≡ u.mark.session → Rises new t u
    rises_all old [] new wide c i j t u is at low same = absurd (none_some t is)
    rises_all old (x ∷ xs) new wide c i zero t u is at low same = absurd (omega arith)
    rises_all old (x ∷ xs) new wide c zero (suc j) t u is at low same =
        let wide' = answer_wide stories budget sound holders old x c.0 wide c.1 in
        let s = first_stands old x xs new wide c in
        let after = begins_all c.0 xs new wide' c.2 j u at in
        let e = same_some x t is in
        let there : length (seen_at c.0 x.mark.session) ≤ u.mark.length =
        subst (λ (k : ℕ). length (seen_at c.0 k) ≤ u.mark.length)
        (sym (ap (λ (y : AnsweredLine). y.mark.session) e ∙ same)) after in
        subst (λ (y : AnsweredLine). Rises new y u) e
        (let a = s.least in omega arith, λ p. let b = s.more p in omega arith)
    rises_all old (x ∷ xs) new wide c (suc i) (suc j) t u is at low same =
        rises_all c.0 xs new (answer_wide stories budget sound holders old x c.0 wide c.1) c.2
        i j t u is at (omega arith) same

    once_all : (old : List (List Entry)) (ts : List AnsweredLine) (new : List (List Entry))
        → length old ≡ 64 → AnswersInOrder stories budget sound holders old ts new
        → (s place : ℕ) (e : Entry) → length (seen_at old s) ≤ place
        → slice_get (seen_at new s) place ≡ Some e
        → IsAmong (entry_by e) (holder_at holders s).holds
        → AddedOnce stories budget holders new ts s place
    once_all old [] new wide c s place e low is held =
        absurd (none_some e (sym (slice_get_past (seen_at new s) place
        (subst (λ (x : List (List Entry)). length (seen_at x s) ≤ place) (sym c) low)) ∙ is))
    once_all old (x ∷ xs) new wide c s place e low is held =
        of (λ past. once_all c.0 xs new
        (answer_wide stories budget sound holders old x c.0 wide c.1) c.2
        s place e past is held) (cases_lt place (length (seen_at c.0 s)))
      where
        wide' : length c.0 ≡ 64
        wide' = answer_wide stories budget sound holders old x c.0 wide c.1

        stands : StandsAt old x c.0 new
        stands = first_stands old x xs new wide c

        later : length (seen_at c.0 s) ≤ place → AddedOnce stories budget holders new xs s place
            → AddedOnce stories budget holders new (x ∷ xs) s place
        later past r = record {
          which = suc r.which;
          turn = r.turn;
          stands = r.stands;
          session = r.session;
          place = r.place;
          adds = r.adds;
          only = only_later;
        }
          where
            only_later : (j : ℕ) (u : AnsweredLine) → IsTurn (x ∷ xs) j u → u.mark.session ≡ s
                → u.mark.length ≡ place → AddsItsEntry stories budget holders new u
                → j ≡ suc r.which
            only_later (suc j) u at session long adds = ap suc (r.only j u at session long adds)
            only_later zero u at session long adds = let same = same_some x u at in
                let more = stands.more
                (subst (AddsItsEntry stories budget holders new) (sym same) adds) in
                let a = ap (λ (y : AnsweredLine). y.mark.length) same in
                let b = ap (λ (k : ℕ). length (seen_at c.0 k))
                (ap (λ (y : AnsweredLine). y.mark.session) same ∙ session) in
                absurd (omega arith)

        here : place < length (seen_at c.0 s) → s ≡ x.mark.session
            → AddedOnce stories budget holders new (x ∷ xs) s place
        here high same = let m = stands.made place e
            (subst (λ (k : ℕ). length (seen_at old k) ≤ place) same low)
            (subst (λ (k : ℕ). place < length (seen_at c.0 k)) same high)
            (subst (λ (k : ℕ). slice_get (seen_at new k) place ≡ Some e) same is)
            (subst (λ (k : ℕ). IsAmong (entry_by e) (holder_at holders k).holds) same held) in
            record {
              which = 0;
              turn = x;
              stands = refl;
              session = sym same;
              place = m.0;
              adds = m.1;
              only = only_here;
            }
          where
            only_here : (j : ℕ) (u : AnsweredLine) → IsTurn (x ∷ xs) j u → u.mark.session ≡ s
                → u.mark.length ≡ place → AddsItsEntry stories budget holders new u → j ≡ 0
            only_here zero u at session long adds = refl
            only_here (suc j) u at session long adds =
                let a = begins_all c.0 xs new wide' c.2 j u at in
                let b = ap (λ (k : ℕ). length (seen_at c.0 k)) session in absurd (omega arith)

        of : (length (seen_at c.0 s) ≤ place → AddedOnce stories budget holders new xs s place)
            → (place < length (seen_at c.0 s)) ⊎ (length (seen_at c.0 s) ≤ place)
            → AddedOnce stories budget holders new (x ∷ xs) s place
        of more (inr past) = later past (more past)
        of more (inl high) = ⊎_elim (λ (same : s ≡ x.mark.session). here high same)
            (λ (other : s ≢ x.mark.session). let a = ap (λ (l : List Entry). length l)
            (seen_elsewhere stories budget sound holders old x c.0 s other c.1) in
            absurd (omega arith))
            (cases_eq s x.mark.session)

    abbrev AllAlone : Type 0
    AllAlone = (s : ℕ) → IsAloneHolder (holder_at holders s)

    folds_all : (old : List (List Entry)) (ts : List AnsweredLine) (new : List (List Entry))
        → length old ≡ 64 → AnswersInOrder stories budget sound holders old ts new → AllAlone
        → Folds stories budget holders old ts new
    folds_all old [] new wide c alone = c
    folds_all old (x ∷ xs) new wide c alone = of (folds_all c.0 xs new
        (answer_wide stories budget sound holders old x c.0 wide c.1) c.2 alone) c.1
      where
        of : Folds stories budget holders c.0 xs new
            → Answers stories budget sound holders old x c.0
            → Folds stories budget holders old (x ∷ xs) new
        of rest (inl o) = let h = holder_at holders x.mark.session in
            let same = o.turn.alone (alone x.mark.session) in (
              o.turn.length ∙ ap (λ (l : List Entry). length l) same,
              o.turn.reply
                  ∙ ap (λ (l : List Entry). (turned_again stories budget l h.number x).reply) same,
              subst (λ (l : List (List Entry)). Folds stories budget holders l xs new)
                  (o.seen ∙ ap (λ (l : List Entry). set old x.mark.session l) (o.turn.history
                  ∙ ap (λ (l : List Entry). (turned_again stories budget l h.number x).history)
                  same))
                  rest,
            )
        of rest (inr n) = let s = n.none.0 in let nil = empty_there old x.mark.session wide s in
            let h : holder_at holders x.mark.session ≡ nobody =
            get_or-eq_default holders nobody (omega arith) in
            let turn = turned_again stories budget (seen_at old x.mark.session)
            (holder_at holders x.mark.session).number x in
            let same : turn ≡ turned_again stories budget [] 0 x =
            ap (λ (y : List Entry × Holder). turned_again stories budget y.0 y.1.number x)
            (λ i. (nil i, h i)) in (
              n.none.1 ∙ ap (λ (l : List Entry). length l) (sym nil),
              n.reply ∙ ap (λ (y : Turned). y.reply) (sym same),
              subst (λ (l : List (List Entry)). Folds stories budget holders l xs new)
                  (n.seen ∙ sym (set_past old x.mark.session turn.history (omega arith))) rest,
            )

    pub serves_of : (old : List (List Entry)) (ts : List AnsweredLine) (new : List (List Entry))
        → length old ≡ 64 → AnswersInOrder stories budget sound holders old ts new
        → ServesLines stories budget sound holders old ts new
    serves_of old ts new wide c = record {
      marks = λ i t is. (settled old ts new wide c i t is).0;
      prefix = λ i t is. (settled old ts new wide c i t is).1;
      begins = begins_all old ts new wide c;
      rises = λ i j t u is at low same. rises_all old ts new wide c i j t u is at low same;
      own = λ s i t is. (settled old ts new wide c i t is).5 s;
      replies = λ i t is. let s = settled old ts new wide c i t is in (s.2, s.3);
      exact = λ i t is. let s = settled old ts new wide c i t is in
          exact stories budget holders new t s.2 s.3 s.4;
      once = once_all old ts new wide c;
      grows = chain_grows stories budget sound holders old ts new wide c;
      alone = folds_all old ts new wide c;
    }

    -- the turn of one line
    pub exact_of : (old : List (List Entry)) (t : AnsweredLine) (new : List (List Entry))
        → length old ≡ 64 → Answers stories budget sound holders old t new
        → IsExact stories budget holders new t
    exact_of old t new wide a = (serves_of old (t ∷ []) new wide (new, a, refl)).exact 0 t refl
