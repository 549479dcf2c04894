-- One answered line keeps what was said, and lists of lines add up.
use Rattle.std.proofs.Common.{◌≡◌, ◌⊎◌, ◌≢◌, ℕ, List, [], ◌∷◌, ◌++◌, length, refl, ap, sym, ◌∙◌}
use Rattle.std.proofs.Common.{subst, inl, inr, append_assoc, arith}
use Rattle.std.proofs.lemmas.Bool.{cases_eq}
use Rattle.std.proofs.lemmas.List.{length-set, get_or-set_same, get_or-set_other}
use Rattle.turn_cell.proofs.HistoryLemmas.{nil_right}
use Rattle.story_run.specs.declared.story.Story.{Story}
use Rattle.session_core.specs.declared.entry.Entry.{Entry}
use Rattle.session_core.specs.Turning.{AddsTo}
use Rattle.host_serve.proofs.SaidLemmas.{said_adds}
use Rattle.host_serve.specs.Holders.{Holder, holder_at, seen_at}
use Rattle.host_serve.specs.Serves.{AnsweredLine, turned_again}
use Rattle.host_serve.specs.Chain.{TurnsIn, TurnsOn, Answers, AnswersInOrder}

-- what was seen of each session goes on
abbrev pub Grows : List (List Entry) → List (List Entry) → Type 0
Grows old new = (s : ℕ) → (rest : List Entry) × (seen_at new s ≡ seen_at old s ++ rest)

pub grows_same : (old new : List (List Entry)) → new ≡ old → Grows old new
grows_same old new e s =
    ([], ap (λ (x : List (List Entry)). seen_at x s) e ∙ sym (nil_right (seen_at old s)))

pub grows_trans : (a b c : List (List Entry)) → Grows a b → Grows b c → Grows a c
grows_trans a b c f g s = let p = f s in let q = g s in (
  p.0 ++ q.0,
  q.1 ∙ (ap (λ (l : List Entry). l ++ q.0) p.1
      ∙ append_assoc (seen_at a s) p.0 q.0),
)

module _ (stories : List Story) (budget : ℕ) (sound : Type 0) where
  -- one more answered line at the end
  pub chain_more : (holders : List Holder) (old mid new : List (List Entry))
      (ts : List AnsweredLine)
      (t : AnsweredLine) → AnswersInOrder stories budget sound holders old ts mid
      → Answers stories budget sound holders mid t new
      → AnswersInOrder stories budget sound holders old (ts ++ t ∷ []) new
  chain_more holders old mid new [] t c a = (
    new,
    subst (λ (x : List (List Entry)). Answers stories budget sound holders x t new) c a,
    refl,
  )
  chain_more holders old mid new (x ∷ xs) t c a =
      (c.0, c.1, chain_more holders c.0 mid new xs t c.2 a)

  -- lists of lines add up
  pub chain_append : (holders : List Holder) (old mid new : List (List Entry))
      (ts us : List AnsweredLine) → AnswersInOrder stories budget sound holders old ts mid
      → AnswersInOrder stories budget sound holders mid us new
      → AnswersInOrder stories budget sound holders old (ts ++ us) new
  chain_append holders old mid new [] us c d =
      subst (λ (x : List (List Entry)). AnswersInOrder stories budget sound holders x us new) c d
  chain_append holders old mid new (x ∷ xs) us c d =
      (c.0, c.1, chain_append holders c.0 mid new xs us c.2 d)

  turn_grows : (h : Holder) (old : List Entry) (t : AnsweredLine) (new : List Entry)
      → TurnsIn stories budget sound h old t new → (rest : List Entry) × (new ≡ old ++ rest)
  turn_grows h old t new i =
      of (said_adds stories budget i.before t.world h.number t.line t.outcome)
    where
      of : AddsTo i.before h.number (turned_again stories budget i.before h.number t).history
          → (rest : List Entry) × (new ≡ old ++ rest)
      of (inl same) = (i.since.0, i.history ∙ (same ∙ i.since.1))
      of (inr more) = (
        i.since.0 ++ more.0 ∷ [],
        i.history ∙ (more.1
            ∙ (ap (λ (l : List Entry). l ++ more.0 ∷ []) i.since.1
            ∙ append_assoc old i.since.0 (more.0 ∷ []))),
      )

  -- what is seen of the turn's session, and of others
  pub seen_there : (holders : List Holder) (old : List (List Entry)) (t : AnsweredLine)
      (new : List (List Entry)) → length old ≡ 64
      → (o : TurnsOn stories budget sound holders old t new)
      → seen_at new t.mark.session ≡ o.after
  seen_there holders old t new wide o =
      ap (λ (x : List (List Entry)). seen_at x t.mark.session) o.seen
      ∙ get_or-set_same old t.mark.session o.after [] (let low = o.session.0 in omega arith)

  pub seen_elsewhere : (holders : List Holder) (old : List (List Entry)) (t : AnsweredLine)
      (new : List (List Entry)) (s : ℕ) → s ≢ t.mark.session
      → Answers stories budget sound holders old t new → seen_at new s ≡ seen_at old s
  seen_elsewhere holders old t new s other (inl o) =
      ap (λ (x : List (List Entry)). seen_at x s) o.seen
      ∙ get_or-set_other old t.mark.session s o.after [] other
  seen_elsewhere holders old t new s other (inr n) =
      ap (λ (x : List (List Entry)). seen_at x s) n.seen

  pub answer_wide : (holders : List Holder) (old : List (List Entry)) (t : AnsweredLine)
      (new : List (List Entry)) → length old ≡ 64 → Answers stories budget sound holders old t new
      → length new ≡ 64
  answer_wide holders old t new wide (inl o) = ap (λ (x : List (List Entry)). length x) o.seen
      ∙ (length-set old t.mark.session o.after ∙ wide)
  answer_wide holders old t new wide (inr n) =
      ap (λ (x : List (List Entry)). length x) n.seen ∙ wide

  pub answer_grows : (holders : List Holder) (old : List (List Entry)) (t : AnsweredLine)
      (new : List (List Entry)) → length old ≡ 64 → Answers stories budget sound holders old t new
      → Grows old new
  answer_grows holders old t new wide a = of_answer a
    where
      of : TurnsOn stories budget sound holders old t new → (s : ℕ)
          → (s ≡ t.mark.session) ⊎ (s ≢ t.mark.session)
          → (rest : List Entry) × (seen_at new s ≡ seen_at old s ++ rest)
      of o s (inr other) = (
        [],
        seen_elsewhere holders old t new s other (inl o)
            ∙ sym (nil_right (seen_at old s)),
      )
      of o s (inl e) =
          let more = turn_grows (holder_at holders t.mark.session) (seen_at old t.mark.session)
          t o.after o.turn in (
            more.0,
            ap (λ (k : ℕ). seen_at new k) e
                ∙ (seen_there holders old t new wide o
                ∙ (more.1 ∙ ap (λ (k : ℕ). seen_at old k ++ more.0) (sym e))),
          )

      of_answer : Answers stories budget sound holders old t new → Grows old new
      of_answer (inr n) = grows_same old new n.seen
      of_answer (inl o) = λ s. of o s (cases_eq s t.mark.session)

  pub chain_wide : (holders : List Holder) (old : List (List Entry)) (ts : List AnsweredLine)
      (new : List (List Entry))
      → length old ≡ 64
      → AnswersInOrder stories budget sound holders old ts new
      → length new ≡ 64
  chain_wide holders old [] new wide c = ap (λ (x : List (List Entry)). length x) c ∙ wide
  chain_wide holders old (t ∷ ts) new wide c =
      chain_wide holders c.0 ts new (answer_wide holders old t c.0 wide c.1) c.2

  pub chain_grows : (holders : List Holder) (old : List (List Entry)) (ts : List AnsweredLine)
      (new : List (List Entry))
      → length old ≡ 64
      → AnswersInOrder stories budget sound holders old ts new
      → Grows old new
  chain_grows holders old [] new wide c = grows_same old new c
  chain_grows holders old (t ∷ ts) new wide c =
      grows_trans old c.0 new (answer_grows holders old t c.0 wide c.1)
      (chain_grows holders c.0 ts new (answer_wide holders old t c.0 wide c.1) c.2)
