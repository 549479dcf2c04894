-- One more turn of a link.
use Rattle.std.proofs.Common.{◌≡◌, ◌+◌, ◌<◌, ℕ, List, [], ◌∷◌, ◌++◌, length, take, get_or}
use Rattle.std.proofs.Common.{subst, add-one, take-suc, sym, ap, ◌∙◌, append_assoc}
use Rattle.turn_cell.specs.History.{IsForeign}
use Rattle.turn_cell.proofs.HistoryLemmas.{continues_all, each_append}
use Rattle.turn_cell_uses.specs.declared.log.Note.{Note}
use Rattle.turn_cell_uses.specs.Notes.{note_by}
use Rattle.turn_cell_uses.specs.declared.answer.Answer.{Answer}
use Rattle.turn_cell_uses.specs.Answers.{notes_after_turn, Later, AnswersEachTurn}

later_trans : (holds : List ℕ) (log mid seen : List Note)
    → Later holds log mid → Later holds mid seen
    → Later holds log seen
later_trans holds log mid seen s t = (
  t.0 ++ s.0,
  s.1 ∙ (ap (λ (l : List Note). l ++ s.0) t.1 ∙ append_assoc seen t.0 s.0),
  each_append (IsForeign note_by holds) t.0 s.0 t.2 s.2,
)

pub serves_more : (holds : List ℕ) (n : ℕ) (seen : List Note) (ts : List ℕ)
    (cs : List Answer) (mid : List Note) (t : ℕ) (a : Answer) (before : List Note)
    → AnswersEachTurn holds n seen ts cs mid
    → Later holds before mid
    → a.mark ≡ length before → AnswersEachTurn holds n seen (ts ++ t ∷ []) (cs ++ a ∷ [])
    (notes_after_turn a.accepted n t before)
serves_more holds n seen [] [] mid t a before s later mark = (
  before,
  later_trans holds before mid seen later s,
  mark,
  continues_all (IsForeign note_by holds) (notes_after_turn a.accepted n t before),
)
serves_more holds n seen [] (b ∷ bs) mid t a before s later mark = absurd s
serves_more holds n seen (x ∷ xs) [] mid t a before s later mark = absurd s
serves_more holds n seen (x ∷ xs) (b ∷ bs) mid t a before s later mark = (
  s.0,
  s.1,
  s.2,
  serves_more holds n (notes_after_turn b.accepted n x s.0) xs bs mid t a before s.3 later mark,
)

pub serves_step : (held held' : List ℕ) (n n' k : ℕ) (seen : List Note) (texts : List ℕ)
    (cs cs' : List Answer) (mid new : List Note) (a : Answer) (text : ℕ)
    → held' ≡ held → n' ≡ n → k < length texts
    → text ≡ get_or texts k 0 → cs' ≡ cs ++ a ∷ []
    → AnswersEachTurn held n seen (take k texts) cs mid
    → (before : List Note) × Later held' before mid
    × (a.mark ≡ length before)
    × (new ≡ notes_after_turn a.accepted n' text before)
    → AnswersEachTurn held n seen (take (k + 1) texts) cs' new
serves_step held held' n n' k seen texts cs cs' mid new a text h e low is grown s t =
    let more =
    serves_more held n seen (take k texts) cs mid text a t.0 s
    (subst (λ (x : List ℕ). Later x t.0 mid) h t.1) t.2 in
    let longer : take (k + 1) texts ≡ take k texts ++ text ∷ [] =
    ap (λ (j : ℕ). take j texts) (add-one k)
    ∙ (take-suc texts k 0 low ∙ ap (λ (x : ℕ). take k texts ++ x ∷ []) (sym is)) in
    let ended : new ≡ notes_after_turn a.accepted n text t.0 =
    t.3 ∙ ap (λ (x : ℕ). notes_after_turn a.accepted x text t.0) e in
    subst (λ (x : List ℕ × List Answer × List Note). AnswersEachTurn held n seen x.0 x.1 x.2)
    (λ i. (sym longer i, sym grown i, sym ended i)) more
