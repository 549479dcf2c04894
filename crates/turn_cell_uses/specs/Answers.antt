-- What a link was told: an answer with a mark for each text (own).
use Rattle.std.specs.Prelude.{◌≡◌, ℕ, List, [], ◌∷◌, ◌++◌, length, Bool, true, false}
use Rattle.turn_cell.specs.History.{Continues, IsForeign}
use Rattle.turn_cell_uses.specs.declared.log.Note.{Note}
use Rattle.turn_cell_uses.specs.declared.answer.Answer.{Answer}
use Rattle.turn_cell_uses.specs.Notes.{note, note_by}

-- the history after a turn of the pass n
abbrev pub notes_after_turn : Bool → ℕ → ℕ → List Note → List Note
notes_after_turn true n what before = before ++ note n what ∷ []
notes_after_turn false n what before = before

-- no entry that came since has a number that the pass holds
abbrev pub Later : List ℕ → List Note → List Note → Type 0
Later holds log seen = Continues (IsForeign note_by holds) log seen

-- each answer is that of one turn on the history of its mark, in which others' entries came since;
-- so each entry of the pass is that of one answer
abbrev pub AnswersEachTurn : List ℕ → ℕ → List Note → List ℕ → List Answer → List Note
    → Type 0
AnswersEachTurn holds n seen [] [] final = Later holds final seen
AnswersEachTurn holds n seen [] (a ∷ answers) final = ⊥
AnswersEachTurn holds n seen (t ∷ texts) [] final = ⊥
AnswersEachTurn holds n seen (t ∷ texts) (a ∷ answers) final = (before : List Note)
    × Later holds before seen × (a.mark ≡ length before)
    × AnswersEachTurn holds n (notes_after_turn a.accepted n t before) texts answers final
