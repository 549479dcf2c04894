-- Each note that came is one that a worker was asked for.
use Rattle.std.proofs.Common.{◌≡◌, ◌⊎◌, inl, inr, ℕ, zero, suc, ◌+◌, ◌≤◌, List, [], ◌∷◌, ◌++◌, ap, sym, refl}
use Rattle.std.proofs.Common.{◌∙◌, subst, arith, append_assoc}
use Rattle.std.proofs.lemmas.List.{append_cancel_left}
use Rattle.turn_cell.specs.History.{Continues, Each, IsAmong, IsForeign}
use Rattle.turn_cell.proofs.HistoryLemmas.{continues_map, continues_more, each_append, each_map}
use Rattle.turn_cell_uses.specs.declared.log.Note.{Note}
use Rattle.turn_cell.specs.Passes.{HoldsAll, made, pass_numbers, seen}
use Rattle.turn_cell.specs.declared.pass.Pass.{Pass}
use Rattle.turn_cell_uses.specs.Crew.{IsAsked, Noted}
use Rattle.turn_cell_uses.specs.Notes.{note, note_by}

goes_on : (P : Note → Type 0) (a b c : List Note) → Continues P b a → Continues P c b
    → Continues P c a
goes_on P a b c s t =
    subst (λ (l : List Note). Continues P l a) (sym t.1) (continues_more P b a t.0 s t.2)

fewer : (n : ℕ) (more : List ℕ) (a b : List Note) → IsAmong n more
    → Continues (IsForeign note_by more) b a → Continues (IsForeign note_by (n ∷ [])) b a
fewer n more a b there on =
    continues_map (IsForeign note_by more) (IsForeign note_by (n ∷ [])) b a
    (λ e foreign own. foreign (own_in e own)) on
  where
    own_in : (e : Note) → IsAmong (note_by e) (n ∷ []) → IsAmong (note_by e) more
    own_in e (inl is) = subst (λ (k : ℕ). IsAmong k more) is there
    own_in e (inr none) = absurd none

-- a note with the worker's number is the one that it was asked for
abbrev IsOwn : ℕ → ℕ → Note → Type 0
IsOwn n what e = note_by e ≡ n → e ≡ note n what

foreign_own : (n what : ℕ) (rest : List Note) → Each (IsForeign note_by (n ∷ [])) rest
    → Each (IsOwn n what) rest
foreign_own n what rest each =
    each_map (IsForeign note_by (n ∷ [])) (IsOwn n what) rest
    (λ e foreign is. absurd (foreign (inl (sym is)))) each

own_only : (n what : ℕ) (old before seen final rest : List Note)
    → Continues (IsForeign note_by (n ∷ [])) before old
    → (seen ≡ before ++ note n what ∷ []) ⊎ (seen ≡ before)
    → Continues (IsForeign note_by (n ∷ [])) final seen → final ≡ old ++ rest
    → Each (IsOwn n what) rest
own_only n what old before seen final rest since (inl one) on is =
    let all : final ≡ old ++ ((since.0 ++ note n what ∷ []) ++ on.0) =
    on.1 ∙ (ap (λ (l : List Note). l ++ on.0) (one
    ∙ (ap (λ (l : List Note). l ++ note n what ∷ []) since.1
    ∙ append_assoc old since.0 (note n what ∷ [])))
    ∙ append_assoc old (since.0 ++ note n what ∷ []) on.0) in
    subst (Each (IsOwn n what))
    (append_cancel_left old ((since.0 ++ note n what ∷ []) ++ on.0) rest (sym all ∙ is))
    (each_append (IsOwn n what) (since.0 ++ note n what ∷ []) on.0
    (each_append (IsOwn n what) since.0 (note n what ∷ [])
    (foreign_own n what since.0 since.2) ((λ _. refl), tt))
    (foreign_own n what on.0 on.2))
own_only n what old before seen final rest since (inr none) on is =
    let all : final ≡ old ++ (since.0 ++ on.0) =
    on.1 ∙ (ap (λ (l : List Note). l ++ on.0) (none ∙ since.1)
    ∙ append_assoc old since.0 on.0) in
    subst (Each (IsOwn n what))
    (append_cancel_left old (since.0 ++ on.0) rest (sym all ∙ is))
    (each_append (IsOwn n what) since.0 on.0 (foreign_own n what since.0 since.2)
    (foreign_own n what on.0 on.2))

same_rest : (P Q : Note → Type 0) (old final : List Note) (p : Continues P final old)
    → Continues Q final old → Each Q p.0
same_rest P Q old final p q =
    subst (Each Q) (append_cancel_left old q.0 p.0 (sym q.1 ∙ p.1)) q.2

all_asked : (first second : ℕ) (rest : List Note) → Each (λ (e : Note). note_by e ≤ 2) rest
    → Each (IsForeign note_by (0 ∷ [])) rest → Each (IsOwn 1 first) rest
    → Each (IsOwn 2 second) rest → Each (IsAsked first second) rest
all_asked first second [] low foreign a b = tt
all_asked first second (e ∷ rest) low foreign a b = (
  one (note_by e) refl low.0,
  all_asked first second rest low.1 foreign.1 a.1 b.1,
)
  where
    one : (n : ℕ) → note_by e ≡ n → n ≤ 2 → IsAsked first second e
    one zero is le = absurd (foreign.0 (inl (sym is)))
    one (suc zero) is le = inl (a.0 is)
    one (suc (suc zero)) is le = inr (b.0 is)
    one (suc (suc (suc n))) is le = absurd (omega arith)

-- two workers' passes, joined into a root that had made these two alone
pub asked_by_two : {T : Type 0} (first second : ℕ) (old old1 old2 final : List Note)
    (root mid last one two : Pass T Note)
    → pass_numbers root ≡ 0 ∷ [] → seen root ≡ old → old1 ≡ old → old2 ≡ old
    → Noted 1 first old1 one → Noted 2 second old2 two
    → made root ≡ 2 → made mid ≡ made root → made last ≡ made mid
    → pass_numbers mid ≡ pass_numbers root ++ pass_numbers one
    → Continues (IsForeign note_by (pass_numbers root)) (seen mid) (seen root)
    → Continues (IsForeign note_by (pass_numbers one)) (seen mid) (seen one)
    → Continues (λ (e : Note). note_by e ≤ made root) (seen mid) (seen root)
    → pass_numbers last ≡ pass_numbers mid ++ pass_numbers two
    → Continues (IsForeign note_by (pass_numbers mid)) (seen last) (seen mid)
    → Continues (IsForeign note_by (pass_numbers two)) (seen last) (seen two)
    → Continues (λ (e : Note). note_by e ≤ made mid) (seen last) (seen mid)
    → (HoldsAll last → final ≡ seen last)
    → Continues (IsAsked first second) final old
asked_by_two first second old old1 old2 final root mid last one two only begins same1 same2 a b
    made_root made_mid made_last held_mid root_mid one_mid given_mid held_last mid_last two_last
    given_last complete =
    let low_mid = subst (λ (n : ℕ). Continues (λ (e : Note). note_by e ≤ n) (seen mid) (seen root))
    made_root given_mid in
    let low_last = subst (λ (n : ℕ). Continues (λ (e : Note). note_by e ≤ n) (seen last) (seen mid))
    (made_mid ∙ made_root) given_last in
    let since1 = subst (λ (l : List Note). Continues (IsForeign note_by (1 ∷ [])) a.before l) same1
    a.since in
    let since2 = subst (λ (l : List Note). Continues (IsForeign note_by (2 ∷ [])) b.before l) same2
    b.since in
    let mid_is : pass_numbers mid ≡ 0 ∷ 1 ∷ [] =
    held_mid ∙ (λ i. only i ++ a.own.1 i) in
    let last_is : pass_numbers last ≡ 0 ∷ 1 ∷ 2 ∷ [] =
    held_last ∙ (λ i. mid_is i ++ b.own.1 i) in
    let whole : final ≡ seen last =
    complete (λ n low. subst (IsAmong n) (sym last_is) (two_below n (omega arith))) in
    let mids = subst (λ (l : List ℕ). Continues (IsForeign note_by l) (seen last) (seen mid))
    mid_is mid_last in
    let low = subst (λ (x : List Note × List Note). Continues (λ (e : Note). note_by e ≤ 2)
    x.0 x.1) (λ i. (sym whole i, begins i))
    (goes_on (λ (e : Note). note_by e ≤ 2) (seen root) (seen mid) (seen last) low_mid low_last) in
    let foreign = subst (λ (x : List Note × List Note).
    Continues (IsForeign note_by (0 ∷ [])) x.0 x.1) (λ i. (sym whole i, begins i))
    (goes_on (IsForeign note_by (0 ∷ [])) (seen root) (seen mid) (seen last)
    (subst (λ (l : List ℕ). Continues (IsForeign note_by l) (seen mid) (seen root)) only root_mid)
    (fewer 0 (0 ∷ 1 ∷ []) (seen mid) (seen last) (inl refl) mids)) in
    let ones = subst (λ (l : List Note). Continues (IsForeign note_by (1 ∷ [])) l (seen one))
    (sym whole)
    (goes_on (IsForeign note_by (1 ∷ [])) (seen one) (seen mid) (seen last)
    (subst (λ (l : List ℕ). Continues (IsForeign note_by l) (seen mid) (seen one)) a.own.1
    one_mid) (fewer 1 (0 ∷ 1 ∷ []) (seen mid) (seen last) (inr (inl refl)) mids)) in
    let twos = subst (λ (x : List ℕ × List Note).
    Continues (IsForeign note_by x.0) x.1 (seen two)) (λ i. (b.own.1 i, sym whole i)) two_last in (
      low.0,
      low.1,
      all_asked first second low.0 low.2
          (same_rest (λ (e : Note). note_by e ≤ 2) (IsForeign note_by (0 ∷ [])) old final low
          foreign)
          (own_only 1 first old a.before (seen one) final low.0 since1 a.one ones low.1)
          (own_only 2 second old b.before (seen two) final low.0 since2 b.one twos low.1),
    )
  where
    two_below : (n : ℕ) → n ≤ 2 → IsAmong n (0 ∷ 1 ∷ 2 ∷ [])
    two_below zero le = inl refl
    two_below (suc zero) le = inr (inl refl)
    two_below (suc (suc zero)) le = inr (inr (inl refl))
    two_below (suc (suc (suc n))) le = absurd (omega arith)
