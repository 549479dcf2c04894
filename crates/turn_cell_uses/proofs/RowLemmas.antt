use Rattle.std.proofs.Common.{◌≡◌, ℕ, zero, suc, Option, List, [], ◌∷◌, ◌++◌, Some, None, Bool}
use Rattle.std.proofs.Common.{true, false, subst, sym, refl, ap, ◌∙◌, inl, ne_eqb, eq-eqb}
use Rattle.std.specs.Prelude.{◌==◌}
use Rattle.turn_cell_uses.specs.declared.log.Note.{Note}
use Rattle.turn_cell_uses.specs.Notes.{note, note_by}
use Rattle.turn_cell_uses.specs.Rows.{rows_by, pick, whats}
use Rattle.turn_cell.specs.History.{Each, IsForeign}
use Rattle.turn_cell.proofs.HistoryLemmas.{nil_right}
use Rattle.std.specs.Prelude.{slice_get}
use Rattle.turn_cell.specs.History.{Continues}

module _ {A : Type 0} where
  pub get_longer : (xs ys : List A) (n : ℕ) (x : A)
      → slice_get xs n ≡ Some x → slice_get (xs ++ ys) n ≡ Some x
  get_longer [] ys n x e = absurd (subst is_none e tt)
    where
      is_none : Option A → Type 0
      is_none None = Unit {0}
      is_none (Some y) = ⊥
  get_longer (y ∷ ys) zs zero x e = e
  get_longer (y ∷ ys) zs (suc n) x e = get_longer ys zs n x e

  pub get_of_continues : (P : A → Type 0) (log seen : List A) (n : ℕ) (x : A)
      → Continues P log seen → slice_get seen n ≡ Some x
      → slice_get log n ≡ Some x
  get_of_continues P log seen n x s e =
      subst (λ (l : List A). slice_get l n ≡ Some x) (sym s.1) (get_longer seen s.0 n x e)

-- rows of other numbers change nothing
pub own_foreign : (n : ℕ) (xs : List Note)
    → Each (IsForeign note_by (n ∷ [])) xs → rows_by n xs ≡ []
own_foreign n [] each = refl
own_foreign n (x ∷ xs) each =
    (let differ : (x.by == n) ≡ false = ne_eqb x.by n (λ e. each.0 (inl (sym e))) in
    ap (λ (b : Bool). pick b x (rows_by n xs)) differ ∙ own_foreign n xs each.1)

pub own_append : (n : ℕ) (xs ys : List Note) → rows_by n (xs ++ ys) ≡ rows_by n xs ++ rows_by n ys
own_append n [] ys = refl
own_append n (x ∷ xs) ys =
    ap (λ (l : List Note). pick (x.by == n) x l) (own_append n xs ys)
    ∙ sym (pick_append (x.by == n) x (rows_by n xs) (rows_by n ys))
  where
    pick_append : (b : Bool) (x : Note) (xs ys : List Note)
        → pick b x xs ++ ys ≡ pick b x (xs ++ ys)
    pick_append true x xs ys = refl
    pick_append false x xs ys = refl

pub own_since : (n : ℕ) (log seen : List Note)
    → Continues (IsForeign note_by (n ∷ [])) log seen
    → rows_by n log ≡ rows_by n seen
own_since n log seen s =
    ap (rows_by n) s.1
    ∙ (own_append n seen s.0
    ∙ (ap (λ (l : List Note). rows_by n seen ++ l) (own_foreign n s.0 s.2)
    ∙ nil_right (rows_by n seen)))

pub own_adds : (n : ℕ) (log seen : List Note) (what : ℕ)
    → Continues (IsForeign note_by (n ∷ [])) log seen
    → rows_by n (log ++ note n what ∷ []) ≡ rows_by n seen ++ note n what ∷ []
own_adds n log seen what s =
    let x : Note = note n what in
    own_append n log (x ∷ [])
    ∙ (ap (λ (l : List Note). l ++ rows_by n (x ∷ [])) (own_since n log seen s)
    ∙ ap (λ (b : Bool). rows_by n seen ++ pick b x []) (eq-eqb n n refl))

whats_append : (xs ys : List Note) → whats (xs ++ ys) ≡ whats xs ++ whats ys
whats_append [] ys = refl
whats_append (x ∷ xs) ys = ap (λ (l : List ℕ). x.what ∷ l) (whats_append xs ys)

-- one more row of this number, and one more entry
pub whats_adds : (n by what : ℕ) (log seen entries : List Note)
    → Continues (IsForeign note_by (n ∷ [])) log seen
    → whats entries ≡ whats (rows_by n seen)
    → whats (entries ++ note by what ∷ []) ≡ whats (rows_by n (log ++ note n what ∷ []))
whats_adds n by what log seen entries s same =
    let x : Note = note n what in let y : Note = note by what in
    whats_append entries (y ∷ [])
    ∙ (ap (λ (l : List ℕ). l ++ what ∷ []) same
    ∙ (sym (whats_append (rows_by n seen) (x ∷ [])) ∙ ap whats (sym (own_adds n log seen what s))))

pub whats_since : (n : ℕ) (log seen entries : List Note)
    → Continues (IsForeign note_by (n ∷ [])) log seen
    → whats entries ≡ whats (rows_by n seen)
    → whats entries ≡ whats (rows_by n log)
whats_since n log seen entries s same = same ∙ ap whats (sym (own_since n log seen s))

module _ {A : Type 0} where
  abbrev item_or : A → Option A → A
  item_or d None = d
  item_or d (Some x) = x

  pub same_some : (a b : A) (o : Option A) → o ≡ Some a → o ≡ Some b → a ≡ b
  same_some a b o e f = ap (item_or a) (sym e ∙ f)
