-- Lists of entries, of numbers and of views.
use Rattle.std.proofs.Common.{◌≡◌, ◌⊎◌, ℕ, zero, suc, ◌+◌, ◌<◌, ◌≤◌, List, [], ◌∷◌, ◌++◌, length}
use Rattle.std.proofs.Common.{get_or, set, sym, refl, ap, ◌≢◌, ◌^◌, ◌%◌, length-set}
use Rattle.std.proofs.Common.{get_or-set_other, get_or-set_same, mod-eq_of_lt}
use Rattle.std.proofs.lemmas.List.{append_cancel_left}
use Rattle.std.proofs.Common.{◌∙◌, subst, inl, inr, arith, append_assoc, append-nil}
use mathlib.Core.Option.{some, some-injective, some-ne-none}
use lib.ListN.{get_elem?}
use Rattle.turn_cell.specs.declared.view.View.{View}
use Rattle.turn_cell.specs.declared.view.Stage.{Stage}
use Rattle.turn_cell.specs.declared.view.Stage.TheVariants.{Idle, Waits, Served, Joined}
use Rattle.turn_cell.specs.History.{Each, Continues, longer_list, IsAmong}
use Rattle.turn_cell.specs.Views.{ticket_count, tickets_out}

module _ {A : Type 0} where
  pub nil_right : (xs : List A) → xs ++ [] ≡ xs
  nil_right xs = append-nil xs

  -- one index has one item
  pub one_item : (l : List A) (i j : ℕ) (a b : A)
      → i ≡ j → get_elem? l i ≡ some a → get_elem? l j ≡ some b
      → a ≡ b
  one_item l i j a b same at_i at_j =
      some-injective a b (sym at_i ∙ (ap (λ (k : ℕ). get_elem? l k) same ∙ at_j))

  pub each_append : (P : A → Type 0) (xs ys : List A) → Each P xs → Each P ys → Each P (xs ++ ys)
  each_append P [] ys a b = b
  each_append P (x ∷ xs) ys a b = (a.0, each_append P xs ys a.1 b)

  pub each_first : (P : A → Type 0) (xs ys : List A) → Each P (xs ++ ys) → Each P xs
  each_first P [] ys a = tt
  each_first P (x ∷ xs) ys a = (a.0, each_first P xs ys a.1)

  pub each_map : (P Q : A → Type 0) (xs : List A) → ((x : A) → P x → Q x) → Each P xs → Each Q xs
  each_map P Q [] f a = tt
  each_map P Q (x ∷ xs) f a = (f x a.0, each_map P Q xs f a.1)

  pub continues_all : (P : A → Type 0) (xs : List A) → Continues P xs xs
  continues_all P xs = ([], sym (nil_right xs), tt)

  pub continues_more : (P : A → Type 0) (log seen more : List A)
      → Continues P log seen → Each P more
      → Continues P (log ++ more) seen
  continues_more P log seen more s m = (
    s.0 ++ more,
    ap (λ (l : List A). l ++ more) s.1 ∙ append_assoc seen s.0 more,
    each_append P s.0 more s.2 m,
  )

  pub continues_map : (P Q : A → Type 0) (log seen : List A)
      → ((x : A) → P x → Q x) → Continues P log seen
      → Continues Q log seen
  continues_map P Q log seen f s = (s.0, s.1, each_map P Q s.0 f s.2)

  cons_same : (x y : A) (xs ys : List A) → x ∷ xs ≡ y ∷ ys → (x ≡ y) × (xs ≡ ys)
  cons_same x y xs ys e = (cc, cc)

  -- the longer of two beginnings goes on from each
  pub longer_first : (P : A → Type 0) (a b ra rb : List A)
      → a ++ ra ≡ b ++ rb → Each P ra
      → Continues P (longer_list a b) a
  longer_first P [] b ra rb e each = (b, refl, each_first P b rb (subst (Each P) e each))
  longer_first P (x ∷ xs) [] ra rb e each = ([], sym (nil_right (x ∷ xs)), tt)
  longer_first P (x ∷ xs) (y ∷ ys) ra rb e each =
      let t = longer_first P xs ys ra rb (cons_same x y (xs ++ ra) (ys ++ rb) e).1 each in
      (t.0, ap (λ (l : List A). x ∷ l) t.1, t.2)

  pub longer_second : (P : A → Type 0) (a b ra rb : List A)
      → a ++ ra ≡ b ++ rb → Each P rb
      → Continues P (longer_list a b) b
  longer_second P [] b ra rb e each = ([], sym (nil_right b), tt)
  longer_second P (x ∷ xs) [] ra rb e each =
      (x ∷ xs, refl, each_first P (x ∷ xs) ra (subst (Each P) (sym e) each))
  longer_second P (x ∷ xs) (y ∷ ys) ra rb e each =
      let same = cons_same x y (xs ++ ra) (ys ++ rb) e in
      let t = longer_second P xs ys ra rb same.1 each in
      (t.0, (λ i. same.0 i ∷ t.1 i), t.2)

  each_last : (P : A → Type 0) (xs ys : List A) → Each P (xs ++ ys) → Each P ys
  each_last P [] ys a = a
  each_last P (x ∷ xs) ys a = each_last P xs ys a.1

  each_two : (P Q : A → Type 0) (xs : List A)
      → Each P xs → Each Q xs → Each (λ x. P x × Q x) xs
  each_two P Q [] a b = tt
  each_two P Q (x ∷ xs) a b = ((a.0, b.0), each_two P Q xs a.1 b.1)

  -- and the whole list goes on from it
  pub longer_whole : (P Q : A → Type 0) (a b ra rb : List A)
      → a ++ ra ≡ b ++ rb → Each P ra → Each Q rb
      → Continues (λ x. P x × Q x) (a ++ ra) (longer_list a b)
  longer_whole P Q [] b ra rb e p q =
      (rb, e, each_two P Q rb (each_last P b rb (subst (Each P) e p)) q)
  longer_whole P Q (x ∷ xs) [] ra rb e p q =
      (ra, refl, each_two P Q ra p (each_last Q (x ∷ xs) ra (subst (Each Q) (sym e) q)))
  longer_whole P Q (x ∷ xs) (y ∷ ys) ra rb e p q =
      let t = longer_whole P Q xs ys ra rb (cons_same x y (xs ++ ra) (ys ++ rb) e).1 p q in
      (t.0, ap (λ (l : List A). x ∷ l) t.1, t.2)

module _ {A : Type 0} where
  none_more : (P Q : A → Type 0) (xs : List A)
      → ((x : A) → P x → Q x → ⊥) → Each P xs → Each Q xs → xs ≡ []
  none_more P Q [] never p q = refl
  none_more P Q (x ∷ xs) never p q = absurd (never x p.0 q.0)

  -- a list that goes on from its beginning in two ways at once has nothing behind it where no item
  -- is of both
  pub goes_no_further : (P Q : A → Type 0) (log seen : List A)
      → ((x : A) → P x → Q x → ⊥) → Continues P log seen → Continues Q log seen
      → log ≡ seen
  goes_no_further P Q log seen never p q =
      let same : p.0 ≡ q.0 = append_cancel_left seen p.0 q.0 (sym p.1 ∙ q.1) in
      let none = none_more P Q p.0 never p.2 (subst (Each Q) (sym same) q.2) in
      p.1 ∙ (ap (λ (l : List A). seen ++ l) none ∙ nil_right seen)

module _ {A : Type 0} where
  pub longer_right : (a b : List A) → length a < length b → length (longer_list a b) ≡ length b
  longer_right [] b low = refl
  longer_right (x ∷ xs) [] low = absurd (omega arith)
  longer_right (x ∷ xs) (y ∷ ys) low = let t = longer_right xs ys (omega arith) in omega arith

  pub longer_left : (a b : List A) → length b ≤ length a → length (longer_list a b) ≡ length a
  longer_left [] [] low = refl
  longer_left [] (y ∷ ys) low = absurd (omega arith)
  longer_left (x ∷ xs) [] low = refl
  longer_left (x ∷ xs) (y ∷ ys) low = let t = longer_left xs ys (omega arith) in omega arith

pub among_head : (n : ℕ) (xs : List ℕ) → 0 < length xs → get_or xs 0 0 ≡ n → IsAmong n xs
among_head n [] low e = absurd (omega arith)
among_head n (x ∷ xs) low e = inl e

pub among_first : (n : ℕ) (xs ys : List ℕ) → IsAmong n xs → IsAmong n (xs ++ ys)
among_first n [] ys h = absurd h
among_first n (x ∷ xs) ys (inl e) = inl e
among_first n (x ∷ xs) ys (inr h) = inr (among_first n xs ys h)

pub among_second : (n : ℕ) (xs ys : List ℕ) → IsAmong n ys → IsAmong n (xs ++ ys)
among_second n [] ys h = h
among_second n (x ∷ xs) ys h = inr (among_second n xs ys h)

pub among_either : (n : ℕ) (xs ys : List ℕ) → IsAmong n (xs ++ ys) → IsAmong n xs ⊎ IsAmong n ys
among_either n [] ys h = inr h
among_either n (x ∷ xs) ys (inl e) = inl (inl e)
among_either n (x ∷ xs) ys (inr h) =
    elim (among_either n xs ys h) [ inl t ↦ inl (inr t) | inr t ↦ inr t ]

-- word i grew by one
pub record Grows (words words' : List ℕ) (i : ℕ) : Type 0 where
  pub long : length words' ≡ length words
  pub here : get_or words' i 0 ≡ get_or words i 0 + 1
  pub elsewhere : (k : ℕ) → k ≢ i → get_or words' k 0 ≡ get_or words k 0

pub grows : (words : List ℕ) (i : ℕ)
    → i < length words → get_or words i 0 + 1 < 2 ^ 64
    → Grows words (set words i ((get_or words i 0 + 1) % 2 ^ 64)) i
grows words i low small =
    let n : ℕ = (get_or words i 0 + 1) % 2 ^ 64 in record {
      long = length-set words i n;
      here = get_or-set_same words i n 0 low ∙ mod-eq_of_lt small;
      elsewhere = λ k other. get_or-set_other words i k n 0 other;
    }

module _ {E : Type 0} where
  ticket_count_le : (s : Stage E) → ticket_count s ≤ 1
  ticket_count_le Idle = omega arith
  ticket_count_le (Waits u) = omega arith
  ticket_count_le (Served u) = omega arith
  ticket_count_le (Joined _ _ _ _) = omega arith

module _ {E G : Type 0} where
  pub tickets_out_set : (views : List (View E G)) (id : ℕ) (v w : View E G)
      → get_elem? views id ≡ some v
      → tickets_out (set views id w) + ticket_count v.stage
      ≡ tickets_out views + ticket_count w.stage
  tickets_out_set [] id v w e = absurd (some-ne-none v (sym e))
  tickets_out_set (x ∷ xs) zero v w e =
      let same : ticket_count x.stage ≡ ticket_count v.stage =
      ap (λ (u : View E G). ticket_count u.stage) (some-injective x v e) in
      omega arith
  tickets_out_set (x ∷ xs) (suc id) v w e = let t = tickets_out_set xs id v w e in omega arith

  pub tickets_out_le : (views : List (View E G)) → tickets_out views ≤ length views
  tickets_out_le [] = omega arith
  tickets_out_le (x ∷ xs) =
      let t = tickets_out_le xs in let u = ticket_count_le x.stage in omega arith

  pub tickets_out_append : (views : List (View E G)) (w : View E G)
      → tickets_out (views ++ w ∷ []) ≡ tickets_out views + ticket_count w.stage
  tickets_out_append [] w = omega arith
  tickets_out_append (x ∷ xs) w = let t = tickets_out_append xs w in omega arith

  pub at_low : (views : List (View E G)) (j : ℕ) (v : View E G)
      → get_elem? views j ≡ some v → j < length views
  at_low [] j v e = absurd (some-ne-none v (sym e))
  at_low (x ∷ xs) zero v e = omega arith
  at_low (x ∷ xs) (suc j) v e = let t = at_low xs j v e in omega arith
