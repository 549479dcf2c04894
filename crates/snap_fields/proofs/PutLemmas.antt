-- Values written one after the other.
use Rattle.std.proofs.Common.{◌≡◌, ℕ, zero, suc, ◌+◌, ◌<◌, ◌≤◌, List, [], ◌∷◌, ◌++◌, length}
use Rattle.std.proofs.Common.{get_or, take, ◌∙◌, ap, sym, subst, add-one, append_assoc, arith}
use Rattle.std.specs.List.{AllByRecursion, flat_map}
use Rattle.std.proofs.lemmas.List.{append-nil, take_all}
use Rattle.snap_fields.specs.Writing.{PutsBehind}

infixr 20 ◌followed◌
pub ◌followed◌ : {A B : Type 0} {print : A → List ℕ} {Is : A → Type 0} {behind : B → List ℕ}
    {Fits : B → Type 0} {x : A} {y : B} {old mid new : List ℕ}
    → PutsBehind print Is x old mid → PutsBehind behind Fits y mid new
    → PutsBehind {A = A × B} (λ p. print p.0 ++ behind p.1) (λ p. Is p.0 × Fits p.1) (x, y) old new
◌followed◌ {print = print} {behind = behind} {x = x} {y = y} {old = old} f s = record {
  added = s.added ∙ ap (λ t. t ++ behind y) f.added ∙ append_assoc old (print x) (behind y);
  good = (f.good, s.good);
}

-- ---- the items of a list, as a loop writes them

-- the item at a place
pub at_place : {A : Type 0} (Is : A → Type 0) (xs : List A) (i : ℕ) (x : A)
    → i < length xs → x ≡ get_or xs i x → AllByRecursion Is xs → Is x
at_place Is [] i x lt is all = absurd (omega arith)
at_place Is (y ∷ ys) zero x lt is all = subst Is (sym is) all.0
at_place Is (y ∷ ys) (suc i) x lt is all = at_place Is ys i x (omega arith) is all.1

front_holds : {A : Type 0} (Is : A → Type 0) (xs : List A) (i : ℕ) (x : A)
    → i < length xs → x ≡ get_or xs i x → Is x → AllByRecursion Is (take i xs)
    → AllByRecursion Is (take (suc i) xs)
front_holds Is [] i x lt is here all = absurd (omega arith)
front_holds Is (y ∷ ys) zero x lt is here all = (subst Is is here, tt)
front_holds Is (y ∷ ys) (suc i) x lt is here all =
    (all.0, front_holds Is ys i x (omega arith) is here all.1)

front_printed : {A : Type 0} (print : A → List ℕ) (xs : List A) (i : ℕ) (x : A)
    → i < length xs → x ≡ get_or xs i x
    → flat_map print (take (suc i) xs) ≡ flat_map print (take i xs) ++ print x
front_printed print [] i x lt is = absurd (omega arith)
front_printed print (y ∷ ys) zero x lt is = append-nil (print y) ∙ ap print (sym is)
front_printed print (y ∷ ys) (suc i) x lt is =
    ap (λ t. print y ++ t) (front_printed print ys i x (omega arith) is)
    ∙ sym (append_assoc (print y) (flat_map print (take i ys)) (print x))

-- so many items of the list are written behind old
abbrev pub PutsFront : {A : Type 0} → (A → List ℕ) → (A → Type 0) → List A → ℕ → List ℕ → List ℕ
    → Type 0
PutsFront print Is xs i old new =
    (new ≡ old ++ flat_map print (take i xs)) × AllByRecursion Is (take i xs)

pub puts_one_more : {A : Type 0} (print : A → List ℕ) (Is : A → Type 0) (xs : List A) (i : ℕ)
    (x : A) (old mid new : List ℕ)
    → i < length xs → x ≡ get_or xs i x → PutsFront print Is xs i old mid
    → PutsBehind print Is x mid new → PutsFront print Is xs (i + 1) old new
puts_one_more print Is xs i x old mid new lt is before put =
    rw add-one (
      put.added ∙ ap (λ t. t ++ print x) before.0
          ∙ append_assoc old (flat_map print (take i xs)) (print x)
          ∙ ap (λ t. old ++ t) (sym (front_printed print xs i x lt is)),
      front_holds Is xs i x lt is put.good before.1,
    )

pub puts_all : {A : Type 0} (print : A → List ℕ) (Is : A → Type 0) (xs : List A) (i : ℕ)
    (old new : List ℕ)
    → length xs ≤ i → PutsFront print Is xs i old new
    → PutsBehind (flat_map print) (AllByRecursion Is) xs old new
puts_all print Is xs i old new end before =
    let whole = take_all i xs end in
    record {
      added = before.0 ∙ ap (λ (l : List _). old ++ flat_map print l) whole;
      good = subst (AllByRecursion Is) whole before.1;
    }
