-- The work of two parts of a crew is that of the whole.
use Rattle.std.proofs.Common.{◌≡◌, ◌⊎◌, List, [], ◌∷◌, ◌++◌, length, set, refl, sym, subst, inl}
use Rattle.std.proofs.Common.{inr, arith, Option, Some, None, get_or}
use Rattle.turn_cell.specs.History.{Each}
use Rattle.turn_cell.proofs.HistoryLemmas.{each_append}
use Rattle.host_serve.specs.Crews.{AllDid, EachDid, Has, IsOfTwo, OfBoth, OfSome}

module _ {A : Type 0} where
  pub each_before : (P : A → Type 0) (xs ys : List A) → Each P (xs ++ ys) → Each P xs
  each_before P [] ys e = tt
  each_before P (x ∷ xs) ys e = (e.0, each_before P xs ys e.1)

  pub each_behind : (P : A → Type 0) (xs ys : List A) → Each P (xs ++ ys) → Each P ys
  each_behind P [] ys e = e
  each_behind P (x ∷ xs) ys e = each_behind P xs ys e.1

  has_before : (xs ys : List A) (z : A) → Has xs z → Has (xs ++ ys) z
  has_before [] ys z h = absurd h
  has_before (x ∷ xs) ys z (inl e) = inl e
  has_before (x ∷ xs) ys z (inr h) = inr (has_before xs ys z h)

  has_behind : (xs ys : List A) (z : A) → Has ys z → Has (xs ++ ys) z
  has_behind [] ys z h = h
  has_behind (x ∷ xs) ys z h = inr (has_behind xs ys z h)

module _ {M A : Type 0} (Did : M → M → A → Type 0) where
  did_both : (old new : List M) (cs : List A) (older newer : List M) (bs : List A)
      → EachDid Did old new cs → EachDid Did older newer bs
      → EachDid Did (old ++ older) (new ++ newer) (cs ++ bs)
  did_both [] [] [] older newer bs d e = e
  did_both [] [] (a ∷ cs) older newer bs d e = absurd d
  did_both [] (y ∷ ys) cs older newer bs d e = absurd d
  did_both (x ∷ xs) [] cs older newer bs d e = absurd d
  did_both (x ∷ xs) (y ∷ ys) [] older newer bs d e = absurd d
  did_both (x ∷ xs) (y ∷ ys) (a ∷ cs) older newer bs d e =
      (d.0, did_both xs ys cs older newer bs d.1 e)

module _ {M A : Type 0} (Did : M → M → A → Type 0) (IsEnd : A → Type 0) where
  -- a member alone
  pub alone : (old : List M) (x y : M) (a : A) → length old ≡ 1 → Did (get_or old 0 x) y a
      → AllDid Did IsEnd old (set old 0 y) a
  alone [] x y a one d = absurd (omega (arith, one))
  alone (z ∷ zs) x y a one d = record {
    answers = a ∷ [];
    each = (d, rest zs (omega (arith, one)));
    one = inl refl;
    end = λ e. (e, tt);
  }
    where
      rest : (l : List M) → length l ≡ 0 → EachDid Did l l []
      rest [] e = tt
      rest (v ∷ vs) e = absurd (omega (arith, e))

  of_parts : (old new older newer : List M) (a b c : A) → AllDid Did IsEnd old new a
      → AllDid Did IsEnd older newer b → IsOfTwo IsEnd a b c
      → AllDid Did IsEnd (old ++ older) (new ++ newer) c
  of_parts old new older newer a b c p q two = record {
    answers = p.answers ++ q.answers;
    each = did_both Did old new p.answers older newer q.answers p.each q.each;
    one = of two.one;
    end = λ e. let both = two.end e in
        each_append IsEnd p.answers q.answers (p.end both.0) (q.end both.1);
  }
    where
      of : (c ≡ a) ⊎ (c ≡ b) → Has (p.answers ++ q.answers) c
      of (inl e) = has_before p.answers q.answers c
          (subst (λ (x : A). Has p.answers x) (sym e) p.one)
      of (inr e) = has_behind p.answers q.answers c
          (subst (λ (x : A). Has q.answers x) (sym e) q.one)

  -- two parts of a crew, and one of their answers
  pub together : (old new older newer : List M) (a b c : Option A)
      → OfSome (AllDid Did IsEnd old new) a → OfSome (AllDid Did IsEnd older newer) b
      → OfBoth IsEnd a b c → OfSome (AllDid Did IsEnd (old ++ older) (new ++ newer)) c
  together old new older newer None b c p q two = absurd p
  together old new older newer (Some a) None c p q two = absurd q
  together old new older newer (Some a) (Some b) None p q two = absurd two
  together old new older newer (Some a) (Some b) (Some c) p q two =
      of_parts old new older newer a b c p q two
