-- Who holds the roots, of which the first ones have become others.
use Rattle.std.proofs.Common.{◌≡◌, ℕ, zero, suc, ◌+◌, ◌<◌, ◌≤◌, List, [], ◌∷◌, ◌++◌, length, map}
use Rattle.std.proofs.Common.{take, drop, get_or, set, ap, sym, ◌∙◌, refl, arith}
use Rattle.std.proofs.lemmas.List.{append-nil, length-map, map-set, get_or-map, take_all, drop_all}
use Rattle.turn_cell.specs.declared.pass.Pass.{Pass}
use Rattle.host_serve.specs.Holders.{Holder, holder_of, holders, nobody}
use Rattle.host_serve.specs.Hosts.{sessions_below}
use Rattle.host_serve.specs.Opening.{lone, roots}
use Rattle.host_serve.specs.Splitting.{AreRoots, first_by}
use Rattle.host_serve.proofs.ListLemmas.{each_at}
use Rattle.host_serve.proofs.MixLemmas.{mix_down, mix_first, mix_long, mix_rest, mix_up}

-- what holders become, one after the other
pub first_long : (f : Holder → Holder) (n : ℕ) (hs : List Holder)
    → length (first_by f n hs) ≡ length hs
first_long f n hs = mix_long n (map f hs) hs (length-map hs f)

pub down_from : (f : Holder → Holder) (n : ℕ) (hs : List Holder)
    → hs ≡ take n hs ++ drop n (first_by f n hs)
down_from f zero hs = refl
down_from f (suc n) [] = refl
down_from f (suc n) (h ∷ hs) = ap (λ (l : List Holder). h ∷ l) (down_from f n hs)

module _ {T E : Type 0} where
  pub holders_up : (f : Holder → Holder) (n : ℕ) (hs : List Holder) (now : List (Pass T E))
      (p p' : Pass T E) → holders now ≡ first_by f n hs → n < length now → p ≡ get_or now n p
      → holder_of p' ≡ f (holder_of p) → holders (set now n p') ≡ first_by f (n + 1) hs
  holders_up f n hs now p p' is low at_p becomes =
      let many = length-map now holder_of in
      let long = ap (λ (l : List Holder). length l) is ∙ first_long f n hs in
      let long' = length-map hs f in
      let was : holder_of p ≡ get_or hs n nobody =
      ap holder_of at_p ∙ (sym (get_or-map holder_of now n p nobody low)
      ∙ (ap (λ (l : List Holder). get_or l n nobody) is
      ∙ mix_rest n (map f hs) hs nobody long' (omega arith))) in
      let there : holder_of p' ≡ get_or (map f hs) n (f nobody) = becomes ∙ (ap f was
      ∙ sym (get_or-map f hs n nobody (f nobody) (omega arith))) in
      let next : suc n ≡ n + 1 = omega arith in
      map-set holder_of now n p' ∙ ((λ i. set (is i) n (there i))
      ∙ (mix_up n (map f hs) hs (f nobody) long' (omega arith)
      ∙ ap (λ (k : ℕ). first_by f k hs) next))

  -- the roots below this number still are as they were, the others have become what all become
  abbrev pub AreDown : (Holder → Holder) → ℕ → ℕ → List Holder → List (Pass T E) → Type 0
  AreDown f n k hs now = holders now ≡ take k hs ++ drop k (first_by f n hs)

  pub holders_down : (f : Holder → Holder) (n k : ℕ) (hs : List Holder) (now : List (Pass T E))
      (p p' : Pass T E) → AreDown f n (k + 1) hs now → length hs ≡ length now → k < n
      → n ≤ length now → p ≡ get_or now k p → holder_of p' ≡ f (holder_of p)
      → AreDown f n k hs (set now k p')
  holders_down f n k hs now p p' is many low within at_p becomes =
      let next : k + 1 ≡ suc k = omega arith in
      let is' : holders now ≡ take (suc k) hs ++ drop (suc k) (first_by f n hs) =
      is ∙ ap (λ (j : ℕ). take j hs ++ drop j (first_by f n hs)) next in
      let long = first_long f n hs in
      let long' = length-map hs f in
      let was : holder_of p ≡ get_or hs k nobody =
      ap holder_of at_p ∙ (sym (get_or-map holder_of now k p nobody (omega arith))
      ∙ (ap (λ (l : List Holder). get_or l k nobody) is'
      ∙ mix_first k (suc k) hs (first_by f n hs) nobody (omega arith) (omega arith))) in
      let there : holder_of p' ≡ get_or (first_by f n hs) k (f nobody) = becomes ∙ (ap f was
      ∙ (sym (get_or-map f hs k nobody (f nobody) (omega arith))
      ∙ sym (mix_first k n (map f hs) hs (f nobody) low (omega arith)))) in
      map-set holder_of now k p' ∙ ((λ i. set (is' i) k (there i))
      ∙ mix_down k hs (first_by f n hs) (f nobody) (sym long) (omega arith))

-- one change after another
pub both_first : (f g : Holder → Holder) (n : ℕ) (hs : List Holder)
    → first_by g n (first_by f n hs) ≡ first_by (λ (h : Holder). g (f h)) n hs
both_first f g zero hs = refl
both_first f g (suc n) [] = refl
both_first f g (suc n) (h ∷ hs) = ap (λ (l : List Holder). g (f h) ∷ l) (both_first f g n hs)

pub all_first : (f : Holder → Holder) (n : ℕ) (hs : List Holder) → length hs ≤ n
    → first_by f n hs ≡ map f hs
all_first f n hs long = let many = length-map hs f in
    (λ i. take_all n (map f hs) (omega arith) i ++ drop_all n hs long i) ∙ append-nil (map f hs)

-- of roots from which at most so many passes were split some give one more
roots_more : (most : ℕ) (hs : List Holder) → AreRoots most hs → AreRoots (most + 1) hs
roots_more most [] all = tt
roots_more most (h ∷ hs) all =
    let low = all.0.1 in ((all.0.0, omega arith), roots_more most hs all.1)

pub roots_first : (f : Holder → Holder)
    → ((h : Holder) → ((f h).number ≡ h.number) × ((f h).made ≡ h.made + 1)) → (n most : ℕ)
    (hs : List Holder) → AreRoots most hs → AreRoots (most + 1) (first_by f n hs)
roots_first f keeps zero most hs all = roots_more most hs all
roots_first f keeps (suc n) most [] all = tt
roots_first f keeps (suc n) most (h ∷ hs) all =
    let low = all.0.1 in let made = (keeps h).1 in
    (((keeps h).0 ∙ all.0.0, omega arith), roots_first f keeps n most hs all.1)

pub root_at : (most n : ℕ) (hs : List Holder) → AreRoots most hs → n < length hs
    → ((get_or hs n nobody).number ≡ 0) × ((get_or hs n nobody).made ≤ most)
root_at most n hs all low = each_at (λ (h : Holder). (h.number ≡ 0) × (h.made ≤ most)) hs n nobody
    all low

-- the roots of a host that was just opened
lone_roots : (ns : List ℕ) → AreRoots 0 (map (λ (s : ℕ). lone) ns)
lone_roots [] = tt
lone_roots (n ∷ ns) = ((refl, omega arith), lone_roots ns)

pub roots_alone : AreRoots 0 roots
roots_alone = lone_roots (sessions_below 64)
