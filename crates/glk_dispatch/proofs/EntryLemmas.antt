-- Two ascending lists with the same numbers have them in the same order.
use Rattle.std.proofs.Common.{◌≡◌, ◌∙◌, ℕ, ◌<◌, ◌≤◌, ◌==◌, ◌||◌, nat_lt, true, false, List}
use Rattle.std.proofs.Common.{[]}
use Rattle.std.proofs.Common.{◌∷◌, refl, sym, ap, inl, inr, arith, map, is_some, option_map, Some}
use Rattle.std.proofs.lemmas.Bool.{and_parts, cases_Bool, eqb-true, or_cases}
use Rattle.std.proofs.lemmas.Bool.Decides.{nat_tests}
use Rattle.std.proofs.lemmas.Grind.{common_steps}
use Rattle.std.specs.Cmp.{both_ways}
use Rattle.glk_numbers.specs.Numbered.{ascends, has}
use Rattle.glk_windows.specs.Tree as tree
use Rattle.glk_windows.specs.Valid as wvalid
use Rattle.glk_input.specs.Request as request
use Rattle.glk_dispatch.specs.Fields.{EntriesFollowWindows, StreamsFollowWindows}
use Rattle.glk_dispatch.specs.Links.{stream_end, stream_ends, window_link}
use Rattle.glk_dispatch.specs.Links.{links, owner, owner_in, live_stream}
use Rattle.glk_numbers.proofs.FoundLemmas.{found-low, has-found}
use Rattle.glk_numbers.proofs.OrderLemmas.{ascends-above, ascends-first}

has-low : {X : Type 0} (number : X → ℕ) (xs : List X) (low high m : ℕ)
    → ascends number low high xs ≡ true → m ≤ low → has number xs m ≡ false
has-low number xs low high m a l =
    has-found number xs m ∙ ap is_some (found-low number xs low high m a l)

has-first : {X : Type 0} (number : X → ℕ) (x : X) (xs : List X)
    → has number (x ∷ xs) (number x) ≡ true
unfolding has
has-first number x xs = grind (arith, common_steps)

has-other : {X : Type 0} (number : X → ℕ) (x : X) (xs : List X) (n : ℕ) → number x < n
    → has number (x ∷ xs) n ≡ has number xs n
unfolding has
has-other number x xs n l =
    let other : (number x == n) ≡ false = grind (arith, nat_tests, l) in
    ap (λ b. b || has number xs n) other

-- what an ascending list has is no less than its first
has-least : {X : Type 0} (number : X → ℕ) (x : X) (xs : List X) (high n : ℕ)
    → ascends number (number x) high xs ≡ true → has number (x ∷ xs) n ≡ true → number x ≤ n
unfolding has
has-least number x xs high n a h = elim (or_cases (number x == n) (has number xs n) h) [
  | inl e ↦ let same = eqb-true (number x) n e in omega (arith, same)
  | inr there ↦
      let above = ascends-above number xs (number x) high n a there in omega (arith, above)
]

module _ {X Y : Type 0} (one : X → ℕ) (two : Y → ℕ) (high end : ℕ) where
  tails : (x : X) (xs : List X) (y : Y) (ys : List Y) → ascends one (one x) high xs ≡ true
      → ascends two (two y) end ys ≡ true → one x ≡ two y
      → ((n : ℕ) → has one (x ∷ xs) n ≡ has two (y ∷ ys) n) → (n : ℕ) → has one xs n ≡ has two ys n
  tails x xs y ys a b e h n = elim (cases_Bool (nat_lt (one x) n)) [
    | inl k ↦
        let above : one x < n = grind (arith, nat_tests, k) in
        let beyond : two y < n = omega (arith, above, e) in
        sym (has-other one x xs n above) ∙ h n ∙ has-other two y ys n beyond
    | inr k ↦
        let low : n ≤ one x = grind (arith, nat_tests, k) in
        let under : n ≤ two y = omega (arith, low, e) in
        has-low one xs (one x) high n a low ∙ sym (has-low two ys (two y) end n b under)
  ]

  firsts : (x : X) (xs : List X) (y : Y) (ys : List Y) → ascends one (one x) high xs ≡ true
      → ascends two (two y) end ys ≡ true
      → ((n : ℕ) → has one (x ∷ xs) n ≡ has two (y ∷ ys) n) → one x ≡ two y
  firsts x xs y ys a b h =
      let there : has two (y ∷ ys) (one x) ≡ true = sym (h (one x)) ∙ has-first one x xs in
      let here : has one (x ∷ xs) (two y) ≡ true = h (two y) ∙ has-first two y ys in
      let l = has-least two y ys end (one x) b there in
      let k = has-least one x xs high (two y) a here in
      omega (arith, l, k)

  pub same-numbers : (xs : List X) (ys : List Y) (low : ℕ) → ascends one low high xs ≡ true
      → ascends two low end ys ≡ true → ((n : ℕ) → has one xs n ≡ has two ys n)
      → map one xs ≡ map two ys
  unfolding ascends has
  same-numbers [] [] low a b h = refl
  same-numbers [] (y ∷ ys) low a b h =
      let c : false ≡ true = h (two y) ∙ has-first two y ys in absurd cc
  same-numbers (x ∷ xs) [] low a b h =
      let c : true ≡ false = sym (has-first one x xs) ∙ h (one x) in absurd cc
  same-numbers (x ∷ xs) (y ∷ ys) low a b h =
      let k = (ascends-first one x xs low high a).2 in
      let l = (ascends-first two y ys low end b).2 in
      let e = firsts x xs y ys k l h in
      ap (λ n. n ∷ map one xs) e
      ∙ ap (λ ns. two y ∷ ns)
      (same-numbers xs ys (one x) k (rw e l) (tails x xs y ys k l e h))

pub entries_follow : EntriesFollowWindows
unfolding wvalid.IsOrdered
entries_follow g v =
    let entries = and_parts (ascends request.input_window_number 0 4294967295 g.requests) _
    v.parts.requests in
    same-numbers request.input_window_number tree.window_number 4294967295 g.windows.next g.requests
    g.windows.slots 0 entries.0 v.parts.windows.ordered.1 v.asked.listed

-- ---- the window of a window's stream

pub streams_follow : StreamsFollowWindows
streams_follow g s n w v h t k = both_ways (w.stream == s.number) (w.number == n)
    (λ e.
    let at : w.stream ≡ s.number = grind (arith, nat_tests, e) in
    let one : owner (stream_ends g w.stream) ≡ Some w.number =
    v.linked.streams w.number (window_link w) (ap (option_map window_link) k) in
    let two : owner (stream_ends g w.stream) ≡ Some n =
    ap (λ m. owner (stream_ends g m)) at ∙ owned in
    let same : Some w.number ≡ Some n = sym one ∙ two in
    let is : w.number ≡ n = cc in
    grind (arith, nat_tests, is))
    (λ e.
    let at : w.number ≡ n = grind (arith, nat_tests, e) in
    let one : live_stream (links g w.number) ≡ Some s.number =
    ap (λ m. live_stream (links g m)) at ∙ v.linked.windows s.number n owned in
    let two : live_stream (links g w.number) ≡ Some w.stream =
    ap (λ o. live_stream (option_map window_link o)) k in
    let same : Some w.stream ≡ Some s.number = sym two ∙ one in
    let is : w.stream ≡ s.number = cc in
    grind (arith, nat_tests, is))
  where
    owned : owner (stream_ends g s.number) ≡ Some n
    owned = ap (λ o. owner (option_map stream_end o)) h ∙ ap owner_in t
