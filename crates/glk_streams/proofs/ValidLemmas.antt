-- What a change of files, streams or references keeps of their validity.
use Rattle.std.proofs.Common.{◌≡◌, ◌≤◌, ℕ, ◌+◌, Bool, true, false, ◌&&◌, List, []}
use Rattle.std.proofs.Common.{◌∷◌, ◌++◌, refl, ap, ◌∙◌, Some, arith, length}
use Rattle.std.proofs.lemmas.Grind.{common_steps}
use Rattle.std.proofs.lemmas.Bool.{and_parts, or_parts}
use Rattle.std.specs.Ordering.{is_eq, is_lt, nat_cmp, ordering_reverse}
use Rattle.std.specs.declared.cmp.Ordering.{Ordering}
use Rattle.std.specs.declared.cmp.Ordering.TheVariants.{Less, Equal, Greater}
use Rattle.std.specs.Cmp.Lexicographic.{slice_cmp, nat_list_cmp_total}
use Rattle.glk_numbers.specs.Numbered.{found, changed_at, without}
pub use Rattle.glk_numbers.proofs.FoundLemmas.{number-found}
use Rattle.glk_streams.specs.declared.file.File.{File}
use Rattle.glk_streams.specs.declared.stream.Stream.{Stream}
use Rattle.glk_streams.specs.Files.{key_of_file, file_key, is_named, stands_before}
use Rattle.glk_streams.specs.Files.{has_file, content_of, file_with_bytes}
use Rattle.glk_streams.specs.Files.{with_file, without_file, sum_of_bytes}
use Rattle.glk_streams.specs.Streams.{stream_number, is_window_target}
use Rattle.glk_streams.specs.Opening.{count_of}
use Rattle.glk_streams.specs.Valid.{is_first, files_in_order, are_kinds}

-- keys

is_less : (r : Ordering) → is_lt r ≡ true → r ≡ Less
is_less Less e = refl
is_less Equal e = absurd (grind (arith, e))
is_less Greater e = absurd (grind (arith, e))

turned : (r : Ordering) → is_eq r ≡ false → is_lt r ≡ false → is_lt (ordering_reverse r) ≡ true
turned Less a b = absurd (grind (arith, b))
turned Equal a b = absurd (grind (arith, a))
turned Greater a b = refl

is_above : (u : ℕ) (n : List ℕ) (f : File) → is_named u n f ≡ false → stands_before u n f ≡ false
    → is_lt (slice_cmp nat_cmp (file_key f) (key_of_file u n)) ≡ true
is_above u n f a b =
    ap is_lt (nat_list_cmp_total.antisymm (file_key f) (key_of_file u n))
    ∙ turned (slice_cmp nat_cmp (key_of_file u n) (file_key f)) a b

less-trans : (x y z : List ℕ) → is_lt (slice_cmp nat_cmp x y) ≡ true
    → is_lt (slice_cmp nat_cmp y z) ≡ true
    → is_lt (slice_cmp nat_cmp x z) ≡ true
less-trans x y z a b =
    ap is_lt (nat_list_cmp_total.trans x y z (is_less (slice_cmp nat_cmp x y) a)
    (is_less (slice_cmp nat_cmp y z) b))

-- files

first-bytes : (f : File) (fs : List File) (u : ℕ) (n b : List ℕ)
    → is_first f (file_with_bytes fs u n b) ≡ is_first f fs
unfolding file_with_bytes
first-bytes f [] u n b = refl
first-bytes f (g ∷ gs) u n b = grind (arith, common_steps)

first-same : (f : File) (fs : List File) (b : List ℕ)
    → is_first (record f { bytes = b }) fs ≡ is_first f fs
first-same f [] b = refl
first-same f (g ∷ gs) b = refl

bytes-step : (f : File) (fs : List File) (u : ℕ) (n b : List ℕ) (s : Bool) → is_named u n f ≡ s
    → files_in_order (file_with_bytes fs u n b) ≡ files_in_order fs
    → files_in_order (file_with_bytes (f ∷ fs) u n b) ≡ files_in_order (f ∷ fs)
unfolding files_in_order file_with_bytes
bytes-step f fs u n b true e h = rw e (ap (λ x. x && files_in_order fs) (first-same f fs b))
bytes-step f fs u n b false e h = rw e (λ i. first-bytes f fs u n b i && h i)

pub in_order-bytes : (fs : List File) (u : ℕ) (n b : List ℕ)
    → files_in_order (file_with_bytes fs u n b) ≡ files_in_order fs
unfolding files_in_order file_with_bytes
in_order-bytes [] u n b = refl
in_order-bytes (f ∷ fs) u n b =
    bytes-step f fs u n b (is_named u n f) refl (in_order-bytes fs u n b)

first-second : (f g : File) (gs : List File) → is_first f (g ∷ gs) ≡ true → is_first g gs ≡ true
    → is_first f gs ≡ true
first-second f g [] a b = refl
first-second f g (h ∷ hs) a b = less-trans (file_key f) (file_key g) (file_key h) a b

first-without : (f : File) (fs : List File) (u : ℕ) (n : List ℕ) → is_first f fs ≡ true
    → files_in_order fs ≡ true
    → is_first f (without_file fs u n) ≡ true
unfolding files_in_order without_file
first-without f [] u n a b = refl
first-without f (g ∷ gs) u n a b =
    let parts = and_parts (is_first g gs) (files_in_order gs) b in
    grind (arith, common_steps, a, first-second f g gs a parts.0)

pub in_order-without : (fs : List File) (u : ℕ) (n : List ℕ) → files_in_order fs ≡ true
    → files_in_order (without_file fs u n) ≡ true
unfolding files_in_order without_file
in_order-without [] u n a = refl
in_order-without (f ∷ fs) u n a =
    let parts = and_parts (is_first f fs) (files_in_order fs) a in
    grind (
      arith,
      common_steps,
      in_order-without fs u n parts.1,
      first-without f fs u n parts.0
          parts.1,
      parts.1,
    )

first-file : (f : File) (fs : List File) (u : ℕ) (n b : List ℕ) → is_first f fs ≡ true
    → is_lt (slice_cmp nat_cmp (file_key f) (key_of_file u n)) ≡ true
    → is_first f (with_file fs u n b) ≡ true
unfolding with_file
first-file f [] u n b a h = h
first-file f (g ∷ gs) u n b a h = grind (arith, common_steps, a, h)

file-step : (f : File) (fs : List File) (u : ℕ) (n b : List ℕ) (s : Bool) → stands_before u n f ≡ s
    → is_first f fs ≡ true → files_in_order fs ≡ true → is_named u n f ≡ false
    → files_in_order (with_file fs u n b) ≡ true → files_in_order (with_file (f ∷ fs) u n b) ≡ true
unfolding files_in_order with_file
file-step f fs u n b true e a o other h = rw e (grind (arith, common_steps, a, o, e))
file-step f fs u n b false e a o other h =
    rw e (grind (arith, common_steps, h, first-file f fs u n b a (is_above u n f other e)))

pub in_order-file : (fs : List File) (u : ℕ) (n b : List ℕ) → files_in_order fs ≡ true
    → has_file fs u n ≡ false
    → files_in_order (with_file fs u n b) ≡ true
unfolding files_in_order with_file has_file
in_order-file [] u n b a h = refl
in_order-file (f ∷ fs) u n b a h =
    let parts = and_parts (is_first f fs) (files_in_order fs) a in
    let apart = or_parts (is_named u n f) (has_file fs u n) h in
    file-step f fs u n b (stands_before u n f) refl parts.0 parts.1 apart.0
    (in_order-file fs u n b parts.1 apart.1)

-- kinds and sums

pub kinds-bytes : (fs : List File) (u : ℕ) (n b : List ℕ)
    → are_kinds (file_with_bytes fs u n b) ≡ are_kinds fs
unfolding are_kinds file_with_bytes
kinds-bytes [] u n b = refl
kinds-bytes (f ∷ fs) u n b = grind (arith, common_steps, kinds-bytes fs u n b)

pub kinds-without : (fs : List File) (u : ℕ) (n : List ℕ) → are_kinds fs ≡ true
    → are_kinds (without_file fs u n) ≡ true
unfolding are_kinds without_file
kinds-without [] u n a = refl
kinds-without (f ∷ fs) u n a = grind (arith, common_steps, a, kinds-without fs u n)

pub kinds-file : (fs : List File) (u : ℕ) (n b : List ℕ) → are_kinds fs ≡ true
    → are_kinds (with_file fs u n b) ≡ true
unfolding are_kinds with_file
kinds-file [] u n b a = grind (arith, common_steps)
kinds-file (f ∷ fs) u n b a = grind (arith, common_steps, a, kinds-file fs u n b)

pub length-bytes : (fs : List File) (u : ℕ) (n b : List ℕ)
    → length (file_with_bytes fs u n b) ≡ length fs
unfolding file_with_bytes
length-bytes [] u n b = refl
length-bytes (f ∷ fs) u n b = grind (arith, common_steps, length-bytes fs u n b)

pub length-file : (fs : List File) (u : ℕ) (n b : List ℕ)
    → length (with_file fs u n b) ≡ length fs + 1
unfolding with_file
length-file [] u n b = refl
length-file (f ∷ fs) u n b = grind (arith, common_steps, length-file fs u n b)

pub length-without : (fs : List File) (u : ℕ) (n : List ℕ)
    → length (without_file fs u n) ≤ length fs
unfolding without_file
length-without [] u n = omega arith
length-without (f ∷ fs) u n = grind (arith, common_steps, length-without fs u n)

pub bytes-bytes : (fs : List File) (u : ℕ) (n b : List ℕ) → has_file fs u n ≡ true
    → sum_of_bytes (file_with_bytes fs u n b) + length (content_of fs u n)
    ≡ sum_of_bytes fs + length b
unfolding file_with_bytes has_file content_of sum_of_bytes
bytes-bytes [] u n b h = absurd (grind (arith, h))
bytes-bytes (f ∷ fs) u n b h = grind (arith, common_steps, h, bytes-bytes fs u n b)

pub bytes-file : (fs : List File) (u : ℕ) (n b : List ℕ)
    → sum_of_bytes (with_file fs u n b) ≡ sum_of_bytes fs + length b
unfolding with_file sum_of_bytes
bytes-file [] u n b = grind (arith, common_steps)
bytes-file (f ∷ fs) u n b = grind (arith, common_steps, bytes-file fs u n b)

pub bytes-without : (fs : List File) (u : ℕ) (n : List ℕ)
    → sum_of_bytes (without_file fs u n) ≤ sum_of_bytes fs
unfolding without_file sum_of_bytes
bytes-without [] u n = omega arith
bytes-without (f ∷ fs) u n = grind (arith, common_steps, bytes-without fs u n)

-- the count

pub count-changed : (ss : List Stream) (n : ℕ) (s v : Stream) → found stream_number ss n ≡ Some s
    → is_window_target v.target ≡ is_window_target s.target
    → count_of (changed_at stream_number (λ _. v) ss n) ≡ count_of ss
unfolding count_of changed_at found
count-changed [] n s v e w = refl
count-changed (x ∷ ss) n s v e w = grind (arith, common_steps, e, w, count-changed ss n s v)

pub count-without : (ss : List Stream) (n : ℕ) → count_of (without stream_number ss n) ≤ count_of ss
unfolding count_of without
count-without [] n = omega arith
count-without (s ∷ ss) n = grind (arith, common_steps, count-without ss n)

pub count-more : (ss : List Stream) (v : Stream) → count_of (ss ++ v ∷ []) ≤ count_of ss + 1
unfolding count_of
count-more [] v = grind (arith, common_steps)
count-more (s ∷ ss) v = grind (arith, common_steps, count-more ss v)

pub count-window : (ss : List Stream) (v : Stream) → is_window_target v.target ≡ true
    → count_of (ss ++ v ∷ []) ≡ count_of ss
unfolding count_of
count-window [] v w = grind (arith, common_steps, w)
count-window (s ∷ ss) v w = grind (arith, common_steps, w, count-window ss v w)
