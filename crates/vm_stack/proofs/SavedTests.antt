-- The test of a saved stack's bytes tells saved stacks.
use Rattle.std.proofs.Common.{◌≡◌, inl, inr, ℕ, zero, suc, ◌+◌, ◌-◌, ◌%◌, ◌≤◌, ◌<◌, Bool}
use Rattle.std.proofs.Common.{true, false, ◌==◌, ◌||◌, nat_le, nat_lt, List}
use Rattle.std.proofs.Common.{length, take, drop, refl, arith, sym, ap, ◌∙◌, length-drop}
use Rattle.std.proofs.lemmas.Bool.{and_from, and_parts, eq-eqb, eqb-true, le-leb, leb-true}
use Rattle.std.proofs.lemmas.Bool.{lt-ltb, ltb-true, or_cases}
use Rattle.std.proofs.lemmas.Bool.Decides.{nat_tests}
use Rattle.std.proofs.lemmas.List.{length-take}
use Rattle.std.proofs.lemmas.Slice.Eq.{bytes_eq-Decides}
use Rattle.std.specs.Bool.{Decides}
use Rattle.std.specs.Str.{bytes_eq}
use Rattle.vm_stack.specs.StackState.{number}
use Rattle.vm_stack.specs.Frame.{frame_head, frame_len_of}
use Rattle.vm_stack.specs.Saved.{LinkedFrames, SavedStack, OneFrame, format_from}
use Rattle.vm_stack.specs.SavedTest.{is_frame_of, is_one_frame, is_frame_over}
use Rattle.vm_stack.specs.SavedTest.{are_linked, is_saved_stack}
use Rattle.vm_stack.proofs.SavedLemmas.{parts, some_format, read_frame, frame_read}
use Rattle.vm_stack.proofs.LinkLemmas.{no_frames, link_up, link_down}

-- one frame

tested : (b f : List ℕ) (n : ℕ)
    → n ≡ format_from 0 (drop 8 b) → f ≡ take n (drop 8 b)
    → length b ≤ 1048576
    → is_frame_of f b ≡ true → OneFrame 16 b
tested b f n size is small e =
    let head_is = bytes_eq (take (8 + length f) b) (frame_head f) in
    let in_fours = length b % 4 == 0 in
    let fits = nat_le (frame_len_of f + 16) (length b) in
    let p = and_parts (nat_lt 0 (length f)) _ e in
    let q = and_parts fits _ p.1 in
    let r = and_parts in_fours head_is q.1 in
    let some = ltb-true 0 (length f) p.0 in
    let long = leb-true (frame_len_of f + 16) (length b) q.0 in
    let fours : length b % 4 ≡ 0 = eqb-true (length b % 4) 0 r.0 in
    let head : take (8 + length f) b ≡ frame_head f =
    (bytes_eq-Decides (take (8 + length f) b) (frame_head f)).0 r.1 in
    let taken : length f ≡ length (take n (drop 8 b)) = ap length is in
    let short = length-take n (drop 8 b) in
    read_frame 16 b f n size
    (λ z. absurd (omega (arith, z, some, taken, short))) is long fours small head

frame_tested : (b : List ℕ) → length b ≤ 1048576 → is_one_frame b ≡ true → OneFrame 16 b
frame_tested b small e =
    tested b (take (format_from 0 (drop 8 b)) (drop 8 b))
    (format_from 0 (drop 8 b)) refl refl small e

passed : (b f : List ℕ)
    → 0 < length f → frame_len_of f + 16 ≤ length b
    → length b % 4 ≡ 0 → take (8 + length f) b ≡ frame_head f
    → is_frame_of f b ≡ true
passed b f some long fours head =
    and_from _ _ (lt-ltb 0 (length f) some) (and_from _ _ (le-leb _ _ long)
    (and_from _ _ (eq-eqb (length b % 4) 0 fours)
    ((bytes_eq-Decides (take (8 + length f) b) (frame_head f)).1 head)))

frame_passes : (b : List ℕ) → OneFrame 16 b → is_one_frame b ≡ true
frame_passes b h =
    let p = parts 16 b h in
    let f = take (format_from 0 (drop 8 b)) (drop 8 b) in
    let same : f ≡ h.frame.format = ap (λ (n : ℕ). take n (drop 8 b)) p.size ∙ p.taken in
    let two = some_format h.frame.format p.format in
    let l = ap length same in
    frame_read 16 b f (format_from 0 (drop 8 b)) (is_one_frame b) refl refl
    (λ long fours head. passed b f (omega (arith, two, l)) long fours head) h

-- frames on one another

up_from : (below : List ℕ → Bool) (xs : List ℕ) (at : ℕ)
    → ((ys : List ℕ) → length ys ≤ 1048576 → below ys ≡ true → LinkedFrames ys)
    → at ≡ number 4 xs (length xs - 4) → length xs ≤ 1048576
    → is_frame_over below xs at ≡ true → LinkedFrames xs
up_from below xs at low is small e =
    let frame = is_one_frame (drop at xs) in
    let rest = below (take at xs) in
    let p = and_parts (nat_lt at (length xs)) _ e in
    let q = and_parts frame rest p.1 in
    let inside = ltb-true at (length xs) p.0 in
    let over = length-drop at xs in
    let under = length-take at xs in
    link_up xs at inside (sym is)
    (frame_tested (drop at xs) (omega (arith, over, small)) q.0)
    (low (take at xs) (omega (arith, under, small)) q.1)

linked_up : (n : ℕ) (xs : List ℕ) → length xs ≤ 1048576 → are_linked n xs ≡ true → LinkedFrames xs
unfolding are_linked
linked_up zero xs small e = no_frames xs (eqb-true (length xs) 0 e)
linked_up (suc n) xs small e =
    elim (or_cases (length xs == 0)
    (is_frame_over (are_linked n) xs (number 4 xs (length xs - 4))) e) [
      | inl z ↦ no_frames xs (eqb-true (length xs) 0 z)
      | inr h ↦ up_from (are_linked n) xs (number 4 xs (length xs - 4)) (linked_up n) refl small h
    ]

down_from : (below : List ℕ → Bool) (n : ℕ) (xs : List ℕ) (at : ℕ)
    → ((ys : List ℕ) → length ys ≤ n → LinkedFrames ys → below ys ≡ true)
    → at ≡ number 4 xs (length xs - 4) → 0 < length xs
    → length xs ≤ suc n → LinkedFrames xs
    → is_frame_over below xs at ≡ true
down_from below n xs at low is some most linked =
    let d = link_down xs at some (sym is) linked in
    let inside : at < length xs = d.inside in
    let under = length-take at xs in
    and_from _ _ (lt-ltb at (length xs) inside)
    (and_from _ _ (frame_passes (drop at xs) d.frame)
    (low (take at xs) (omega (arith, under, inside, most)) d.low))

none_or_by : (n : ℕ) (b t : Bool) → (n == 0) ≡ t → (0 < n → b ≡ true) → (t || b) ≡ true
none_or_by n b true e h = refl
none_or_by n b false e h = h (grind (arith, nat_tests, e))

none_or : (n : ℕ) (b : Bool) → (0 < n → b ≡ true) → (n == 0 || b) ≡ true
none_or n b h = none_or_by n b (n == 0) refl h

linked_down : (n : ℕ) (xs : List ℕ) → length xs ≤ n → LinkedFrames xs → are_linked n xs ≡ true
unfolding are_linked
linked_down zero xs most linked =
    eq-eqb (length xs) 0 (omega (arith, most))
linked_down (suc n) xs most linked =
    none_or (length xs) (is_frame_over (are_linked n) xs (number 4 xs (length xs - 4)))
    (λ some. down_from (are_linked n) n xs (number 4 xs (length xs - 4))
    (linked_down n) refl some most linked)

saved_by : (xs : List ℕ) → length xs ≤ 1048576 → is_saved_stack xs ≡ true → SavedStack xs
unfolding is_saved_stack
saved_by xs small e =
    let p = and_parts (nat_lt 0 (length xs)) _ e in
    record { some = ltb-true 0 (length xs) p.0; linked = linked_up (length xs) xs small p.1 }

saved_passes : (xs : List ℕ) → SavedStack xs → is_saved_stack xs ≡ true
unfolding is_saved_stack
saved_passes xs s =
    and_from _ _ (lt-ltb 0 (length xs) s.some)
    (linked_down (length xs) xs (omega arith) s.linked)

-- what a stack may hold passes the test exactly where it is a saved stack
pub saved_decided : (xs : List ℕ)
    → length xs ≤ 1048576
    → Decides (is_saved_stack xs) (SavedStack xs)
saved_decided xs small = (saved_by xs small, saved_passes xs)
