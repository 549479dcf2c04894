-- The names of a folder's disks.
use Rattle.std.proofs.Common.{◌≡◌, inl, inr, ℕ, zero, suc, ◌+◌, ◌/◌, ◌%◌, ◌<◌, ◌≤◌, List, [], ◌∷◌}
use Rattle.std.proofs.Common.{◌++◌, length, map, arith, refl, sym, ap, ◌∙◌, subst, append_assoc}
use Rattle.std.proofs.Common.{Bool, true, false, codes, String, string_bytes, Some, slice_get}
use Rattle.std.proofs.lemmas.Bool.{cases_lt}
use Rattle.std.proofs.lemmas.Fmt.{decimal_digit}
use Rattle.std.proofs.lemmas.List.{append_cancel_left, map-append}
use Rattle.std.proofs.lemmas.List.FromFn.{get_or-map-range_with_len, length-map-range_with_len}
use Rattle.std.proofs.lemmas.List.FromFn.{map-range_with_len_more}
use Rattle.std.proofs.lemmas.Option.{slice_get-get_or}
use Rattle.std.proofs.lemmas.Slice.Eq.{bytes_eq-Decides}
use Rattle.std.specs.Fmt.{decimal}
use Rattle.std.specs.List.{range_with_len}
use Rattle.std.specs.Prelude.{slice_index}
use Rattle.std.specs.Str.{bytes_eq}
use Rattle.turn_cell.specs.History.{Each}
use Rattle.host_top.specs.Borrowed.{AreDifferentNames, journal_in, names_of, snap_in, snaps_below}

-- names that aren't equal are told apart
pub told_apart : (a b : List ℕ) → (a ≡ b → ⊥) → bytes_eq a b ≡ false
told_apart a b other = of (bytes_eq a b) refl
  where
    of : (c : Bool) → bytes_eq a b ≡ c → bytes_eq a b ≡ false
    of false is = is
    of true is = absurd (other ((bytes_eq-Decides a b).0 is))

abbrev ending : ℕ → List ℕ
ending s = (48 + s / 10) ∷ (48 + s % 10) ∷ []

pub two_digits : (s : ℕ) → s < 64 → decimal (s / 10) ++ decimal (s % 10) ≡ ending s
two_digits s low =
    ap (λ (l : List ℕ). l ++ decimal (s % 10)) (decimal_digit (s / 10) (omega arith))
    ∙ ap (λ (l : List ℕ). (48 + s / 10) ∷ l) (decimal_digit (s % 10) (omega arith))

same_number : (s t : ℕ) → ending s ≡ ending t → s ≡ t
same_number s t e =
    let tens : 48 + s / 10 ≡ 48 + t / 10 = ap (λ (l : List ℕ). slice_index l 0) e in
    let units : 48 + s % 10 ≡ 48 + t % 10 = ap (λ (l : List ℕ). slice_index l 1) e in
    omega arith

-- a store's name is the folder's and what stands behind it
abbrev behind : ℕ → List ℕ
behind s = codes "/snap" ++ (decimal (s / 10) ++ decimal (s % 10))

pub name_of : (folder : List ℕ) (s : ℕ) → snap_in folder s ≡ folder ++ behind s
name_of folder s =
    append_assoc (folder ++ codes "/snap") (decimal (s / 10)) (decimal (s % 10))
    ∙ append_assoc folder (codes "/snap") (decimal (s / 10) ++ decimal (s % 10))

-- it tells the session
pub same_session : (folder : List ℕ) (s t : ℕ) → s < 64 → t < 64
    → snap_in folder s ≡ snap_in folder t → s ≡ t
same_session folder s t low high e =
    let tail : behind s ≡ behind t =
    append_cancel_left folder (behind s) (behind t)
    (sym (name_of folder s) ∙ e ∙ name_of folder t) in
    same_number s t (sym (two_digits s low) ∙ append_cancel_left (codes "/snap") _ _ tail
    ∙ two_digits t high)

-- and isn't the journal's
pub no_journal : (folder : List ℕ) (s : ℕ) → bytes_eq (journal_in folder) (snap_in folder s) ≡ false
no_journal folder s = told_apart (journal_in folder) (snap_in folder s) (λ e.
    let second : 106 ≡ 115 =
    ap (λ (l : List ℕ). slice_index l 1)
    (append_cancel_left folder (codes "/journal") (behind s) (e ∙ name_of folder s)) in absurd
    (grind (arith, second)))

from_on : (folder : List ℕ) (s a n : ℕ) → s < a → a + n ≤ 64
    → Each (λ other. bytes_eq (snap_in folder s) other ≡ false)
    (map (snap_in folder) (range_with_len a n))
from_on folder s a zero below within = tt
from_on folder s a (suc n) below within = (
  told_apart (snap_in folder s) (snap_in folder a)
      (λ e. let same = same_session folder s a (omega arith) (omega arith) e in omega
      (arith, same, below)),
  from_on folder s (a + 1) n (omega arith) (omega arith),
)

apart_from : (folder : List ℕ) (a n : ℕ) → a + n ≤ 64
    → AreDifferentNames (map (snap_in folder) (range_with_len a n))
apart_from folder a zero within = tt
apart_from folder a (suc n) within = (
  from_on folder a (a + 1) n (omega arith) (omega arith),
  apart_from folder (a + 1) n
      (omega arith),
)

-- the names of the stores are apart
pub snaps_apart : (folder : List ℕ) (n : ℕ) → n ≤ 64 → AreDifferentNames (snaps_below folder n)
unfolding snaps_below
snaps_apart folder n within = apart_from folder 0 n (omega arith)

journal_from : (folder : List ℕ) (a n : ℕ)
    → Each (λ other. bytes_eq (journal_in folder) other ≡ false)
    (map (snap_in folder) (range_with_len a n))
journal_from folder a zero = tt
journal_from folder a (suc n) = (no_journal folder a, journal_from folder (a + 1) n)

-- and the journal's is another
pub journal_apart : (folder : List ℕ) (n : ℕ)
    → Each (λ other. bytes_eq (journal_in folder) other ≡ false) (snaps_below folder n)
unfolding snaps_below
journal_apart folder n = journal_from folder 0 n

-- so no two names of a folder are the same
pub names_apart : (folder : List ℕ) → AreDifferentNames (names_of folder)
names_apart folder = (journal_apart folder 64, snaps_apart folder 64 (omega arith))

-- ---- what holds of the names of stores

module _ (P : List ℕ → Type 0) (folder : List ℕ) where
  each_of : (a n t : ℕ) → Each P (map (snap_in folder) (range_with_len a n)) → a ≤ t → t < a + n
      → P (snap_in folder t)
  each_of a zero t each low high = absurd (omega arith)
  each_of a (suc n) t each low high = elim (cases_lt a t) [
    | inl below ↦ each_of (a + 1) n t each.1 (omega arith) (omega arith)
    | inr not_below ↦ let same : a ≡ t =
        omega (arith, low, not_below) in subst (λ (k : ℕ). P (snap_in folder k)) same each.0
  ]

  each_to : (a n : ℕ) → ((t : ℕ) → a ≤ t → t < a + n → P (snap_in folder t))
      → Each P (map (snap_in folder) (range_with_len a n))
  each_to a zero all = tt
  each_to a (suc n) all = (
    all a (omega arith) (omega arith),
    each_to (a + 1) n
        (λ t low high. all t (omega arith) (omega arith)),
  )

  pub each_snap : (n t : ℕ) → Each P (snaps_below folder n) → t < n → P (snap_in folder t)
  unfolding snaps_below
  each_snap n t each low = each_of 0 n t each (omega arith) (omega arith)

  pub snap_each : (n : ℕ) → ((t : ℕ) → t < n → P (snap_in folder t)) → Each P (snaps_below folder n)
  unfolding snaps_below
  snap_each n all = each_to 0 n (λ t low high. all t (omega arith))

-- the names of the stores before one are others
pub snaps_before : (folder : List ℕ) (s : ℕ) → s < 64
    → Each (λ n. bytes_eq n (snap_in folder s) ≡ false) (snaps_below folder s)
snaps_before folder s within =
    snap_each (λ n. bytes_eq n (snap_in folder s) ≡ false) folder s (λ t low.
    told_apart (snap_in folder t) (snap_in folder s)
    (λ e. let same = same_session folder t s (omega arith) within e in omega
    (arith, same, low)))

pub snaps_none : (folder : List ℕ) → snaps_below folder 0 ≡ []
unfolding snaps_below
snaps_none folder = refl

pub snaps_more : (folder : List ℕ) (s : ℕ)
    → snaps_below folder (s + 1) ≡ snaps_below folder s ++ snap_in folder s ∷ []
unfolding snaps_below
snaps_more folder s = map-range_with_len_more (snap_in folder) 0 s s (omega arith)

-- the names as they are made
pub names_begun : {Y : Type 0} (folder : List ℕ) (old new : List (String Y)) (name : String Y)
    → old ≡ [] → new ≡ old ++ name ∷ [] → string_bytes name ≡ journal_in folder
    → map string_bytes new ≡ journal_in folder ∷ snaps_below folder 0
unfolding snaps_below
names_begun folder old new name none is this =
    ap (map string_bytes) (is ∙ ap (λ (l : List (String _)). l ++ name ∷ []) none)
    ∙ ap (λ (n : List ℕ). n ∷ []) this

pub names_pushed : {Y : Type 0} (folder : List ℕ) (s : ℕ) (old new : List (String Y))
    (name : String Y) → new ≡ old ++ name ∷ []
    → map string_bytes old ≡ journal_in folder ∷ snaps_below folder s
    → string_bytes name ≡ snap_in folder s
    → map string_bytes new ≡ journal_in folder ∷ snaps_below folder (s + 1)
names_pushed folder s old new name is before this =
    ap (map string_bytes) is ∙ map-append string_bytes old (name ∷ [])
    ∙ (λ i. before i ++ this i ∷ [])
    ∙ ap (λ (l : List (List ℕ)). journal_in folder ∷ l) (sym (snaps_more folder s))

pub snap_at : (folder : List ℕ) (n s : ℕ) → s < n
    → slice_get (snaps_below folder n) s ≡ Some (snap_in folder s)
unfolding snaps_below
snap_at folder n s low =
    slice_get-get_or (map (snap_in folder) (range_with_len 0 n)) s []
    (omega (arith, length-map-range_with_len (snap_in folder) 0 n, low))
    ∙ ap (λ (x : List ℕ). Some x) (get_or-map-range_with_len (snap_in folder) 0 n s s [] low
    (omega arith))

pub snaps_many : (folder : List ℕ) (n : ℕ) → length (snaps_below folder n) ≡ n
unfolding snaps_below
snaps_many folder n = length-map-range_with_len (snap_in folder) 0 n
