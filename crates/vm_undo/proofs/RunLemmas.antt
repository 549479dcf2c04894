-- What is written is restored.
use Rattle.std.proofs.Common.{◌≡◌, ◌≢◌, ℕ, zero, suc, ◌+◌, ◌-◌, ◌*◌, ◌/◌, ◌%◌, ◌<◌, ◌≤◌}
use Rattle.std.proofs.Common.{Bool, true, false, ◌==◌, cond, nat_lt, List, [], ◌∷◌, ◌++◌}
use Rattle.std.proofs.Common.{length, take, drop, take-add, set, get_or, slice_index}
use Rattle.std.proofs.Common.{Option, Some, None, refl, ap, sym, ◌∙◌, append_assoc, arith}
use Rattle.std.specs.Int.{bit_at}
use Rattle.std.specs.Int.RustNames.{bit_xor}
use Rattle.std.specs.Int.Bits.{xor_zero_r}
use Rattle.std.proofs.lemmas.Nat.Bits.{bit_at_xor, bit_at-lt, same_from_bits}
use Rattle.std.proofs.lemmas.Bool.Decides.{nat_tests}
use Rattle.std.proofs.lemmas.List.{drop-drop, get_or-drop, drop-set-lt, take_more_set}
use Rattle.std.proofs.lemmas.List.{drop_more, length-set, take_at, drop_at, length-append}
use Rattle.std.proofs.lemmas.List.{take-append-drop, length-take, length-drop}
use Rattle.vm_undo.specs.Runs.{differences, with_front, runs_decoded}
use Rattle.vm_undo.specs.Runs.{pairs, last_run, zeros, runs_coded}

parity : (a b c : ℕ) → a < 2 → b < 2 → c ≡ (a + b) % 2 → (a + c) % 2 ≡ b
parity a b c la lb e = omega (arith, la, lb, e)

pub xor_back : (o r : ℕ) → bit_xor o (bit_xor o r) ≡ r
xor_back o r =
    same_from_bits (bit_xor o (bit_xor o r)) r (λ i. bit_at_xor o (bit_xor o r) i
    ∙ parity (bit_at o i) (bit_at r i) (bit_at (bit_xor o r) i) (bit_at-lt o i) (bit_at-lt r i)
    (bit_at_xor o r i))

pub same_from_xor : (o r : ℕ) → bit_xor o r ≡ 0 → o ≡ r
same_from_xor o r e = sym (xor_zero_r o) ∙ ap (λ (d : ℕ). bit_xor o d) (sym e) ∙ xor_back o r

with_front-append : (a b : List ℕ) (r : Option (List ℕ))
    → with_front a (with_front b r) ≡ with_front (a ++ b) r
with_front-append a b (Some x) = ap (λ (t : List ℕ). Some t) (sym (append_assoc a b x))
with_front-append a b None = refl

pub with_nothing : (r : Option (List ℕ)) → with_front [] r ≡ r
with_nothing (Some x) = refl
with_nothing None = refl

-- a coding that leaves so many bytes as they were
abbrev Skips : List ℕ → ℕ → Type 0
Skips coding n = (front rest bs : List ℕ) → length front ≡ n
    → runs_decoded false (front ++ rest) (coding ++ bs)
    ≡ with_front front (runs_decoded false rest bs)

pub run_skips : (n : ℕ) → Skips (0 ∷ n ∷ []) (n + 1)
run_skips n front rest bs len =
    let fits : nat_lt (length (front ++ rest)) (n + 1) ≡ false =
    grind (arith, nat_tests, length-append front rest, len) in
    rw (fits, take_at front rest (n + 1) len, drop_at front rest (n + 1) len) refl

none_skipped : Skips [] 0
none_skipped [] rest bs len = sym (with_nothing (runs_decoded false rest bs))
none_skipped (x ∷ xs) rest bs len = absurd (omega (arith, len))

both_skip : (a b : List ℕ) (n m : ℕ) → Skips a n → Skips b m → Skips (a ++ b) (n + m)
both_skip a b n m one two front rest bs len =
    let low = take n front in
    let high = drop n front in
    let parts : low ++ high ≡ front = take-append-drop n front in
    let regrouped : front ++ rest ≡ low ++ (high ++ rest) =
    ap (λ (t : List ℕ). t ++ rest) (sym parts) ∙ append_assoc low high rest in
    ap (λ (t : List ℕ). runs_decoded false t ((a ++ b) ++ bs)) regrouped
    ∙ ap (λ (t : List ℕ). runs_decoded false (low ++ (high ++ rest)) t) (append_assoc a b bs)
    ∙ one low (high ++ rest) (b ++ bs) (omega (arith, length-take n front, len))
    ∙ ap (with_front low) (two high rest bs (omega (arith, length-drop n front, len)))
    ∙ with_front-append low high (runs_decoded false rest bs)
    ∙ ap (λ (t : List ℕ). with_front t (runs_decoded false rest bs)) parts

pairs_skip : (q : ℕ) → Skips (pairs q) (q * 256)
pairs_skip zero = none_skipped
pairs_skip (suc q) =
    λ front rest bs len. both_skip (0 ∷ 255 ∷ []) (pairs q) 256 (q * 256) (run_skips 255)
    (pairs_skip q) front rest bs (omega (arith, len))

last_skips : (n : ℕ) → Skips (last_run n) n
last_skips zero = none_skipped
last_skips (suc n) = λ front rest bs len. run_skips n front rest bs (omega (arith, len))

zeros_skip : (n : ℕ) → Skips (zeros n) n
unfolding zeros
zeros_skip n front rest bs len =
    let q = n / 256 in
    both_skip (pairs q) (last_run (n % 256)) (q * 256) (n % 256) (pairs_skip q)
    (last_skips (n % 256)) front rest bs (omega (arith, len))

more_than_none : (o : ℕ) (os : List ℕ) → (length (o ∷ os) == 0) ≡ false
more_than_none o os = grind (arith, nat_tests)

change_restored : (front os rs : List ℕ) (o r : ℕ) (same : Bool) → (bit_xor o r == 0) ≡ same
    → runs_decoded false os (runs_coded 0 (differences os rs)) ≡ Some rs
    → runs_decoded false ((front ++ (o ∷ [])) ++ os)
    (runs_coded (length (front ++ (o ∷ []))) (differences os rs))
    ≡ Some ((front ++ (o ∷ [])) ++ rs)
    → runs_decoded false (front ++ (o ∷ os)) (cond same
    (runs_coded (length front + 1) (differences os rs))
    (zeros (length front) ++ (bit_xor o r ∷ runs_coded 0 (differences os rs))))
    ≡ Some (front ++ (r ∷ rs))
change_restored front os rs o r true e none more =
    let is : o ≡ r = same_from_xor o r (grind (arith, nat_tests, e)) in
    let longer : length (front ++ (o ∷ [])) ≡ length front + 1 =
    omega (arith, length-append front (o ∷ [])) in
    let moved : front ++ (o ∷ os) ≡ (front ++ (o ∷ [])) ++ os =
    sym (append_assoc front (o ∷ []) os) in
    ap (λ (t : List ℕ). runs_decoded false t (runs_coded (length front + 1) (differences os rs)))
    moved
    ∙ ap
    (λ (k : ℕ). runs_decoded false ((front ++ (o ∷ [])) ++ os) (runs_coded k (differences os rs)))
    (sym longer)
    ∙ more
    ∙ ap (λ (t : List ℕ). Some t)
    (append_assoc front (o ∷ []) rs ∙ ap (λ (x : ℕ). front ++ (x ∷ rs)) is)
change_restored front os rs o r false e none more =
    zeros_skip (length front) front (o ∷ os) (bit_xor o r ∷ runs_coded 0 (differences os rs)) refl
    ∙ rw (e, none, xor_back o r, more_than_none o os) refl

-- zeros that wait are bytes that are as they were
pending_restored : (front original ram : List ℕ)
    → length original ≡ length ram
    → runs_decoded false (front ++ original) (runs_coded (length front) (differences original ram))
    ≡ Some (front ++ ram)
pending_restored front [] [] len = refl
pending_restored front [] (r ∷ rs) len = absurd (omega (arith, len))
pending_restored front (o ∷ os) [] len = absurd (omega (arith, len))
pending_restored front (o ∷ os) (r ∷ rs) len =
    let shorter : length os ≡ length rs = omega (arith, len) in
    change_restored front os rs o r (bit_xor o r == 0) refl (pending_restored [] os rs shorter)
    (pending_restored (front ++ (o ∷ [])) os rs shorter)

pub restored_again : (original ram : List ℕ)
    → length original ≡ length ram
    → runs_decoded false original (runs_coded 0 (differences original ram)) ≡ Some ram
restored_again original ram len = pending_restored [] original ram len

pub pairs_push : (n : ℕ) → pairs (n + 1) ≡ pairs n ++ (0 ∷ 255 ∷ [])
pairs_push zero = refl
pairs_push (suc n) =
    let moved : suc n + 1 ≡ suc (n + 1) = omega arith in
    ap pairs moved ∙ ap (λ (t : List ℕ). 0 ∷ 255 ∷ t) (pairs_push n)

-- ---- steps of the reader

take_further : (at k : ℕ) (ram : List ℕ) → take at ram ++ take k (drop at ram) ≡ take (at + k) ram
take_further at k ram = sym (take-add at k ram)

pub run_step : (at b : ℕ) (ram bs : List ℕ) → b + 1 ≤ length ram - at
    → with_front (take at ram) (runs_decoded true (drop at ram) (b ∷ bs))
    ≡ with_front (take (at + (b + 1)) ram) (runs_decoded false (drop (at + (b + 1)) ram) bs)
run_step at b ram bs fits =
    let long : nat_lt (length (drop at ram)) (b + 1) ≡ false =
    grind (arith, nat_tests, length-drop at ram, fits) in
    rw (
      long,
      drop-drop (b + 1) at ram,
    ) (with_front-append (take at ram) (take (b + 1) (drop at ram))
    (runs_decoded false (drop (at + (b + 1)) ram) bs)
    ∙ ap (λ (t : List ℕ). with_front t (runs_decoded false (drop (at + (b + 1)) ram) bs))
    (take_further at (b + 1) ram))

pub change_step : (at b : ℕ) (ram bs : List ℕ) → at < length ram → b ≢ 0
    → with_front (take at ram) (runs_decoded false (drop at ram) (b ∷ bs))
    ≡ with_front (take (at + 1) (set ram at (bit_xor (get_or ram at 0) b)))
    (runs_decoded false (drop (at + 1) (set ram at (bit_xor (get_or ram at 0) b))) bs)
change_step at b ram bs lt ne =
    let nonzero : (b == 0) ≡ false = grind (arith, nat_tests, ne) in
    let more : (length (drop at ram) == 0) ≡ false =
    grind (arith, nat_tests, length-drop at ram, lt) in
    let new = set ram at (bit_xor (get_or ram at 0) b) in
    let rest : drop 1 (drop at ram) ≡ drop (at + 1) new =
    drop-drop 1 at ram
    ∙ sym (drop-set-lt (at + 1) ram at (bit_xor (get_or ram at 0) b) (omega arith)) in
    let front : take at ram ++ (bit_xor (get_or ram at 0) b ∷ []) ≡ take (at + 1) new =
    sym (take_more_set ram at (bit_xor (get_or ram at 0) b) lt) in
    let value : slice_index (drop at ram) 0 ≡ get_or ram at 0 =
    get_or-drop at ram 0 0 ∙ ap (λ (i : ℕ). get_or ram i 0) (omega arith) in
    rw (
      nonzero,
      more,
      value,
      rest,
    ) (with_front-append (take at ram) (bit_xor (get_or ram at 0) b ∷ [])
    (runs_decoded false (drop (at + 1) new) bs)
    ∙ ap (λ (t : List ℕ). with_front t (runs_decoded false (drop (at + 1) new) bs)) front)

-- what the loop keeps
abbrev pub Keeps : List ℕ → List ℕ → List ℕ → ℕ → Bool → ℕ → Type 0
Keeps first coded ram at due i =
    (at ≤ length ram) × (length ram ≡ length first)
    × (with_front (take at ram) (runs_decoded due (drop at ram) (drop i coded))
    ≡ runs_decoded false first coded)

pub keeps_run : (first coded ram : List ℕ) (at i : ℕ)
    → i < length coded → Keeps first coded ram at true i
    → get_or coded i 0 + 1 ≤ length ram - at
    → Keeps first coded ram (at + (get_or coded i 0 + 1)) false (i + 1)
keeps_run first coded ram at i lt held fits =
    let step = run_step at (get_or coded i 0) ram (drop (i + 1) coded) fits in
    let whole : with_front (take at ram)
    (runs_decoded true (drop at ram) (get_or coded i 0 ∷ drop (i + 1) coded))
    ≡ runs_decoded false first coded =
    rw (drop_more coded i 0 lt) at held.2 in
    (omega (arith, held.0, fits), held.1, sym step ∙ whole)

pub keeps_zero : (first coded ram : List ℕ) (at i : ℕ)
    → i < length coded → Keeps first coded ram at false i
    → get_or coded i 0 ≡ 0 → Keeps first coded ram at true (i + 1)
keeps_zero first coded ram at i lt held is-zero =
    let whole : with_front (take at ram)
    (runs_decoded false (drop at ram) (0 ∷ drop (i + 1) coded))
    ≡ runs_decoded false first coded =
    rw (drop_more coded i 0 lt, is-zero) at held.2 in
    (held.0, held.1, whole)

pub keeps_change : (first coded ram : List ℕ) (at i : ℕ)
    → i < length coded → Keeps first coded ram at false i
    → get_or coded i 0 ≢ 0 → at ≢ length ram
    → Keeps first coded (set ram at (bit_xor (get_or ram at 0) (get_or coded i 0))) (at + 1) false
    (i + 1)
keeps_change first coded ram at i lt held nonzero inside =
    let below : at < length ram = omega (arith, held.0, inside) in
    let whole : with_front (take at ram)
    (runs_decoded false (drop at ram) (get_or coded i 0 ∷ drop (i + 1) coded))
    ≡ runs_decoded false first coded =
    rw (drop_more coded i 0 lt) at held.2 in
    let step = change_step at (get_or coded i 0) ram (drop (i + 1) coded) below nonzero in
    let same : length (set ram at (bit_xor (get_or ram at 0) (get_or coded i 0))) ≡ length ram =
    length-set ram at (bit_xor (get_or ram at 0) (get_or coded i 0)) in
    (omega (arith, same, below), same ∙ held.1, sym step ∙ whole)

-- ---- runs of 256

take_pairs : (n m : ℕ) → n ≤ m → take (n * 2) (pairs m) ≡ pairs n
take_pairs zero m l = refl
take_pairs (suc n) zero l = absurd (omega (arith, l))
take_pairs (suc n) (suc m) l =
    let e : suc n * 2 ≡ suc (suc (n * 2)) = omega arith in
    rw e (ap (λ (xs : List ℕ). 0 ∷ 255 ∷ xs) (take_pairs n m (omega (arith, l))))

pairs_add : (n m : ℕ) → pairs n ++ pairs m ≡ pairs (n + m)
pairs_add zero m = let e : zero + m ≡ m = omega arith in sym (ap pairs e)
pairs_add (suc n) m =
    let e : suc n + m ≡ suc (n + m) = omega arith in
    ap (λ (xs : List ℕ). 0 ∷ 255 ∷ xs) (pairs_add n m) ∙ sym (ap pairs e)

-- so many more of at most sixteen
pub pairs_taken : (old was new : List ℕ) (done some : ℕ) → some ≤ 16 → was ≡ old ++ pairs done
    → new ≡ was ++ take (some * 2) (pairs 16) → new ≡ old ++ pairs (done + some)
pairs_taken old was new done some l before is =
    is ∙ ap (λ (xs : List ℕ). xs ++ take (some * 2) (pairs 16)) before
    ∙ ap (λ (xs : List ℕ). (old ++ pairs done) ++ xs) (take_pairs some 16 l)
    ∙ append_assoc old (pairs done) (pairs some)
    ∙ ap (λ (xs : List ℕ). old ++ xs) (pairs_add done some)

-- the last run behind runs of 256
pub zeros_after : (old was new rest : List ℕ) (n : ℕ) → was ≡ old ++ pairs (n / 256)
    → rest ≡ last_run (n % 256) → new ≡ was ++ rest → new ≡ old ++ zeros n
unfolding zeros
zeros_after old was new rest n before last is =
    is ∙ ap (λ (xs : List ℕ). xs ++ rest) before ∙ append_assoc old (pairs (n / 256)) rest
    ∙ ap (λ (xs : List ℕ). old ++ (pairs (n / 256) ++ xs)) last
