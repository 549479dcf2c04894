-- Names of disks in memory.
use Rattle.std.proofs.Common.{◌≡◌, ◌≢◌, ℕ, ◌<◌, ◌≤◌, List, is_some, arith, refl, sym, ap, ◌∙◌, cond}
use Rattle.std.proofs.Common.{Bool, true, false, Option, Some, None}
use Rattle.std.specs.Map.{update}
use Rattle.std.specs.Borrow.{Bor}
use Rattle.std.specs.Option.{option_and_then, option_copied}
use Rattle.std.specs.Str.{bytes_eq}
use Rattle.std.proofs.lemmas.Slice.Eq.{bytes_eq-Decides}
use Rattle.host_top.specs.Files.{Told, Untold, told_of_all, told_now, told_at, returned, AreBelow}
use Rattle.host_top.specs.declared.loan.Loan.{Loan}

-- where one thing stands at a name, so do its parts
parted : {S X : Type 0} (f : S → Option X) (b : Bool) (now : S) (old : Option S)
    → option_and_then f (cond b (Some now) old) ≡ cond b (f now) (option_and_then f old)
parted f true now old = refl
parted f false now old = refl

pub part_at : {S X : Type 0} (f : S → Option X) (old new : List ℕ → Option S) (name : List ℕ)
    (now : S)
    → ((other : List ℕ) → new other ≡ update bytes_eq old name (Some now) other)
    → (other : List ℕ) → option_and_then f (new other) ≡ update bytes_eq
    (λ n. option_and_then f (old n)) name (f now) other
part_at f old new name now is other =
    ap (option_and_then f) (is other) ∙ parted f (bytes_eq name other) now (old other)

told_known : {X : Type 0} (x : Option X) (now : Told X) → told_now (told_of_all x) now ≡ now
told_known None now = refl
told_known (Some a) now = refl

tells_by : {X : Type 0} (b : Bool) (now old : Option X)
    → told_of_all (cond b now old)
    ≡ cond b (told_now (told_of_all old) (told_of_all now)) (told_of_all old)
tells_by true now old = sym (told_known old (told_of_all now))
tells_by false now old = refl

-- and what is told of them
pub told_part_at : {S X : Type 0} (f : S → Option X) (old new : List ℕ → Option S) (name : List ℕ)
    (now : S)
    → ((other : List ℕ) → new other ≡ update bytes_eq old name (Some now) other)
    → (other : List ℕ) → told_of_all (option_and_then f (new other)) ≡ told_at
    (λ n. told_of_all (option_and_then f (old n))) name (told_of_all (f now)) other
told_part_at f old new name now is other =
    ap told_of_all (part_at f old new name now is other)
    ∙ tells_by (bytes_eq name other) (f now) (option_and_then f (old other))

empty_at : {S X : Type 0} (f : S → Option X) (b : Bool) (now : S) (old : Option S) → f now ≡ None
    → (b ≡ true → old ≡ None) → option_and_then f (cond b (Some now) old) ≡ option_and_then f old
empty_at f true now old none absent = none ∙ sym (ap (option_and_then f) (absent refl))
empty_at f false now old none absent = refl

-- something without this part, where nothing stood
pub no_part_at : {S X : Type 0} (f : S → Option X) (old new : List ℕ → Option S) (name : List ℕ)
    (now : S)
    → ((other : List ℕ) → new other ≡ update bytes_eq old name (Some now) other) → f now ≡ None
    → old name ≡ None
    → (other : List ℕ) → option_and_then f (new other) ≡ option_and_then f (old other)
no_part_at f old new name now is none absent other =
    ap (option_and_then f) (is other)
    ∙ empty_at f (bytes_eq name other) now (old other) none
    (λ same. ap old (sym ((bytes_eq-Decides name other).0 same)) ∙ absent)

pub none_copied : {X : Type 0} (found : Option (Bor X)) (value : Option X)
    → option_copied found ≡ value → is_some found ≡ false → value ≡ None
none_copied None value e none = sym e
none_copied (Some x) value e none = absurd (grind (arith, none))

kept_at : {S : Type 0} (b : Bool) (now : S) (old : Option S) → (b ≡ true → old ≡ Some now)
    → cond b (Some now) old ≡ old
kept_at true now old here = sym (here refl)
kept_at false now old here = refl

kept_part : {X : Type 0} (b : Bool) (now old : X) → (b ≡ true → old ≡ now) → cond b now old ≡ old
kept_part true now old here = sym (here refl)
kept_part false now old here = refl

-- a part of it that is what it was stays everywhere
pub part_stays : {S X : Type 0} (f : S → Option X) (old new : List ℕ → Option S) (name : List ℕ)
    (now : S)
    → ((other : List ℕ) → new other ≡ update bytes_eq old name (Some now) other)
    → option_and_then f (old name) ≡ f now
    → (other : List ℕ) → option_and_then f (new other) ≡ option_and_then f (old other)
part_stays f old new name now is same other =
    part_at f old new name now is other
    ∙ kept_part (bytes_eq name other) (f now) (option_and_then f (old other))
    (λ e. ap (λ n. option_and_then f (old n)) (sym ((bytes_eq-Decides name other).0 e)) ∙ same)

-- what stood at the name stands there
pub same_at : {S : Type 0} (old new : List ℕ → Option S) (name : List ℕ) (now : S)
    → ((other : List ℕ) → new other ≡ update bytes_eq old name (Some now) other)
    → old name ≡ Some now → (other : List ℕ) → new other ≡ old other
same_at old new name now is here other =
    is other ∙ kept_at (bytes_eq name other) now (old other)
    (λ same. ap old (sym ((bytes_eq-Decides name other).0 same)) ∙ here)

untold : {X : Type 0} (b : Bool) (now : Told X) → Untold ≡ cond b (told_now Untold now) Untold
untold true now = refl
untold false now = refl

-- where nothing is told, nothing is told afterwards
pub untold_at : {X : Type 0} (now : Told X) (name other : List ℕ)
    → Untold ≡ told_at (λ n. Untold) name now other
untold_at now name other = untold (bytes_eq name other) now

pub some_copied : {X : Type 0} (found : Option (Bor X)) (value : Option X)
    → option_copied found ≡ value → is_some found ≡ true → is_some value ≡ true
some_copied None value e there = absurd (grind (arith, there))
some_copied (Some x) value e there = ap is_some (sym e)

stands : {S : Type 0} (b : Bool) (now : S) (old : Option S) → b ≡ true
    → cond b (Some now) old ≡ Some now
stands true now old e = refl
stands false now old e = absurd (grind (arith, e))

-- what was put under a name stands there
pub stands_at : {S : Type 0} (old new : List ℕ → Option S) (name : List ℕ) (now : S)
    → ((other : List ℕ) → new other ≡ update bytes_eq old name (Some now) other)
    → new name ≡ Some now
stands_at old new name now is =
    is name ∙ stands (bytes_eq name name) now (old name) ((bytes_eq-Decides name name).1 refl)

-- ---- labels of loans below a count

below_cond : (b : Bool) (now was : Option Loan) (few many : ℕ) → few ≤ many
    → ((l : Loan) → now ≡ Some l → l.label < many) → ((l : Loan) → was ≡ Some l → l.label < few)
    → (l : Loan) → cond b now was ≡ Some l → l.label < many
below_cond true now was few many le fits below l e = fits l e
below_cond false now was few many le fits below l e = omega (arith, below l e, le)

pub below_at : (old new : List ℕ → Option Loan) (name : List ℕ) (now : Option Loan) (few many : ℕ)
    → ((other : List ℕ) → new other ≡ update bytes_eq old name now other)
    → few ≤ many → ((l : Loan) → now ≡ Some l → l.label < many) → AreBelow old few
    → AreBelow new many
below_at old new name now few many is le fits below other l e =
    below_cond (bytes_eq name other) now (old other) few many le fits (below other) l
    (sym (is other) ∙ e)

pub below_same : (old new : List ℕ → Option Loan) (few many : ℕ)
    → ((other : List ℕ) → new other ≡ old other) → few ≤ many → AreBelow old few → AreBelow new many
below_same old new few many is le below other l e =
    omega (arith, below other l (sym (is other) ∙ e), le)

label_of : Option Loan → ℕ
label_of None = 0
label_of (Some loan) = loan.label

pub some_label : (loan l : Loan) → Some loan ≡ Some l → l.label ≡ loan.label
unfolding label_of
some_label loan l e = sym (ap label_of e)

pub one_below : (loan : Loan) (count : ℕ) → loan.label < count → (l : Loan) → Some loan ≡ Some l
    → l.label < count
one_below loan count small l e = omega (arith, small, some_label loan l e)

pub returned_below : (to : ℕ) (was : Option Loan) (count : ℕ)
    → ((l : Loan) → was ≡ Some l → l.label < count) → (l : Loan) → returned to was ≡ Some l
    → l.label < count
returned_below to None count below l e = below l e
returned_below to (Some loan) count below l e =
    one_below (record loan { to = Some to }) count (below loan refl) l e

-- a label that none is as great as is no other disk's
pub own_label : (loans : List ℕ → Option Loan) (count label : ℕ) → AreBelow loans count
    → label ≡ count → (other : List ℕ) (loan : Loan) → loans other ≡ Some loan → loan.label ≢ label
own_label loans count label below is other loan e same = omega (arith, below other loan e, same, is)
