-- Calls of an outside of which none is to fail.
use Rattle.std.proofs.Common.{◌≡◌, ◌∙◌, ℕ, zero, suc, ◌<◌, ◌==◌, Bool, true, false, ◌||◌, List}
use Rattle.std.proofs.Common.{[], ◌∷◌, map, length, get_or, refl, sym, ap, subst, arith, Option}
use Rattle.std.proofs.Common.{None, Some, Result, Ok, Err, IsErrOf}
use Rattle.std.proofs.lemmas.List.{get_or-map, length-map}
use Rattle.std.specs.List.{list_any}
use Rattle.line_talk.specs.Failing.{Failing, FailsAsListed, is_to_fail, one_call_more}
use Rattle.host_top.specs.Calls.{AreThere, NoneIsListed}
use Rattle.host_top.specs.Files.{Told, Untold, Missing, There, has_failed, is_told_missing}
use Rattle.host_top.specs.declared.outside.Fetch.{Fetch}
use Rattle.host_top.specs.declared.outside.Fetch.TheVariants as fetch

-- behind one call more none is
pub none_still : (old new : Option Failing) (cause fails : Bool) → NoneIsListed old
    → FailsAsListed old new cause fails → NoneIsListed new
none_still None new cause fails none listed = absurd none
none_still (Some calls) new cause fails none listed =
    subst NoneIsListed (sym listed.0) none

cause_alone : (cause due : Bool) → due ≡ false → (cause || due) ≡ cause
cause_alone true due none = refl
cause_alone false due none = none

-- a call fails for its cause alone
pub fails_by_cause : (old new : Option Failing) (cause fails : Bool) → NoneIsListed old
    → FailsAsListed old new cause fails → fails ≡ cause
fails_by_cause None new cause fails none listed = absurd none
fails_by_cause (Some calls) new cause fails none listed =
    listed.1
    ∙ cause_alone cause (is_to_fail calls) (ap (list_any (λ call. call == calls.next)) none)

there_is : (x : Told (List ℕ)) (one : List ℕ) → x ≡ There one → is_told_missing x ≡ false
there_is x one e = ap is_told_missing e

is_there : (file : List ℕ → Told (List ℕ)) (names files : List (List ℕ)) (n : ℕ)
    → map file names ≡ map There files → n < length names
    → is_told_missing (file (get_or names n [])) ≡ false
is_there file [] files n told room = absurd (omega (arith, room))
is_there file (name ∷ names) [] n told room = cc
is_there file (name ∷ names) (one ∷ files) zero told room = there_is (file name) one cc
is_there file (name ∷ names) (one ∷ files) (suc n) told room =
    let rest : map file names ≡ map There files = cc in
    let within : n < length names = omega (arith, room) in
    is_there file names files n rest within

failed_so : {T : Type 0} (result : Result T Fetch) → IsErrOf result fetch.Failed
    → has_failed result ≡ true
failed_so result e = ap has_failed e

unlike : (b : Bool) → b ≡ true → b ≡ false → ⊥
unlike b is not = grind (arith, is, not)

-- the load of a file that is there doesn't fail
pub loads_there : {N : Type 0} (text : N → List ℕ) (file now : List ℕ → Told (List ℕ))
    (mid new : Option Failing) (names : List N) (none : N) (i : ℕ) (fails : Bool)
    → i < length names → now ≡ file
    → FailsAsListed mid new (is_told_missing (now (text (get_or names i none)))) fails
    → NoneIsListed mid → AreThere file (map text names) → fails ≡ false
loads_there text file now mid new names none i fails room same listed unlisted there =
    let here : get_or (map text names) i [] ≡ text (get_or names i none) =
    get_or-map text names i none [] room in
    let within : i < length (map text names) = omega (arith, room, length-map names text) in
    let cause : is_told_missing (now (text (get_or names i none))) ≡ false =
    ap (λ (f : List ℕ → Told (List ℕ)). is_told_missing (f (text (get_or names i none)))) same
    ∙ ap (λ (w : List ℕ). is_told_missing (file w)) (sym here)
    ∙ is_there file (map text names) there.0 i there.1 within in
    fails_by_cause mid new _ fails unlisted listed ∙ cause

-- and so it isn't a failed one
pub no_failure : {E : Type 0} (T : Type 0) (why : Fetch) (answer : Result E Fetch)
    → has_failed {T = T} (Err why) ≡ false → (answer ≡ Err fetch.Failed → why ≡ fetch.Failed)
    → answer ≡ Err fetch.Failed → ⊥
no_failure T why answer fine same e =
    unlike (has_failed {T = T} (Err why)) (ap (λ (w : Fetch). has_failed {T = T} (Err w)) (same e)) fine
