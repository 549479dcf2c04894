-- Loads, one after the other, by the calls that are to fail.
use Rattle.std.proofs.Common.{◌≡◌, ◌∙◌, ◌⊎◌, inl, inr, ℕ, suc, ◌+◌, ◌<◌, ◌≤◌, Bool, true, false}
use Rattle.std.proofs.Common.{◌||◌, List, [], map, length, get_or, refl, sym, ap, subst, arith}
use Rattle.std.proofs.Common.{add-one, Option, None, Some, IfSome, IsSomeAnd, IsOk, Result, Err}
use Rattle.std.proofs.lemmas.Bool.{cases_lt}
use Rattle.std.proofs.lemmas.List.{get_or-map, length-map}
use Rattle.command_words.specs.Words.{Asked}
use Rattle.line_talk.specs.Failing.{Failing, FailsAsListed, is_to_fail}
use Rattle.host_top.specs.Files.{Told, has_failed, is_told_missing}
use Rattle.host_top.specs.Loads.{LoadFails, LoadsAll, LoadsInOrder, MakesLoads, NoneFails}
use Rattle.host_top.specs.Loads.{calls_behind, fails_at}
use Rattle.host_top.specs.Status.{status_of}
use Rattle.host_top.specs.Stories.{AreFiles, IsLoadSettled, stories_of}
use Rattle.host_top.specs.declared.outside.Fetch.{Fetch}
use Rattle.host_top.specs.declared.outside.Fetch.TheVariants as fetch
use Rattle.host_top.specs.declared.status.Status.{Status}
use Rattle.host_top.specs.declared.status.Status.TheVariants.{ReadFault, NoMemory}
use Rattle.host_top.proofs.ToldLemmas.{whatever_is_asked}

-- what holds of each that may be told
pub where_told : {A : Type 0} (o : Option A) (P : A → Type 0) → ((a : A) → o ≡ Some a → P a)
    → IfSome o P
where_told None P f = tt
where_told (Some a) P f = f a refl

module _ {N : Type 0} (text : N → List ℕ) (file now : List ℕ → Told (List ℕ))
    (mid new : Option Failing) (names : List N) (none : N) (i : ℕ) (fails : Bool)
    (calls : Failing) (room : i < length names) (same : now ≡ file)
    (listed : FailsAsListed mid new (is_told_missing (now (text (get_or names i none)))) fails)
    (made : MakesLoads file (map text names) calls mid i) where
  by_calls : FailsAsListed (Some (calls_behind i calls)) new
      (is_told_missing (now (text (get_or names i none)))) fails
  by_calls = subst (λ (o : Option Failing). FailsAsListed o new
      (is_told_missing (now (text (get_or names i none)))) fails) made.made listed

  -- the next load fails as it is told
  pub fails_next : fails_at file (map text names) calls i ≡ fails
  fails_next =
      let here : get_or (map text names) i [] ≡ text (get_or names i none) =
      get_or-map text names i none [] room in
      let cause : is_told_missing (file (get_or (map text names) i []))
      ≡ is_told_missing (now (text (get_or names i none)))
      =
      ap (λ (w : List ℕ). is_told_missing (file w)) here
      ∙ ap (λ (f : List ℕ → Told (List ℕ)). is_told_missing (f (text (get_or names i none))))
      (sym same) in
      ap (λ (b : Bool). b || is_to_fail (calls_behind i calls)) cause ∙ sym by_calls.1

  -- and where it didn't, one more was made
  pub one_more : fails ≡ false → MakesLoads file (map text names) calls new (i + 1)
  one_more fine = record {
    made = by_calls.0 ∙ ap (λ (k : ℕ). Some (calls_behind k calls)) (sym (add-one i));
    none_failed = λ k lt. elim (cases_lt k i) [
      | inl before ↦ made.none_failed k before
      | inr from ↦
          let same_place : k ≡ i = omega (arith, from, lt) in
          ap (fails_at file (map text names) calls) same_place ∙ fails_next ∙ fine
    ];
  }

  -- and where it did, those before it are the first
  pub fails_here : {F : Type 0} (contents : F → List ℕ) (files : List F) → length files ≡ i
      → AreFiles file (map text names) (map contents files)
      → IsOk (stories_of (map contents files)) → fails ≡ true
      → LoadFails file (map text names) calls
  fails_here contents files count are stories failed =
      let many : i ≡ length (map contents files) = sym (length-map files contents ∙ count) in
      record {
        front = map contents files;
        are_files = are;
        are_stories = stories;
        none_before = subst (NoneFails file (map text names) calls) many made.none_failed;
        within = omega (arith, many, room, length-map names text);
        fails =
            ap (fails_at file (map text names) calls) (sym many) ∙ fails_next ∙ failed;
      }

-- a call that answers so has failed
pub failed_by : {E : Type 0} (T : Type 0) (why : Fetch) (answer : Result E Fetch)
    → (answer ≡ Err fetch.Failed → why ≡ fetch.Failed) → answer ≡ Err fetch.Failed
    → has_failed {T = T} (Err why) ≡ true
failed_by T why answer same e = ap (λ (w : Fetch). has_failed {T = T} (Err w)) (same e)

module _ (file : List ℕ → Told (List ℕ)) (names : List (List ℕ)) (failing now : Option Failing)
    (status : Status) (Failed : Type 0) where
  pub all_in_order : {F : Type 0} (contents : F → List ℕ) (files : List F)
      → AreFiles file names (map contents files) → IsLoadSettled names (map contents files)
      → (status ≡ ReadFault → Failed)
      → ((calls : Failing) → failing ≡ Some calls → MakesLoads file names calls now (length files))
      → IfSome failing (λ calls. LoadsInOrder file names calls status Failed)
  all_in_order contents files are settled cause made =
      where_told failing (λ calls. LoadsInOrder file names calls status Failed)
      (λ calls told. inl (
        record {
          files = map contents files;
          are_files = are;
          settled = settled;
          none_failed =
              subst (NoneFails file names calls) (sym (length-map files contents))
              (made calls told).none_failed;
        },
        cause,
      ))

  pub failed_in_order : status ≡ ReadFault
      → ((calls : Failing) → failing ≡ Some calls → LoadFails file names calls)
      → IfSome failing (λ calls. LoadsInOrder file names calls status Failed)
  failed_in_order is fails =
      where_told failing (λ calls. LoadsInOrder file names calls status Failed)
      (λ calls told. inr (inl (fails calls told, is)))

  pub wanted_in_order : status ≡ NoMemory
      → IfSome failing (λ calls. LoadsInOrder file names calls status Failed)
  wanted_in_order is =
      where_told failing (λ calls. LoadsInOrder file names calls status Failed)
      (λ calls told. inr (inr is))

-- whatever is asked, where memory is wanted first
pub loads_no_memory : (asked : Option Asked) (code : ℕ) (file : List ℕ → Told (List ℕ))
    (failing : Option Failing) (Failed : Type 0)
    → status_of code ≡ Some NoMemory
    → IfSome asked (λ one. IsSomeAnd (status_of code)
    (λ status. IfSome failing (λ calls. LoadsInOrder file one.names calls status Failed)))
loads_no_memory asked code file failing Failed is =
    whatever_is_asked asked (λ (one : Asked). IsSomeAnd (status_of code)
    (λ status. IfSome failing (λ calls. LoadsInOrder file one.names calls status Failed)))
    (λ one. subst (λ (s : Option Status). IsSomeAnd s
    (λ status. IfSome failing (λ calls. LoadsInOrder file one.names calls status Failed)))
    (sym is) (wanted_in_order file one.names failing failing NoMemory Failed refl))
