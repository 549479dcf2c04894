use Rattle.std.proofs.Common.{◌≡◌, ◌<◌, ◌≤◌, ◌∙◌, ap, refl, arith, List, [], length}
use Rattle.std.proofs.Common.{map, Option, None, Some, ℕ, codes, option_map}
use Rattle.std.proofs.lemmas.Bool.Decides.{nat_tests}
use Rattle.std.proofs.lemmas.List.{length-map}
use Rattle.clap.proofs.WalkLemmas.{raw_values-rows}
use Rattle.clap.specs.Matches.{found_of, matched_of, raw_values}
use Rattle.clap.specs.Walk.{Text, all_of, first_of, rows_of}
use Rattle.clap.specs.declared.parser.matches.Found.{Found}
use Rattle.std.specs.Borrow.{Bor}
use Rattle.command_words.specs.Numbers.{budget_given}
use Rattle.command_words.specs.Words.{asked_for}
use Rattle.command_words.specs.declared.words.Action.{Action}
use Rattle.command_words.proofs.words.command_with.Goals as goal

-- what is asked for, by what was given
no_budget : (action : Action) (folder : Text) (all : Option (List Text))
    → None ≡ asked_for action (Some folder) all None
no_budget action folder None = refl
no_budget action folder (Some names) = refl

too_many : (action : Action) (folder : Text) (names : List Text) (budget : Option ℕ)
    → 64 < length names
    → None ≡ asked_for action (Some folder) (Some names) budget
too_many action folder names None many = refl
too_many action folder names (Some b) many = grind (arith, nat_tests)

as_asked : (action : Action) (folder : Text) (names : List Text) (b : ℕ)
    → length names ≤ 64
    → Some (record {
      action = action;
      folder = folder;
      into = [];
      names = names;
      budget = b;
    })
    ≡ asked_for action (Some folder) (Some names) (Some b)
as_asked action folder names b few = grind (arith, nat_tests)

-- what the matches give, by their rows
files_are : (f : Found) (files : Text) {all : Option (List Text)}
    → all ≡ option_map raw_values (matched_of f files)
    → all ≡ all_of files (rows_of f)
files_are f files e = e ∙ raw_values-rows f files

budget_is : (f : Found) {b : Option ℕ} {word : Option Text}
    → b ≡ budget_given word
    → word ≡ first_of (codes "budget") (rows_of f)
    → b ≡ budget_given (first_of (codes "budget") (rows_of f))
budget_is f e w = e ∙ ap budget_given w

pub returns-in_default : goal.returns-in_default
returns-in_default c =
    rw (← files_are (found_of c.args.matches.now) c.args.files.now c.in_default.ensures) refl

pub returns-in_default-budget_given : goal.returns-in_default-budget_given
returns-in_default-budget_given c =
    rw (← budget_is (found_of c.args.matches.now) c.in_default-budget_given.ensures.value
    c.word_given.ensures)
    (no_budget _ _ _)

pub returns-then-given-gt-MOST_STORIES : goal.returns-then-given-gt-MOST_STORIES
returns-then-given-gt-MOST_STORIES c =
    rw (← files_are (found_of c.args.matches.now) c.args.files.now c.in-Some.ensures)
    (too_many _ _ (map (λ (s : Bor Text). s.now) c.in-Some.given.now) _
    (omega (
      arith,
      length-map c.in-Some.given.now (λ (s : Bor Text). s.now),
      c.if-given-gt-MOST_STORIES.true,
    )))

pub returns : goal.returns
returns c =
    let f = found_of c.args.matches.now in
    let names = c.in_ok-names.ensures.items_if_clones_equal (λ x y h. h) in
    rw (
      ← (ap (λ (l : List (Bor Text)). Some (map (λ (s : Bor Text). s.now) l)) names
          ∙ files_are f c.args.files.now c.in-Some.ensures),
      ← budget_is f c.in-Some-budget_given.ensures.value c.word_given.ensures,
    ) (as_asked _ _ (map (λ (s : Bor Text). s.now) c.in_ok-names.names.items) _
    (omega (
      arith,
      ap (λ (l : List (Bor Text)). length l) names,
      length-map c.in_ok-names.names.items (λ (s : Bor Text). s.now),
      c.if-given-gt-MOST_STORIES.false,
    )))
