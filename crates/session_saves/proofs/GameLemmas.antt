-- The worlds of a game: after all its inputs, with a command more, and from one of them on.
use Rattle.std.proofs.Common.{◌≡◌, ◌∙◌, ◌≤◌, ◌+◌, ℕ, Bool, true, false, List, [], ◌∷◌, ◌++◌, length}
use Rattle.std.proofs.Common.{take, drop, Option, Some, None, cond, refl, sym, ap, arith, ◌-◌, ◌<◌}
use Rattle.std.proofs.Common.{zero, suc, get_or}
use Rattle.std.specs.Prelude.{is_some}
use Rattle.std.proofs.lemmas.List.{length-append, length-drop, take-append-drop, take-append-le}
use Rattle.std.proofs.lemmas.List.{take_all}
use Rattle.std.proofs.Math.Seq.{drop-cons, take-length}
use Rattle.std.proofs.lemmas.List.Elements.{filter_map-append}
use Rattle.std.specs.List.{filter_map}
use Rattle.story_text.specs.declared.input.Input.{Input}
use Rattle.gate_journal.specs.Rows.{is_open}
use Rattle.gate_journal.specs.declared.command.Command.{Command}
use Rattle.gate_journal.specs.declared.command.Command.TheVariants.{Open, Line, Char, File, Close}
use Rattle.gate_journal.specs.declared.command.Command.TheVariants.{Size}
use Rattle.story_run.specs.declared.setup.Setup.{Setup}
use Rattle.story_run.specs.declared.stage.Stage.{Stage}
use Rattle.story_run.specs.declared.stage.Stage.TheVariants.{AtSelect, AtPrompt, Quit, Fault}
use Rattle.story_run.specs.declared.story.Story.{Story}
use Rattle.story_run.specs.World.{WorldState}
use Rattle.story_run.specs.Solo.{world_after_turn, is_wanted, opening}
use Rattle.story_run.specs.Solo.{world_after_input, turned_by, world_after}
use Rattle.session_core.specs.History.{input_of, story_at, world_in, world_of}
use Rattle.session_core.specs.Checks.{is_other_story}
use Rattle.session_core.specs.Turns.{turns_by}
use Rattle.session_saves.specs.Game.{inputs_of, played, opening_setup, opened_story, world_at}
use Rattle.session_saves.specs.Laws.{WantedInputsAreTurns}

-- ---- after all its inputs

played_in : (story : Option Story) (setup : Setup) (after : List Command)
    → played story setup (filter_map input_of after) ≡ world_in story setup after
played_in None setup after = refl
played_in (Some story) setup after = refl

played_all : (story : Option Story) (setup : Setup) (after : List Command)
    → played story setup (take (length (filter_map input_of after))
    (filter_map input_of after)) ≡ world_in story setup after
played_all story setup after =
    ap (λ (l : List Input). played story setup l) (take-length (filter_map input_of after))
    ∙ played_in story setup after

pub world_at-all : (stories : List Story) (game : List Command)
    → world_at stories game (length (inputs_of game)) ≡ world_of stories game
world_at-all stories [] = refl
world_at-all stories (Open key story digest seed cols rows budget ∷ after) =
    played_all (story_at stories story)
    (record { seed = seed; cols = cols; rows = rows; budget = budget }) after
world_at-all stories (Line win term text ∷ after) = refl
world_at-all stories (Char win code ∷ after) = refl
world_at-all stories (File name ∷ after) = refl
world_at-all stories (Size cols rows ∷ after) = refl
world_at-all stories (Close ∷ after) = refl

-- ---- with a command more

story_of-more : (stories : List Story) (game : List Command) (c : Command) → is_open c ≡ false
    → opened_story stories (game ++ c ∷ []) ≡ opened_story stories game
story_of-more stories [] (Open key story digest seed cols rows budget) shut = absurd cc
story_of-more stories [] (Line win term text) shut = refl
story_of-more stories [] (Char win code) shut = refl
story_of-more stories [] (File name) shut = refl
story_of-more stories [] (Size cols rows) shut = refl
story_of-more stories [] Close shut = refl
story_of-more stories (Open key story digest seed cols rows budget ∷ after) c shut = refl
story_of-more stories (Line win term text ∷ after) c shut = refl
story_of-more stories (Char win code ∷ after) c shut = refl
story_of-more stories (File name ∷ after) c shut = refl
story_of-more stories (Size cols rows ∷ after) c shut = refl
story_of-more stories (Close ∷ after) c shut = refl

setup_of-more : (game : List Command) (c : Command) → is_open c ≡ false
    → opening_setup (game ++ c ∷ []) ≡ opening_setup game
setup_of-more [] (Open key story digest seed cols rows budget) shut = absurd cc
setup_of-more [] (Line win term text) shut = refl
setup_of-more [] (Char win code) shut = refl
setup_of-more [] (File name) shut = refl
setup_of-more [] (Size cols rows) shut = refl
setup_of-more [] Close shut = refl
setup_of-more (Open key story digest seed cols rows budget ∷ after) c shut = refl
setup_of-more (Line win term text ∷ after) c shut = refl
setup_of-more (Char win code ∷ after) c shut = refl
setup_of-more (File name ∷ after) c shut = refl
setup_of-more (Size cols rows ∷ after) c shut = refl
setup_of-more (Close ∷ after) c shut = refl

pub is_other_story-more : (stories : List Story) (game : List Command) (c : Command)
    → is_open c ≡ false
    → is_other_story stories (game ++ c ∷ []) ≡ is_other_story stories game
is_other_story-more stories [] (Open key story digest seed cols rows budget) shut = absurd cc
is_other_story-more stories [] (Line win term text) shut = refl
is_other_story-more stories [] (Char win code) shut = refl
is_other_story-more stories [] (File name) shut = refl
is_other_story-more stories [] (Size cols rows) shut = refl
is_other_story-more stories [] Close shut = refl
is_other_story-more stories (Open key story digest seed cols rows budget ∷ after) c shut = refl
is_other_story-more stories (Line win term text ∷ after) c shut = refl
is_other_story-more stories (Char win code ∷ after) c shut = refl
is_other_story-more stories (File name ∷ after) c shut = refl
is_other_story-more stories (Size cols rows ∷ after) c shut = refl
is_other_story-more stories (Close ∷ after) c shut = refl

pub inputs_of-more : (game : List Command) (c : Command)
    → length (inputs_of game) ≤ length (inputs_of (game ++ c ∷ []))
inputs_of-more game c =
    let both : length (inputs_of (game ++ c ∷ [])) ≡ length (inputs_of game) + length
    (inputs_of (c ∷ [])) =
    ap (λ (l : List Input). length l) (filter_map-append input_of game (c ∷ []))
    ∙ length-append (inputs_of game) (inputs_of (c ∷ [])) in
    omega (arith, both)

take-more : (game : List Command) (c : Command) (n : ℕ) → n ≤ length (inputs_of game)
    → take n (inputs_of (game ++ c ∷ [])) ≡ take n (inputs_of game)
take-more game c n le =
    ap (λ (l : List Input). take n l) (filter_map-append input_of game (c ∷ []))
    ∙ take-append-le n (inputs_of game) (inputs_of (c ∷ [])) le

pub world_at-more : (stories : List Story) (game : List Command) (c : Command) (n : ℕ)
    → is_open c ≡ false → n ≤ length (inputs_of game)
    → world_at stories (game ++ c ∷ []) n ≡ world_at stories game n
world_at-more stories game c n shut le =
    ap (λ (o : Option Story). played o (opening_setup (game ++ c ∷ []))
    (take n (inputs_of (game ++ c ∷ [])))) (story_of-more stories game c shut)
    ∙ ap (λ (s : Setup). played (opened_story stories game) s (take n (inputs_of (game ++ c ∷ []))))
    (setup_of-more game c shut)
    ∙ ap (λ (l : List Input). played (opened_story stories game) (opening_setup game) l)
    (take-more game c n le)

-- ---- no more inputs than commands

one_within : (given : Option Input) (c : Command) (cs : List Command) → input_of c ≡ given
    → length (inputs_of cs) ≤ length cs → length (inputs_of (c ∷ cs)) ≤ length (c ∷ cs)
one_within None c cs is le = rw is (omega (arith, le))
one_within (Some x) c cs is le = rw is (omega (arith, le))

pub inputs_within : (game : List Command) → length (inputs_of game) ≤ length game
inputs_within [] = omega arith
inputs_within (c ∷ cs) = one_within (input_of c) c cs refl (inputs_within cs)

-- ---- from one of its worlds on

turned_by-append : (w : WorldState) (xs ys : List Input)
    → turned_by (turned_by w xs) ys ≡ turned_by w (xs ++ ys)
turned_by-append w [] ys = refl
turned_by-append w (x ∷ xs) ys = turned_by-append (world_after_input w x) xs ys

pub turned_by-rest : (w : WorldState) (n : ℕ) (xs : List Input)
    → turned_by (turned_by w (take n xs)) (drop n xs) ≡ turned_by w xs
turned_by-rest w n xs =
    turned_by-append w (take n xs) (drop n xs)
    ∙ ap (λ (l : List Input). turned_by w l) (take-append-drop n xs)

-- ---- behind its first inputs

drop_given :
    (given : Option Input) (c : Command) (cs : List Command) (left : ℕ)
    → input_of c ≡ given → is_some given ≡ true → (left ≡ 0 → ⊥)
    → drop left (inputs_of (c ∷ cs)) ≡ drop (left - 1) (inputs_of cs)
drop_given None c cs left is some e = absurd cc
drop_given (Some x) c cs zero is some e = absurd (e refl)
drop_given (Some x) c cs (suc n) is some e = let less : suc n - 1 ≡ n = omega arith in
    rw (is, less) refl

drop_not_given :
    (given : Option Input) (c : Command) (cs : List Command) (left : ℕ)
    → input_of c ≡ given → is_some given ≡ false
    → drop left (inputs_of (c ∷ cs)) ≡ drop left (inputs_of cs)
drop_not_given None c cs left is none = rw is refl
drop_not_given (Some x) c cs left is none = absurd cc

at_command : (game : List Command) (at : ℕ) (c : Command) → at < length game → c ≡ get_or game at c
    → drop at game ≡ c ∷ drop (at + 1) game
at_command game at c lt e =
    let next : suc at ≡ at + 1 = omega arith in
    drop-cons game at c lt ∙ ap (λ (d : Command). d ∷ drop (suc at) game) (sym e)
    ∙ ap (λ (n : ℕ). c ∷ drop n game) next

pub behind_input : (game : List Command) (at left : ℕ) (c : Command) → at < length game
    → c ≡ get_or game at c
    → is_some (input_of c) ≡ true → (left ≡ 0 → ⊥)
    → drop (left - 1) (inputs_of (drop (at + 1) game)) ≡ drop left (inputs_of (drop at game))
behind_input game at left c lt e some more =
    sym (ap (λ (l : List Command). drop left (inputs_of l)) (at_command game at c lt e)
    ∙ drop_given (input_of c) c (drop (at + 1) game) left refl some more)

pub behind_other : (game : List Command) (at left : ℕ) (c : Command) → at < length game
    → c ≡ get_or game at c
    → is_some (input_of c) ≡ false
    → drop left (inputs_of (drop (at + 1) game)) ≡ drop left (inputs_of (drop at game))
behind_other game at left c lt e none =
    sym (ap (λ (l : List Command). drop left (inputs_of l)) (at_command game at c lt e)
    ∙ drop_not_given (input_of c) c (drop (at + 1) game) left refl none)

none_left : (left : ℕ) (xs : List Input) → left ≡ 0 → drop left xs ≡ xs
none_left left xs e = rw e refl

pub behind_all : (game : List Command) (at left : ℕ) → left ≡ 0
    → inputs_of (take (length game - at) (drop at game)) ≡ drop left (inputs_of (drop at game))
behind_all game at left e =
    ap (λ (l : List Command). inputs_of l)
    (take_all (length game - at) (drop at game) (omega (arith, length-drop at game)))
    ∙ sym (none_left left (inputs_of (drop at game)) e)

-- ---- its image

image-answered : (w : WorldState) (stage : Stage) (input : Input)
    → (world_after_turn w stage input).image ≡ w.image
image-answered w (AtSelect m) input = refl
image-answered w (AtPrompt m) input = refl
image-answered w Quit input = refl
image-answered w (Fault n) input = refl

image-if : (wanted : Bool) (w after : WorldState) → after.image ≡ w.image
    → (cond wanted after w).image ≡ w.image
image-if true w after e = e
image-if false w after e = refl

image-turned : (w : WorldState) (input : Input) → (world_after_input w input).image ≡ w.image
unfolding world_after_input
image-turned w input = image-if (is_wanted w input) w (world_after_turn w w.stage input)
    (image-answered w w.stage input)

image-turned_by : (w : WorldState) (xs : List Input) → (turned_by w xs).image ≡ w.image
image-turned_by w [] = refl
image-turned_by w (x ∷ xs) = image-turned_by (world_after_input w x) xs ∙ image-turned w x

image-opening : (image : List ℕ) (setup : Setup) → (opening image setup).image ≡ image
unfolding opening
image-opening image setup = refl

pub image-world_after : (image : List ℕ) (setup : Setup) (xs : List Input)
    → (world_after image setup xs).image ≡ image
image-world_after image setup xs = image-turned_by (opening image setup) xs
    ∙ image-opening image setup

-- ---- its turns

one_turn : (wanted : Bool) (n : ℕ) → wanted ≡ true → cond wanted 1 0 + n ≡ n + 1
one_turn true n e = omega arith
one_turn false n e = absurd cc

pub wanted_inputs_are_turns : WantedInputsAreTurns
wanted_inputs_are_turns world [] wanted = refl
wanted_inputs_are_turns world (x ∷ xs) wanted =
    let rest = wanted_inputs_are_turns (world_after_input world x) xs wanted.1 in
    let one = one_turn (is_wanted world x) (turns_by (world_after_input world x) xs) wanted.0 in
    omega (arith, rest, one)
