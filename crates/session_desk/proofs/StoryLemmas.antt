-- A game of a session in use begins with its OPEN.
use Rattle.std.proofs.Common.{◌≡◌, ℕ, Bool, true, false, cond, List, [], ◌∷◌, Option, Some, None}
use Rattle.std.proofs.Common.{IsSome, refl}
use Rattle.gate_journal.specs.Rows.{is_open}
use Rattle.gate_journal.specs.declared.command.Command.{Command}
use Rattle.gate_journal.specs.declared.command.Command.TheVariants as commands
use Rattle.story_text.specs.declared.input.Input.{Input}
use Rattle.story_run.specs.declared.setup.Setup.{Setup}
use Rattle.story_run.specs.declared.story.Story.{Story}
use Rattle.story_run.specs.World.{WorldState}
use Rattle.session_core.specs.Checks.{digest_differs, is_other_story}
use Rattle.session_core.specs.History.{game_of, is_in_use, later, story_at}
use Rattle.snap_store.specs.declared.area.Area.{Area}
use Rattle.session_saves.specs.Game.{inputs_of, opening_setup, opened_story}
use Rattle.session_saves.specs.Warming.{WarmsFrom, WarmsIn}

-- a game is empty, or its first command is an OPEN
abbrev BeginsOpen : List Command → Type 0
BeginsOpen [] = Unit {0}
BeginsOpen (c ∷ cs) = is_open c ≡ true

later_open : (c : Command) (cs g : List Command) (opens : Bool)
    → is_open c ≡ opens → BeginsOpen g
    → BeginsOpen (later (cond opens (c ∷ cs) []) g)
later_open c cs [] true e b = e
later_open c cs [] false e b = tt
later_open c cs (d ∷ ds) opens e b = b

begins_open : (cs : List Command) → BeginsOpen (game_of cs)
begins_open [] = tt
begins_open (c ∷ cs) = later_open c cs (game_of cs) (is_open c) refl (begins_open cs)

has_story : (found : Option Story) (digest : List ℕ)
    → digest_differs found digest ≡ false
    → (story : Story) × (found ≡ Some story)
has_story None digest e = absurd cc
has_story (Some story) digest e = (story, refl)

story_in : (stories : List Story) (g : List Command)
    → BeginsOpen g → is_in_use g ≡ true
    → is_other_story stories g ≡ false
    → (story : Story) × (opened_story stories g ≡ Some story)
story_in stories [] b used e = absurd cc
story_in stories (commands.Open key story digest seed cols rows budget ∷ cs) b used e =
    has_story (story_at stories story) digest e
story_in stories (commands.Line win term text ∷ cs) b used e = absurd (let x = b in cc)
story_in stories (commands.Char win code ∷ cs) b used e = absurd (let x = b in cc)
story_in stories (commands.File name ∷ cs) b used e = absurd (let x = b in cc)
story_in stories (commands.Size cols rows ∷ cs) b used e = absurd (let x = b in cc)
story_in stories (commands.Close ∷ cs) b used e = absurd (let x = b in cc)

some_world : (story : Story) (found : Option Story) (setup : Setup) (inputs : List Input)
    (area : Option Area) (world : Option WorldState) (before after : ℕ)
    → found ≡ Some story → WarmsIn found setup inputs area world before after → IsSome world
some_world story None setup inputs area world before after e w = absurd cc
some_world story (Some s) setup inputs area None before after e w = absurd w
some_world story (Some s) setup inputs area (Some x) before after e w = refl

-- so a warming comes to a world
pub warms_some : (told : Bool) (file : List ℕ) (place faults_before faults_now : ℕ)
    (stories : List Story) (cs : List Command) (world : Option WorldState) (before after : ℕ)
    → is_in_use (game_of cs) ≡ true → is_other_story stories (game_of cs) ≡ false
    → WarmsFrom told file place faults_before faults_now stories (game_of cs) world before after
    → IsSome world
warms_some told file place faults_before faults_now stories cs world before after used same w =
    let s = story_in stories (game_of cs) (begins_open cs) used same in
    some_world s.0 (opened_story stories (game_of cs)) (opening_setup (game_of cs))
    (inputs_of (game_of cs)) w.area world before after s.1 w.warms
