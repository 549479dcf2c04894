-- How many turns a warming plays.
use Rattle.std.proofs.Common.{◌≡◌, ◌∙◌, ◌++◌, ◌-◌, ◌==◌, ◌&&◌, ℕ, zero, suc, Bool, true, false}
use Rattle.std.proofs.Common.{List, [], ◌∷◌, length, take, drop, filter, replicate, cond}
use Rattle.std.proofs.Common.{Option, Some, None, refl, ap}
use Rattle.std.proofs.lemmas.List.{length-drop}
use Rattle.story_text.specs.declared.input.Input.{Input}
use Rattle.gate_journal.specs.declared.command.Command.{Command}
use Rattle.gate_journal.specs.declared.command.Command.TheVariants.{Open, Line}
use Rattle.story_run.specs.declared.story.Story.{Story}
use Rattle.story_run.specs.World.{WorldState}
use Rattle.story_run.specs.Solo.{opening, world_after_input, turned_by, world_after}
use Rattle.session_core.specs.History.{game_of}
use Rattle.snap_store.specs.declared.side.Side.TheVariants.{A, B}
use Rattle.snap_store.specs.File.{Stored, area_on_side, gate_byte, area_given, greatest, has_header}
use Rattle.snap_store.specs.File.{is_whole, is_wanted_area, area_listed, newest_area, open_area}
use Rattle.session_saves.specs.Game.{inputs_of, opening_setup, opened_story}
use Rattle.session_saves.specs.Game.{turns_after, turns_of_inputs}
use Rattle.snap_store.specs.File.{area_with}
use Rattle.session_saves.specs.Laws.{AreWanted}
use Rattle.session_saves.specs.Warming.{count_in}
use Rattle.session_saves.proofs.GameLemmas.{wanted_inputs_are_turns}
use Rattle.session_saves.proofs.WarmingLemmas.{at_story}

-- each input of the game is wanted, as it comes
abbrev IsWanted : Story → List Command → Type 0
IsWanted story game =
    AreWanted (opening story.image (opening_setup game)) (inputs_of game)

-- Of a game whose inputs are all wanted, a warming of this OPEN row takes so many turns, where
-- these areas of the file are open: that of A, and that of B.
abbrev Takes : List Command → ℕ → Option Stored → Option Stored → ℕ → Type 0
Takes game place a b turns =
    (stories : List Story) (story : Story) (file : List ℕ)
    → opened_story stories game ≡ Some story → IsWanted story game
    → open_area A file ≡ a → open_area B file ≡ b
    → turns_after stories game
    (count_in (area_given (newest_area place (length (inputs_of game)) file))) ≡ turns

wanted_behind : (n : ℕ) (world : WorldState) (inputs : List Input) → AreWanted world inputs
    → AreWanted (turned_by world (take n inputs)) (drop n inputs)
wanted_behind zero world inputs wanted = wanted
wanted_behind (suc n) world [] wanted = wanted
wanted_behind (suc n) world (x ∷ xs) wanted =
    wanted_behind n (world_after_input world x) xs wanted.1

turns_behind : (stories : List Story) (game : List Command) (story : Story) (n : ℕ)
    → opened_story stories game ≡ Some story → IsWanted story game
    → turns_after stories game n ≡ length (inputs_of game) - n
turns_behind stories game story n there wanted =
    let inputs = inputs_of game in
    ap (λ (o : Option WorldState). turns_of_inputs o (drop n inputs))
    (at_story stories game story n there)
    ∙ wanted_inputs_are_turns (world_after story.image (opening_setup game) (take n inputs))
    (drop n inputs)
    (wanted_behind n (opening story.image (opening_setup game)) inputs wanted)
    ∙ length-drop n inputs

-- the newest of two areas that are open, of this OPEN row and after at most so many inputs
abbrev newest_of : ℕ → ℕ → Option Stored → Option Stored → Option Stored
newest_of place most a b =
    greatest (filter (is_wanted_area place most) (area_listed a ++ area_listed b))

takes : (game : List Command) (place : ℕ) (a b : Option Stored)
    → Takes game place a b
    (length (inputs_of game)
    - count_in (area_given (newest_of place (length (inputs_of game)) a b)))
takes game place a b stories story file there wanted is_a is_b =
    let most = length (inputs_of game) in
    turns_behind stories game story
    (count_in (area_given (newest_area place most file))) there wanted
    ∙ ap (λ (x : Option Stored).
    most - count_in (area_given (newest_of place most x (open_area B file))))
    is_a
    ∙ ap (λ (x : Option Stored). most - count_in (area_given (newest_of place most a x))) is_b

-- an OPEN, and a line to its story
abbrev opens : Command
opens = Open [] 0 [] 0 80 24 1000000

abbrev says : Command
says = Line 1 0 []

-- one game with so many inputs
abbrev game_with : ℕ → List Command
game_with inputs = opens ∷ replicate inputs says

-- the area of an OPEN row after so many inputs
abbrev kept : ℕ → ℕ → List ℕ → Option Stored
kept place count bytes = Some (area_with place count bytes)

-- 20 inputs, and the area after 16
again : (bytes : List ℕ) → Takes (game_with 20) 16 (kept 16 16 bytes) None 4
again bytes = takes (game_with 20) 16 (kept 16 16 bytes) None

-- 16 inputs, and the area after them
nothing_behind : (bytes : List ℕ) → Takes (game_with 16) 16 (kept 16 16 bytes) None 0
nothing_behind bytes = takes (game_with 16) 16 (kept 16 16 bytes) None

-- 3 inputs of a new OPEN; the area is one of the OPEN before
anew : (bytes : List ℕ)
    → Takes (game_of (game_with 20 ++ game_with 3)) 2000 (kept 16 16 bytes) None 3
anew bytes = takes (game_of (game_with 20 ++ game_with 3)) 2000 (kept 16 16 bytes) None

-- more of a new OPEN than are before that area
longer : (bytes : List ℕ)
    → Takes (game_of (game_with 20 ++ game_with 18)) 2000 (kept 16 16 bytes) None 18
longer bytes = takes (game_of (game_with 20 ++ game_with 18)) 2000 (kept 16 16 bytes) None

-- 36 inputs, and the areas after 16 and 32
newest : (bytes more : List ℕ)
    → Takes (game_with 36) 16 (kept 16 16 bytes) (kept 16 32 more) 4
newest bytes more = takes (game_with 36) 16 (kept 16 16 bytes) (kept 16 32 more)

-- the same, but that the gate of the area after 32 is 0
shut : (file : List ℕ) → gate_byte B file ≡ 0 → open_area B file ≡ None
shut file closed =
    ap
    (λ (n : ℕ). cond (has_header file && (n == 1) && is_whole B file) (Some (area_on_side B file))
    None) closed
    ∙ none (has_header file) (is_whole B file) (area_on_side B file)
  where
    none : (header whole : Bool) (area : Stored)
        → cond (header && false && whole) (Some area) None ≡ None
    none true whole area = refl
    none false whole area = refl

closed_gate : (stories : List Story) (story : Story) (file bytes : List ℕ)
    → opened_story stories (game_with 36) ≡ Some story → IsWanted story (game_with 36)
    → open_area A file ≡ kept 16 16 bytes → gate_byte B file ≡ 0
    → turns_after stories (game_with 36) (count_in (area_given (newest_area 16 36 file))) ≡ 20
closed_gate stories story file bytes there wanted is_a gate =
    takes (game_with 36) 16 (kept 16 16 bytes) None stories story file there wanted is_a
    (shut file gate)
