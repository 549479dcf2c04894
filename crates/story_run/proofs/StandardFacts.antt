-- Rows of the profile's tables, so that a wrong rule in the specs does not check.
use Rattle.std.proofs.Common.{◌≡◌, true, false, [], ◌∷◌, map, codes, refl}
use Rattle.std.specs.Fmt.{digits}
use Rattle.vm_exec.specs.declared.machine.Machine.{Machine}
use Rattle.story_text.specs.declared.input.Input.TheVariants.{Line, Char, File, Size}
use Rattle.glk_dispatch.specs.Glk.{empty_screen}
use Rattle.glk_dispatch.specs.declared.called.Called.{Called}
use Rattle.glk_dispatch.specs.declared.glk.Glk.{Glk}
use Rattle.story_show.specs.Lines.{end_line}
use Rattle.story_run.specs.Show.{initial, turn_show}
use Rattle.story_run.specs.Solo.{stage_wants}
use Rattle.story_run.specs.Step.{call_charged, done, faults}
use Rattle.story_run.specs.declared.stage.Stage.TheVariants.{AtPrompt, AtSelect, Quit, Fault}

-- at a select each size of the screen is wanted, and no name of a file
pub select_wants : (m : Machine) → map (stage_wants (AtSelect m) []) (Size 40 10 ∷ File [] ∷ [])
    ≡ true ∷ false ∷ []
select_wants m = refl

-- at a prompt the name of a file is wanted, the empty one too, and nothing else
pub prompt_wants : (m : Machine) → map (stage_wants (AtPrompt m) [])
    (File [] ∷ File (97 ∷ []) ∷ Line 1 [] 0 ∷ Char 1 65 ∷ Size 40 10 ∷ [])
    ≡ true ∷ true ∷ false ∷ false ∷ false ∷ []
prompt_wants m = refl

-- once over nothing is wanted
pub over_wants : map (stage_wants Quit []) (File [] ∷ Line 1 [] 0 ∷ Char 1 65 ∷ Size 40 10 ∷ [])
    ≡ false ∷ false ∷ false ∷ false ∷ []
over_wants = refl

-- a call may read and write as many characters as there are ticks left, and no more
pub just_enough : (g : Glk) (m : Machine) (answer : Called)
    → call_charged 4 4 g m answer ≡ done 0 g m answer
just_enough g m answer = refl

pub one_too_many : (g : Glk) (m : Machine) (answer : Called)
    → call_charged 4 5 g m answer ≡ faults g 24
one_too_many g m answer = refl

-- what a line begins with: a character past memory's end is 0, as is a word that passes it
pub past_the_end : initial 3 false
    (record { bytes = 104 ∷ 105 ∷ []; ramstart = 0; rom = []; endmem = 2 }) 0
    ≡ 104 ∷ 105 ∷ 0 ∷ []
unfolding initial
past_the_end = refl

pub words_past_the_end : initial 2 true
    (record { bytes = 0 ∷ 0 ∷ 1 ∷ 4 ∷ 9 ∷ 9 ∷ []; ramstart = 0; rom = []; endmem = 6 }) 0
    ≡ 260 ∷ 0 ∷ []
unfolding initial
words_past_the_end = refl

-- a prompt for data (usage 0) or a save (1), to be written (mode 1)
pub prompt_shown : (m : Machine)
    → turn_show (record (empty_screen 80 24) { prompt = record { usage = 1; mode = 1; rock = 7 } })
    (AtPrompt m) ≡ codes "P 1 1\n"
unfolding end_line digits
prompt_shown m = refl

pub fault_shown : turn_show (empty_screen 80 24) (Fault 24) ≡ codes "E fault 24\n"
unfolding end_line digits
fault_shown = refl
