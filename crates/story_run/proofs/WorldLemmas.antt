-- Inputs that aren't wanted, and worlds of their fields.
use Rattle.std.proofs.Common.{◌≡◌, ◌∙◌, ◌⊎◌, inl, inr, ℕ, subst, sym}
use Rattle.std.proofs.Common.{Bool, true, false, refl, ap, cond, List}
use Rattle.story_text.specs.declared.input.Input.{Input}
use Rattle.story_text.specs.declared.input.Input.TheVariants.{Line, Char, File, Size}
use Rattle.glk_input.specs.declared.request.WindowInput.{WindowInput}
use Rattle.std.proofs.Common.{[], ◌∷◌, map}
use Rattle.glk_windows.specs.Output.{content_kept, window_kept}
use Rattle.glk_windows.specs.declared.window.Content.{Content}
use Rattle.glk_windows.specs.declared.window.Content.TheVariants as content
use Rattle.glk_windows.specs.declared.window.Window.{Window}
use Rattle.glk_dispatch.specs.Events.{is_awaited}
use Rattle.glk_dispatch.specs.Glk.{turn_begun}
use Rattle.vm_exec.specs.declared.machine.Machine.{Machine}
use Rattle.glk_dispatch.specs.Valid.{IsValidGlk, WaitsFor}
use Rattle.glk_dispatch.specs.declared.glk.Glk.{Glk}
use Rattle.story_run.specs.World.{IsStageOf, StandsAt, answer_awaited}
use Rattle.story_run.specs.Solo.{is_over, is_at_end, is_wanted}
use Rattle.story_run.specs.Solo.{world_after_input, stage_wants, world_after_turn}
use Rattle.story_run.specs.World.{WorldState}
use Rattle.story_run.specs.declared.stage.Stage.{Stage}
use Rattle.story_run.specs.declared.stage.Stage.TheVariants.{AtSelect, AtPrompt, Quit, Fault}

at_end-wants : (s : Stage) (r : List WindowInput) (input : Input) → is_at_end s ≡ true
    → stage_wants s r input ≡ false
at_end-wants (AtSelect m) r input e = absurd cc
at_end-wants (AtPrompt m) r input e = absurd cc
at_end-wants Quit r input e = refl
at_end-wants (Fault n) r input e = refl

pub over-wants : (w : WorldState) (input : Input) → is_over w ≡ true → is_wanted w input ≡ false
unfolding is_over is_wanted
over-wants w input e = at_end-wants w.stage w.glk.requests input e

pub unwanted-turned : (w : WorldState) (input : Input) → is_wanted w input ≡ false
    → world_after_input w input ≡ w
unfolding world_after_input
unwanted-turned w input e =
    ap (λ (b : Bool). cond b (world_after_turn w w.stage input) w) e

-- what a story that waits wants may be delivered
awaits : (stage : Stage) (ws : List WindowInput) (input : Input)
    → stage_wants stage ws input ≡ true
    → is_awaited ws input ≡ true
awaits (AtSelect m) ws (Line win text key) e = e
awaits (AtSelect m) ws (Char win code) e = e
awaits (AtSelect m) ws (File name) e = refl
awaits (AtSelect m) ws (Size cols rows) e = refl
awaits (AtPrompt m) ws (Line win text key) e = absurd cc
awaits (AtPrompt m) ws (Char win code) e = absurd cc
awaits (AtPrompt m) ws (File name) e = refl
awaits (AtPrompt m) ws (Size cols rows) e = absurd cc
awaits Quit ws input e = absurd cc
awaits (Fault n) ws input e = absurd cc

pub awaited : (w v : WorldState) (input : Input)
    → w ≡ v → is_wanted v input ≡ true
    → is_awaited w.glk.requests input ≡ true
unfolding is_wanted
awaited w v input same e =
    subst (λ (x : WorldState). is_awaited x.glk.requests input ≡ true) (sym same)
    (awaits v.stage v.glk.requests input e)

-- the machine of a story that waits comes of the world's seed
pub seed-of : (image : List ℕ) (seed : ℕ) (stage : Stage) (m : Machine) → IsStageOf image seed stage
    → (stage ≡ AtSelect m) ⊎ (stage ≡ AtPrompt m) → m.random.seed ≡ seed
seed-of image seed (AtSelect n) m h (inl e) =
    let same : n ≡ m = cc in sym (ap (λ (x : Machine). x.random.seed) same) ∙ h.begun
seed-of image seed (AtSelect n) m h (inr e) = absurd cc
seed-of image seed (AtPrompt n) m h (inl e) = absurd cc
seed-of image seed (AtPrompt n) m h (inr e) =
    let same : n ≡ m = cc in sym (ap (λ (x : Machine). x.random.seed) same) ∙ h.begun
seed-of image seed Quit m h (inl e) = absurd cc
seed-of image seed Quit m h (inr e) = absurd cc
seed-of image seed (Fault n) m h (inl e) = absurd cc
seed-of image seed (Fault n) m h (inr e) = absurd cc

-- ---- the counts of a turn

kept-content : (c : Content) → content_kept (content_kept c) ≡ content_kept c
kept-content (content.Pair p) = refl
kept-content content.Blank = refl
kept-content (content.Buffer b) = refl
kept-content (content.Grid g) = refl

kept-windows : (ws : List Window) → map window_kept (map window_kept ws) ≡ map window_kept ws
kept-windows [] = refl
kept-windows (w ∷ ws) =
    ap (λ (c : Content). record w { content = c } ∷ map window_kept (map window_kept ws))
    (kept-content w.content)
    ∙ ap (λ (xs : List Window). window_kept w ∷ xs) (kept-windows ws)

-- what is set back twice is set back once
pub begun-again : (g : Glk) → turn_begun (turn_begun g) ≡ turn_begun g
begun-again g =
    ap (λ (ws : List Window). record (turn_begun g) { windows = record g.windows { slots = ws } })
    (kept-windows g.windows.slots)

-- ---- worlds of their fields

pub stands-of : (s : Stage) (g : Glk) → IsValidGlk g → WaitsFor (answer_awaited s) g → StandsAt s g
stands-of s g valid waits = record { valid = valid; waits = waits }
