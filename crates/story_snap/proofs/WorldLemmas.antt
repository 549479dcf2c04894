-- Worlds are made again of their fields.
use Rattle.std.proofs.Common.{◌≡◌, ◌∙◌, ap, refl, subst, sym, ℕ}
use Rattle.std.proofs.Common.{List, Option, Some, None, option_map}
use Rattle.glulx_image.specs.Header.{IsLaidOut}
use Rattle.glk_dispatch.specs.Glk.{turn_begun}
use Rattle.glk_dispatch.specs.Valid.{IsValidGlk}
use Rattle.glk_dispatch.specs.declared.glk.Glk.{Glk}
use Rattle.glk_dispatch.specs.declared.glk.Prompt.{Prompt}
use Rattle.snap_fields.specs.Laws.{SpellsFields}
use Rattle.snap_fields.specs.Printing.{print_fields}
use Rattle.snap_fields.specs.declared.fields.Fields.{Fields}
use Rattle.snap_fields.specs.declared.fields.SnapSetup.{SnapSetup}
use Rattle.snap_fields.specs.declared.fields.SnapWaiting.{SnapWaiting}
use Rattle.snap_fields.proofs.WholeLaws as spelled
use Rattle.snap_glk.specs.Made.{glk_with_fields}
use Rattle.snap_glk.specs.Texts.{AreTexts}
use Rattle.snap_glk.specs.Told.{glk_fields}
use Rattle.snap_glk.specs.declared.fields.GlkFields.{GlkFields}
use Rattle.snap_glk.proofs.BackLemmas as glk
use Rattle.snap_machine.specs.Fields.{fields_with}
use Rattle.snap_machine.specs.Parts.{machine_parts, store}
use Rattle.snap_machine.specs.declared.parts.MachineParts.{MachineParts}
use Rattle.snap_machine.proofs.GiveLemmas as machine
use Rattle.story_run.specs.Fields.{stage_of, world_of_fields}
use Rattle.story_run.specs.Solo.{last_lines}
use Rattle.story_run.specs.World.{IsStageOf, IsValidWorld, StandsAt, WorldState}
use Rattle.story_run.specs.declared.fields.StageFields.{StageFields}
use Rattle.story_run.specs.declared.fields.StageFields.TheVariants as fields
use Rattle.story_run.specs.declared.stage.Stage.{Stage}
use Rattle.story_run.specs.declared.stage.Stage.TheVariants.{AtSelect, AtPrompt, Quit, Fault}
use Rattle.story_snap.specs.Bytes.{HasBytes, HasRomsAt, IsWorldOf}
use Rattle.story_snap.specs.Fields.{fields_of, all_fields, stage_parts, world_setup, waiting_of}
use Rattle.story_snap.specs.Made.{event_in, glk_in, glk_made, machine_in, prompt_in}
use Rattle.story_snap.specs.Made.{stage_made, world_made}

-- a stage is made again of its parts
record IsBack (image : List ℕ) (seed : ℕ) (g : Glk) (s : Stage) : Type 0 where
  fields : StageFields
  made : stage_made image seed (stage_parts image s) (waiting_of g s) ≡ Some fields
  same : stage_of image fields ≡ s

stage-back : (image : List ℕ) (seed : ℕ) (g : Glk) (s : Stage) → IsLaidOut image
    → IsStageOf image seed s → HasRomsAt s → IsBack image seed g s
stage-back image seed g (AtSelect m) laid v roms =
    let b = machine.given_back image m laid v.waiting.fit v.waiting.over v.room roms in record {
      fields = fields.AtSelect b.fields;
      made = subst (λ (n : ℕ). option_map fields.AtSelect
          (fields_with image n (machine_parts m) (store m)) ≡ Some (fields.AtSelect b.fields))
          v.begun (ap (option_map fields.AtSelect) b.found);
      same = ap AtSelect (b.same b.fields b.found);
    }
stage-back image seed g (AtPrompt m) laid v roms =
    let b = machine.given_back image m laid v.waiting.fit v.waiting.over v.room roms in record {
      fields = fields.AtPrompt b.fields;
      made = subst (λ (n : ℕ). option_map fields.AtPrompt
          (fields_with image n (machine_parts m) (store m)) ≡ Some (fields.AtPrompt b.fields))
          v.begun (ap (option_map fields.AtPrompt) b.found);
      same = ap AtPrompt (b.same b.fields b.found);
    }
stage-back image seed g Quit laid v roms =
    record { fields = fields.Quit; made = refl; same = refl }
stage-back image seed g (Fault n) laid v roms =
    record { fields = fields.Fault n; made = refl; same = refl }

-- what the Glk state waits with is told by what the story waits for
glk-back : (g : Glk) (s : Stage) → StandsAt s g → turn_begun g ≡ g
    → glk_with_fields g.cols g.rows (event_in (waiting_of g s)) (prompt_in (waiting_of g s))
    (glk_fields g) ≡ g
glk-back g (AtSelect m) v begun =
    subst (λ (p : Prompt). glk_with_fields g.cols g.rows g.event p (glk_fields g) ≡ g)
    v.waits (glk.gives-back g v.valid begun)
glk-back g (AtPrompt m) v begun =
    subst (λ (n : ℕ). glk_with_fields g.cols g.rows n g.prompt (glk_fields g) ≡ g)
    v.waits (glk.gives-back g v.valid begun)
glk-back g Quit v begun =
    subst (λ (p : Prompt). glk_with_fields g.cols g.rows 0 p (glk_fields g) ≡ g) v.waits.prompt
    (subst (λ (n : ℕ). glk_with_fields g.cols g.rows n g.prompt (glk_fields g) ≡ g)
    v.waits.event (glk.gives-back g v.valid begun))
glk-back g (Fault n) v begun =
    subst (λ (p : Prompt). glk_with_fields g.cols g.rows 0 p (glk_fields g) ≡ g) v.waits.prompt
    (subst (λ (n : ℕ). glk_with_fields g.cols g.rows n g.prompt (glk_fields g) ≡ g)
    v.waits.event (glk.gives-back g v.valid begun))

-- the same world, with this Glk state and this stage
abbrev with_both : WorldState → Glk → Stage → WorldState
with_both w g s = record w { glk = g; stage = s }

both : (w : WorldState) (g : Glk) (s : Stage) → g ≡ w.glk → s ≡ w.stage → turn_begun w.glk ≡ w.glk
    → with_both w (turn_begun g) s ≡ w
both w g s same-glk same-stage begun =
    ap (λ (h : Glk). with_both w (turn_begun h) s) same-glk
    ∙ ap (λ (h : Glk). with_both w h s) begun
    ∙ ap (λ (t : Stage). with_both w w.glk t) same-stage

own-back : (w : WorldState) → IsWorldOf w.image w → world_made w.image (fields_of w) ≡ Some w
own-back w is =
    let s = stage-back w.image w.seed w.glk w.stage is.laid is.valid.machine is.roms in
    let g = glk-back w.glk w.stage is.valid.glk is.valid.begun in
    ap (option_map _) s.made ∙ ap Some (both w _ _ g s.same is.valid.begun)

pub world-back : (image : List ℕ) (w : WorldState) → IsWorldOf image w
    → world_made image (fields_of w) ≡ Some w
world-back image w is =
    subst (λ (i : List ℕ). world_made i (fields_of w) ≡ Some w) is.over
    (own-back w (subst (λ (i : List ℕ). IsWorldOf i w) (sym is.over) is))

some-is : {A : Type 0} (x y : A) → Some x ≡ Some y → x ≡ y
some-is x y e = cc

pub one-world : (image bytes : List ℕ) (v w : WorldState) → HasBytes image bytes v
    → HasBytes image bytes w → v ≡ w
one-world image bytes v w a b =
    let same : fields_of v ≡ fields_of w = spelled.one_spelling (fields_of v) (fields_of w)
    a.spelled.ranges b.spelled.ranges (sym a.spelled.printed ∙ b.spelled.printed) in
    some-is v w (sym (world-back image v a.world)
    ∙ ap (world_made image) same ∙ world-back image w b.world)

pub one-spelling : (image a b : List ℕ) (w : WorldState) → HasBytes image a w
    → HasBytes image b w → a ≡ b
one-spelling image a b w x y = x.spelled.printed ∙ sym y.spelled.printed

-- ---- what the functions make

pub fields-are : (w : WorldState) (setup : SnapSetup) (parts : MachineParts) (waiting : SnapWaiting)
    (glk : GlkFields) (show : List ℕ) → setup ≡ world_setup w → parts ≡ stage_parts w.image w.stage
    → waiting ≡ waiting_of w.glk w.stage → glk ≡ glk_fields w.glk → show ≡ w.last
    → all_fields setup parts waiting glk show ≡ fields_of w
fields-are w setup parts waiting glk show a b c d e = rw (a, b, c, d, e) refl

pub shown-is : (w : WorldState) → last_lines w ≡ w.last
unfolding last_lines
shown-is w = refl

-- a stage is made of a world's fields
pub stage-is-made : (image : List ℕ) (w : WorldState) (f : Fields) (o : Option StageFields)
    → IsWorldOf image w → f ≡ fields_of w
    → o ≡ stage_made image f.setup.seed (machine_in f) f.waiting → o ≡ None → ⊥
stage-is-made image w f o is same made none =
    let s = stage-back w.image w.seed w.glk w.stage
    (subst IsLaidOut (sym is.over) is.laid) is.valid.machine is.roms in
    let there = subst (λ (i : List ℕ). stage_made i w.seed (stage_parts w.image w.stage)
    (waiting_of w.glk w.stage) ≡ Some s.fields) is.over s.made in
    let here = ap (λ (g : Fields). stage_made image g.setup.seed (machine_in g) g.waiting) same in
    let both : None ≡ Some s.fields = sym none ∙ made ∙ here ∙ there in
    absurd cc

pub glk-is-valid : (image : List ℕ) (w : WorldState) (f : Fields) → IsWorldOf image w
    → f ≡ fields_of w → IsValidGlk (glk_made f)
glk-is-valid image w f is same =
    let g = glk-back w.glk w.stage is.valid.glk is.valid.begun in
    subst IsValidGlk (sym (ap glk_made same ∙ g)) is.valid.glk.valid

pub texts-are : (image : List ℕ) (w : WorldState) (f : Fields) → IsWorldOf image w
    → f ≡ fields_of w → AreTexts (glk_in f)
texts-are image w f is same = subst (λ (g : Fields). AreTexts (glk_in g)) (sym same) is.texts

-- what is made of a world's fields is that world
pub made-is : (image : List ℕ) (w v : WorldState) (f : Fields) → IsWorldOf image w
    → f ≡ fields_of w → world_made image f ≡ Some v → v ≡ w
made-is image w v f is same made =
    some-is v w (sym made ∙ ap (world_made image) same ∙ world-back image w is)

pub world-is-valid : (image : List ℕ) (w v : WorldState) (f : Fields) → IsWorldOf image w
    → f ≡ fields_of w → world_made image f ≡ Some v → IsValidWorld v
world-is-valid image w v f is same made =
    subst IsValidWorld (sym (made-is image w v f is same made)) is.valid

-- fields that the same bytes spell are a world's
pub fields-of-bytes : (image bytes : List ℕ) (w : WorldState) (f : Fields) → HasBytes image bytes w
    → SpellsFields bytes f → f ≡ fields_of w
fields-of-bytes image bytes w f has read =
    spelled.one_spelling f (fields_of w) read.ranges has.spelled.ranges
    (sym read.printed ∙ has.spelled.printed)

-- this world is made of fields that give this stage and this Glk state
pub made-of : (image : List ℕ) (f : Fields) (s : StageFields) (g : Glk) (last : List ℕ)
    → stage_made image f.setup.seed (machine_in f) f.waiting ≡ Some s → g ≡ glk_made f
    → last ≡ f.show
    → world_made image f ≡ Some (world_of_fields image (record {
      seed = f.setup.seed;
      budget = f.setup.budget;
      glk = g;
      stage = s;
      last = last;
    }))
made-of image f s g last a b c = rw (a, b, c) refl

-- two spellings of one world are the same
pub same-bytes : (a b image other : List ℕ) (v w : WorldState) → HasBytes other a v
    → HasBytes image b w → v ≡ w → a ≡ b
same-bytes a b image other v w x y same =
    x.spelled.printed ∙ ap (λ (u : WorldState). print_fields (fields_of u)) same
    ∙ sym y.spelled.printed

-- what is made lies over the image
over-made : (image : List ℕ) (f : Fields) (v : WorldState) (o : Option StageFields)
    → o ≡ stage_made image f.setup.seed (machine_in f) f.waiting → world_made image f ≡ Some v
    → v.image ≡ image
over-made image f v (Some s) e made =
    let there : world_made image f ≡ Some (world_of_fields image (record {
      seed = f.setup.seed;
      budget = f.setup.budget;
      glk = glk_made f;
      stage = s;
      last = f.show;
    })) = made-of image f s (glk_made f) f.show (sym e) refl refl in
    ap (λ (u : WorldState). u.image) (some-is v _ (sym made ∙ there))
over-made image f v None e made =
    let there : world_made image f ≡ None = rw (← e) refl in
    let both : Some v ≡ None = sym made ∙ there in
    absurd cc

pub over-image : (image : List ℕ) (f : Fields) (v : WorldState) → world_made image f ≡ Some v
    → v.image ≡ image
over-image image f v made =
    over-made image f v (stage_made image f.setup.seed (machine_in f) f.waiting) refl made
