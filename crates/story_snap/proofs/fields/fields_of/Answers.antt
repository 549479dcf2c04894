use Rattle.std.proofs.Common.{◌∙◌, ap, refl, subst}
use Rattle.glulx_image.specs.Header.{IsLaidOut}
use Rattle.glk_dispatch.specs.declared.glk.Glk.{Glk}
use Rattle.snap_glk.specs.Texts.{AreTexts}
use Rattle.snap_glk.specs.Told.{glk_fields}
use Rattle.story_snap.specs.Fields.{waiting_of}
use Rattle.story_snap.proofs.WorldLemmas.{fields-are, shown-is}
use Rattle.story_snap.proofs.fields.fields_of.Goals as goal

pub returns-clause-value : goal.returns-clause-value
returns-clause-value c =
    let w = c.args.world.now in
    fields-are w c.setup_of.result c.in_ok-parts.parts c.waiting_of.result c.in_ok-glk.glk
    c.of.result c.setup_of.ensures c.in_ok-parts.ensures.value
    (c.waiting_of.ensures
    ∙ ap (λ (g : Glk). waiting_of g c.stage.result.now) c.glk-2.ensures.value
    ∙ ap (waiting_of w.glk) c.stage.ensures.value)
    (c.in_ok-glk.ensures.value ∙ ap glk_fields c.glk.ensures.value)
    (c.of.ensures ∙ c.in_ok-show.ensures.items ∙ c.last.ensures.value ∙ shown-is w)

pub returns-clause-kept : goal.returns-clause-kept
returns-clause-kept c = record {
  laid = subst IsLaidOut c.image.ensures.value c.endmem-end.ensures.kept;
  over = refl;
  valid = c.stage.ensures.valid;
  roms = c.in_ok-parts.ensures.kept;
  texts = subst AreTexts (c.in_ok-glk.ensures.value ∙ ap glk_fields c.glk.ensures.value)
      c.in_ok-glk.ensures.texts;
}
