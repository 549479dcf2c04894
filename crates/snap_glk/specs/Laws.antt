-- What ties a Glk state to its fields (own).
use Rattle.std.specs.Prelude.{◌≡◌, ℕ}
use Rattle.glk_dispatch.specs.Glk.{turn_begun}
use Rattle.glk_dispatch.specs.Valid.{IsValidGlk}
use Rattle.glk_dispatch.specs.declared.glk.Glk.{Glk}
use Rattle.glk_dispatch.specs.declared.glk.Prompt.{Prompt}
use Rattle.snap_glk.specs.Made.{glk_with_fields}
use Rattle.snap_glk.specs.Told.{glk_fields}
use Rattle.snap_glk.specs.declared.fields.GlkFields.{GlkFields}

-- a valid Glk state, whose counts, clearings and texts of the last turn are set back, is made again
-- of its fields, its screen and what it waits with
abbrev pub GivesBackGlk : Type 0
GivesBackGlk =
    (g : Glk) → IsValidGlk g → turn_begun g ≡ g
    → glk_with_fields g.cols g.rows g.event g.prompt (glk_fields g) ≡ g

-- the fields of what is made of fields are these
abbrev pub TakesFieldsBack : Type 0
TakesFieldsBack =
    (cols rows event : ℕ) (prompt : Prompt) (f : GlkFields)
    → glk_fields (glk_with_fields cols rows event prompt f) ≡ f

-- what is made of fields is between two turns: no count, no clearing and no text of one is there
abbrev pub StandsBetweenTurns : Type 0
StandsBetweenTurns =
    (cols rows event : ℕ) (prompt : Prompt) (f : GlkFields)
    → turn_begun (glk_with_fields cols rows event prompt f)
    ≡ glk_with_fields cols rows event prompt f
