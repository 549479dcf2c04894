-- Texts that are written in parts (own).
use Rattle.std.specs.Prelude.{◌≡◌, ℕ, List, ◌++◌}
use Rattle.line_talk.specs.Causes.{Rose}
use Rattle.line_talk.specs.Streams.{SinkState, Wrote}
use Rattle.line_talk.specs.declared.sink.Stop.{Stop}
use Rattle.line_talk.specs.declared.sink.Stop.TheVariants.{Output}

-- a part of a text that stands at its front
abbrev pub IsPartOf : List ℕ → List ℕ → Type 0
IsPartOf part text = (rest : List ℕ) × (text ≡ part ++ rest)

-- what was written of a text so far, and what is left of it
pub record WroteUpTo (old new : SinkState) (text rest : List ℕ) : Type 0 where
  pub part : List ℕ
  pub split : text ≡ part ++ rest
  pub wrote : Wrote old new part

-- a part of a text was written; the cause is the output only where the sink's faults rose
pub record Stopped (old new : SinkState) (text : List ℕ) (cause : Stop) : Type 0 where
  pub rest : List ℕ
  pub wrote : WroteUpTo old new text rest
  pub rose : cause ≡ Output → Rose old.faults new.faults
