-- Turns of one session, by what they met.
use Rattle.std.proofs.Common.{◌≡◌, inl, inr, ap, sym, ◌∙◌, Option, Some, None}
use Rattle.gate_journal.specs.declared.command.Command.{Command}
use Rattle.line_words.specs.declared.reply.Reply.{Reply}
use Rattle.session_core.specs.declared.decision.Decision.{Decision}
use Rattle.session_core.specs.declared.entry.Outcome.{Outcome}
use Rattle.session_core.specs.declared.entry.Outcome.TheVariants.{Answered, Forgotten, OutOfMemory}
use Rattle.session_core.specs.Turning.{MayMeet}
use Rattle.session_desk.specs.Turn.{AcceptsNothing}
use Rattle.session_desk.specs.declared.turned.Turned.{Turned}

-- a decision that accepts nothing
abbrev pub quiet : Reply → Decision
quiet reply = record { reply = reply; accepted = None }

-- memory may run out, whatever is decided
pub may_forget : (accepted : Option Command) → MayMeet accepted OutOfMemory
may_forget None = tt
may_forget (Some c) = tt

kept_apart : (outcome : Outcome) → outcome ≡ Answered → outcome ≡ Forgotten → ⊥
kept_apart outcome is e = absurd (let both = sym is ∙ e in cc)

wanted_apart : (outcome : Outcome) → outcome ≡ OutOfMemory → outcome ≡ Forgotten → ⊥
wanted_apart outcome is e = absurd (let both = sym is ∙ e in cc)

-- a turn that accepts nothing forgets no command
pub not_forgotten : (d : Decision) (t : Turned) → AcceptsNothing d t → t.outcome ≡ Forgotten → ⊥
not_forgotten d t (inl is) e = wanted_apart t.outcome (ap (λ (t : Turned). t.outcome) is) e
not_forgotten d t (inr is) e = kept_apart t.outcome is.1 e
