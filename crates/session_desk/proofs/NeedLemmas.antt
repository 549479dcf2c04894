-- Where an answer needs the world, it is by the world.
use Rattle.std.proofs.Common.{◌≡◌, ◌⊎◌, inl, inr, refl, Bool, true, false, List, [], ◌∷◌}
use Rattle.std.proofs.Common.{Option, Some, None, is_none}
use Rattle.std.proofs.lemmas.Bool.{and_parts}
use Rattle.gate_journal.specs.declared.command.Command.{Command}
use Rattle.line_words.specs.declared.request.Request.{Request}
use Rattle.line_words.specs.declared.reply.No.{No}
use Rattle.line_words.specs.declared.reply.No.TheVariants as no
use Rattle.story_run.specs.declared.story.Story.{Story}
use Rattle.story_run.specs.World.{WorldState}
use Rattle.session_core.specs.History.{game_of}
use Rattle.session_core.specs.Checks.{comes_late, is_full, is_unwanted}
use Rattle.session_core.specs.Answer.{accepted_by, first_refusal, plain_checks, refusal_in}
use Rattle.session_core.proofs.RefusalLemmas.{past_plain}
use Rattle.session_desk.specs.Laws.{IsByWorld, WorldIsNeeded}
use Rattle.session_desk.specs.Verdict.{foretold, is_to_story, needs_world, verdict_by}
use Rattle.session_desk.proofs.NowLemmas.{asks_no_world}

-- none, or one of the three refusals that come last
abbrev IsLate : Option No → Type 0
IsLate refusal =
    (refusal ≡ None)
    ⊎ ((refusal ≡ Some no.Over) ⊎ ((refusal ≡ Some no.Unwanted) ⊎ (refusal ≡ Some no.Full)))

last_three : (late unwanted full : Bool)
    → IsLate (first_refusal
    ((late, no.Over) ∷ (unwanted, no.Unwanted) ∷ (full, no.Full) ∷ []))
last_three true unwanted full = inr (inl refl)
last_three false true full = inr (inr (inl refl))
last_three false false true = inr (inr (inr refl))
last_three false false false = inl refl

taken : (accepted : Option Command) → IsByWorld (verdict_by None accepted)
taken (Some c) = inr (inl refl)
taken None = inl refl

told_by : (stories : List Story) (history : List Command) (now : Option WorldState)
    (request : Request)
    → IsLate (refusal_in now stories history (game_of history) request)
    → IsByWorld (foretold stories history now request)
told_by stories history now request (inl none) =
    rw none (taken (accepted_by stories (game_of history) request))
told_by stories history now request (inr (inl over)) = rw over (inr (inr (inl refl)))
told_by stories history now request (inr (inr (inl unwanted))) =
    rw unwanted (inr (inr (inr (inl refl))))
told_by stories history now request (inr (inr (inr full))) =
    rw full (inr (inr (inr (inr refl))))

none_of : (o : Option No) → is_none o ≡ true → o ≡ None
none_of None e = refl
none_of (Some why) e = absurd cc

by_world : (stories : List Story) (history : List Command) (request : Request)
    → needs_world stories (game_of history) request ≡ true
    → (world : WorldState) → IsByWorld (foretold stories history (Some world) request)
by_world stories history request needs world =
    let g = game_of history in
    let plain = first_refusal (plain_checks stories g request) in
    let none = none_of plain (and_parts (is_none plain) (is_to_story g request) needs).0 in
    told_by stories history (Some world) request
    (rw (past_plain (Some world) stories history g request none)
    (last_three (comes_late (Some world) stories g request)
    (is_unwanted (Some world) stories g request) (is_full history g request)))

pub world_is_needed : WorldIsNeeded
world_is_needed = record {
  free = λ stories history request none now other.
      asks_no_world stories history now other request none;
  needed = by_world;
}
