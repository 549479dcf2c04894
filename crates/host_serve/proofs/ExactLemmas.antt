-- What a turn replies, by what it meets.
use Rattle.std.proofs.Common.{◌≡◌, ◌⊎◌, ℕ, Option, Some, None, List, [], ◌∷◌, ◌++◌, length, refl}
use Rattle.std.proofs.Common.{ap, sym, ◌∙◌, inl, inr, arith}
use Rattle.std.specs.Prelude.{slice_get}
use Rattle.std.proofs.lemmas.List.{same_from_push}
use Rattle.disk_model.specs.Disk.{Rose}
use Rattle.gate_journal.specs.declared.command.Command.{Command}
use Rattle.line_words.specs.declared.reply.No.TheVariants as no
use Rattle.line_words.specs.declared.reply.Reply.{Reply}
use Rattle.line_words.specs.declared.reply.Reply.TheVariants as replies
use Rattle.story_run.specs.declared.story.Story.{Story}
use Rattle.session_core.specs.declared.entry.Entry.{Entry}
use Rattle.session_core.specs.declared.entry.Entry.TheVariants.{Faulted}
use Rattle.session_core.specs.declared.entry.Outcome.{Outcome}
use Rattle.session_core.specs.declared.entry.Outcome.TheVariants.{Answered, DiskFailed, OutOfMemory}
use Rattle.session_core.specs.declared.entry.Outcome.TheVariants.{Forgotten}
use Rattle.session_core.specs.Turning.{MayMeet, turn_met}
use Rattle.host_serve.specs.Holders.{Holder, holder_at, seen_at}
use Rattle.host_serve.specs.Said.{turn_said_in}
use Rattle.host_serve.specs.Serves.{AnsweredLine, AddsItsEntry, AddsNothing, IsExact}
use Rattle.host_serve.specs.Serves.{MayMeetIn, decided_on_line, marked, turned}
use Rattle.host_serve.proofs.ListLemmas.{length_more}

-- the reply that is decided, or want of memory, or a fault that is added
abbrev Replies : Reply → List Entry → ℕ → Reply → List Entry → Type 0
Replies decision before by reply after = (reply ≡ decision)
    ⊎ (reply ≡ replies.No no.NoMemory)
    ⊎ ((from : ℕ) × (to : ℕ) × (reply ≡ replies.No (no.DiskFault from to))
    × (after ≡ before ++ Faulted by from to ∷ []) × Rose from to)

met_replies : (h : List Entry) (by : ℕ) (reply : Reply) (accepted : Option Command)
    (outcome : Outcome) → MayMeet accepted outcome
    → Replies reply h by (turn_met h by reply accepted outcome).reply
    (turn_met h by reply accepted outcome).history
met_replies h by reply None Answered met = inl refl
met_replies h by reply None (DiskFailed from to) met = absurd met
met_replies h by reply None OutOfMemory met = inr (inl refl)
met_replies h by reply None Forgotten met = absurd met
met_replies h by reply (Some command) Answered met = inl refl
met_replies h by reply (Some command) (DiskFailed from to) met =
    inr (inr (from, to, refl, refl, met))
met_replies h by reply (Some command) OutOfMemory met = inr (inl refl)
met_replies h by reply (Some command) Forgotten met = inr (inl refl)

module _ (stories : List Story) (budget : ℕ) (holders : List Holder) (new : List (List Entry))
    (t : AnsweredLine) where
  turned_replies : MayMeetIn stories budget (marked new t) t
      → Replies (decided_on_line stories budget (marked new t) t).reply (marked new t)
      (holder_at holders t.mark.session).number (turned stories budget holders new t).reply
      (turned stories budget holders new t).history
  unfolding turn_said_in
  turned_replies met = met_replies (marked new t) (holder_at holders t.mark.session).number
      (decided_on_line stories budget (marked new t) t).reply
      (decided_on_line stories budget (marked new t) t).accepted t.outcome met

  -- an entry that is added stands there
  stands_there : (e : Entry)
      → AddsNothing stories budget holders new t ⊎ AddsItsEntry stories budget holders new t
      → (turned stories budget holders new t).history ≡ marked new t ++ e ∷ []
      → slice_get (seen_at new t.mark.session) t.mark.length ≡ Some e
  stands_there e (inl nothing) is =
      let a = ap (λ (l : List Entry). length l) (sym nothing ∙ is) in
      let b = length_more (marked new t) e in absurd (omega arith)
  stands_there e (inr adds) is =
      adds.2
      ∙ ap Some (same_from_push (marked new t) (marked new t) adds.0 e (sym adds.1 ∙ is)).1

  pub exact : t.reply ≡ (turned stories budget holders new t).reply
      → AddsNothing stories budget holders new t ⊎ AddsItsEntry stories budget holders new t
      → MayMeetIn stories budget (marked new t) t → IsExact stories budget holders new t
  exact reply adds met = of (turned_replies met)
    where
      of : Replies (decided_on_line stories budget (marked new t) t).reply (marked new t)
          (holder_at holders t.mark.session).number (turned stories budget holders new t).reply
          (turned stories budget holders new t).history → IsExact stories budget holders new t
      of (inl as_decided) = inl (reply ∙ as_decided)
      of (inr (inl wants)) = inr (inl (reply ∙ wants))
      of (inr (inr f)) = inr (inr (
        f.0,
        f.1,
        reply ∙ f.2,
        stands_there (Faulted (holder_at holders t.mark.session).number f.0 f.1) adds f.3,
        f.4,
      ))
