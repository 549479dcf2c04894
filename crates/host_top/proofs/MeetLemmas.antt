-- The turns of `pipe`, whose passes are alone.
use Rattle.std.proofs.Common.{◌≡◌, inl, inr, ℕ, ◌<◌, ◌≤◌, List, [], ◌∷◌, length, set, refl, sym, ap}
use Rattle.std.proofs.Common.{◌∙◌, subst, arith, Option, Some, None}
use Rattle.std.proofs.lemmas.List.{get_or_past, set-get_or, set_past}
use Rattle.std.proofs.lemmas.List.FromFn.{get_or-map-range_with_len}
use Rattle.gate_journal.specs.declared.command.Command.{Command}
use Rattle.host_serve.specs.Chain.{Answers, AnswersInOrder, TurnsIn, TurnsOnNone}
use Rattle.host_serve.specs.Holders.{Holder, IsAloneHolder, holder_at, seen_at}
use Rattle.host_serve.specs.Hosts.{sessions_below}
use Rattle.host_serve.specs.Opening.{lone, roots}
use Rattle.host_serve.specs.Serves.{MayMeetIn, AnsweredLine, turned_again}
use Rattle.host_serve.proofs.AloneLemmas.{AreMetBy, met_all}
use Rattle.host_serve.proofs.ChainLemmas.{answer_wide}
use Rattle.session_core.specs.Hosts.{entries_of, session_on}
use Rattle.host_serve.specs.Said.{turn_said_in}
use Rattle.session_core.specs.Turning.{MayMeet, Turned}
use Rattle.session_core.specs.declared.entry.Entry.{Entry}
use Rattle.session_core.specs.declared.entry.Outcome.{Outcome}
use Rattle.session_core.specs.declared.entry.Outcome.TheVariants.{OutOfMemory}
use Rattle.story_run.specs.World.{WorldState}
use Rattle.story_run.specs.declared.story.Story.{Story}
use Rattle.host_top.specs.Piped.{Lead, LeadAlone, decision_held, turn_held}

abbrev Histories : Type 0
Histories = List (List Entry)

lone_there : (s : ℕ) → s < 64 → holder_at roots s ≡ lone
unfolding sessions_below
lone_there s below = get_or-map-range_with_len (λ (t : ℕ). lone) 0 64 s s _ below (omega arith)

module _ (stories : List Story) (budget : ℕ) where
  record IsLed (old : Histories) (t : AnsweredLine) (new : Histories) : Type 0 where
    pub may : MayMeet (decision_held stories budget old t).accepted t.outcome
    pub said : t.reply ≡ (turn_held stories budget old t).reply
    pub after : new ≡ set old (session_on t.line) (turn_held stories budget old t).history

  -- a line that names no session is answered on an empty history
  led_nowhere : (old : Histories) (t : AnsweredLine) (new : Histories) → length old ≡ 64
      → session_on t.line ≡ 64 → TurnsOnNone stories budget old t new → IsLed old t new
  led_nowhere old t new wide none n =
      let far : length old ≤ session_on t.line = omega (arith, wide, none) in
      let empty : entries_of old (session_on t.line) ≡ [] =
      get_or_past old (session_on t.line) [] far in
      record {
        may = subst (λ (b : List Entry). MayMeetIn stories budget b t) (sym empty) n.met;
        said =
            n.reply
            ∙ ap (λ (b : List Entry). (turned_again stories budget b 0 t).reply) (sym empty);
        after =
            n.seen ∙ sym (set_past old (session_on t.line) (turn_held stories budget old t).history
            far);
      }

  -- and so is one whose reading found no memory
  wanted_memory : (h : List Entry) (now : Option WorldState) (line : List ℕ)
      → (turn_said_in stories budget h now 0 line OutOfMemory).history ≡ h
  unfolding turn_said_in
  wanted_memory h now line = refl

  same_wanted : (h g : List Entry) (now : Option WorldState) (line : List ℕ)
      → (turn_said_in stories budget h now 0 line OutOfMemory).reply
      ≡ (turn_said_in stories budget g now 0 line OutOfMemory).reply
  unfolding turn_said_in
  same_wanted h g now line = refl

  may_want : (accepted : Option Command) → MayMeet accepted OutOfMemory
  may_want None = tt
  may_want (Some command) = tt

  led_wanting : (old : Histories) (t : AnsweredLine) (new : Histories) → t.outcome ≡ OutOfMemory
      → TurnsOnNone stories budget old t new → IsLed old t new
  led_wanting old t new wanted n =
      let h : List Entry = entries_of old (session_on t.line) in
      record {
        may =
            subst (λ (o : Outcome). MayMeet (decision_held stories budget old t).accepted o)
            (sym wanted) (may_want (decision_held stories budget old t).accepted);
        said =
            n.reply ∙ subst (λ (o : Outcome).
            (turn_said_in stories budget [] t.world 0 t.line o).reply
            ≡ (turn_said_in stories budget h t.world 0 t.line o).reply) (sym wanted)
            (same_wanted [] h t.world t.line);
        after = n.seen ∙ sym (ap (λ (x : List Entry). set old (session_on t.line) x)
            (subst (λ (o : Outcome). (turn_said_in stories budget h t.world 0 t.line o).history ≡ h)
            (sym wanted) (wanted_memory h t.world t.line))
            ∙ set-get_or old (session_on t.line) []);
      }

  led_then : (old : Histories) (t : AnsweredLine) (mid : Histories) (turns : List AnsweredLine)
      (new : Histories)
      → IsLed old t mid → Lead stories budget mid turns new
      → Lead stories budget old (t ∷ turns) new
  led_then old t mid turns new one more =
      (one.may, one.said, subst (λ (h : Histories). Lead stories budget h turns new) one.after more)

  module _ (sound : Type 0) where
    -- in its session, where its pass is alone
    led_in : (old : Histories) (t : AnsweredLine) (new : Histories) (h : Holder)
        (after : List Entry)
        → h ≡ lone → t.mark.session ≡ session_on t.line
        → TurnsIn stories budget sound h (seen_at old t.mark.session) t after
        → new ≡ set old t.mark.session after → IsLed old t new
    led_in old t new h after is there i is_new =
        let before : i.before ≡ entries_of old (session_on t.line) =
        i.alone (subst IsAloneHolder (sym is) (refl, refl))
        ∙ ap (λ (k : ℕ). seen_at old k) there in
        let turned : turned_again stories budget i.before h.number t
        ≡ turn_held stories budget old t
        =
        ap (λ (b : List Entry). turned_again stories budget b h.number t) before
        ∙ ap (λ (g : Holder). turned_again stories budget (entries_of old (session_on t.line))
        g.number t) is in
        record {
          may = subst (λ (b : List Entry). MayMeetIn stories budget b t) before i.met;
          said = i.reply ∙ ap (λ (u : Turned). u.reply) turned;
          after =
              is_new ∙ ap (λ (k : ℕ). set old k after) there
              ∙ ap (λ (x : List Entry). set old (session_on t.line) x)
              (i.history ∙ ap (λ (u : Turned). u.history) turned);
        }

    led_one : (old : Histories) (t : AnsweredLine) (new : Histories) → length old ≡ 64
        → Answers stories budget sound roots old t new → IsLed old t new
    led_one old t new wide (inl o) =
        led_in old t new (holder_at roots t.mark.session) o.after
        (lone_there t.mark.session o.session.0) o.session.1 o.turn o.seen
    led_one old t new wide (inr n) = elim n.none.2 [
      | inl nowhere ↦ led_nowhere old t new wide nowhere n
      | inr wanted ↦ led_wanting old t new wanted n
    ]

    pub led_all : (old : Histories) (turns : List AnsweredLine) (new : Histories) → length old ≡ 64
        → AnswersInOrder stories budget sound roots old turns new
        → Lead stories budget old turns new
    led_all old [] new wide c = c
    led_all old (t ∷ turns) new wide c =
        led_then old t c.0 turns new (led_one old t c.0 wide c.1)
        (led_all c.0 turns new (answer_wide stories budget sound roots old t c.0 wide c.1) c.2)

    pub led_alone : sound → (old : Histories) (turns : List AnsweredLine) (new : Histories)
        → length old ≡ 64 → AnswersInOrder stories budget sound roots old turns new
        → LeadAlone stories budget old turns new
    led_alone holds old turns new wide c =
        let m : AreMetBy stories budget old turns new =
        met_all stories budget sound holds old turns new wide c in
        record { met = m.met; replies = m.said; accepted = m.after }
