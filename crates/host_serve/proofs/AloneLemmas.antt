-- Turns of a host's passes that were never split, on the histories of all sessions.
use Rattle.std.proofs.Common.{◌≡◌, ◌≢◌, ◌⊎◌, inl, inr, ℕ, ◌<◌, ◌≤◌, List, [], ◌∷◌, ◌++◌, length}
use Rattle.std.proofs.Common.{map, set, refl, sym, ap, ◌∙◌, subst, arith, Option, Some, None}
use Rattle.std.proofs.lemmas.Bool.{cases_eq, cases_lt}
use Rattle.std.proofs.lemmas.List.{map-append, get_or_past, get_or-set_same, get_or-set_other}
use Rattle.std.proofs.lemmas.List.{set-get_or, set_past}
use Rattle.std.proofs.lemmas.List.FromFn.{get_or-map-range_with_len, length-map-range_with_len}
use Rattle.gate_journal.specs.Log.{rows_kept}
use Rattle.gate_journal.specs.Rows.{commands_of}
use Rattle.gate_journal.specs.declared.command.Command.{Command}
use Rattle.gate_journal.specs.declared.row.Row.{Row}
use Rattle.host_serve.specs.Chain.{Answers, AnswersInOrder, TurnsIn, TurnsOnNone}
use Rattle.host_serve.specs.Holders.{Holder, IsAloneHolder, holder_at, seen_at}
use Rattle.host_serve.specs.Hosts.{sessions_below}
use Rattle.host_serve.specs.Opening.{histories_in_rows, lone, roots}
use Rattle.host_serve.specs.Serves.{AnsweredLine, MayMeetIn}
use Rattle.host_serve.specs.Serves.{decided_on_line, own_world, turned_again}
use Rattle.host_serve.proofs.ChainLemmas.{answer_wide}
use Rattle.line_words.specs.declared.reply.Reply.{Reply}
use Rattle.session_core.specs.declared.entry.Entry.{Entry}
use Rattle.session_core.specs.declared.entry.Entry.TheVariants as entries
use Rattle.session_core.specs.declared.entry.Outcome.{Outcome}
use Rattle.session_core.specs.declared.entry.Outcome.TheVariants.{OutOfMemory}
use Rattle.session_core.specs.Hosts.{entries_of, session_on}
use Rattle.host_serve.specs.Alone.{AreMet, histories_after, histories_met, replies_met, said_at}
use Rattle.host_serve.specs.Alone.{turn_on_line}
use Rattle.host_serve.specs.Said.{said_in, said_on, turn_said_in, turn_said_on}
use Rattle.session_core.specs.declared.decision.Decision.{Decision}
use Rattle.session_core.specs.Turning.{AddsTo, MayMeet, Turned, commands_in, entry_by}
use Rattle.host_serve.proofs.SaidLemmas.{said_adds, says_alike, turns_said_alike}
use Rattle.session_desk.specs.Shared.{unnumbered}
use Rattle.session_desk.specs.Turn.{history_in}
use Rattle.session_desk.proofs.SharedLemmas.{history_in-kept, unnumbered-all}
use Rattle.story_run.specs.declared.story.Story.{Story}
use Rattle.story_run.specs.World.{WorldState}

abbrev Histories : Type 0
Histories = List (List Entry)

-- ---- who holds the passes of a host that was just opened

lone_there : (s : ℕ) → s < 64 → holder_at roots s ≡ lone
unfolding sessions_below
lone_there s below = get_or-map-range_with_len (λ (t : ℕ). lone) 0 64 s s _ below (omega arith)

pub alone_there : (s : ℕ) → s < 64 → IsAloneHolder (holder_at roots s)
alone_there s below = subst IsAloneHolder (sym (lone_there s below)) (refl, refl)

pub many_histories : (rows : List Row) → length (histories_in_rows rows) ≡ 64
unfolding sessions_below
many_histories rows = length-map-range_with_len (history_in (rows_kept rows)) 0 64

pub history_there : (rows : List Row) (s : ℕ) → s < 64
    → seen_at (histories_in_rows rows) s ≡ history_in (rows_kept rows) s
unfolding sessions_below
history_there rows s below =
    get_or-map-range_with_len (history_in (rows_kept rows)) 0 64 s s [] below (omega arith)

module _ (stories : List Story) (budget : ℕ) where
  -- ---- a turn in the session's own world

  own_decides : (history : List Entry) (t : AnsweredLine) → t.world ≡ own_world stories history
      → decided_on_line stories budget history t
      ≡ said_on stories budget (commands_in history) t.line
  own_decides history t own =
      ap (λ (w : Option WorldState). said_in stories budget (commands_in history) w t.line) own
      ∙ says_alike stories budget (commands_in history) t.line

  own_turns : (history : List Entry) (by : ℕ) (t : AnsweredLine)
      → t.world ≡ own_world stories history
      → turned_again stories budget history by t
      ≡ turn_said_on stories budget history by t.line t.outcome
  own_turns history by t own =
      ap (λ (w : Option WorldState). turn_said_in stories budget history w by t.line t.outcome) own
      ∙ turns_said_alike stories budget history by t.line t.outcome

  own_may : (history : List Entry) (t : AnsweredLine) → t.world ≡ own_world stories history
      → MayMeetIn stories budget history t
      → MayMeet (said_on stories budget (commands_in history) t.line).accepted t.outcome
  own_may history t own met =
      subst (λ (d : Decision). MayMeet d.accepted t.outcome) (own_decides history t own) met

  -- ---- one line

  -- its turn is that of the session that it names, on that session's history
  pub record IsMet (old : Histories) (t : AnsweredLine) (new : Histories) : Type 0 where
    pub may : MayMeet (said_at stories budget old t.line).accepted t.outcome
    pub said : t.reply ≡ (turn_on_line stories budget old 0 t.line t.outcome).reply
    pub after : new ≡ histories_after stories budget old 0 t.line t.outcome

  -- a line that names no session is answered on an empty history
  met_nowhere : (old : Histories) (t : AnsweredLine) (new : Histories) → length old ≡ 64
      → session_on t.line ≡ 64
      → TurnsOnNone stories budget old t new → IsMet old t new
  met_nowhere old t new wide none n =
      let far : length old ≤ session_on t.line = omega (arith, wide, none) in
      let empty : entries_of old (session_on t.line) ≡ [] =
      get_or_past old (session_on t.line) [] far in
      record {
        may =
            subst (λ (b : List Entry). MayMeet
            (said_on stories budget (commands_in b) t.line).accepted t.outcome) (sym empty)
            (own_may [] t n.world n.met);
        said = n.reply ∙ (ap (λ (u : Turned). u.reply) (own_turns [] 0 t n.world)
            ∙ ap (λ (b : List Entry). (turn_said_on stories budget b 0 t.line t.outcome).reply)
            (sym empty));
        after =
            n.seen ∙ sym (set_past old (session_on t.line)
            (turn_on_line stories budget old 0 t.line t.outcome).history far);
      }

  -- and so is one whose reading found no memory
  wanted_memory : (h : List Entry) (line : List ℕ)
      → (turn_said_on stories budget h 0 line OutOfMemory).history ≡ h
  unfolding turn_said_on
  wanted_memory h line = refl

  same_wanted : (h g : List Entry) (line : List ℕ)
      → (turn_said_on stories budget h 0 line OutOfMemory).reply
      ≡ (turn_said_on stories budget g 0 line OutOfMemory).reply
  unfolding turn_said_on
  same_wanted h g line = refl

  may_want : (accepted : Option Command) → MayMeet accepted OutOfMemory
  may_want None = tt
  may_want (Some command) = tt

  met_wanting : (old : Histories) (t : AnsweredLine) (new : Histories) → t.outcome ≡ OutOfMemory
      → TurnsOnNone stories budget old t new → IsMet old t new
  met_wanting old t new wanted n =
      let h : List Entry = entries_of old (session_on t.line) in
      record {
        may =
            subst (λ (o : Outcome). MayMeet (said_at stories budget old t.line).accepted o)
            (sym wanted) (may_want (said_at stories budget old t.line).accepted);
        said = n.reply ∙ (ap (λ (u : Turned). u.reply) (own_turns [] 0 t n.world)
            ∙ subst (λ (o : Outcome). (turn_said_on stories budget [] 0 t.line o).reply
            ≡ (turn_said_on stories budget h 0 t.line o).reply) (sym wanted)
            (same_wanted [] h t.line));
        after = n.seen ∙ sym (ap (λ (x : List Entry). set old (session_on t.line) x)
            (subst (λ (o : Outcome). (turn_said_on stories budget h 0 t.line o).history ≡ h)
            (sym wanted) (wanted_memory h t.line))
            ∙ set-get_or old (session_on t.line) []);
      }

  -- ---- lines one after the other

  pub record AreMetBy (old : Histories) (turns : List AnsweredLine) (new : Histories) : Type 0 where
    pub met : AreMet stories budget old 0 (map (λ (t : AnsweredLine). t.line) turns)
        (map (λ (t : AnsweredLine). t.outcome) turns)
    pub said : map (λ (t : AnsweredLine). t.reply) turns ≡ replies_met stories budget old 0
        (map (λ (t : AnsweredLine). t.line) turns) (map (λ (t : AnsweredLine). t.outcome) turns)
    pub after : new ≡ histories_met stories budget old 0 (map (λ (t : AnsweredLine). t.line) turns)
        (map (λ (t : AnsweredLine). t.outcome) turns)

  met_more : (old : Histories) (t : AnsweredLine) (mid : Histories) (turns : List AnsweredLine)
      (new : Histories)
      → IsMet old t mid → AreMetBy mid turns new → AreMetBy old (t ∷ turns) new
  met_more old t mid turns new one more =
      let lines : List (List ℕ) = map (λ (u : AnsweredLine). u.line) turns in
      let outcomes : List Outcome = map (λ (u : AnsweredLine). u.outcome) turns in
      record {
        met = (
          one.may,
          subst (λ (h : Histories). AreMet stories budget h 0 lines outcomes) one.after
              more.met,
        );
        said = ap (λ (r : Reply). r ∷ map (λ (u : AnsweredLine). u.reply) turns) one.said
            ∙ ap
            (λ (rs : List Reply). (turn_on_line stories budget old 0 t.line t.outcome).reply ∷ rs)
            (more.said ∙ ap (λ (h : Histories). replies_met stories budget h 0 lines outcomes)
            one.after);
        after =
            more.after ∙ ap (λ (h : Histories). histories_met stories budget h 0 lines outcomes)
            one.after;
      }

  -- ---- the one pass has the number 0

  own_entry : (e : Entry) → entry_by e ≡ 0 → unnumbered e ≡ e
  own_entry (entries.Accepted by command) is = ap (λ (n : ℕ). entries.Accepted n command) (sym is)
  own_entry (entries.Faulted by from to) is = ap (λ (n : ℕ). entries.Faulted n from to) (sym is)

  own_more : (h after : List Entry) → map unnumbered h ≡ h → AddsTo h 0 after
      → map unnumbered after ≡ after
  own_more h after own (inl same) = subst (λ (l : List Entry). map unnumbered l ≡ l) (sym same) own
  own_more h after own (inr more) = subst (λ (l : List Entry). map unnumbered l ≡ l) (sym more.1)
      (map-append unnumbered h (more.0 ∷ [])
      ∙ ap (λ (l : List Entry). l ++ unnumbered more.0 ∷ []) own
      ∙ ap (λ (e : Entry). h ++ e ∷ []) (own_entry more.0 more.2))

  -- all entries of these histories are that pass's
  abbrev pub AreOwn : Histories → Type 0
  AreOwn histories = (s : ℕ) → map unnumbered (seen_at histories s) ≡ seen_at histories s

  own_at : (old : Histories) (s k : ℕ) (after : List Entry) → (s ≡ k) ⊎ (s ≢ k) → AreOwn old
      → map unnumbered after ≡ after
      → map unnumbered (seen_at (set old k after) s) ≡ seen_at (set old k after) s
  own_at old s k after (inr other) own is =
      subst (λ (l : List Entry). map unnumbered l ≡ l)
      (sym (get_or-set_other old k s after [] other)) (own s)
  own_at old s k after (inl same) own is = elim (cases_lt k (length old)) [
    | inl within ↦ subst (λ (l : List Entry). map unnumbered l ≡ l)
        (sym (ap (λ (i : ℕ). seen_at (set old k after) i) same
        ∙ get_or-set_same old k after [] within)) is
    | inr past ↦ subst (λ (hs : Histories). map unnumbered (seen_at hs s) ≡ seen_at hs s)
        (sym (set_past old k after past)) (own s)
  ]

  pub own_rows : (rows : List Row) → AreOwn (histories_in_rows rows)
  own_rows rows s = elim (cases_lt s 64) [
    | inl below ↦ subst (λ (l : List Entry). map unnumbered l ≡ l)
        (sym (history_there rows s below ∙ history_in-kept rows s))
        (unnumbered-all (commands_of rows s))
    | inr past ↦ subst (λ (l : List Entry). map unnumbered l ≡ l)
        (sym (get_or_past (histories_in_rows rows) s [] (omega (arith, past, many_histories rows))))
        refl
  ]

  -- on a sound host, as `sound` says
  module _ (sound : Type 0) where
    -- in its session, where its pass is alone
    met_in : sound → (old : Histories) (t : AnsweredLine) (new : Histories) (h : Holder)
        (after : List Entry) → h ≡ lone → t.mark.session ≡ session_on t.line
        → TurnsIn stories budget sound h (seen_at old t.mark.session) t after
        → new ≡ set old t.mark.session after → IsMet old t new
    met_in holds old t new h after is there i is_new =
        let before : i.before ≡ entries_of old (session_on t.line) =
        i.alone (subst IsAloneHolder (sym is) (refl, refl))
        ∙ ap (λ (k : ℕ). seen_at old k) there in
        let turned : turned_again stories budget i.before h.number t
        ≡ turn_on_line stories budget old 0
        t.line t.outcome
        = own_turns i.before h.number t (i.own holds)
        ∙ (ap (λ (b : List Entry). turn_said_on stories budget b h.number t.line t.outcome) before
        ∙ ap (λ (g : Holder).
        turn_said_on stories budget (entries_of old (session_on t.line)) g.number t.line t.outcome)
        is) in
        record {
          may =
              subst (λ (b : List Entry). MayMeet
              (said_on stories budget (commands_in b) t.line).accepted t.outcome) before
              (own_may i.before t (i.own holds) i.met);
          said = i.reply ∙ ap (λ (u : Turned). u.reply) turned;
          after =
              is_new ∙ ap (λ (k : ℕ). set old k after) there
              ∙ ap (λ (x : List Entry). set old (session_on t.line) x)
              (i.history ∙ ap (λ (u : Turned). u.history) turned);
        }

    pub met_one : sound → (old : Histories) (t : AnsweredLine) (new : Histories) → length old ≡ 64
        → Answers stories budget sound roots old t new → IsMet old t new
    met_one holds old t new wide (inl o) =
        met_in holds old t new (holder_at roots t.mark.session) o.after
        (lone_there t.mark.session o.session.0) o.session.1 o.turn o.seen
    met_one holds old t new wide (inr n) = elim n.none.2 [
      | inl nowhere ↦ met_nowhere old t new wide nowhere n
      | inr wanted ↦ met_wanting old t new wanted n
    ]

    pub met_all : sound
        → (old : Histories) (turns : List AnsweredLine) (new : Histories)
        → length old ≡ 64
        → AnswersInOrder stories budget sound roots old turns new → AreMetBy old turns new
    met_all holds old [] new wide c = record { met = tt; said = refl; after = c }
    met_all holds old (t ∷ turns) new wide c =
        met_more old t c.0 turns new (met_one holds old t c.0 wide c.1)
        (met_all holds c.0 turns new (answer_wide stories budget sound roots old t c.0 wide c.1)
        c.2)

    own_in : (old : Histories) (t : AnsweredLine) (h : Holder) (after : List Entry)
        → h ≡ lone → AreOwn old
        → TurnsIn stories budget sound h (seen_at old t.mark.session) t after
        → map unnumbered after ≡ after
    own_in old t h after is own i =
        let before : i.before ≡ seen_at old t.mark.session =
        i.alone (subst IsAloneHolder (sym is) (refl, refl)) in
        own_more i.before after (subst (λ (l : List Entry). map unnumbered l ≡ l) (sym before)
        (own t.mark.session))
        (subst (λ (l : List Entry). AddsTo i.before 0 l) (sym i.history)
        (subst (λ (g : Holder). AddsTo i.before g.number
        (turned_again stories budget i.before h.number t).history) is
        (said_adds stories budget i.before t.world h.number t.line t.outcome)))

    own_one : (old : Histories) (t : AnsweredLine) (new : Histories) → AreOwn old
        → Answers stories budget sound roots old t new → AreOwn new
    own_one old t new own (inl o) =
        λ s. subst (λ (hs : Histories). map unnumbered (seen_at hs s) ≡ seen_at hs s) (sym o.seen)
        (own_at old s t.mark.session o.after (cases_eq s t.mark.session) own
        (own_in old t (holder_at roots t.mark.session) o.after
        (lone_there t.mark.session o.session.0) own o.turn))
    own_one old t new own (inr n) = subst AreOwn (sym n.seen) own

    pub own_all : (old : Histories) (turns : List AnsweredLine) (new : Histories) → length old ≡ 64
        → AreOwn old → AnswersInOrder stories budget sound roots old turns new → AreOwn new
    own_all old [] new wide own c = subst AreOwn (sym c) own
    own_all old (t ∷ turns) new wide own c =
        own_all c.0 turns new (answer_wide stories budget sound roots old t c.0 wide c.1)
        (own_one old t c.0 own c.1) c.2
