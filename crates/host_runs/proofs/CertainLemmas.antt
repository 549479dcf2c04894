-- Where no reply tells a fault of the journal's disk, no gate is uncertain.
use Rattle.std.proofs.Common.{◌≡◌, ◌∙◌, inl, inr, refl, ℕ, ◌+◌, ◌-◌, ◌<◌, ◌≤◌, ◌==◌, Bool}
use Rattle.std.proofs.Common.{true, false, cond, List, [], ◌∷◌, ◌++◌, Option, Some, None, IfSome, ap}
use Rattle.std.proofs.Common.{arith, append_assoc, drop, length, map, set, sym, subst, take}
use Rattle.std.proofs.lemmas.Bool.{cases_lt}
use Rattle.std.proofs.lemmas.Bool.Decides.{nat_tests}
use Rattle.std.proofs.lemmas.List.{get_or-set_other, get_or-set_same, get_or_past, set_past}
use Rattle.std.proofs.lemmas.List.{take-append-drop}
use native.Mathlib.Decide.{ℕ_discrete}
use Rattle.turn_cell.specs.History.{Each}
use Rattle.disk_model.specs.declared.disk.Disk.{Ghosts as DiskWords}
use Rattle.gate_journal.specs.Log.{EndsInFaultOf, IsClosedWell, IsOfSession, MaySpell, rows_of}
use Rattle.gate_journal.specs.Rows.{commands_of}
use Rattle.gate_journal.specs.declared.command.Command.{Command}
use Rattle.gate_journal.specs.declared.entry.Entry.{Entry as JournalEntry}
use Rattle.gate_journal.specs.declared.entry.Entry.TheVariants as journal
use Rattle.gate_journal.specs.declared.row.Row.{Row}
use Rattle.host_serve.specs.Opening.{histories_in_rows}
use Rattle.host_serve.specs.Serves.{AnsweredLine}
use Rattle.host_serve.proofs.AloneLemmas.{history_there, many_histories}
use Rattle.host_top.specs.Piped.{HasEntries, Lead, turn_held}
use Rattle.line_words.specs.declared.reply.Reply.{Reply}
use Rattle.session_core.specs.Hosts.{entries_of, session_on}
use Rattle.host_serve.specs.Said.{said_in, turn_said_in}
use Rattle.session_core.specs.Turning.{commands_in, turn_met}
use Rattle.session_core.specs.declared.entry.Entry.{Entry}
use Rattle.session_core.specs.declared.entry.Entry.TheVariants.{Accepted, Faulted}
use Rattle.session_core.specs.declared.entry.Outcome.{Outcome}
use Rattle.session_core.specs.declared.entry.Outcome.TheVariants.{Answered, DiskFailed}
use Rattle.session_core.specs.declared.entry.Outcome.TheVariants.{OutOfMemory, Forgotten}
use Rattle.session_desk.specs.Turn.{history_in}
use Rattle.session_desk.proofs.SharedLemmas.{history_in-kept}
use Rattle.story_run.specs.declared.story.Story.{Story}
use Rattle.host_runs.specs.Certain.{PipeIsCertain, TellsNoFault}

-- ---- histories without a fault

abbrev AreFaultless : List Entry → Type 0
AreFaultless [] = Unit {0}
AreFaultless (Accepted by c ∷ h) = AreFaultless h
AreFaultless (Faulted by from to ∷ h) = ⊥

one_accepted : (h : List Entry) (by : ℕ) (c : Command)
    → AreFaultless h → AreFaultless (h ++ Accepted by c ∷ [])
one_accepted [] by c none = tt
one_accepted (Accepted b d ∷ h) by c none = one_accepted h by c none
one_accepted (Faulted b f t ∷ h) by c none = absurd none

met_faultless :
    (h : List Entry) (by : ℕ) (reply : Reply) (accepted : Option Command) (outcome : Outcome)
    → AreFaultless h → TellsNoFault (turn_met h by reply accepted outcome).reply
    → AreFaultless (turn_met h by reply accepted outcome).history
met_faultless h by reply None Answered none tells = none
met_faultless h by reply None (DiskFailed from to) none tells = none
met_faultless h by reply None OutOfMemory none tells = none
met_faultless h by reply None Forgotten none tells = none
met_faultless h by reply (Some c) Answered none tells = one_accepted h by c none
met_faultless h by reply (Some c) (DiskFailed from to) none tells = absurd (tells from to refl)
met_faultless h by reply (Some c) OutOfMemory none tells = none
met_faultless h by reply (Some c) Forgotten none tells = one_accepted h by c none

abbrev AllFaultless : List (List Entry) → Type 0
AllFaultless histories = (s : ℕ) → AreFaultless (entries_of histories s)

set_faultless :
    (histories : List (List Entry)) (k : ℕ) (after : List Entry)
    → AllFaultless histories → AreFaultless after → AllFaultless (set histories k after)
set_faultless histories k after all here s = elim (ℕ_discrete s k) [
  | yes same ↦ elim (cases_lt k (length histories)) [
    | inl within ↦ subst AreFaultless
        (sym (ap (λ (i : ℕ). entries_of (set histories k after) i) same
        ∙ get_or-set_same histories k after [] within)) here
    | inr past ↦ subst (λ (hs : List (List Entry)). AreFaultless (entries_of hs s))
        (sym (set_past histories k after past)) (all s)
  ]
  | no other ↦ subst AreFaultless (sym (get_or-set_other histories k s after [] other)) (all s)
]

accepted_all : (commands : List Command) → AreFaultless (map (Accepted 0) commands)
accepted_all [] = tt
accepted_all (c ∷ commands) = accepted_all commands

begin_faultless : (rows : List Row) → AllFaultless (histories_in_rows rows)
begin_faultless rows s = elim (cases_lt s 64) [
  | inl below ↦ subst AreFaultless
      (sym (history_there rows s below ∙ history_in-kept rows s))
      (accepted_all (commands_of rows s))
  | inr past ↦ subst AreFaultless
      (sym (get_or_past (histories_in_rows rows) s [] (omega (arith, past, many_histories rows))))
      tt
]

module _ (stories : List Story) (budget : ℕ) where
  held_faultless :
      (histories : List (List Entry)) (t : AnsweredLine) → AllFaultless histories
      → TellsNoFault (turn_held stories budget histories t).reply
      → AreFaultless (turn_held stories budget histories t).history
  unfolding turn_said_in
  held_faultless histories t all tells =
      let h = entries_of histories (session_on t.line) in
      let d = said_in stories budget (commands_in h) t.world t.line in
      met_faultless h 0 d.reply d.accepted t.outcome (all (session_on t.line)) tells

  lead_faultless :
      (histories : List (List Entry)) (turns : List AnsweredLine) (after : List (List Entry))
      → AllFaultless histories → Lead stories budget histories turns after
      → Each (λ (t : AnsweredLine). TellsNoFault t.reply) turns → AllFaultless after
  lead_faultless histories [] after all led tells = subst AllFaultless (sym led) all
  lead_faultless histories (t ∷ turns) after all led tells =
      lead_faultless
      (set histories (session_on t.line) (turn_held stories budget histories t).history) turns after
      (set_faultless histories (session_on t.line)
      (turn_held stories budget histories t).history all
      (held_faultless histories t all
      (subst TellsNoFault led.1 tells.0))) led.2 tells.1

-- ---- a journal with a fault

own_or : (own : Bool) (e : Entry) (h : List Entry) → AreFaultless (cond own (e ∷ h) h)
    → AreFaultless h
own_or false e h none = none
own_or true (Accepted by c) h none = none
own_or true (Faulted by from to) h none = absurd none

has_fault :
    (front : List JournalEntry) (r : Row) (from to : ℕ) (later : List JournalEntry) (s : ℕ)
    → r.by ≡ s + 1 → AreFaultless (history_in (front ++ journal.Faulted r from to ∷ later) s) → ⊥
has_fault [] r from to later s is none =
    let own : (r.by == s + 1) ≡ true = grind (arith, nat_tests, is) in
    subst (λ (own : Bool).
    AreFaultless (cond own (Faulted 0 from to ∷ history_in later s) (history_in later s))) own none
has_fault (journal.Kept q ∷ front) r from to later s is none =
    has_fault front r from to later s is
    (own_or (q.session == s) (Accepted 0 q.command)
    (history_in (front ++ journal.Faulted r from to ∷ later) s) none)
has_fault (journal.Faulted q f t ∷ front) r from to later s is none =
    has_fault front r from to later s is
    (own_or (q.by == s + 1) (Faulted 0 f t)
    (history_in (front ++ journal.Faulted r from to ∷ later) s) none)

numbered :
    (front : List JournalEntry) (r : Row) (from to : ℕ) (later : List JournalEntry)
    → Each IsOfSession (front ++ journal.Faulted r from to ∷ later) → (0 < r.by) × (r.by ≤ 64)
numbered [] r from to later each = each.0
numbered (x ∷ front) r from to later each = numbered front r from to later each.1

none_failed :
    (n : ℕ) (entries : List JournalEntry) (histories : List (List Entry)) (r : Row)
    → Each IsOfSession entries → HasEntries entries histories → AllFaultless histories
    → EndsInFaultOf r (drop n entries) → ⊥
none_failed n entries histories r each has all ends =
    let front = take n entries ++ ends.front in
    let is : front ++ journal.Faulted r ends.from ends.to ∷ ends.later ≡ entries =
    append_assoc (take n entries) ends.front
    (journal.Faulted r ends.from ends.to ∷ ends.later)
    ∙ ap (λ (es : List JournalEntry). take n entries ++ es) (sym ends.fault)
    ∙ take-append-drop n entries in
    let of : (0 < r.by) × (r.by ≤ 64) =
    numbered front r ends.from ends.to ends.later (subst (Each IsOfSession) (sym is) each) in
    has_fault front r ends.from ends.to ends.later (r.by - 1) (omega (arith, of))
    (subst AreFaultless
    (sym (ap (λ (es : List JournalEntry). history_in es (r.by - 1)) is
    ∙ has (r.by - 1) (omega (arith, of)))) (all (r.by - 1)))

spells_well :
    (rows : List Row) (uncertain : Option Row) (entries : List JournalEntry) (c : List ℕ)
    → IfSome uncertain (λ (r : Row). EndsInFaultOf r entries)
    → ((r : Row) → EndsInFaultOf r entries → ⊥) → MaySpell rows uncertain c → IsClosedWell rows c
spells_well rows None entries c owner none spells = spells
spells_well rows (Some r) entries c owner none spells = absurd (none r owner)

pub pipe_certain : {D : Type 0} (disks : DiskWords D) → PipeIsCertain disks
pipe_certain disks stories budget given givens back backs input now output new served c tells told
    image left =
    spells_well (rows_of c.journal) c.uncertain (drop (length c.rows) c.journal) image c.left.owner
    (λ r ends. none_failed (length c.rows) c.journal c.histories r c.left.numbers c.entries
    (lead_faultless stories budget (histories_in_rows c.rows) c.turns c.histories
    (begin_faultless c.rows) c.led tells) ends)
    (c.images told image left)
