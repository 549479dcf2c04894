-- Turns of a shared desk, by what they met.
use Rattle.std.proofs.Common.{◌≡◌, ◌≢◌, inl, inr, ℕ, ◌+◌, Bool, true, false, List, [], ◌∷◌, ◌++◌}
use Rattle.std.proofs.Common.{Option, Some, None, refl, sym, ap, subst, ◌∙◌}
use Rattle.std.proofs.lemmas.List.{append-nil}
use Rattle.disk_model.specs.declared.disk.Disk.{Ghosts as DiskWords}
use Rattle.turn_cell.specs.History.{Continues, IsForeign}
use Rattle.gate_journal.specs.Log.{entry_number}
use Rattle.gate_journal.specs.declared.command.Command.{Command}
use Rattle.gate_journal.specs.declared.entry.Entry.{Entry as JournalEntry}
use Rattle.line_words.specs.declared.reply.Reply.{Reply}
use Rattle.session_core.specs.declared.decision.Decision.{Decision}
use Rattle.session_core.specs.declared.entry.Entry.{Entry}
use Rattle.session_core.specs.declared.entry.Entry.TheVariants as entries
use Rattle.session_core.specs.declared.entry.Outcome.TheVariants.{Answered, OutOfMemory}
use Rattle.session_core.specs.Answer.{answer_in}
use Rattle.session_core.specs.Checks.{command_of}
use Rattle.session_core.specs.History.{game_of, world_of}
use Rattle.session_core.proofs.RepeatLemmas.{some_is}
use Rattle.line_words.specs.declared.request.Request.{Request}
use Rattle.turn_cell.specs.Passes.{seen}
use Rattle.session_desk.specs.declared.held.Held.{Held}
use Rattle.session_desk.specs.declared.turned.Turned.{Turned}
use Rattle.session_desk.specs.declared.verdict.Verdict.TheVariants.{Cold}
use Rattle.session_desk.specs.Desk.{committed, desk_emptied, DeskState, game, HoldsOwnWorld, ran}
use Rattle.session_desk.specs.Desk.{shown_to}
use Rattle.session_desk.specs.Laws.{decision_by_desk}
use Rattle.session_desk.specs.Shared.{desk_tag, DeskTag, GoesOn, Rests, SharedState, TakesEntry}
use Rattle.session_desk.specs.Shared.{TurnsTo}
use Rattle.session_desk.specs.Sound.{Decides, IsSoundDesk, TurnsBy}
use Rattle.session_desk.specs.Verdict.{lacks_world, verdict}
use Rattle.session_desk.proofs.LawLemmas.{cold_alone}
use Rattle.session_desk.proofs.NowLemmas.{is_by}
use Rattle.session_desk.specs.Turn.{AcceptsNothing, IsShown}
use Rattle.session_desk.proofs.TurnLemmas.{may_forget}

-- as the world is let go
pub rests-emptied : {D : Type 0} (old mid : SharedState D) → Rests old mid
    → Rests old (record mid { desk = desk_emptied mid.desk })
rests-emptied old mid r = record {
  desk = ap (λ (d : DeskState). desk_emptied d) r.desk;
  history = r.history;
  pass = r.pass;
  tag = r.tag;
}

-- ---- the reply and the history

pub turns-quiet : (d : Decision) (by : ℕ) (h : List Entry) (t : Turned)
    → AcceptsNothing d t → TurnsTo d by h t h
turns-quiet d by h t (inl e) =
    rw e (record { met = may_forget d.accepted; reply = refl; history = refl })
turns-quiet d by h t (inr e) = rw (e.0, e.1) (record { met = tt; reply = refl; history = refl })

pub turns-shown : (d : Decision) (by : ℕ) (h : List Entry) (t : Turned) (show : Reply) (c : Command)
    → d ≡ record { reply = show; accepted = Some c }
    → IsShown show t → TurnsTo d by h t (h ++ entries.Accepted by c ∷ [])
turns-shown d by h t show c e (inl is) =
    rw (e, is) (record { met = tt; reply = refl; history = refl })
turns-shown d by h t show c e (inr is) =
    rw (e, is) (record { met = tt; reply = refl; history = refl })

-- ---- the journal

rests : (s : ℕ) (old : List JournalEntry)
    → Continues (IsForeign entry_number ((s + 1) ∷ [])) old old
rests s old = ([], sym (append-nil old), tt)

pub goes-quiet : (d : Decision) (s : ℕ) (old : List JournalEntry) (t : Turned)
    → AcceptsNothing d t → GoesOn s d.accepted t.outcome old old
goes-quiet d s old t (inl e) =
    rw e (record { before = old; since = rests s old; adds = sym (append-nil old) })
goes-quiet d s old t (inr e) =
    rw (e.0, e.1) (record { before = old; since = rests s old; adds = sym (append-nil old) })

pub goes-nowhere : (s : ℕ) (accepted : Option Command) (old new : List JournalEntry)
    → new ≡ old → GoesOn s accepted OutOfMemory old new
goes-nowhere s accepted old new is =
    record { before = old; since = rests s old; adds = is ∙ sym (append-nil old) }

pub goes-shown : (s : ℕ) (accepted : Option Command) (old new : List JournalEntry)
    (t : Turned) (show : Reply) (c : Command)
    → accepted ≡ Some c
    → IsShown show t → GoesOn s (Some c) Answered old new → GoesOn s accepted t.outcome old new
goes-shown s accepted old new t show c e (inl is) on = rw (e, is) on
goes-shown s accepted old new t show c e (inr is) on =
    rw (e, is) (record { before = on.before; since = on.since; adds = on.adds })

-- ---- by the world that is held

-- a desk that isn't cold to the request decides so
pub lacks-not : (desk : DeskState) (request : Request)
    → verdict desk request ≢ Cold
    → lacks_world desk request ≡ false
lacks-not desk request warm = either (lacks_world desk request) refl
  where
    either : (lacks : Bool) → lacks_world desk request ≡ lacks → lacks ≡ false
    either true e = absurd (warm ((cold_alone desk request).1 e))
    either false e = refl

pub decides-held : {D : Type 0} (disks : DiskWords D) (request : Request)
    (old : SharedState D) (held : Held)
    → lacks_world (record old.desk { held = held }) request ≡ false
    → (IsSoundDesk disks (desk_tag old) → HoldsOwnWorld old.desk.stories (game old.desk) held)
    → Decides disks request old (decision_by_desk (record old.desk { held = held }) request)
decides-held disks request old held lacks holds =
    let b = is_by old.desk.stories old.desk.commands held request lacks in
    record { now = b.now; own = λ sound. b.own (holds sound); decides = b.same }

pub decides-rested : {D : Type 0} (disks : DiskWords D) (request : Request)
    (old new : SharedState D) → Rests old new → verdict new.desk request ≢ Cold
    → (IsSoundDesk disks (desk_tag new)
    → HoldsOwnWorld new.desk.stories (game new.desk) new.desk.held)
    → Decides disks request old (decision_by_desk new.desk request)
decides-rested {D = D} disks request old new rests warm holds =
    let same = rests.desk in
    subst (λ (d : DeskState). Decides disks request old (decision_by_desk d request))
    (sym same)
    (decides-held disks request old new.desk.held
    (subst (λ (d : DeskState). lacks_world d request ≡ false) same
    (lacks-not new.desk request warm))
    (λ sound. subst (λ (d : DeskState). HoldsOwnWorld d.stories (game d) d.held) same
    (holds (subst (λ (t : DeskTag D). IsSoundDesk disks t) (sym rests.tag) sound))))

-- memory may run out, whatever is decided
pub decides-any : {D : Type 0} (disks : DiskWords D) (request : Request) (old : SharedState D)
    → Decides disks request old (answer_in old.desk.stories old.desk.commands
    (world_of old.desk.stories (game_of old.desk.commands)) request)
decides-any disks request old = record {
  now = world_of old.desk.stories (game_of old.desk.commands);
  own = λ sound. refl;
  decides = refl;
}

pub turns-by : {D : Type 0} (disks : DiskWords D) (request : Request) (by : ℕ)
    (old new : SharedState D) (t : Turned) (d : Decision)
    → Decides disks request old d → TurnsTo d by old.history t new.history
    → GoesOn old.desk.session d.accepted t.outcome (seen old.pass) (seen new.pass)
    → (d.accepted ≡ None → new.pass ≡ old.pass)
    → TurnsBy disks request by old t new
turns-by disks request by old new t d decides turns goes idle = record {
  now = decides.now;
  own = decides.own;
  met = rw decides.decides at turns.met;
  reply = rw decides.decides at turns.reply;
  history = rw decides.decides at turns.history;
  journal = rw decides.decides at goes;
  idle = rw decides.decides at idle;
}

-- a turn that makes the session accept nothing
pub turns-by-quiet : {D : Type 0} (disks : DiskWords D) (request : Request) (by : ℕ)
    (old new : SharedState D) (t : Turned) → Rests old new
    → ((d : Decision) × Decides disks request old d × AcceptsNothing d t)
    → TurnsBy disks request by old t new
turns-by-quiet disks request by old new t rests (d, decides, quiet) =
    turns-by disks request by old new t d decides
    (rw rests.history (turns-quiet d by old.history t quiet))
    (rw rests.pass (goes-quiet d old.desk.session (seen old.pass) t quiet)) (λ e. rests.pass)

-- what a fresh request is answered, by the desk that has run its command
abbrev pub AnswersFresh : DeskState → Request → Type 0
AnswersFresh desk request =
    (c : Command) × (command_of desk.stories request ≡ Some c)
    × (decision_by_desk desk request
    ≡ record { reply = shown_to (ran (committed desk c)) request; accepted = Some c })

-- a decision that accepts a command doesn't accept nothing
accepts_some : {P : Type 0} (d : Decision) (c : Command) → d.accepted ≡ Some c → d.accepted ≡ None → P
accepts_some d c is e = absurd (let both = sym is ∙ e in cc)

-- a turn of a command, behind the steps that leave the session
pub turns-by-fresh : {D : Type 0} (disks : DiskWords D) (request : Request) (by : ℕ)
    (old mid new : SharedState D) (t : Turned)
    → Rests old mid → Decides disks request old (decision_by_desk mid.desk request)
    → TurnsTo (decision_by_desk mid.desk request) by mid.history t new.history
    → GoesOn mid.desk.session (decision_by_desk mid.desk request).accepted t.outcome
    (seen mid.pass) (seen new.pass)
    → AnswersFresh mid.desk request
    → TurnsBy disks request by old t new
turns-by-fresh disks request by old mid new t rests decides turns goes fresh =
    let session : mid.desk.session ≡ old.desk.session =
    ap (λ (d : DeskState). d.session) rests.desk in
    turns-by disks request by old new t (decision_by_desk mid.desk request) decides
    (rw rests.history at turns) (rw (rests.pass, session) at goes)
    (accepts_some (decision_by_desk mid.desk request) fresh.0 (ap (λ (d : Decision). d.accepted) fresh.2))

-- ---- a command that was committed

pub fresh-shown : {D : Type 0} (request : Request) (by : ℕ) (old mid new : SharedState D)
    (t : Turned)
    → AnswersFresh old.desk request
    → TakesEntry request by old mid
    → IsShown (shown_to (ran mid.desk) request) t
    → Rests mid new
    → TurnsTo (decision_by_desk old.desk request) by old.history t new.history
fresh-shown request by old mid new t f takes shown rests =
    let same : f.0 ≡ takes.command = some_is f.0 takes.command (sym f.1 ∙ takes.asked) in
    let is : IsShown (shown_to (ran (committed old.desk f.0)) request) t =
    rw same (rw takes.taken at shown) in
    let history : new.history ≡ old.history ++ entries.Accepted by f.0 ∷ [] =
    rests.history ∙ takes.entry
    ∙ ap (λ (c : Command). old.history ++ entries.Accepted by c ∷ []) (sym same) in
    subst (λ (h : List Entry). TurnsTo (decision_by_desk old.desk request) by old.history t h)
    (sym history)
    (turns-shown (decision_by_desk old.desk request) by old.history t
    (shown_to (ran (committed old.desk f.0)) request) f.0 f.2 is)

pub fresh-goes : {D : Type 0} (request : Request) (by : ℕ) (old mid new : SharedState D)
    (t : Turned)
    → AnswersFresh old.desk request
    → ((c : Command)
    → command_of old.desk.stories request ≡ Some c
    → GoesOn old.desk.session (Some c) Answered (seen old.pass) (seen mid.pass))
    → IsShown (shown_to (ran mid.desk) request) t → Rests mid new
    → GoesOn old.desk.session (decision_by_desk old.desk request).accepted t.outcome
    (seen old.pass) (seen new.pass)
fresh-goes request by old mid new t f goes shown rests =
    rw rests.pass
    (goes-shown old.desk.session (decision_by_desk old.desk request).accepted (seen old.pass)
    (seen mid.pass) t (shown_to (ran mid.desk) request) f.0
    (ap (λ (d : Decision). d.accepted) f.2) shown (goes f.0 f.1))
