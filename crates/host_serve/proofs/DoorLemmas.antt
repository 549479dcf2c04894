-- Links that one worker serves, one after the other.
use Rattle.std.proofs.Common.{◌≡◌, ℕ, Bool, true, false, ◌^◌, ◌≤◌, List, [], ◌∷◌, ◌++◌, length}
use Rattle.std.proofs.Common.{refl, ap, sym, ◌∙◌, subst, inl, inr, append_assoc, arith}
use Rattle.std.specs.Prelude.{if◌then◌else◌, ◌==◌}
use Rattle.turn_cell.proofs.HistoryLemmas.{each_append, nil_right}
use Rattle.line_talk.specs.Causes.{Rose}
use Rattle.line_talk.specs.Lines.{lines_from, ReachesLimit}
use Rattle.line_talk.specs.Streams.{SourceState, SinkState}
use Rattle.line_talk.specs.declared.ended.Ended.{Ended}
use Rattle.line_talk.specs.declared.ended.Ended.TheVariants.{End, ReadFault, WriteFault}
use Rattle.line_talk.specs.declared.ended.Ended.TheVariants.{LineLimit, NoMemory}
use Rattle.host_serve.specs.declared.host.Host.{Host}
use Rattle.host_serve.specs.declared.host.Passes.{Passes}
use Rattle.host_serve.specs.declared.mark.Mark.{Mark}
use Rattle.host_serve.specs.declared.worked.Worked.{Worked}
use Rattle.host_serve.specs.Chain.{AnswersInOrder}
use Rattle.host_serve.specs.Doors.{IsEndOf, IsFresh, IsVisit, MayHangUp, Visit, Visits, Works}
use Rattle.host_serve.specs.Doors.{turns_of_visits}
use Rattle.host_serve.specs.Holders.{Holder, holders, seens}
use Rattle.host_serve.specs.Hosts.{AreOf}
use Rattle.host_serve.specs.Serves.{AnsweredLine}
use Rattle.host_serve.specs.Told.{TellsLink}
use Rattle.host_serve.proofs.ChainLemmas.{chain_append}
use Rattle.host_serve.proofs.PassLemmas.{holders_many, seens_many}
use Rattle.host_serve.proofs.ServesLemmas.{serves_of}

-- bytes have at most as many lines as bytes
few_lines : (begun bytes : List ℕ) → length (lines_from begun bytes) ≤ length bytes
few_lines begun [] = omega arith
few_lines begun (x ∷ xs) = of (x == 10) (few_lines [] xs) (few_lines (begun ++ x ∷ []) xs)
  where
    of : (b : Bool) → length (lines_from [] xs) ≤ length xs
        → length (lines_from (begun ++ x ∷ []) xs) ≤ length xs
        → length (if b then begun ∷ lines_from [] xs else lines_from (begun ++ x ∷ []) xs)
        ≤ length (x ∷ xs)
    of true m n = omega (arith, m)
    of false m n = omega (arith, n)

-- what `serve` answers, a link may be hung up for
pub hung_up : (why : Ended) (turns : List AnsweredLine) (input now : SourceState)
    (output new : SinkState)
    (old_marks marks : List Mark) → TellsLink turns input now output new old_marks marks why
    → IsFresh input output → (why ≡ ReadFault → Rose input.faults now.faults)
    → (why ≡ WriteFault → Rose output.faults new.faults) → MayHangUp why now new
hung_up End turns input now output new old_marks marks t fresh reads writes = t.lines.1.ended
hung_up ReadFault turns input now output new old_marks marks t fresh reads writes =
    let rose = reads refl in omega (arith, rose, fresh.reads)
hung_up WriteFault turns input now output new old_marks marks t fresh reads writes =
    let rose = writes refl in omega (arith, rose, fresh.writes)
hung_up LineLimit turns input now output new old_marks marks t fresh reads writes =
    of t.lines.1
  where
    of : ReachesLimit t.read → 2 ^ 20 ≤ now.taken
    of (inl long) = omega (arith, long, t.gave.count.least, fresh.taken)
    of (inr many) = omega (arith, many, few_lines [] t.read, t.gave.count.least, fresh.taken)
hung_up NoMemory turns input now output new old_marks marks t fresh reads writes = tt

turns_more : {Conn : Type 0} (visits : List (Visit Conn)) (v : Visit Conn)
    → turns_of_visits (visits ++ v ∷ []) ≡ turns_of_visits visits ++ v.turns
turns_more [] v = nil_right v.turns
turns_more (x ∷ xs) v = ap (λ (l : List AnsweredLine). x.turns ++ l) (turns_more xs v)
    ∙ sym (append_assoc x.turns (turns_of_visits xs) v.turns)

-- a link of the door that was served
pub visit_of : {Conn Lent : Type 0} (source : Conn → SourceState) (sink : Conn → SinkState)
    (lent : Conn → Lent) (Gives : Conn → Type 0) (taken left : Conn) (why : Ended)
    (turns : List AnsweredLine) (none marks : List Mark) → none ≡ []
    → Gives taken × IsFresh (source taken) (sink taken)
    → TellsLink turns (source taken) (source left) (sink taken) (sink left) none marks why
    → lent left ≡ lent taken
    → (why ≡ ReadFault → Rose (source taken).faults (source left).faults)
    → (why ≡ WriteFault → Rose (sink taken).faults (sink left).faults)
    → IsVisit source sink lent Gives
    (record { taken = taken; left = left; why = why; turns = turns })
visit_of source sink lent Gives taken left why turns none marks is given tells same reads writes =
    record {
      given = given.0;
      fresh = given.1;
      marks = marks;
      tells = subst (λ (l : List Mark). TellsLink turns (source taken) (source left) (sink taken)
          (sink left) l marks why) is tells;
      same = same;
      ends = hung_up why turns _ _ _ _ none marks tells given.1 reads writes;
    }

module _ {Conn Lent D : Type 0} (source : Conn → SourceState) (sink : Conn → SinkState)
    (lent : Conn → Lent) (Gives : Conn → Type 0) (sound : Host D → Type 0) (host : Host D) where
  pub visits_none : (passes : Passes D) → AreOf host passes
      → Visits source sink lent Gives sound host passes passes
  visits_none passes kept = record {
    visits = [];
    each = tt;
    chain = refl;
    kept = kept;
    held = refl;
  }

  -- one more link
  pub visits_more : (old mid new : Passes D) → Visits source sink lent Gives sound host old mid
      → (visit : Visit Conn) × IsVisit source sink lent Gives visit
      × AnswersInOrder host.stories.now host.budget (sound host) (holders mid.desks.items)
      (seens mid.desks.items)
      visit.turns (seens new.desks.items)
      → AreOf host new → holders new.desks.items ≡ holders mid.desks.items
      → Visits source sink lent Gives sound host old new
  visits_more old mid new v more kept held = let hs = holders old.desks.items in record {
    visits = v.visits ++ more.0 ∷ [];
    each = each_append (IsVisit source sink lent Gives) v.visits (more.0 ∷ []) v.each (more.1, tt);
    chain =
        subst
        (λ (ts : List AnsweredLine). AnswersInOrder host.stories.now host.budget (sound host) hs
        (seens old.desks.items) ts (seens new.desks.items)) (sym (turns_more v.visits more.0))
        (chain_append host.stories.now host.budget (sound host) hs (seens old.desks.items)
        (seens mid.desks.items) (seens new.desks.items)
        (turns_of_visits v.visits) more.0.turns v.chain
        (subst (λ (x : List Holder). AnswersInOrder host.stories.now host.budget (sound host) x
        (seens mid.desks.items) more.0.turns (seens new.desks.items)) v.held more.2));
    kept = kept;
    held = held ∙ v.held;
  }

  -- the door is shut, or failed
  pub works_of : {O Done Fault : Type 0} (Shuts : Done → Type 0) (Fails : Fault → Type 0)
      (old new : Passes D) (answer : Worked O Conn Done Fault) → AreOf host old
      → Visits source sink lent Gives sound host old new → IsEndOf Shuts Fails answer
      → Works source sink lent Gives Shuts Fails sound host old new answer
  works_of Shuts Fails old new answer of v ends = record {
    served = v;
    serves = serves_of host.stories.now host.budget (sound host) (holders old.desks.items)
        (holders_many _ _ _ _ of.each of.whole.many) (seens old.desks.items)
        (turns_of_visits v.visits)
        (seens new.desks.items) (seens_many _ _ _ _ of.each of.whole.many) v.chain;
    ends = ends;
  }
