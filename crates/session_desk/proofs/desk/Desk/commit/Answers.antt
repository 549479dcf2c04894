use Rattle.std.proofs.Common.{◌≡◌, false, ◌++◌, ◌∙◌, Some, ap, refl, subst, sym}
use Rattle.turn_cell.specs.Passes.{seen}
use Rattle.gate_journal.specs.declared.command.Command.{Command}
use Rattle.session_core.proofs.RepeatLemmas.{some_is}
use Rattle.session_desk.specs.declared.verdict.Verdict.TheVariants.{Fresh}
use Rattle.session_desk.specs.Inside.{state_of}
use Rattle.session_desk.specs.Keeping.{snapshot_due}
use Rattle.session_desk.specs.Marks.{commands_woven, marks_by}
use Rattle.session_desk.specs.Shared.{GoesOn, met_by, SharedState, unplaced}
use Rattle.session_desk.specs.Verdict.{verdict}
use Rattle.session_desk.proofs.AlikeLemmas.{accepts, ready}
use Rattle.session_desk.proofs.CommitLemmas.{commits, is_desk-by, runs-by}
use Rattle.session_desk.proofs.JournalLemmas.{may_stand}
use Rattle.session_desk.proofs.SharedLemmas.{answered, history-by, marked-by, rows-seen, tag-by}
use Rattle.session_desk.proofs.SharedTurnLemmas.{goes-nowhere}
use Rattle.session_desk.proofs.SoundLemmas.{whole-committed}
use Rattle.session_desk.proofs.desk.Desk.commit.Goals as goal

pub returns-in_default-clause-journal : goal.returns-in_default-clause-journal
returns-in_default-clause-journal g c = λ command asked.
    goes-nowhere _ _ _ _ (ap (λ (s : SharedState g.row.D.Denot). seen s.pass) c.self.view_is)

pub asked-requires-clause-some : goal.asked-requires-clause-some
asked-requires-clause-some g c =
    let desk = (state_of c.self.inside).desk in
    let fresh : verdict desk c.args.request.now ≡ Fresh =
    rw (← c.self.view_is) at c.requires.fresh in
    rw (accepts desk c.args.request.now fresh).asked refl

pub write_in_turn-done-requires-clause-stands : goal.write_in_turn-done-requires-clause-stands
write_in_turn-done-requires-clause-stands g c =
    let desk = (state_of c.self.inside).desk in
    let fresh : verdict desk c.args.request.now ≡ Fresh =
    rw (← c.self.view_is) at c.requires.fresh in
    λ rows journal same. may_stand desk rows c.in-Ok.command
    (ready desk c.args.request.now c.in-Ok.command fresh c.in-Ok.ensures.value)
    (accepts desk c.args.request.now fresh).room c.in-Ok.ensures.ranges
    c.self.invariant.0.numbered journal
    (same ∙ rows-seen c.self.inside.marks.items desk c.self.inside.pass c.self.invariant.2.marked)

pub invariant_of-self-2 : goal.invariant_of-self-2
invariant_of-self-2 g c =
    let old = state_of c.self.inside in
    let fresh : verdict old.desk c.args.request.now ≡ Fresh =
    rw (← c.self.view_is) at c.requires.fresh in
    let idle : snapshot_due old ≡ false = rw (← c.self.view_is) at c.requires.due in
    let marked : c.note.new.marks.items
    ≡ c.self.inside.marks.items ++ marks_by c.args.by c.write_in_turn-done.result = cc in
    let did =
    commits c.args.request.now old.desk c.in-Ok.command c.write_in_turn-done.result
    c.take_down.new.commands.items c.take_down.new.held (seen old.pass)
    (seen c.write_in_turn-done.new.pass) c.in-Ok.ensures.value
    (rw c.asked.ensures.kept.0 at c.take_down.ensures.ok)
    (rw c.asked.ensures.kept.0 at c.take_down.ensures.err) c.write_in_turn-done.ensures.value in (
      is_desk-by c.write_in_turn-done.result old.desk _ did.command did.taken did.left
          c.self.invariant.0 (accepts old.desk c.args.request.now fresh).room,
      c.take_down.ensures.begins,
      rw c.note.ensures.place
          (whole-committed g.D.Disk _ c.note.new.marks.items c.self.inside.place old _
          c.write_in_turn-done.new.pass c.args.request.now _ c.self.invariant.2
          (marked-by _ _ c.args.by _ _ _ _ _ _ did marked c.self.invariant.2.marked
          c.write_in_turn-done.ensures.pass) did fresh idle c.missed-missed.ensures.counted),
    )

pub returns : goal.returns
returns g c =
    let old : SharedState g.row.D.Denot = state_of c.self.inside in
    let new : SharedState g.row.D.Denot = record old {
      desk = record old.desk {
        commands = c.take_down.new.commands.items;
        held = c.take_down.new.held;
      };
      history = commands_woven c.note.new.marks.items c.take_down.new.commands.items;
      pass = c.write_in_turn-done.new.pass;
    } in
    let done = c.write_in_turn-done.result in
    let fresh : verdict old.desk c.args.request.now ≡ Fresh =
    rw (← c.self.view_is) at c.requires.fresh in
    let did =
    commits c.args.request.now old.desk c.in-Ok.command done
    c.take_down.new.commands.items c.take_down.new.held (seen old.pass) (seen new.pass)
    c.in-Ok.ensures.value (rw c.asked.ensures.kept.0 at c.take_down.ensures.ok)
    (rw c.asked.ensures.kept.0 at c.take_down.ensures.err) c.write_in_turn-done.ensures.value in
    let marked : c.note.new.marks.items
    ≡ c.self.inside.marks.items ++ marks_by c.args.by done = cc in
    let its =
    answered done c.args.request.now c.args.by old new _ did
    (history-by _ _ c.args.by _ _ _ _ _ _ did marked c.self.invariant.2.marked.counted)
    (runs-by done old.desk new.desk did.command did.taken
    (ready old.desk c.args.request.now did.command fresh did.asked))
    c.write_in_turn-done.ensures.rose in
    let cell : new.pass.known.place.table_id ≡ old.pass.known.place.table_id =
    c.write_in_turn-done.ensures.kept ∙ sym (rw (← c.self.view_is) at c.requires.cell) in
    rw (← c.self.view_is, c.note.ensures.value)
    (record {
      ok = its.0;
      runs = its.1;
      err = its.2;
      cause = its.3;
      rose = its.4;
      journal =
          λ command asked. subst (λ (k : Command). GoesOn old.desk.session (Some k)
          (met_by (unplaced done))
          (seen old.pass) (seen new.pass))
          (some_is did.command command (sym did.asked ∙ asked)) its.5;
      saves = refl;
      kept = tag-by done old new did.command did.taken did.left cell refl refl;
    })
