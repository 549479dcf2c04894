-- The phase of one turn changes, and the journal.
use Rattle.std.proofs.Common.{List, Option, Some, ap, inl, inr, length-set, set}
use Rattle.std.proofs.Common.{subst, sym, ℕ, ◌∙◌, ◌≡◌, ◌≢◌}
use Rattle.std.proofs.lemmas.Bool.{cases_eq}
use Rattle.std.specs.List.{slice_get}
use Rattle.std.specs.Prelude.{IfSome}
use Rattle.disk_model.specs.DiskState.{DiskState, IsDiskImage}
use Rattle.gate_journal.specs.Rows.{IsJournal, IsNext}
use Rattle.gate_journal.specs.declared.row.Row.{Row}
use Rattle.story_run.specs.declared.story.Story.{Story}
use Rattle.session_core.specs.declared.entry.Entry.{Entry}
use Rattle.host_world.specs.Happenings.{Happening, history_left}
use Rattle.host_world.specs.Sessions.{in_phase}
use Rattle.host_world.specs.declared.state.JournalHost.{JournalHost}
use Rattle.host_world.specs.declared.state.Step.{Step}
use Rattle.host_world.specs.declared.turn.Phase.{Phase}
use Rattle.host_world.specs.declared.turn.Phase.TheVariants.{Asked, Begun, Broken, Freed, Kept}
use Rattle.host_world.specs.declared.turn.Phase.TheVariants.{Plain, Ready, Taken}
use Rattle.host_world.specs.declared.turn.Session.{Session}
use Rattle.host_world.specs.declared.turn.Turn.{Turn}
use Rattle.host_world.proofs.Lists.{get_else, get_here, some_same}
use Rattle.host_world.proofs.Sound.{Knows, PhaseFact, RowsFact, Sound, Stands, StepFact}

module _ (stories : List Story) (budget : ℕ) where
  pub reached : (before h : List Entry) (t : Turn) (next p : Phase)
      → PhaseFact stories budget before h t p
      → PhaseFact stories budget before h (record t { phase = next }) p
  reached before h t next Asked f = f
  reached before h t next Begun f = f
  reached before h t next Kept f = f
  reached before h t next (Broken from to) f = f
  reached before h t next Freed f = f
  reached before h t next (Ready outcome) f = f
  reached before h t next (Taken outcome reply) f = f
  reached before h t next (Plain outcome reply) f = f

  -- the phase of one turn changes, and the journal
  module _ (first : ℕ → List Entry) (past : ℕ → List Happening) (v : JournalHost) (s : ℕ)
      (x : Session) (t : Turn) (next : Phase) (p : DiskState) (n : ℕ) (rows : List Row)
      (u : Option Row) (step : Step) where
    abbrev asker : Session
    asker = in_phase x t next

    abbrev new : JournalHost
    new = record v {
      sessions = set v.sessions s asker;
      disk = p;
      faults = n;
      rows = rows;
      uncertain = u;
      step = step;
    }

    pub record Rephasing : Type 0 where
      pub at : slice_get v.sessions s ≡ Some x
      pub stays : IsDiskImage p p.seen
      pub images : (c : List ℕ) → IsDiskImage p c → Stands v.up rows u c
      pub journal : IsJournal rows
      pub follows : IfSome u (IsNext rows)
      pub now : StepFact stories budget new step
      pub fact : PhaseFact stories budget (history_left stories budget (first s)
          (past s)) x.history t next
      pub here : RowsFact stories budget s rows u asker v.up
      pub elsewhere : (m : ℕ) (z : Session) → m ≢ s
          → RowsFact stories budget m v.rows v.uncertain z v.up
          → RowsFact stories budget m rows u z v.up

    pub rephased : Sound stories budget first past v → Rephasing
        → Sound stories budget first past new
    rephased sound m = record {
      stays = m.stays;
      images = m.images;
      journal = m.journal;
      next = m.follows;
      sessions = length-set v.sessions s asker ∙ sound.sessions;
      step = m.now;
      each = each;
    }
      where
        it : Knows stories budget (first s) (past s) new s asker
        it = record {
          turn = reached (history_left stories budget (first s) (past s)) x.history t next next
              m.fact;
          replies = (sound.each s x m.at).replies;
          rows = m.here;
        }

        each : (k : ℕ) (z : Session) → slice_get (set v.sessions s asker) k ≡ Some z
            → Knows stories budget (first k) (past k) new k z
        each k z at = elim (cases_eq k s) [
          | inl same ↦
              let is : asker ≡ z =
              some_same asker z (sym (get_here v.sessions s x asker m.at)
              ∙ ap (λ (i : ℕ). slice_get (set v.sessions s asker) i) (sym same) ∙ at) in
              subst (λ (q : Session). Knows stories budget (first k) (past k) new k q) is
              (subst (λ (i : ℕ). Knows stories budget (first i) (past i) new i asker) (sym same) it)
          | inr other ↦
              let known =
              sound.each k z (sym (get_else v.sessions s k asker other) ∙ at) in record {
                turn = known.turn;
                replies = known.replies;
                rows = m.elsewhere k z other known.rows;
              }
        ]

  -- no turn changes, but the journal
  pub stepped : (first : ℕ → List Entry) (past : ℕ → List Happening) (v : JournalHost) (p : DiskState)
      (n : ℕ) (u : Option Row) (step : Step)
      → Sound stories budget first past v → IsDiskImage p p.seen
      → ((c : List ℕ) → IsDiskImage p c → Stands v.up v.rows u c) → IfSome u (IsNext v.rows)
      → StepFact stories budget (record v { disk = p; faults = n; uncertain = u; step = step }) step
      → ((k : ℕ) (z : Session) → slice_get v.sessions k ≡ Some z
      → RowsFact stories budget k v.rows v.uncertain z v.up
      → RowsFact stories budget k v.rows u z v.up)
      → Sound stories budget first past (record v
      { disk = p; faults = n; uncertain = u; step = step })
  stepped first past v p n u step sound stays images next now rows = record {
    stays = stays;
    images = images;
    journal = sound.journal;
    next = next;
    sessions = sound.sessions;
    step = now;
    each = λ k z at. let known =
        sound.each k z at in record {
          turn = known.turn;
          replies = known.replies;
          rows =
              rows k z at known.rows;
        };
  }
