-- The host of a drill, and what the lines of its links were answered (own).
use Rattle.std.specs.Prelude.{◌≡◌, ◌≢◌, ℕ, ◌≤◌, List, [], ◌∷◌, length, map, IsTrue}
use Rattle.disk_model.specs.declared.disk.Disk.{Ghosts as DiskWords}
use Rattle.turn_cell.specs.History.{Each}
use Rattle.host_serve.specs.Chain.{AnswersInOrder}
use Rattle.host_serve.specs.Holders.{holders, seen_at, seens}
use Rattle.host_serve.specs.Hosts.{AreOf, IsSound}
use Rattle.host_serve.specs.Opening.{roots}
use Rattle.host_serve.specs.Serves.{AnsweredLine}
use Rattle.host_serve.specs.declared.host.Host.{Host}
use Rattle.host_serve.specs.declared.host.Passes.{Passes}
use Rattle.host_serve.specs.declared.mark.Mark.{Mark}
use Rattle.line_talk.specs.Conversation.{texts_joined}
use Rattle.line_talk.specs.Lines.{lines}
use Rattle.line_words.specs.Reply.{print_reply}
use Rattle.session_core.specs.declared.entry.Entry.{Entry}
use Rattle.reply_tally.specs.Refusals.{refusals_in}
use Rattle.sha2.specs.Sha256.{sha256}
use Rattle.snap_store.specs.File.{empty_snapshot_file}
use Rattle.host_drill.specs.Drill.{echo, drilled_history, drilled_replies}

module _ {D : Type 0} (words : DiskWords D) where
  -- the disk has a new snapshot file, in which both areas are closed
  abbrev pub IsNewFile : D → Type 0
  IsNewFile d = IsTrue (words.tells d) × (words.seen d ≡ empty_snapshot_file)

  -- there is a disk for each session, with a new snapshot file
  pub record AreMade (disks : List D) : Type 0 where
    pub many : length disks ≡ 64
    pub each : Each IsNewFile disks

  -- the passes are the host's, and were never split; it has the Echo story alone, and is sound
  pub record IsDrilled (host : Host D) (passes : Passes D) : Type 0 where
    pub of : AreOf host passes
    pub sound : IsSound words host
    pub alone : holders passes.desks.items ≡ roots
    pub many : length (seens passes.desks.items) ≡ 64
    pub stories : host.stories.now ≡ echo ∷ []
    pub budget : host.budget ≡ 50000000

  -- all lines of a link were answered: their turns one after the other, the replies as they were
  -- written, and the marks
  pub record AnswersAll (host : Host D) (old new : Passes D) (bytes written : List ℕ)
      (marks : List Mark) : Type 0 where
    pub turns : List AnsweredLine
    pub answered : map (λ (t : AnsweredLine). t.line) turns ≡ lines bytes
    pub replies : written
        ≡ texts_joined (map print_reply (map (λ (t : AnsweredLine). t.reply) turns))
    pub marked : marks ≡ map (λ (t : AnsweredLine). t.mark) turns
    pub chain :
        AnswersInOrder host.stories.now host.budget (IsSound words host)
        (holders old.desks.items) (seens old.desks.items) turns (seens new.desks.items)

module _ {D : Type 0} where
  -- what the pass of a session has seen
  abbrev pub history_seen : Passes D → ℕ → List Entry
  history_seen passes s = seen_at (seens passes.desks.items) s

  -- nothing was seen yet of the sessions from this number on
  abbrev pub AreFreshFrom : ℕ → Passes D → Type 0
  AreFreshFrom s passes = (k : ℕ) → s ≤ k → history_seen passes k ≡ []

  -- a session was played by its script: how many of the replies are refusals, the digest of all,
  -- and what was seen
  pub record IsPlayed (old new : Passes D) (number s count : ℕ) (sum : List ℕ) : Type 0 where
    pub refused : count ≡ length (refusals_in (drilled_replies number s))
    pub digest : sum ≡ sha256 (texts_joined (map print_reply (drilled_replies number s)))
    pub history : history_seen new s ≡ drilled_history number s
    pub others : (k : ℕ) → k ≢ s → history_seen new k ≡ history_seen old k
