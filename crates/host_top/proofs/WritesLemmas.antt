-- What each command writes where it ends with 0, from what is told.
use Rattle.std.proofs.Common.{◌≡◌, ℕ, List, [], ◌∷◌, map, take, refl, subst, sym, ap, ◌∙◌, arith}
use Rattle.std.proofs.Common.{Some, None, IsTrue, IfSome, Option, Result, Ok}
use Rattle.command_words.specs.Words.{Asked}
use Rattle.command_words.specs.declared.words.Action.{Action}
use Rattle.command_words.specs.declared.words.Action.TheVariants.{Run, Check, Pipe, Init, Help}
use Rattle.command_words.specs.declared.words.Action.TheVariants.{Serve, Replay, Pack, Drill}
use Rattle.command_words.specs.declared.words.Action.TheVariants.{Version}
use Rattle.disk_model.specs.declared.disk.Disk.{Ghosts as DiskWords}
use Rattle.gate_journal.proofs.RowLemmas.{one_list}
use Rattle.gate_journal.specs.Rows.{SpellsRows}
use Rattle.gate_journal.specs.declared.row.Row.{Row}
use Rattle.host_serve.specs.Alone.{AreMet, replies_met}
use Rattle.host_serve.specs.Opening.{histories_in_rows}
use Rattle.host_serve.specs.Serves.{AnsweredLine}
use Rattle.line_talk.specs.declared.ended.Ended.TheVariants as ended
use Rattle.line_talk.specs.Conversation.{texts_joined}
use Rattle.line_talk.specs.Lines.{lines}
use Rattle.line_talk.specs.Streams.{SourceState, SinkState}
use Rattle.line_words.specs.Reply.{print_reply}
use Rattle.line_words.specs.declared.reply.Reply.{Reply}
use Rattle.story_replay.specs.Text.{transcript}
use Rattle.story_run.specs.declared.story.Story.{Story}
use Rattle.host_top.specs.DoorServed.{OfDoor}
use Rattle.host_top.specs.Borrowed.{journal_in}
use Rattle.host_top.specs.Files.{OutsideState, Told, Untold, Missing, There}
use Rattle.host_top.specs.Follows.{FollowsCommand, WritesFor}
use Rattle.host_top.specs.Packed.{IsPackedLine, line_of}
use Rattle.host_top.specs.Piped.{LeadAlone}
use Rattle.host_top.specs.Replayed.{IsTranscript}
use Rattle.host_top.specs.Scene.{Scene, scene}
use Rattle.host_top.specs.Served.{AreSound, AreTold, WritesTurns}
use Rattle.host_top.specs.Speech.{task_of, tasked}
use Rattle.host_top.specs.Status.{status_of}
use Rattle.host_top.specs.Stories.{stories_of}
use Rattle.host_top.specs.ToldBytes.{BytesHave}
use Rattle.host_top.specs.Writes.{RepliesAlone, TextOf, WritesAll}
use Rattle.host_top.specs.declared.status.Status.{Status}
use Rattle.host_top.specs.declared.status.Status.TheVariants.{Done, NoMemory}
use Rattle.host_top.specs.declared.stories.Refusal.{Refusal}
use Rattle.host_top.proofs.CauseLemmas.{coded_zero}
use Rattle.host_top.proofs.ToldLemmas.{tells, whatever_is_asked}

-- bytes that are told spell one list of rows
one_told : {D : Type 0} (disks : DiskWords D) (journal : Told D) (a b : List Row)
    → AreTold disks.seen journal (λ c. SpellsRows c a)
    → BytesHave disks.seen journal (λ c. SpellsRows c b) → b ≡ a
one_told disks Untold a b told have = absurd told
one_told disks Missing a b told have = one_list [] b a have told
one_told disks (There d) a b told have = one_list (disks.seen d) b a have told

-- the turns of answered lines as a list of what they met
pub alone_text : {D : Type 0} (disks : DiskWords D) (stories : List Story) (budget : ℕ)
    (disk : List ℕ → Told D) (folder bytes written : List ℕ) (rows : List Row)
    → WritesTurns disks stories budget disk folder bytes written ended.End
    → AreTold disks.seen (disk (journal_in folder)) (λ c. SpellsRows c rows)
    → AreSound disks stories disk folder rows
    → RepliesAlone stories budget rows (lines bytes) written
alone_text disks stories budget disk folder bytes written rows w told sound =
    let same : w.rows ≡ rows =
    one_told disks (disk (journal_in folder)) rows w.rows told (w.handed_in sound.0) in
    let alone : LeadAlone stories budget (histories_in_rows rows) w.turns w.histories =
    subst (λ (r : List Row). LeadAlone stories budget (histories_in_rows r) w.turns w.histories)
    same
    (w.sound (subst (λ (r : List Row). AreSound disks stories disk folder r) (sym same) sound)) in
    let met = map (λ (t : AnsweredLine). t.outcome) w.turns in
    record {
      met = met;
      may = subst (λ (ls : List (List ℕ)). AreMet stories budget (histories_in_rows rows) 0 ls met)
          w.which.0 alone.met;
      replies = w.writes
          ∙ ap (λ (rs : List Reply). texts_joined (map print_reply rs)) alone.replies
          ∙ ap (λ (ls : List (List ℕ)). texts_joined (map print_reply
          (replies_met stories budget (histories_in_rows rows) 0 ls met))) w.which.0;
    }

transcript_of : {D : Type 0} (disks : DiskWords D) (stories : List Story) (journal : Told D)
    (written : List ℕ) (rows : List Row) → IsTranscript disks stories journal written
    → ((d : D) → IsTrue (disks.tells d)) → AreTold disks.seen journal (λ c. SpellsRows c rows)
    → written ≡ transcript stories rows
transcript_of disks stories journal written rows is tells told =
    is.text_is
    ∙ ap (transcript stories) (one_told disks journal rows is.rows told (is.spelled tells))

line_packed : {D : Type 0} (disks : DiskWords D) (journal into : Told D) (written : List ℕ)
    (rows : List Row) → IsPackedLine disks journal into written
    → ((d : D) → IsTrue (disks.tells d)) → AreTold disks.seen journal (λ c. SpellsRows c rows)
    → written ≡ line_of rows
line_packed disks journal into written rows is tells told =
    is.line_is ∙ ap line_of (one_told disks journal rows is.rows told (is.spelled tells))

does_text : {D : Type 0} (disks : DiskWords D) (action : Action) (stories : List Story)
    (asked : Asked) (bytes written : List ℕ) (old : Scene D)
    → WritesFor disks old.outside.disk Done
    (Ok (task_of action stories asked.budget asked.folder asked.into)) bytes written
    → TextOf disks action stories asked bytes old written
does_text disks Run stories asked bytes written old w = λ story one. rw one at w.0
does_text disks Check stories asked bytes written old w = λ story one. rw one at w.0
does_text disks Init stories asked bytes written old w = w.0
does_text disks Pipe stories asked bytes written old w = λ rows told sound.
    alone_text disks stories asked.budget old.outside.disk asked.folder bytes written rows w told
    sound
does_text disks (Serve serving) stories asked bytes written old w = w
does_text disks Replay stories asked bytes written old w = λ rows tells told.
    transcript_of disks stories (old.outside.disk (journal_in asked.folder)) written rows w tells
    told
does_text disks Pack stories asked bytes written old w = λ rows tells told.
    line_packed disks (old.outside.disk (journal_in asked.folder))
    (old.outside.disk (journal_in asked.into)) written rows w tells told
does_text disks (Drill number) stories asked bytes written old w = w.0
does_text disks (Help topic) stories asked bytes written old w = w.0
does_text disks Version stories asked bytes written old w = w.0

pub writes_all : {D : Type 0} (disks : DiskWords D) {OnDoor : OfDoor D} (asked : Asked)
    (status : Status) (outside beyond : OutsideState D) (input now : SourceState)
    (output new : SinkState)
    → FollowsCommand disks OnDoor asked status outside beyond input now output new
    → status ≡ Done → WritesAll disks asked (scene outside input output) (scene beyond now new)
writes_all {D} disks asked status outside beyond input now output new follows done files bytes held
    stories told good =
    let t =
    tells disks asked status outside beyond input now output new follows files bytes held
    told.are_there told.left told.holds in (
      t.0,
      t.1,
      does_text disks asked.action stories asked bytes t.0 (scene outside input output)
          (subst (λ (f : Result (List Story) Refusal). WritesFor disks outside.disk Done
          (tasked asked.action f asked.budget asked.folder asked.into) bytes t.0) good
          (subst (λ (s : Status). WritesFor disks outside.disk s
          (tasked asked.action (stories_of (map (take 67108865) files)) asked.budget asked.folder
          asked.into) bytes t.0) done t.2)),
    )

zero_apart : {P : Type 0} (code : ℕ) → status_of code ≡ Some NoMemory → code ≡ 0 → P
zero_apart code is zero = absurd (let e = coded_zero NoMemory code is zero in grind (arith, e))

-- where memory was wanted before the words were known
pub writes_no_memory : {D : Type 0} (disks : DiskWords D) (asked : Option Asked) (code : ℕ)
    (outside beyond : OutsideState D) (input now : SourceState) (output new : SinkState)
    → status_of code ≡ Some NoMemory
    → IfSome asked (λ one. code ≡ 0
    → WritesAll disks one (scene outside input output) (scene beyond now new))
writes_no_memory disks asked code outside beyond input now output new is =
    whatever_is_asked asked (λ (one : Asked). code ≡ 0
    → WritesAll disks one (scene outside input output) (scene beyond now new))
    (λ one zero. zero_apart code is zero)
