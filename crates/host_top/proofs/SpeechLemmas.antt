-- How the parts of what a command says make the whole.
use Rattle.std.proofs.Common.{◌≡◌, ℕ, inl, inr, List, [], ◌++◌, refl, sym, ap, ◌∙◌, subst, arith}
use Rattle.std.proofs.Common.{map, append_assoc, Option, None, Some, Result, Ok, Err, true}
use Rattle.std.proofs.lemmas.List.{append-nil}
use Rattle.story_run.specs.Solo.{is_over}
use Rattle.story_run.specs.World.{WorldState}
use Rattle.story_run.specs.declared.story.Story.{Story}
use Rattle.line_talk.specs.declared.sink.Stop.{Stop}
use Rattle.line_talk.specs.declared.sink.Stop.TheVariants as stop
use Rattle.host_top.specs.declared.status.Status.TheVariants.{Done, Refused, NoMemory}
use Rattle.host_top.specs.Plain.{Answering, replies, answering_held, is_over_held}
use Rattle.line_talk.specs.declared.ended.Ended.{Ended}
use Rattle.line_talk.specs.declared.ended.Ended.TheVariants as ended
use Rattle.host_top.specs.Headline.{Speech, whole_text}
use Rattle.line_talk.specs.Lines.{lines, talk, heard}
use Rattle.host_top.specs.RunText.{world_after_opening, solo, show_text}
use Rattle.host_top.specs.CheckText.{good_line}
use Rattle.host_top.specs.Speech.{said_once, run_speech, check_speech}
use Rattle.host_top.specs.Spoken.{Spoken, SpeechLeaves}
use Rattle.host_top.specs.Status.{status_of_end, status_of_stop}
use Rattle.line_talk.specs.Streams.{SourceState, SinkState, Wrote}
use Rattle.line_talk.specs.Writing.{IsPartOf, Stopped}
use Rattle.line_talk.proofs.StreamsLemmas.{gave_none, wrote_none, wrote_then}
use Rattle.host_top.specs.Plain.{Plain, PlainReply}
use Rattle.line_talk.specs.Talked.{Talked}
use Rattle.host_top.proofs.PlainLemmas.{replies_more, replies_settled, after_settled, talked_plain}
use Rattle.host_top.proofs.PlainLemmas.{speech_by, held_replies, held_after, part_by}
use Rattle.line_talk.proofs.WritingLemmas.{stopped_more}

begun_part : (first part text : List ℕ) → IsPartOf part text
    → IsPartOf (first ++ part) (first ++ text)
begun_part first part text p = (p.0, ap (λ t. first ++ t) p.1 ∙ sym (append_assoc first part p.0))

-- a speech that another one says behind an opening
leaves_behind : (behind speech : Speech) (opening : List ℕ)
    → ((lines : List (List ℕ)) → opening ++ behind.text lines ≡ speech.text lines)
    → ((lines : List (List ℕ)) → behind.is_over lines ≡ speech.is_over lines)
    → (e : Ended) (read : List ℕ) (now : SourceState) (written : List ℕ)
    → SpeechLeaves (status_of_end e) (Ok behind) read now written
    → SpeechLeaves (status_of_end e) (Ok speech) read now (opening ++ written)
leaves_behind behind speech opening text over ended.End read now written p = (
  ap (λ w. opening ++ w) p.0 ∙ text (lines read),
  elim p.1 [
    | inl end ↦ inl end
    | inr is ↦ inr (sym (over (lines read)) ∙ is)
  ],
)
leaves_behind behind speech opening text over ended.ReadFault read now written p =
    ap (λ w. opening ++ w) p ∙ text (talk read)
leaves_behind behind speech opening text over ended.WriteFault read now written p =
    part_by _ _ _ (begun_part opening written (behind.text (talk read)) p) (text (talk read))
leaves_behind behind speech opening text over ended.NoMemory read now written p =
    part_by _ _ _ (begun_part opening written (behind.text (talk read)) p) (text (talk read))
leaves_behind behind speech opening text over ended.LineLimit read now written p =
    (ap (λ w. opening ++ w) p.0 ∙ text (talk read), p.1)

-- an opening was written, and then lines were answered by a state that is held
spoken_by : {A : Type 0} (by : Answering A) (start : A) (opening : List ℕ) {new_state : Option A}
    {input now : SourceState} {output mid new : SinkState} (e : Ended)
    → Wrote output mid opening
    → Talked (Plain (answering_held by)) (PlainReply (answering_held by)) (is_over_held by)
    (Some start) new_state input now mid new e
    → Spoken (Ok (speech_by by start opening)) input now output new (status_of_end e)
spoken_by by start opening {new_state} {input} {now} {output} {mid} {new} e wrote talked =
    let t = talked_plain (answering_held by) e talked in
    record {
      read = t.read;
      written = opening ++ t.written;
      gave = t.gave;
      within = t.within;
      wrote = wrote_then wrote t.wrote;
      leaves =
          leaves_behind (speech_by (answering_held by) (Some start) [])
          (speech_by by start opening) opening
          (λ lines. ap (λ w. opening ++ w) (held_replies by start (map heard lines)))
          (λ lines. ap (is_over_held by) (held_after by start (map heard lines)))
          e t.read now t.written t.leaves;
    }

-- no line is answered after the opening
pub spoken_over : {A : Type 0} (by : Answering A) (start : A) (opening : List ℕ)
    (input : SourceState) {output new : SinkState}
    → Wrote output new opening → by.is_over start ≡ true
    → Spoken (Ok (speech_by by start opening)) input input output new Done
spoken_over by start opening input wrote over = record {
  read = [];
  written = opening;
  gave = gave_none input;
  within = omega arith;
  wrote = wrote;
  leaves = (sym (append-nil opening), inr over);
}

stop_leaves : (cause : Stop) (said : Result Speech (List ℕ)) (read : List ℕ) (now : SourceState)
    (written : List ℕ)
    → IsPartOf written (whole_text said (talk read))
    → SpeechLeaves (status_of_stop cause) said read now written
stop_leaves stop.Output said read now written p = p
stop_leaves stop.Memory said read now written p = p

-- a text that begins what is to be written was not written whole
pub spoken_stopped : (said : Result Speech (List ℕ)) (input : SourceState) {output new : SinkState}
    {text : List ℕ} {cause : Stop} (rest : List ℕ)
    → whole_text said [] ≡ text ++ rest → Stopped output new text cause
    → Spoken said input input output new (status_of_stop cause)
spoken_stopped said input {output} {new} {text} {cause} rest is s =
    let all : Stopped output new (text ++ rest) cause = stopped_more rest s in
    record {
      read = [];
      written = all.wrote.part;
      gave = gave_none input;
      within = omega arith;
      wrote = all.wrote.wrote;
      leaves = stop_leaves cause said [] input all.wrote.part (all.rest, is ∙ all.wrote.split);
    }

-- memory was wanted before anything was written
pub spoken_nothing : (said : Result Speech (List ℕ)) (input : SourceState) (output : SinkState)
    → Spoken said input input output output NoMemory
spoken_nothing said input output = record {
  read = [];
  written = [];
  gave = gave_none input;
  within = omega arith;
  wrote = wrote_none output;
  leaves = (whole_text said [], refl);
}

-- a story is refused
pub spoken_refused : (line : List ℕ) (input : SourceState) {output new : SinkState}
    → Wrote output new line → Spoken (Err line) input input output new Refused
spoken_refused line input wrote = record {
  read = [];
  written = line;
  gave = gave_none input;
  within = omega arith;
  wrote = wrote;
  leaves = refl;
}

pub spoken_silent : (input : SourceState) (output : SinkState)
    → Spoken (Ok (said_once [])) input input output output Done
spoken_silent input output = record {
  read = [];
  written = [];
  gave = gave_none input;
  within = omega arith;
  wrote = wrote_none output;
  leaves = (refl, inr refl);
}

-- one text was written, or not whole
pub once_written : (text : List ℕ) (input : SourceState) {output new : SinkState}
    → Wrote output new text
    → Spoken (Ok (said_once text)) input input output new Done
once_written text input wrote = record {
  read = [];
  written = text;
  gave = gave_none input;
  within = omega arith;
  wrote = wrote;
  leaves = (refl, inr refl);
}

pub once_stopped : (text : List ℕ) (input : SourceState) {output new : SinkState} {cause : Stop}
    → Stopped output new text cause
    → Spoken (Ok (said_once text)) input input output new (status_of_stop cause)
once_stopped text input s = spoken_stopped (Ok (said_once text)) input [] (sym (append-nil text)) s

-- the story that is played alone: its opening show wasn't written whole, it is over at once, or
-- lines were answered
pub run_stopped : (story : Story) (budget : ℕ) (input : SourceState) {output new : SinkState}
    {cause : Stop} (start : WorldState) → start ≡ world_after_opening story budget
    → Stopped output new (show_text start) cause
    → Spoken (Ok (run_speech (Some story) budget)) input input output new (status_of_stop cause)
run_stopped story budget input {output} {new} {cause} start is s =
    spoken_stopped (Ok (run_speech (Some story) budget)) input [] refl
    (subst (λ (w : WorldState). Stopped output new (show_text w) cause) is s)

pub run_over : (story : Story) (budget : ℕ) (input : SourceState) {output new : SinkState}
    (start : WorldState) → start ≡ world_after_opening story budget
    → is_over start ≡ true → Wrote output new (show_text start)
    → Spoken (Ok (run_speech (Some story) budget)) input input output new Done
run_over story budget input {output} {new} start is over wrote =
    spoken_over solo (world_after_opening story budget)
    (show_text (world_after_opening story budget)) input
    (subst (λ (w : WorldState). Wrote output new (show_text w)) is wrote)
    (ap is_over (sym is) ∙ over)

pub run_talked : (story : Story) (budget : ℕ) {input now : SourceState} {output mid new : SinkState}
    (e : Ended) (start : WorldState) → start ≡ world_after_opening story budget
    → Wrote output mid (show_text start) → {new_player : Option WorldState}
    → Talked (Plain (answering_held solo)) (PlainReply (answering_held solo)) (is_over_held solo)
    (Some start)
    new_player input now mid new e
    → Spoken (Ok (run_speech (Some story) budget)) input now output new (status_of_end e)
run_talked story budget {input} {now} {output} {mid} {new} e start is wrote talked =
    subst (λ (w : WorldState).
    Spoken (Ok (speech_by solo w (show_text w))) input now output new (status_of_end e)) is
    (spoken_by solo start (show_text start) e wrote talked)

-- a text goes on as its input does
pub record IsSteady (speech : Speech) : Type 0 where
  pub more : (some more : List (List ℕ)) → IsPartOf (speech.text some) (speech.text (some ++ more))
  pub settled : (read rest : List ℕ) → speech.is_over (lines read) ≡ true
      → speech.text (lines (read ++ rest)) ≡ speech.text (lines read)
  pub still_over : (read rest : List ℕ) → speech.is_over (lines read) ≡ true
      → speech.is_over (lines (read ++ rest)) ≡ true

steady_by : {A : Type 0} (by : Answering A) (start : A) (opening : List ℕ)
    → IsSteady (speech_by by start opening)
steady_by by start opening = record {
  more =
      λ some more. begun_part opening (replies by start some) (replies by start (some ++ more))
      (replies_more by start some more);
  settled = λ read rest over. ap (λ l. opening ++ l) (replies_settled by start read rest over);
  still_over = λ read rest over. ap by.is_over (after_settled by start read rest over) ∙ over;
}

pub steady_once : (text : List ℕ) → IsSteady (said_once text)
steady_once text = record {
  more = λ some more. ([], sym (append-nil text));
  settled = λ read rest over. refl;
  still_over = λ read rest over. refl;
}

pub steady_run : (story : Option Story) (budget : ℕ) → IsSteady (run_speech story budget)
steady_run None budget = steady_once []
steady_run (Some story) budget =
    steady_by solo (world_after_opening story budget) (show_text (world_after_opening story budget))

pub steady_check : (story : Option Story) → IsSteady (check_speech story)
steady_check None = steady_once []
steady_check (Some story) = steady_once (good_line story.image)
