-- What a conversation has read and answered so far.
use Rattle.std.proofs.Common.{◌≡◌, ℕ, ◌+◌, ◌^◌, ◌<◌, ◌≤◌, inl, inr, List, [], ◌∷◌, ◌++◌, take}
use Rattle.std.proofs.Common.{map, length, refl, sym, ap, ◌∙◌, subst, arith, append_assoc}
use Rattle.std.proofs.Common.{length-append, Some, Bool, true, false, cond, nat_eq}
use Rattle.std.proofs.lemmas.Bool.Decides.{nat_tests}
use Rattle.std.proofs.lemmas.List.{append-nil, take_all, take-append-le, length-map}
use Rattle.std.specs.Io.KnownBytes.{IsAtEnd}
use Rattle.line_talk.specs.declared.sink.Stop.{Stop}
use Rattle.line_talk.specs.declared.sink.Stop.TheVariants as stop
use Rattle.line_talk.specs.declared.ended.Ended.TheVariants.{End, ReadFault, WriteFault}
use Rattle.line_talk.specs.declared.ended.Ended.TheVariants.{NoMemory, LineLimit}
use Rattle.line_talk.specs.Causes.{Rose}
use Rattle.line_talk.specs.Streams.{SourceState, SinkState, Gave}
use Rattle.line_talk.specs.Ends.{ended_by}
use Rattle.line_talk.specs.Lines.{heard, lines_from, lines, talk, IsWithinLimits}
use Rattle.line_talk.specs.Conversation.{Line, Turn, Answered, StopsBehind}
use Rattle.line_talk.specs.Hearing.{heard_from, longer_line}
use Rattle.line_talk.specs.Hears.{HearsAll, HearsPart, StopsWithin}
use Rattle.line_talk.specs.Talked.{Talked, AreFirst, AnswersOf, Converses}
use Rattle.line_talk.proofs.StreamsLemmas.{gave_none, gave_then}
use Rattle.line_talk.proofs.LinesLemmas.{more_lines, talk_small, first_of_talk}
use Rattle.line_talk.proofs.TurnLemmas.{answered_none, answered_then, stops_then, stops_rose}
use Rattle.line_talk.proofs.HearingLemmas.{hears_none, hears_then, heard_behind}

-- a line that is kept grows as it is heard
heard_longer : (begun : List ℕ) (byte : ℕ)
    → longer_line (heard begun) byte ≡ heard (begun ++ byte ∷ [])
heard_longer begun byte = grind (arith, nat_tests, length-append {A = ℕ})

-- the lines that are kept are those of the bytes
heard_lines : (begun bytes : List ℕ)
    → heard_from (heard begun) bytes ≡ map heard (lines_from begun bytes)
heard_lines begun [] = refl
heard_lines begun (byte ∷ bytes) =
    elim (nat_eq byte 10) as (λ b. cond b (heard begun ∷ heard_from (Some []) bytes)
    (heard_from (longer_line (heard begun) byte) bytes)
    ≡ map heard (cond b (begun ∷ lines_from [] bytes) (lines_from (begun ++ byte ∷ []) bytes))) [
      | true ↦ ap (λ ls. heard begun ∷ ls) (heard_lines [] bytes)
      | false ↦
          ap (λ l. heard_from l bytes) (heard_longer begun byte)
          ∙ heard_lines (begun ++ byte ∷ []) bytes
    ]

pub kept_lines : (bytes : List ℕ) → heard_from (Some []) bytes ≡ map heard (lines bytes)
kept_lines bytes = heard_lines [] bytes

count_lines : (bytes : List ℕ) → length (lines bytes) ≡ length (heard_from (Some []) bytes)
count_lines bytes = sym (ap length (kept_lines bytes) ∙ length-map (lines bytes) heard)

pub record Talking {A : Type 0} (turn : Turn A) (over : A → Bool) (start : A)
    (input : SourceState) (output : SinkState)
    (now : SourceState) (new : SinkState) (state : A) (line : Line) (count room : ℕ) : Type 0 where
  pub read : List ℕ
  pub gave : Gave input now read
  pub fits : length read + room ≡ 2 ^ 31
  pub all : HearsAll turn over start (Some []) 0 read state line count output new
  pub going : over state ≡ false
  pub few : count < 2 ^ 20

pub talk_start : {A : Type 0} (turn : Turn A) (over : A → Bool) (start : A)
    (input : SourceState) (output : SinkState)
    → over start ≡ false
    → Talking turn over start input output input output start (Some []) 0 (2 ^ 31)
talk_start turn over start input output going = record {
  read = [];
  gave = gave_none input;
  fits = refl;
  all = hears_none turn over start (Some []) 0 output;
  going = going;
  few = omega arith;
}

-- memory was wanted before anything was read
pub talk_none : {A : Type 0} (turn cut : Turn A) (over : A → Bool) (start : A)
    (input : SourceState) (output : SinkState)
    → Talked turn cut over start start input input output output NoMemory
talk_none turn cut over start input output = record {
  read = [];
  answered = [];
  gave = gave_none input;
  within = omega arith;
  which = ([], refl);
  how = inr (answered_none turn over start output, refl);
}

gave_nothing : {old mid new : SourceState} {x : List ℕ}
    → Gave old mid x → Gave mid new [] → Gave old new x
gave_nothing {old} {mid} {new} {x} p q =
    subst (λ (b : List ℕ). Gave old new b) (append-nil x) (gave_then p q)

limit_lines : (some more : List (List ℕ))
    → length some ≡ 2 ^ 20 → some ≡ take (2 ^ 20) (some ++ more)
limit_lines some more n =
    sym (take-append-le (2 ^ 20) some more (omega (arith, n))
    ∙ take_all (2 ^ 20) some (omega (arith, n)))

stop_which : (cause : Stop) (read : List ℕ) (now : SourceState) (over : Bool)
    (answered : List (List ℕ))
    → AreFirst answered (talk read) → AnswersOf (ended_by cause) read now over answered
stop_which stop.Output read now over answered p = p
stop_which stop.Memory read now over answered p = p

stop_how : {A : Type 0} (cause : Stop) (turn cut : Turn A) (over : A → Bool) (old : A)
    (ls : List Line) (new : A) (output now : SinkState)
    → StopsBehind turn cut over old ls new output now cause
    → Converses (ended_by cause) turn cut over old ls new output now
stop_how stop.Output turn cut over old ls new output now p = p
stop_how stop.Memory turn cut over old ls new output now p = p

module _ {A : Type 0} {turn : Turn A} {over : A → Bool} {start : A} {input : SourceState}
    {output : SinkState} {now : SourceState} {new : SinkState} {state : A} {line : Line}
    {count room : ℕ}
    (t : Talking turn over start input output now new state line count room) where
  pub talk_on : (piece : List ℕ) {now' : SourceState} {new' : SinkState} {state' : A}
      {line' : Line} {count' room' : ℕ}
      → Gave now now' piece → length piece + room' ≡ room
      → HearsAll turn over state line count piece state' line' count' new new'
      → over state' ≡ false → count' < 2 ^ 20
      → Talking turn over start input output now' new' state' line' count' room'
  talk_on piece gave fits h going few = record {
    read = t.read ++ piece;
    gave = gave_then t.gave gave;
    fits = omega (arith, t.fits, fits, length-append t.read piece);
    all = hears_then t.all h;
    going = going;
    few = few;
  }

  -- all whole lines that were read were answered
  all_answered : Answered turn over start (map heard (lines t.read)) state output new
  all_answered =
      subst (λ (ls : List Line). Answered turn over start ls state output new)
      (kept_lines t.read) t.all.answered

  -- while there is room, no limit is reached
  within_limits : 0 < room → IsWithinLimits t.read
  within_limits more = record {
    size = omega (arith, t.fits, more);
    count = omega (arith, count_lines t.read, t.all.counts, t.few);
  }

  -- all lines that were read are lines that a connection takes
  all_taken : lines t.read ≡ talk t.read
  all_taken =
      sym (talk_small t.read (omega (arith, t.fits))
      ∙ take_all (2 ^ 20) (lines t.read)
      (omega (arith, count_lines t.read, t.all.counts, t.few)))

  -- the source has ended
  pub talk_end : (cut : Turn A) {now' : SourceState}
      → Gave now now' [] → now'.ended ≡ true → IsAtEnd now'.left → 0 < room
      → Talked turn cut over start state input now' output new End
  talk_end cut gave ended at_end more = record {
    read = t.read;
    answered = lines t.read;
    gave = gave_nothing t.gave gave;
    within = omega (arith, t.fits);
    which = inl (refl, record { ended = ended; at_end = at_end; within = within_limits more });
    how = all_answered;
  }

  -- the source has failed
  pub talk_fault : (cut : Turn A) {now' : SourceState}
      → Gave now now' [] → 0 < room
      → Talked turn cut over start state input now' output new ReadFault
  talk_fault cut gave more = record {
    read = t.read;
    answered = lines t.read;
    gave = gave_nothing t.gave gave;
    within = omega (arith, t.fits);
    which = (all_taken, within_limits more);
    how = all_answered;
  }

  -- no more bytes are taken
  pub talk_full : (cut : Turn A)
      → room ≡ 0
      → Talked turn cut over start state input now output new LineLimit
  talk_full cut none = record {
    read = t.read;
    answered = lines t.read;
    gave = t.gave;
    within = omega (arith, t.fits);
    which = (all_taken, inl (omega (arith, t.fits, none)));
    how = all_answered;
  }

  module _ (piece : List ℕ) {now' : SourceState} (gave : Gave now now' piece)
      (within : length piece ≤ room) where
    small : length (t.read ++ piece) ≤ 2 ^ 31
    small = omega (arith, t.fits, within, length-append t.read piece)

    -- the lines of a part of the piece, behind those before
    part_lines : (front : List ℕ)
        → heard_from (Some []) t.read ++ heard_from line front ≡ map heard (lines (t.read ++ front))
    part_lines front =
        heard_behind (Some []) line t.read front t.all.same_line ∙ kept_lines (t.read ++ front)

    part_count : (front : List ℕ)
        → length (lines (t.read ++ front)) ≡ count + length (heard_from line front)
    part_count front =
        omega (
          arith,
          t.all.counts,
          ap length (part_lines front),
          length-append (heard_from (Some []) t.read) (heard_from line front),
          length-map (lines (t.read ++ front)) heard,
        )

    part_first : (front rest : List ℕ)
        → piece ≡ front ++ rest
        → AreFirst (lines (t.read ++ front)) (lines (t.read ++ piece))
    part_first front rest split =
        let more = more_lines (t.read ++ front) rest in (
          more.0,
          ap lines (ap (λ p. t.read ++ p) split ∙ sym (append_assoc t.read front rest)) ∙ more.1,
        )

    part_answered : (front : List ℕ) {new' : SinkState} {state' : A}
        → Answered turn over state (heard_from line front) state' new new'
        → Answered turn over start (map heard (lines (t.read ++ front))) state' output new'
    part_answered front {new'} {state'} a =
        subst (λ (ls : List Line). Answered turn over start ls state' output new')
        (part_lines front) (answered_then t.all.answered a)

    -- no further line is answered
    pub talk_over : (cut : Turn A) {new' : SinkState} {state' : A}
        → HearsPart (λ lines. Answered turn over state lines state' new new' × (over state' ≡ true))
        line piece
        → Talked turn cut over start state' input now' output new' End
    talk_over cut p = record {
      read = t.read ++ piece;
      answered = lines (t.read ++ p.front);
      gave = gave_then t.gave gave;
      within = small;
      which = inr (part_first p.front p.rest p.split, p.holds.1);
      how = part_answered p.front p.holds.0;
    }

    -- the most lines were answered
    pub talk_limit : (cut : Turn A) {new' : SinkState} {state' : A}
        → HearsPart
        (λ lines. Answered turn over state lines state' new new' × (count + length lines ≡ 2 ^ 20))
        line piece
        → Talked turn cut over start state' input now' output new' LineLimit
    talk_limit cut p =
        let first = part_first p.front p.rest p.split in
        let many : length (lines (t.read ++ p.front)) ≡ 2 ^ 20 =
        part_count p.front ∙ p.holds.1 in
        record {
          read = t.read ++ piece;
          answered = lines (t.read ++ p.front);
          gave = gave_then t.gave gave;
          within = small;
          which = (
            limit_lines (lines (t.read ++ p.front)) first.0 many
                ∙ sym (talk_small (t.read ++ piece) small ∙ ap (take (2 ^ 20)) first.1),
            inr (omega (
              arith,
              ap length first.1,
              length-append (lines (t.read ++ p.front)) first.0,
              many,
            )),
          );
          how = part_answered p.front p.holds.0;
        }

    -- a reply was not written whole, or memory was wanted
    pub talk_stopped : {cut : Turn A} {new' : SinkState} {state' : A} {cause : Stop}
        → StopsWithin turn cut over state line count piece state' new new' cause
        → Talked turn cut over start state' input now' output new' (ended_by cause)
    talk_stopped {cut} {new'} {state'} {cause} p = record {
      read = t.read ++ piece;
      answered = lines (t.read ++ p.front);
      gave = gave_then t.gave gave;
      within = small;
      which =
          stop_which cause (t.read ++ piece) now' (over state') (lines (t.read ++ p.front))
          (first_of_talk (lines (t.read ++ p.front)) (t.read ++ piece) small
          (part_first p.front p.rest p.split) (omega (arith, part_count p.front, p.holds.1)));
      how =
          stop_how cause turn cut over start
          (map heard (lines (t.read ++ p.front))) state' output new'
          (subst (λ (ls : List Line). StopsBehind turn cut over start ls state' output new' cause)
          (part_lines p.front) (stops_then t.all.answered p.holds.0));
    }

  -- and the sink's faults rose where the status says so
  pub talk_rose : {cut : Turn A} {piece : List ℕ} {new' : SinkState} {state' : A} (cause : Stop)
      → StopsWithin turn cut over state line count piece state' new new' cause
      → ended_by cause ≡ WriteFault → Rose output.faults new'.faults
  talk_rose stop.Output p e =
      omega (arith, t.all.answered.wrote.later, stops_rose p.holds.0 refl)
  talk_rose stop.Memory p e = absurd cc
