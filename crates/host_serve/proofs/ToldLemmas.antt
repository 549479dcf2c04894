-- From a conversation to the turns of its lines.
use Rattle.std.proofs.Common.{◌≡◌, ℕ, ◌^◌, ◌≤◌, List, [], ◌∷◌, ◌++◌, length, map, Option, Bool}
use Rattle.std.proofs.Common.{true, false, None, refl, ap, sym, ◌∙◌, subst, inl, inr, arith}
use Rattle.std.proofs.Common.{append_assoc}
use Rattle.std.proofs.lemmas.List.{map-append}
use Rattle.turn_cell.proofs.HistoryLemmas.{nil_right}
use Rattle.line_words.specs.Reply.{print_reply}
use Rattle.line_words.specs.declared.reply.Reply.{Reply}
use Rattle.line_talk.specs.Conversation.{Answered, BreaksLast, Line}
use Rattle.line_talk.specs.Conversation.{StopsBehind, Turns, texts_joined}
use Rattle.line_talk.specs.Lines.{heard, talk}
use Rattle.line_talk.specs.Streams.{SinkState, SourceState, Gave, Wrote}
use Rattle.line_talk.specs.Talked.{AnsweredOf, AnswersOf, Talked}
use Rattle.line_talk.specs.declared.ended.Ended.{Ended}
use Rattle.line_talk.specs.declared.ended.Ended.TheVariants as ended
use Rattle.line_talk.specs.declared.sink.Stop.{Stop}
use Rattle.line_talk.specs.declared.sink.Stop.TheVariants.{Output, Memory}
use Rattle.line_talk.proofs.StreamsLemmas.{gave_none, wrote_none, wrote_then}
use Rattle.story_run.specs.World.{WorldState}
use Rattle.session_core.specs.declared.entry.Entry.{Entry}
use Rattle.host_serve.specs.declared.answer.Answer.{Answer}
use Rattle.host_serve.specs.declared.host.Host.{Host}
use Rattle.host_serve.specs.declared.mark.Mark.{Mark}
use Rattle.host_serve.specs.Chain.{Answers, AnswersInOrder}
use Rattle.host_serve.specs.Holders.{Holder}
use Rattle.host_serve.specs.Serves.{ServesLines, AnsweredLine}
use Rattle.host_serve.specs.Speaking.{Speaking, Speaks, seen_and_marked, turn_with}
use Rattle.host_serve.specs.Told.{IsCutText, TellsLink, WritesReplies, turn_from}
use Rattle.host_serve.proofs.ChainLemmas.{chain_more}
use Rattle.host_serve.proofs.ServesLemmas.{serves_of}

abbrev pub line_of : AnsweredLine → List ℕ
line_of t = t.line

abbrev pub mark_of : AnsweredLine → Mark
mark_of t = t.mark

abbrev pub reply_of : AnsweredLine → Reply
reply_of t = t.reply

-- the last of some lines
pub record SplitLines (answered : List (List ℕ)) (before : List Line) (last : Line) : Type 0 where
  pub front : List (List ℕ)
  pub back : List ℕ
  pub all : answered ≡ front ++ back ∷ []
  pub fronts : map heard front ≡ before
  pub backs : heard back ≡ last

abbrev head_or : Line → List Line → Line
head_or d [] = d
head_or d (x ∷ xs) = x

abbrev tail_of : List Line → List Line
tail_of [] = []
tail_of (x ∷ xs) = xs

no_end : (xs : List Line) (x : Line) → [] ≡ xs ++ x ∷ [] → ⊥
no_end [] x e = let a = ap (λ (l : List Line). length l) e in omega arith
no_end (y ∷ ys) x e = let a = ap (λ (l : List Line). length l) e in omega arith

pub split_lines : (answered : List (List ℕ)) (before : List Line) (last : Line)
    → map heard answered ≡ before ++ last ∷ [] → SplitLines answered before last
split_lines [] before last e = absurd (no_end before last e)
split_lines (line ∷ []) [] last e =
    record { front = []; back = line; all = refl; fronts = refl; backs = ap (head_or None) e }
split_lines (line ∷ more ∷ answered) [] last e =
    let a = ap (λ (l : List Line). length l) e in absurd (omega arith)
split_lines (line ∷ answered) (b ∷ before) last e =
    let rest = split_lines answered before last (ap tail_of e) in
    record {
      front = line ∷ rest.front;
      back = rest.back;
      all = ap (λ (l : List (List ℕ)). line ∷ l) rest.all;
      fronts = λ i. ap (head_or None) e i ∷ rest.fronts i;
      backs = rest.backs;
    }

-- `sound` says that a host is sound
module _ {D : Type 0} (sound : Host D → Type 0) where
  -- the turns of a host that speaks, in order, and what they serve
  abbrev InOrder : Speaking D → List AnsweredLine → List (List Entry) → Type 0
  InOrder old turns new = AnswersInOrder old.host.stories.now old.host.budget (sound old.host)
      old.holders old.seen turns new

  abbrev Serving : Speaking D → List AnsweredLine → List (List Entry) → Type 0
  Serving old turns new = ServesLines old.host.stories.now old.host.budget (sound old.host)
      old.holders old.seen turns new

  -- one answer, as a host speaks it
  pub speaks_of : (old : Speaking D) (line : Line) (holders : List Holder)
      (seen : List (List Entry))
      (marks : List Mark) (answer : Answer) → holders ≡ old.holders
      → marks ≡ old.marks ++ answer.mark ∷ []
      → (world : Option WorldState) × ((bytes : List ℕ) → heard bytes ≡ line
      → Answers old.host.stories.now old.host.budget (sound old.host) old.holders old.seen
      (turn_from bytes world answer) seen)
      → Speaks sound old line (print_reply answer.reply)
      (record { host = old.host; holders = holders; seen = seen; marks = marks })
  speaks_of old line holders seen marks answer same grown answers = record {
    world = answers.0;
    outcome = answer.outcome;
    mark = answer.mark;
    reply = answer.reply;
    spelled = refl;
    answers = answers.1;
    after = λ i. record {
      host = old.host;
      holders = same i;
      seen = seen;
      marks = grown i;
    };
  }

  -- the turns of lines that were answered
  record SpokenTurns (old : Speaking D) (answered texts : List (List ℕ)) (new : Speaking D)
      : Type 0 where
    pub turns : List AnsweredLine
    pub lines : map line_of turns ≡ answered
    pub replies : texts ≡ map print_reply (map reply_of turns)
    pub chain : InOrder old turns new.seen
    pub after : new ≡ seen_and_marked old new.seen (old.marks ++ map mark_of turns)

  abbrev never : Speaking D → Bool
  never _ = false

  spoken : (old : Speaking D) (answered texts : List (List ℕ)) (new : Speaking D)
      → Turns (Speaks sound) never old (map heard answered) texts new
      → SpokenTurns old answered texts new
  spoken old [] [] new turns = record {
    turns = [];
    lines = refl;
    replies = refl;
    chain = ap (λ (s : Speaking D). s.seen) turns;
    after = turns ∙ ap (λ (l : List Mark). record old { marks = l }) (sym (nil_right old.marks))
        ∙ ap (λ (l : List (List Entry)).
        record old { seen = l; marks = old.marks ++ [] })
        (ap (λ (s : Speaking D). s.seen) (sym turns));
  }
  spoken old [] (text ∷ texts) new turns = absurd turns
  spoken old (line ∷ answered) [] new turns = absurd turns
  spoken old (line ∷ answered) (text ∷ texts) new (going, (mid, speaks, turns)) =
      let rest = spoken mid answered texts new turns in
      record {
        turns = turn_with line speaks.world speaks.outcome speaks.mark speaks.reply ∷ rest.turns;
        lines = ap (λ (l : List (List ℕ)). line ∷ l) rest.lines;
        replies = λ i. speaks.spelled i ∷ rest.replies i;
        chain = (
          mid.seen,
          speaks.answers line refl,
          subst (λ (s : Speaking D).
              AnswersInOrder s.host.stories.now s.host.budget (sound s.host) s.holders
              mid.seen rest.turns new.seen)
              speaks.after rest.chain,
        );
        after = rest.after
            ∙ (ap (λ (s : Speaking D). seen_and_marked s new.seen
            (s.marks ++ map mark_of rest.turns))
            speaks.after
            ∙ ap (λ (l : List Mark). seen_and_marked old new.seen l)
            (append_assoc old.marks (speaks.mark ∷ []) (map mark_of rest.turns)));
      }

  -- what was said of some lines that were answered
  record SaidAll (old : Speaking D) (answered : List (List ℕ)) (new : Speaking D)
      (turns : List AnsweredLine) : Type 0 where
    pub lines : map line_of turns ≡ answered
    pub chain : InOrder old turns new.seen
    pub after : new ≡ seen_and_marked old new.seen (old.marks ++ map mark_of turns)

  -- all replies were written whole
  said_whole : (old new : Speaking D) (answered : List (List ℕ)) (output now : SinkState)
      → Answered (Speaks sound) never old (map heard answered) new output now
      → (turns : List AnsweredLine) × SaidAll old answered new turns
      × Wrote output now (texts_joined (map print_reply (map reply_of turns)))
  said_whole old new answered output now a = let s = spoken old answered a.replies new a.turns in (
    s.turns,
    record { lines = s.lines; chain = s.chain; after = s.after },
    subst (λ (texts : List (List ℕ)). Wrote output now (texts_joined texts)) s.replies a.wrote,
  )

  -- all but an end of the last one
  said_cut : (old new : Speaking D) (answered : List (List ℕ)) (output now : SinkState)
      (cause : Stop) → BreaksLast (Speaks sound) (Speaks sound) never old (map heard answered) new
      output now cause
      → (turns : List AnsweredLine) × SaidAll old answered new turns
      × ((written : List ℕ) × Wrote output now written × IsCutText written (map reply_of turns))
  said_cut old new answered output now cause b =
      let at = split_lines answered b.before b.last b.all in
      let first = said_whole old b.mid at.front output b.between
      (subst (λ (l : List Line). Answered (Speaks sound) never old l b.mid output b.between)
      (sym at.fronts) b.answered) in
      let speaks = b.breaks.turned in
      let t = turn_with at.back speaks.world speaks.outcome speaks.mark speaks.reply in
      let said = first.1 in
      let part = b.breaks.stopped.wrote.part in
      let before = map reply_of first.0 in (
        first.0 ++ t ∷ [],
        record {
          lines = map-append line_of first.0 (t ∷ [])
              ∙ (ap (λ (l : List (List ℕ)). l ++ at.back ∷ []) said.lines ∙ sym at.all);
          chain =
              chain_more old.host.stories.now old.host.budget (sound old.host) old.holders old.seen
              b.mid.seen new.seen first.0 t
              said.chain (subst (λ (s : Speaking D).
              Answers s.host.stories.now s.host.budget (sound s.host) s.holders b.mid.seen t
              new.seen) said.after
              (speaks.answers at.back at.backs));
          after = speaks.after
              ∙ (ap (λ (s : Speaking D). seen_and_marked s new.seen (s.marks ++ speaks.mark ∷ []))
              said.after
              ∙ ap (λ (l : List Mark). seen_and_marked old new.seen l)
              (append_assoc old.marks (map mark_of first.0) (speaks.mark ∷ [])
              ∙ ap (λ (l : List Mark). old.marks ++ l)
              (sym (map-append mark_of first.0 (t ∷ [])))));
        },
        (
          texts_joined (map print_reply before) ++ part,
          wrote_then first.2 b.breaks.stopped.wrote.wrote,
          record {
            before = before;
            last = speaks.reply;
            part = part;
            all = map-append reply_of first.0 (t ∷ []);
            begins = (
              b.breaks.stopped.rest,
              sym speaks.spelled ∙ b.breaks.stopped.wrote.split,
            );
            text = refl;
          },
        ),
      )

  module _ (old new : Speaking D) (input now : SourceState) (output written : SinkState)
      (many : length old.holders ≡ 64) (wide : length old.seen ≡ 64) where
    -- what a call tells of its turns
    abbrev pub Told : Ended → Type 0
    Told served = (turns : List AnsweredLine)
        × TellsLink turns input now output written old.marks new.marks served
        × InOrder old turns new.seen × Serving old turns new.seen
        × (new ≡ seen_and_marked old new.seen new.marks)

    tell : (served : Ended) (read : List ℕ) (answered : List (List ℕ)) (turns : List AnsweredLine)
        (text : List ℕ) → Gave input now read → length read ≤ 2 ^ 31
        → AnsweredOf served read now answered → SaidAll old answered new turns
        → Wrote output written text → WritesReplies served text (map reply_of turns) → Told served
    tell served read answered turns text gave within which said wrote writes = (
      turns,
      record {
        read = read;
        written = text;
        gave = gave;
        within = within;
        lines = subst (λ (l : List (List ℕ)). AnsweredOf served read now l) (sym said.lines) which;
        wrote = wrote;
        replies = writes;
        marks = ap (λ (s : Speaking D). s.marks) said.after;
      },
      said.chain,
      serves_of old.host.stories.now old.host.budget (sound old.host) old.holders many old.seen
          turns new.seen wide said.chain,
      said.after ∙ ap (λ (l : List Mark). seen_and_marked old new.seen l)
          (sym (ap (λ (s : Speaking D). s.marks) said.after)),
    )

    abbrev Talks : Ended → Type 0
    Talks ended = Talked (Speaks sound) (Speaks sound) never old new input now output written ended

    -- each reply was written whole
    tell_whole : (ended : Ended) (t : Talks ended) → AnsweredOf ended t.read now t.answered
        → Answered (Speaks sound) never old (map heard t.answered) new output written
        → ((replies : List Reply)
        → WritesReplies ended (texts_joined (map print_reply replies)) replies) → Told ended
    tell_whole ended t which how writes =
        let s = said_whole old new t.answered output written how in
        tell ended t.read t.answered s.0 (texts_joined (map print_reply (map reply_of s.0)))
        t.gave t.within which s.1 s.2 (writes (map reply_of s.0))

    -- the last reply wasn't written whole
    tell_cut : (ended : Ended) (t : Talks ended) → AnsweredOf ended t.read now t.answered
        → (cause : Stop)
        → BreaksLast (Speaks sound) (Speaks sound) never old (map heard t.answered) new output
        written cause
        → ((text : List ℕ) (replies : List Reply) → IsCutText text replies
        → WritesReplies ended text replies) → Told ended
    tell_cut ended t which cause how writes =
        let s = said_cut old new t.answered output written cause how in
        tell ended t.read t.answered s.0 s.2.0 t.gave t.within which s.1 s.2.1
        (writes s.2.0 (map reply_of s.0) s.2.2)

    not_over : Bool → Type 0
    not_over true = ⊥
    not_over false = Unit {0}

    abbrev is_output : Stop → Type 0
    is_output Output = Unit {0}
    is_output Memory = ⊥

    pub told_of : (ended : Ended) → Talks ended → Told ended
    unfolding not_over
    told_of ended.End t = of t.which
      where
        of : AnswersOf ended.End t.read now false t.answered → Told ended.End
        of (inl which) = tell_whole ended.End t which t.how (λ replies. refl)
        of (inr over) = absurd (subst not_over over.1 tt)
    told_of ended.ReadFault t = tell_whole ended.ReadFault t t.which t.how (λ replies. refl)
    told_of ended.LineLimit t = tell_whole ended.LineLimit t t.which t.how (λ replies. refl)
    told_of ended.WriteFault t = of t.how
      where
        of : StopsBehind (Speaks sound) (Speaks sound) never old (map heard t.answered) new output
            written Output
            → Told ended.WriteFault
        of (inl how) = tell_cut ended.WriteFault t t.which Output how (λ text replies cut. cut)
        of (inr done) = absurd (subst is_output done.1 tt)
    told_of ended.NoMemory t = of t.how
      where
        of : StopsBehind (Speaks sound) (Speaks sound) never old (map heard t.answered) new output
            written Memory
            → Told ended.NoMemory
        of (inl how) = tell_cut ended.NoMemory t t.which Memory how (λ text replies cut. inl cut)
        of (inr done) = tell_whole ended.NoMemory t t.which done.0 (λ replies. inr refl)

    -- what the caller's passes and marks then are
    pub told_at : (ended : Ended) → Talks ended → (seen : List (List Entry)) (marks : List Mark)
        → seen ≡ new.seen → marks ≡ new.marks
        → (turns : List AnsweredLine)
        × TellsLink turns input now output written old.marks marks ended
        × InOrder old turns seen × Serving old turns seen
    told_at ended talks seen marks is_seen is_marks =
        let t = told_of ended talks in (
          t.0,
          subst (λ (l : List Mark). TellsLink t.0 input now output written old.marks l ended)
              (sym is_marks) t.1,
          subst (InOrder old t.0) (sym is_seen) t.2,
          subst (Serving old t.0) (sym is_seen) t.3,
        )

    pub told_holders : (ended : Ended) → Talks ended → new.holders ≡ old.holders
    told_holders ended talks = ap (λ (s : Speaking D). s.holders) (told_of ended talks).4

  -- no room was found before the first read
  pub told_nothing : (old : Speaking D) (input : SourceState) (output : SinkState)
      → length old.holders ≡ 64 → length old.seen ≡ 64
      → (turns : List AnsweredLine)
      × TellsLink turns input input output output old.marks old.marks ended.NoMemory
      × InOrder old turns old.seen × Serving old turns old.seen
  told_nothing old input output many wide =
      let t =
      tell old old input input output output many wide ended.NoMemory [] [] [] [] (gave_none input)
      (omega arith) (talk [], refl)
      (record {
        lines = refl;
        chain = refl;
        after = ap (λ (l : List Mark). record old { marks = l }) (sym (nil_right old.marks));
      }) (wrote_none output) (inr refl) in
      (t.0, t.1, t.2, t.3)
