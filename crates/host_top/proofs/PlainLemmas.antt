-- Conversations that are answered by functions of the state.
use Rattle.std.proofs.Common.{◌≡◌, ℕ, ◌⊎◌, inl, inr, List, [], ◌∷◌, ◌++◌, map, refl, sym, ap, ◌∙◌}
use Rattle.std.proofs.Common.{arith, append_assoc, cond, Some, Ok, Bool, true, false}
use Rattle.std.proofs.lemmas.List.{append-nil, map-append}
use Rattle.line_talk.specs.declared.sink.Stop.{Stop}
use Rattle.line_talk.specs.declared.ended.Ended.{Ended}
use Rattle.line_talk.specs.declared.ended.Ended.TheVariants.{End, ReadFault, WriteFault}
use Rattle.line_talk.specs.declared.ended.Ended.TheVariants.{LineLimit, NoMemory}
use Rattle.line_talk.specs.Streams.{SourceState, SinkState, Wrote}
use Rattle.line_talk.specs.Hearing.{heard_from, begun_after}
use Rattle.line_talk.specs.Lines.{heard, lines, talk}
use Rattle.line_talk.specs.Writing.{IsPartOf}
use Rattle.line_talk.specs.Conversation.{Line, Turns, Answered, BreaksLast, texts_joined}
use Rattle.line_talk.specs.Talked.{Talked}
use Rattle.host_top.specs.Plain.{Answering, Plain, PlainReply, answering_held, after_heard}
use Rattle.host_top.specs.Plain.{replies_heard, replies, state_after_lines}
use Rattle.host_top.specs.Headline.{Speech}
use Rattle.host_top.specs.Spoken.{Spoken, SpeechLeaves}
use Rattle.host_top.specs.Status.{status_of_end}
use Rattle.line_talk.proofs.HearingLemmas.{heard_append}
use Rattle.line_talk.proofs.StreamsLemmas.{wrote_then}
use Rattle.line_talk.proofs.TalkLemmas.{kept_lines}

replies_going : {A : Type 0} (by : Answering A) (state : A) (line : Line) (lines : List Line)
    → by.is_over state ≡ false
    → replies_heard by state (line ∷ lines) ≡ by.reply state line
    ++ replies_heard by (by.next state line) lines
replies_going by state line lines going = rw going refl

after_going : {A : Type 0} (by : Answering A) (state : A) (line : Line) (lines : List Line)
    → by.is_over state ≡ false
    → after_heard by state (line ∷ lines) ≡ after_heard by (by.next state line) lines
after_going by state line lines going = rw going refl

replies_over : {A : Type 0} (by : Answering A) (state : A) (lines : List Line)
    → by.is_over state ≡ true → replies_heard by state lines ≡ []
replies_over by state [] over = refl
replies_over by state (line ∷ lines) over = rw over refl

after_over : {A : Type 0} (by : Answering A) (state : A) (lines : List Line)
    → by.is_over state ≡ true → after_heard by state lines ≡ state
after_over by state [] over = refl
after_over by state (line ∷ lines) over = rw over refl

is_over_or_going : (b : Bool) → (b ≡ true) ⊎ (b ≡ false)
is_over_or_going true = inl refl
is_over_or_going false = inr refl

replies_append : {A : Type 0} (by : Answering A) (state : A) (xs ys : List Line)
    → replies_heard by state (xs ++ ys) ≡ replies_heard by state xs
    ++ replies_heard by (after_heard by state xs) ys
replies_append by state [] ys = refl
replies_append by state (x ∷ xs) ys = elim (is_over_or_going (by.is_over state)) [
  | inl over ↦
      let a = replies_over by state (x ∷ xs) over in
      let b : replies_heard by (after_heard by state (x ∷ xs)) ys ≡ [] =
      ap (λ v. replies_heard by v ys) (after_over by state (x ∷ xs) over)
      ∙ replies_over by state ys over in
      replies_over by state (x ∷ (xs ++ ys)) over
      ∙ sym (ap (λ l. l ++ replies_heard by (after_heard by state (x ∷ xs)) ys) a ∙ b)
  | inr going ↦
      replies_going by state x (xs ++ ys) going
      ∙ ap (λ l. by.reply state x ++ l) (replies_append by (by.next state x) xs ys)
      ∙ sym (append_assoc (by.reply state x) (replies_heard by (by.next state x) xs)
      (replies_heard by (after_heard by (by.next state x) xs) ys))
      ∙ ap (λ l. l ++ replies_heard by (after_heard by (by.next state x) xs) ys)
      (sym (replies_going by state x xs going))
      ∙ ap (λ v. replies_heard by state (x ∷ xs) ++ replies_heard by v ys)
      (sym (after_going by state x xs going))
]

after_append : {A : Type 0} (by : Answering A) (state : A) (xs ys : List Line)
    → after_heard by state (xs ++ ys) ≡ after_heard by (after_heard by state xs) ys
after_append by state [] ys = refl
after_append by state (x ∷ xs) ys = elim (is_over_or_going (by.is_over state)) [
  | inl over ↦ after_over by state (x ∷ (xs ++ ys)) over
      ∙ sym (ap (λ v. after_heard by v ys) (after_over by state (x ∷ xs) over)
      ∙ after_over by state ys over)
  | inr going ↦ after_going by state x (xs ++ ys) going ∙ after_append by (by.next state x) xs ys
      ∙ ap (λ v. after_heard by v ys) (sym (after_going by state x xs going))
]

-- the turns of such a conversation give these replies and this state
plain : {A : Type 0} (by : Answering A) (old : A) (lines : List Line) (replies : List (List ℕ))
    (new : A)
    → Turns (Plain by) by.is_over old lines replies new
    → (texts_joined replies ≡ replies_heard by old lines) × (new ≡ after_heard by old lines)
plain by old [] [] new p = (refl, p)
plain by old [] (r ∷ rs) new p = absurd p
plain by old (x ∷ xs) [] new p = absurd p
plain {A} by old (x ∷ xs) (r ∷ rs) new p =
    let rest = plain by p.1.0 xs rs new p.1.2 in
    let turned = p.1.1 in (
      ap (λ t. t ++ texts_joined rs) turned.0
          ∙ ap (λ t. by.reply old x ++ t) (rest.0 ∙ ap (λ s. replies_heard by s xs) turned.1)
          ∙ sym (replies_going by old x xs p.0),
      rest.1 ∙ ap (λ s. after_heard by s xs) turned.1 ∙ sym (after_going by old x xs p.0),
    )

-- what was written of the replies to these lines and those behind them
pub record Said {A : Type 0} (P : List ℕ → List ℕ → Type 0) (by : Answering A) (old : A)
    (lines more : List Line) (output now : SinkState) : Type 0 where
  pub written : List ℕ
  pub told : Wrote output now written
  pub says : P written (replies_heard by old (lines ++ more))

abbrev IsAll : List ℕ → List ℕ → Type 0
IsAll written text = written ≡ text

-- all lines were answered
said_all : {A : Type 0} (by : Answering A) {old new : A} {lines : List Line}
    {output now : SinkState}
    → Answered (Plain by) by.is_over old lines new output now
    → Said IsAll by old lines [] output now
said_all by {old} {new} {lines} a =
    let p = plain by old lines a.replies new a.turns in
    record {
      written = texts_joined a.replies;
      told = a.wrote;
      says = p.0
          ∙ ap (replies_heard by old) (sym (append-nil lines));
    }

-- all lines were answered until no more are
said_over : {A : Type 0} (by : Answering A) {old new : A} {lines : List Line} (more : List Line)
    {output now : SinkState}
    → Answered (Plain by) by.is_over old lines new output now → by.is_over new ≡ true
    → Said IsAll by old lines more output now
said_over by {old} {new} {lines} more a over =
    let p = plain by old lines a.replies new a.turns in
    let done : replies_heard by (after_heard by old lines) more ≡ [] =
    ap (λ s. replies_heard by s more) (sym p.1) ∙ replies_over by new more over in
    record {
      written = texts_joined a.replies;
      told = a.wrote;
      says =
          p.0 ∙ sym (replies_append by old lines more
          ∙ ap (λ t. replies_heard by old lines ++ t) done
          ∙ append-nil (replies_heard by old lines));
    }

-- lines were answered before memory was wanted
said_part : {A : Type 0} (by : Answering A) {old new : A} {lines : List Line} (more : List Line)
    {output now : SinkState}
    → Answered (Plain by) by.is_over old lines new output now
    → Said IsPartOf by old lines more output now
said_part by {old} {new} {lines} more a =
    let p = plain by old lines a.replies new a.turns in
    record {
      written = texts_joined a.replies;
      told = a.wrote;
      says = (
        replies_heard by (after_heard by old lines) more,
        replies_append by old lines more
            ∙ ap (λ t. t ++ replies_heard by (after_heard by old lines) more) (sym p.0),
      );
    }

-- the last reply wasn't written whole
said_broken : {A : Type 0} (by : Answering A) {old new : A} {lines : List Line} (more : List Line)
    {output now : SinkState} {cause : Stop}
    → BreaksLast (Plain by) (PlainReply by) by.is_over old lines new output now cause
    → Said IsPartOf by old lines more output now
said_broken {A} by {old} {new} {lines} more k =
    let p = plain by old k.before k.answered.replies k.mid k.answered.turns in
    let part : List ℕ = k.breaks.stopped.wrote.part in
    let rest : List ℕ = k.breaks.stopped.rest in
    let last : by.reply k.mid k.last ≡ part ++ rest =
    sym k.breaks.turned ∙ k.breaks.stopped.wrote.split in
    let behind : List ℕ = replies_heard by (by.next k.mid k.last) more in
    let all : lines ++ more ≡ k.before ++ k.last ∷ more =
    ap (λ l. l ++ more) k.all ∙ append_assoc k.before (k.last ∷ []) more in
    let text : replies_heard by old (lines ++ more) ≡ texts_joined k.answered.replies
    ++ ((part ++ rest) ++ behind)
    = ap (replies_heard by old) all ∙ replies_append by old k.before (k.last ∷ more)
    ∙ ap (λ t. t ++ replies_heard by (after_heard by old k.before) (k.last ∷ more)) (sym p.0)
    ∙ ap (λ s. texts_joined k.answered.replies ++ replies_heard by s (k.last ∷ more)) (sym p.1)
    ∙ ap (λ t. texts_joined k.answered.replies ++ t)
    (replies_going by k.mid k.last more k.going ∙ ap (λ t. t ++ behind) last) in
    record {
      written = texts_joined k.answered.replies ++ part;
      told = wrote_then k.answered.wrote k.breaks.stopped.wrote.wrote;
      says = (
        rest ++ behind,
        text ∙ ap (λ t. texts_joined k.answered.replies ++ t) (append_assoc part rest behind)
            ∙ sym (append_assoc (texts_joined k.answered.replies) part (rest ++ behind)),
      );
    }

-- the lines read, where these were answered
behind : (answered all more : List (List ℕ)) → all ≡ answered ++ more
    → map heard answered ++ map heard more ≡ map heard all
behind answered all more e = sym (map-append heard answered more) ∙ ap (map heard) (sym e)

-- the lines of more bytes, as they are heard
heard_more : (read rest : List ℕ)
    → (more : List Line) × (map heard (lines (read ++ rest)) ≡ map heard (lines read) ++ more)
heard_more read rest = (
  heard_from (begun_after (Some []) read) rest,
  sym (kept_lines (read ++ rest)) ∙ heard_append (Some []) read rest
      ∙ ap (λ l. l ++ heard_from (begun_after (Some []) read) rest) (kept_lines read),
)

-- the replies to some lines begin those to more
pub replies_more : {A : Type 0} (by : Answering A) (start : A) (some more : List (List ℕ))
    → IsPartOf (replies by start some) (replies by start (some ++ more))
replies_more by start some more = (
  replies_heard by (state_after_lines by start some) (map heard more),
  ap (replies_heard by start) (map-append heard some more)
      ∙ replies_append by start (map heard some) (map heard more),
)

-- once no more lines are answered, more bytes change nothing
pub replies_settled : {A : Type 0} (by : Answering A) (start : A) (read rest : List ℕ)
    → by.is_over (state_after_lines by start (lines read)) ≡ true
    → replies by start (lines (read ++ rest)) ≡ replies by start (lines read)
replies_settled by start read rest over =
    let h = heard_more read rest in
    ap (replies_heard by start) h.1 ∙ replies_append by start (map heard (lines read)) h.0
    ∙ ap (λ l. replies by start (lines read) ++ l)
    (replies_over by (state_after_lines by start (lines read)) h.0 over)
    ∙ append-nil (replies by start (lines read))

pub after_settled : {A : Type 0} (by : Answering A) (start : A) (read rest : List ℕ)
    → by.is_over (state_after_lines by start (lines read)) ≡ true
    → state_after_lines by start (lines (read ++ rest)) ≡ state_after_lines by start (lines read)
after_settled by start read rest over =
    let h = heard_more read rest in
    ap (after_heard by start) h.1 ∙ after_append by start (map heard (lines read)) h.0
    ∙ after_over by (state_after_lines by start (lines read)) h.0 over

-- an opening, and then the replies to lines
abbrev pub speech_by : {A : Type 0} → Answering A → A → List ℕ → Speech
speech_by by start opening =
    record {
      text = λ lines. opening ++ replies by start lines;
      is_over = λ lines. by.is_over (state_after_lines by start lines);
    }

-- the same without an opening
abbrev pub TalkedPlain : {A : Type 0} → Answering A → A → SourceState → SourceState → SinkState
    → SinkState → Ended → Type 0
TalkedPlain by start input now output new ended =
    Spoken (Ok (speech_by by start [])) input now output new (status_of_end ended)

talked_all : {A : Type 0} (by : Answering A) {old new : A} {input now : SourceState}
    {output wrote : SinkState} {ended : Ended}
    (t : Talked (Plain by) (PlainReply by) by.is_over old new input now output wrote ended)
    → (written : List ℕ) → Wrote output wrote written
    → SpeechLeaves (status_of_end ended) (Ok (speech_by by old [])) t.read now written
    → TalkedPlain by old input now output wrote ended
talked_all by t written told leaves =
    record {
      read = t.read;
      written = written;
      gave = t.gave;
      within = t.within;
      wrote = told;
      leaves = leaves;
    }

-- the written replies are those to the lines
by_lines : {A : Type 0} (by : Answering A) (old : A) (answered all more : List (List ℕ))
    → all ≡ answered ++ more
    → replies_heard by old (map heard answered ++ map heard more) ≡ replies by old all
by_lines by old answered all more e = ap (replies_heard by old) (behind answered all more e)

pub part_by : (part text whole : List ℕ) → IsPartOf part text → text ≡ whole → IsPartOf part whole
part_by part text whole p e = (p.0, sym e ∙ p.1)

pub talked_plain : {A : Type 0} (by : Answering A) {old new : A} {input now : SourceState}
    {output wrote : SinkState} (ended : Ended)
    → Talked (Plain by) (PlainReply by) by.is_over old new input now output wrote ended
    → TalkedPlain by old input now output wrote ended
talked_plain by {old} {new} {input} {now} End t = elim t.which [
  | inl end ↦
      let s = said_all by t.how in
      talked_all by t s.written s.told (
        s.says ∙ by_lines by old t.answered (lines t.read) []
            (sym end.0 ∙ sym (append-nil t.answered)),
        inl end.1,
      )
  | inr over ↦
      let s = said_over by (map heard over.0.0) t.how over.1 in
      let p = plain by old (map heard t.answered) t.how.replies new t.how.turns in
      talked_all by t s.written s.told (
        s.says ∙ by_lines by old t.answered (lines t.read) over.0.0 over.0.1,
        inr (ap by.is_over (ap (after_heard by old)
            (sym (behind t.answered (lines t.read) over.0.0 over.0.1))
            ∙ after_append by old (map heard t.answered) (map heard over.0.0)
            ∙ ap (λ s. after_heard by s (map heard over.0.0)) (sym p.1)
            ∙ after_over by new (map heard over.0.0) over.1) ∙ over.1),
      )
]
talked_plain by {old} ReadFault t =
    let s = said_all by t.how in
    talked_all by t s.written s.told
    (s.says ∙ by_lines by old t.answered (talk t.read) []
    (sym t.which.0 ∙ sym (append-nil t.answered)))
talked_plain by {old} WriteFault t = elim t.how [
  | inl k ↦
      let s = said_broken by (map heard t.which.0) k in
      talked_all by t s.written s.told
      (part_by s.written _ _ s.says (by_lines by old t.answered (talk t.read) t.which.0
      t.which.1))
  | inr q ↦ absurd (grind (arith, q.1))
]
talked_plain by {old} NoMemory t = elim t.how [
  | inl k ↦
      let s = said_broken by (map heard t.which.0) k in
      talked_all by t s.written s.told
      (part_by s.written _ _ s.says (by_lines by old t.answered (talk t.read) t.which.0
      t.which.1))
  | inr q ↦
      let s = said_part by (map heard t.which.0) q.0 in
      talked_all by t s.written s.told
      (part_by s.written _ _ s.says (by_lines by old t.answered (talk t.read) t.which.0
      t.which.1))
]
talked_plain by {old} LineLimit t =
    let s = said_all by t.how in
    talked_all by t s.written s.told (
      s.says ∙ ap (replies_heard by old)
          (append-nil (map heard t.answered) ∙ ap (map heard) t.which.0),
      t.which.1,
    )

-- a state that is held answers as it does alone
pub held_replies : {A : Type 0} (by : Answering A) (state : A) (lines : List Line)
    → replies_heard (answering_held by) (Some state) lines ≡ replies_heard by state lines
held_replies by state [] = refl
held_replies by state (line ∷ lines) =
    elim (by.is_over state) as (λ b. cond b []
    (by.reply state line ++ replies_heard (answering_held by) (Some (by.next state line)) lines)
    ≡ cond b
    [] (by.reply state line ++ replies_heard by (by.next state line) lines)) [
      | true ↦ refl
      | false ↦ ap (λ t. by.reply state line ++ t) (held_replies by (by.next state line) lines)
    ]

pub held_after : {A : Type 0} (by : Answering A) (state : A) (lines : List Line)
    → after_heard (answering_held by) (Some state) lines ≡ Some (after_heard by state lines)
held_after by state [] = refl
held_after by state (line ∷ lines) =
    elim (by.is_over state) as (λ b. cond b (Some state)
    (after_heard (answering_held by) (Some (by.next state line)) lines) ≡ Some
    (cond b state (after_heard by (by.next state line) lines))) [
      | true ↦ refl
      | false ↦ held_after by (by.next state line) lines
    ]
