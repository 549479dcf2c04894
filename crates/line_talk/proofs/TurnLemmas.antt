-- How answered lines go on from one another.
use Rattle.std.proofs.Common.{◌≡◌, inl, inr, ℕ, List, [], ◌∷◌, ◌++◌, refl, sym, ap}
use Rattle.std.proofs.Common.{◌∙◌, subst, append_assoc, Bool, false, arith}
use Rattle.std.proofs.lemmas.List.{append-nil}
use Rattle.std.proofs.lemmas.Grind.{flat_map-append}
use Rattle.line_talk.specs.declared.sink.Stop.{Stop}
use Rattle.line_talk.specs.declared.sink.Stop.TheVariants.{Output}
use Rattle.line_talk.specs.Causes.{Rose}
use Rattle.line_talk.specs.Streams.{SinkState, Wrote}
use Rattle.line_talk.specs.Conversation.{Line, Turn, Turns, Answered}
use Rattle.line_talk.specs.Conversation.{TellsTurn, Breaks, StopsBehind}
use Rattle.line_talk.proofs.StreamsLemmas.{wrote_none, wrote_then}

pub turns_then : {A : Type 0} (turn : Turn A) (over : A → Bool) (a : A) (xs : List Line)
    (rs : List (List ℕ)) (b : A) (ys : List Line) (ss : List (List ℕ)) (c : A)
    → Turns turn over a xs rs b → Turns turn over b ys ss c
    → Turns turn over a (xs ++ ys) (rs ++ ss) c
turns_then turn over a [] [] b ys ss c p q = subst (λ s. Turns turn over s ys ss c) p q
turns_then turn over a [] (r ∷ rs) b ys ss c p q = absurd p
turns_then turn over a (x ∷ xs) [] b ys ss c p q = absurd p
turns_then turn over a (x ∷ xs) (r ∷ rs) b ys ss c p q =
    (p.0, (p.1.0, p.1.1, turns_then turn over p.1.0 xs rs b ys ss c p.1.2 q))

pub answered_none : {A : Type 0} (turn : Turn A) (over : A → Bool) (a : A) (k : SinkState)
    → Answered turn over a [] a k k
answered_none turn over a k = record { replies = []; turns = refl; wrote = wrote_none k }

pub answered_then : {A : Type 0} {turn : Turn A} {over : A → Bool} {a b c : A}
    {xs ys : List Line} {old mid new : SinkState}
    → Answered turn over a xs b old mid
    → Answered turn over b ys c mid new
    → Answered turn over a (xs ++ ys) c old new
answered_then {A} {turn} {over} {a} {b} {c} {xs} {ys} {old} {mid} {new} p q = record {
  replies = p.replies ++ q.replies;
  turns = turns_then turn over a xs p.replies b ys q.replies c p.turns q.turns;
  wrote =
      subst (λ (text : List ℕ). Wrote old new text)
      (sym (flat_map-append (λ text. text) p.replies q.replies)) (wrote_then p.wrote q.wrote);
}

pub answered_one : {A : Type 0} {turn : Turn A} {over : A → Bool} {a b : A} {line : Line}
    {old new : SinkState}
    → over a ≡ false → TellsTurn turn a line b old new → Answered turn over a (line ∷ []) b old new
answered_one {A} {turn} {over} {a} {b} {line} {old} {new} going t = record {
  replies = t.reply ∷ [];
  turns = (going, (b, t.turned, refl));
  wrote = subst (λ (text : List ℕ). Wrote old new text) (sym (append-nil t.reply)) t.wrote;
}

pub stops_one : {A : Type 0} {turn cut : Turn A} {over : A → Bool} {a b : A} {line : Line}
    {old new : SinkState} {cause : Stop}
    → over a ≡ false → Breaks cut a line b old new cause
    → StopsBehind turn cut over a (line ∷ []) b old new cause
stops_one {A} {turn} {cut} {over} {a} {b} {line} {old} {new} {cause} going t = inl (record {
  before = [];
  last = line;
  mid = a;
  between = old;
  all = refl;
  answered = answered_none turn over a old;
  going = going;
  breaks = t;
})

pub stops_then : {A : Type 0} {turn cut : Turn A} {over : A → Bool} {a b c : A}
    {xs ys : List Line} {old mid new : SinkState} {cause : Stop}
    → Answered turn over a xs b old mid
    → StopsBehind turn cut over b ys c mid new cause
    → StopsBehind turn cut over a (xs ++ ys) c old new cause
stops_then {A} {turn} {cut} {over} {a} {b} {c} {xs} {ys} {old} {mid} {new} {cause} p (inl k) =
    inl (record {
      before = xs ++ k.before;
      last = k.last;
      mid = k.mid;
      between = k.between;
      all = ap (λ l. xs ++ l) k.all ∙ sym (append_assoc xs k.before (k.last ∷ []));
      answered = answered_then p k.answered;
      going = k.going;
      breaks = k.breaks;
    })
stops_then {A} {turn} {cut} {over} {a} {b} {c} {xs} {ys} {old} {mid} {new} {cause} p (inr q) =
    inr (answered_then p q.0, q.1)

-- the sink's faults rose where the output was the cause
pub stops_rose : {A : Type 0} {turn cut : Turn A} {over : A → Bool} {a b : A}
    {xs : List Line} {old new : SinkState} {cause : Stop}
    → StopsBehind turn cut over a xs b old new cause → cause ≡ Output → Rose old.faults new.faults
stops_rose {old = old} {new = new} (inl k) e =
    omega (arith, k.answered.wrote.later, k.breaks.stopped.rose e)
stops_rose (inr q) e = absurd cc
