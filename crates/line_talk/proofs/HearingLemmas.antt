-- What was heard of a piece of input so far.
use Rattle.std.proofs.Common.{◌≡◌, ◌≢◌, inr, ℕ, ◌+◌, ◌^◌, ◌<◌, ◌≤◌, List, [], ◌∷◌, ◌++◌}
use Rattle.std.proofs.Common.{length, refl, sym, ap, ◌∙◌, subst, arith, append_assoc}
use Rattle.std.proofs.Common.{length-append, Some, Bool, true, false, cond, nat_eq}
use Rattle.std.proofs.lemmas.Grind.{common_steps}
use Rattle.line_talk.specs.declared.sink.Stop.{Stop}
use Rattle.line_talk.specs.declared.sink.Stop.TheVariants.{Memory}
use Rattle.line_talk.specs.Streams.{SinkState}
use Rattle.line_talk.specs.Conversation.{Line, Turn, Answered, TellsTurn, Breaks, StopsBehind}
use Rattle.line_talk.specs.Hearing.{heard_from, begun_after, longer_line}
use Rattle.line_talk.specs.Hears.{HearsAll, HearsPart}
use Rattle.line_talk.proofs.TurnLemmas.{answered_none, answered_one}
use Rattle.line_talk.proofs.TurnLemmas.{answered_then, stops_one, stops_then}

pub heard_append : (begun : Line) (xs ys : List ℕ)
    → heard_from begun (xs ++ ys) ≡ heard_from begun xs ++ heard_from (begun_after begun xs) ys
heard_append begun [] ys = refl
heard_append begun (x ∷ xs) ys =
    elim (nat_eq x 10) as (λ b.
    cond b (begun ∷ heard_from (Some []) (xs ++ ys)) (heard_from (longer_line begun x) (xs ++ ys))
    ≡ cond b (begun ∷ heard_from (Some []) xs) (heard_from (longer_line begun x) xs)
    ++ heard_from (cond b (begun_after (Some []) xs) (begun_after (longer_line begun x) xs)) ys) [
      | true ↦ ap (λ ls. begun ∷ ls) (heard_append (Some []) xs ys)
      | false ↦ heard_append (longer_line begun x) xs ys
    ]

pub begun_append : (begun : Line) (xs ys : List ℕ)
    → begun_after begun (xs ++ ys) ≡ begun_after (begun_after begun xs) ys
begun_append begun [] ys = refl
begun_append begun (x ∷ xs) ys =
    elim (nat_eq x 10) as (λ b.
    cond b (begun_after (Some []) (xs ++ ys)) (begun_after (longer_line begun x) (xs ++ ys))
    ≡ begun_after (cond b (begun_after (Some []) xs) (begun_after (longer_line begun x) xs)) ys) [
      | true ↦ begun_append (Some []) xs ys
      | false ↦ begun_append (longer_line begun x) xs ys
    ]

-- lines behind those that were heard
pub heard_behind : (begun line : Line) (xs ys : List ℕ)
    → line ≡ begun_after begun xs
    → heard_from begun xs ++ heard_from line ys ≡ heard_from begun (xs ++ ys)
heard_behind begun line xs ys same =
    ap (λ l. heard_from begun xs ++ heard_from l ys) same ∙ sym (heard_append begun xs ys)

pub hears_none : {A : Type 0} (turn : Turn A) (over : A → Bool) (a : A) (line : Line)
    (n : ℕ) (k : SinkState)
    → HearsAll turn over a line n [] a line n k k
hears_none turn over a line n k = record {
  answered = answered_none turn over a k;
  same_line = refl;
  counts = omega arith;
}

pub hears_then : {A : Type 0} {turn : Turn A} {over : A → Bool} {a b c : A}
    {begun line more : Line} {count n m : ℕ} {xs ys : List ℕ} {old mid new : SinkState}
    → HearsAll turn over a begun count xs b line n old mid
    → HearsAll turn over b line n ys c more m mid new
    → HearsAll turn over a begun count (xs ++ ys) c more m old new
hears_then {turn = turn} {over} {a} {c = c} {begun} {line} {xs = xs} {ys} {old} {new = new} p q =
    let behind = heard_behind begun line xs ys p.same_line in
    record {
      answered =
          subst (λ (ls : List Line). Answered turn over a ls c old new) behind
          (answered_then p.answered q.answered);
      same_line =
          q.same_line ∙ ap (λ l. begun_after l ys) p.same_line ∙ sym (begun_append begun xs ys);
      counts =
          omega (arith, ap length behind, length-append (heard_from begun xs) (heard_from line ys));
    }

-- one byte that is no LF
hears_byte : {A : Type 0} (turn : Turn A) (over : A → Bool) (a : A) (line : Line)
    (n b : ℕ) (k : SinkState)
    → b ≢ 10
    → HearsAll turn over a line n (b ∷ []) a (longer_line line b) n k k
hears_byte {A} turn over a line n b k ne =
    let none : heard_from line (b ∷ []) ≡ [] = grind (arith, common_steps) in
    let begun : begun_after line (b ∷ []) ≡ longer_line line b = grind (arith, common_steps) in
    record {
      answered =
          subst (λ (ls : List Line). Answered turn over a ls a k k) (sym none)
          (answered_none turn over a k);
      same_line = sym begun;
      counts = omega (arith, ap length none);
    }

heard_lf : (line : Line) (b : ℕ) → b ≡ 10 → heard_from line (b ∷ []) ≡ line ∷ []
heard_lf line b lf = grind (arith, common_steps)

-- an LF, at which a line is answered
hears_lf : {A : Type 0} (turn : Turn A) (over : A → Bool) (a c : A) (line : Line)
    (n b : ℕ) (old new : SinkState)
    → b ≡ 10 → over a ≡ false
    → TellsTurn turn a line c old new
    → HearsAll turn over a line n (b ∷ []) c (Some []) (n + 1) old new
hears_lf {A} turn over a c line n b old new lf going t =
    let one : heard_from line (b ∷ []) ≡ line ∷ [] = heard_lf line b lf in
    let begun : begun_after line (b ∷ []) ≡ Some [] = grind (arith, common_steps) in
    record {
      answered =
          subst (λ (ls : List Line). Answered turn over a ls c old new) (sym one)
          (answered_one going t);
      same_line = sym begun;
      counts = omega (arith, ap length one);
    }

-- what was heard of a piece, and the rest of it
pub record Hearing {A : Type 0} (turn : Turn A) (over : A → Bool) (old : A) (begun : Line)
    (count : ℕ) (piece : List ℕ) (output : SinkState)
    (new : A) (line : Line) (number : ℕ) (rest : List ℕ) (now : SinkState) : Type 0 where
  pub front : List ℕ
  pub split : piece ≡ front ++ rest
  pub all : HearsAll turn over old begun count front new line number output now
  pub going : over new ≡ false
  pub few : number < 2 ^ 20

-- after the reply to the line that ends at an LF
pub record Replied {A : Type 0} (turn : Turn A) (over : A → Bool) (old : A) (begun : Line)
    (count : ℕ) (piece : List ℕ) (output : SinkState)
    (new : A) (number : ℕ) (rest : List ℕ) (now : SinkState) : Type 0 where
  pub front : List ℕ
  pub split : piece ≡ front ++ rest
  pub all : HearsAll turn over old begun count front new (Some []) number output now

module _ {A : Type 0} {turn : Turn A} {over : A → Bool} {old : A} {begun : Line} {count : ℕ}
    {piece : List ℕ} {output : SinkState} {mid : A} {line : Line} {number : ℕ} {all : List ℕ}
    {between : SinkState}
    (h : Hearing turn over old begun count piece output mid line number all between) where
  split_on : (b : ℕ) (rest : List ℕ) → all ≡ b ∷ rest → piece ≡ (h.front ++ b ∷ []) ++ rest
  split_on b rest e =
      h.split ∙ ap (λ l. h.front ++ l) e ∙ sym (append_assoc h.front (b ∷ []) rest)

  pub hearing_byte : (b : ℕ) (rest : List ℕ)
      → all ≡ b ∷ rest → b ≢ 10
      → Hearing turn over old begun count piece output mid (longer_line line b) number rest between
  hearing_byte b rest e ne = record {
    front = h.front ++ b ∷ [];
    split = split_on b rest e;
    all = hears_then h.all (hears_byte turn over mid line number b between ne);
    going = h.going;
    few = h.few;
  }

  pub hearing_line : (b : ℕ) (rest : List ℕ)
      → all ≡ b ∷ rest → b ≡ 10
      → (asked : Line) → asked ≡ line
      → {new : A} {now : SinkState}
      → TellsTurn turn mid asked new between now
      → Replied turn over old begun count piece output new (number + 1) rest now
  hearing_line b rest e lf asked same {new} {now} t = record {
    front = h.front ++ b ∷ [];
    split = split_on b rest e;
    all =
        hears_then h.all (hears_lf turn over mid new line number b between now lf h.going
        (subst (λ (l : Line). TellsTurn turn mid l new between now) same t));
  }

  pub hearing_stops : (cut : Turn A) (b : ℕ) (rest : List ℕ)
      → all ≡ b ∷ rest → b ≡ 10
      → (asked : Line) → asked ≡ line
      → {new : A} {now : SinkState} {cause : Stop}
      → Breaks cut mid asked new between now cause
      → HearsPart (λ lines.
      StopsBehind turn cut over old lines new output now cause × (count + length lines ≤ 2 ^ 20))
      begun piece
  hearing_stops cut b rest e lf asked same {new} {now} {cause} t =
      let here : Breaks cut mid line new between now cause =
      subst (λ (l : Line). Breaks cut mid l new between now cause) same t in
      let stops : StopsBehind turn cut over mid (heard_from line (b ∷ [])) new between now cause
      = subst (λ (ls : List Line). StopsBehind turn cut over mid ls new between now cause)
      (sym (heard_lf line b lf)) (stops_one h.going here) in
      let behind = heard_behind begun line h.front (b ∷ []) h.all.same_line in
      record {
        front = h.front ++ b ∷ [];
        rest = rest;
        split = split_on b rest e;
        holds = (
          subst (λ (ls : List Line). StopsBehind turn cut over old ls new output now cause)
              behind (stops_then h.all.answered stops),
          omega (
            arith,
            h.all.counts,
            ap length behind,
            ap length (heard_lf line b lf),
            length-append (heard_from begun h.front) (heard_from line (b ∷ [])),
          ),
        );
      }

  pub hearing_memory : (cut : Turn A)
      → HearsPart (λ lines. StopsBehind turn cut over old lines mid output between Memory
      × (count + length lines ≤ 2 ^ 20))
      begun piece
  hearing_memory cut = record {
    front = h.front;
    rest = all;
    split = h.split;
    holds = (inr (h.all.answered, refl), omega (arith, h.all.counts));
  }

module _ {A : Type 0} {turn : Turn A} {over : A → Bool} {old : A} {begun : Line} {count : ℕ}
    {piece : List ℕ} {output : SinkState} {new : A} {number : ℕ} {rest : List ℕ} {now : SinkState}
    (r : Replied turn over old begun count piece output new number rest now) where
  pub hearing_on : over new ≡ false
      → number < 2 ^ 20
      → Hearing turn over old begun count piece output new (Some []) number rest now
  hearing_on going few =
      record { front = r.front; split = r.split; all = r.all; going = going; few = few }

  pub hearing_over : over new ≡ true
      → HearsPart (λ lines. Answered turn over old lines new output now × (over new ≡ true))
      begun piece
  hearing_over over_now =
      record { front = r.front; rest = rest; split = r.split; holds = (r.all.answered, over_now) }

  pub hearing_limit : number ≡ 2 ^ 20
      → HearsPart
      (λ lines. Answered turn over old lines new output now × (count + length lines ≡ 2 ^ 20))
      begun piece
  hearing_limit last = record {
    front = r.front;
    rest = rest;
    split = r.split;
    holds = (r.all.answered, sym r.all.counts ∙ last);
  }
