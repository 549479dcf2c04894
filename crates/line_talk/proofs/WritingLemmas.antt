-- How texts that are written in parts go on from one another.
use Rattle.std.proofs.Common.{◌≡◌, ℕ, List, [], ◌++◌, refl, sym, arith}
use Rattle.std.proofs.lemmas.List.{append-nil}
use Rattle.std.proofs.lemmas.Grind.{common_steps}
use Rattle.line_talk.specs.declared.sink.Stop.{Stop}
use Rattle.line_talk.specs.declared.sink.Stop.TheVariants.{Memory}
use Rattle.line_talk.specs.Streams.{SinkState, Wrote}
use Rattle.line_talk.specs.Writing.{WroteUpTo, Stopped}
use Rattle.line_talk.proofs.StreamsLemmas.{wrote_none, wrote_then}

pub upto_none : (k : SinkState) (text : List ℕ) → WroteUpTo k k text text
upto_none k text = record { part = []; split = refl; wrote = wrote_none k }

pub upto_more : {old mid new : SinkState} {text rest : List ℕ} → WroteUpTo old mid text rest
    → (bytes more : List ℕ) → rest ≡ bytes ++ more
    → Wrote mid new bytes → WroteUpTo old new text more
upto_more {old} {mid} {new} {text} {rest} u bytes more e w = record {
  part = u.part ++ bytes;
  split = grind (arith, common_steps, u.split, e);
  wrote = wrote_then u.wrote w;
}

-- a part of a text was written, and then the next part only in part
pub stopped_within : {old mid new : SinkState} {text rest a : List ℕ} {cause : Stop}
    → WroteUpTo old mid text rest
    → (b : List ℕ) → rest ≡ a ++ b → Stopped mid new a cause → Stopped old new text cause
stopped_within {old} {mid} {new} {text} {rest} {a} {cause} u b e s = record {
  rest = s.rest ++ b;
  wrote =
      upto_more u s.wrote.part (s.rest ++ b)
      (grind (arith, common_steps, s.wrote.split, e)) s.wrote.wrote;
  rose = λ o. omega (arith, s.rose o);
}

pub stopped_more : {old new : SinkState} {a : List ℕ} {cause : Stop} (b : List ℕ)
    → Stopped old new a cause → Stopped old new (a ++ b) cause
stopped_more {old} {new} {a} {cause} b s = stopped_within (upto_none old (a ++ b)) b refl s

pub upto_wrote : {old new : SinkState} {a : List ℕ} (b : List ℕ)
    → Wrote old new a → WroteUpTo old new (a ++ b) b
upto_wrote {old} {new} {a} b w = record { part = a; split = refl; wrote = w }

pub stopped_then : {old mid new : SinkState} {a b : List ℕ} {cause : Stop}
    → Wrote old mid a → Stopped mid new b cause
    → Stopped old new (a ++ b) cause
stopped_then {old} {mid} {new} {a} {b} {cause} w s =
    stopped_within (upto_wrote b w) [] (sym (append-nil b)) s

pub stopped_memory : {old new : SinkState} {text : List ℕ} (rest : List ℕ)
    → WroteUpTo old new text rest → Stopped old new text Memory
stopped_memory rest u = record { rest = rest; wrote = u; rose = λ e. cc }

pub stopped_at_once : (k : SinkState) (text : List ℕ) → Stopped k k text Memory
stopped_at_once k text = stopped_memory text (upto_none k text)
