-- The first entry of a story, entry by entry.
use Rattle.std.proofs.Common.{◌≡◌, ◌∙◌, ◌<◌, ◌+◌, ◌*◌, ◌-◌, ℕ, zero, suc, Bool, true, false}
use Rattle.std.proofs.Common.{cond, List, Option, Some, None, refl, sym, ap, subst, arith}
use Rattle.std.specs.Prelude.{MatchOption}
use Rattle.blorb_read.specs.Container.{word, is_executable, story_start}
use Rattle.blorb_read.specs.Laws.{IsFirstStory, HasNone, FindsFirst, entry_at}

-- the entries behind the first are the entries from 12 bytes on
behind : (from j : ℕ) → entry_at (from + 12) j ≡ entry_at from (j + 1)
behind from j = omega arith

at_first : (from : ℕ) → entry_at from 0 ≡ from
at_first from = omega arith

-- an entry is the first or lies behind it
each : (from : ℕ) (bytes : List ℕ) (n j : ℕ) → is_executable bytes from ≡ false
    → ((k : ℕ) → k < n → is_executable bytes (entry_at (from + 12) k) ≡ false)
    → j < n + 1 → is_executable bytes (entry_at from j) ≡ false
each from bytes n zero e f l = ap (is_executable bytes) (at_first from) ∙ e
each from bytes n (suc j) e f l =
    let h : j < n = omega (arith, l) in
    let same : entry_at (from + 12) j ≡ entry_at from (suc j) = omega arith in
    ap (is_executable bytes) (sym same) ∙ f j h

Finds : ℕ → ℕ → List ℕ → Option ℕ → Type 0
Finds count from bytes o =
    MatchOption o (HasNone count from bytes)
    (λ start. (i : ℕ) × IsFirstStory count from bytes start i)

later : (n from : ℕ) (bytes : List ℕ) (o : Option ℕ)
    → is_executable bytes from ≡ false
    → Finds n (from + 12) bytes o
    → Finds (suc n) from bytes o
unfolding Finds
later n from bytes None e f = λ j l. each from bytes n j e f (omega (arith, l))
later n from bytes (Some start) e f =
    let i : ℕ = f.0 in
    let k : IsFirstStory n (from + 12) bytes start i = f.1 in
    let at : entry_at (from + 12) i ≡ entry_at from (i + 1) = behind from i in (
      i + 1,
      record {
        inside = omega (arith, k.inside);
        found = ap (is_executable bytes) (sym at) ∙ k.found;
        first = λ j l. each from bytes i j e k.first l;
        gives = k.gives ∙ ap (λ (p : ℕ). word bytes (p + 8)) at;
      },
    )

step : (b : Bool) (n from : ℕ) (bytes : List ℕ) → is_executable bytes from ≡ b
    → Finds n (from + 12) bytes (story_start n (from + 12) bytes)
    → Finds (suc n) from bytes
    (cond b (Some (word bytes (from + 8))) (story_start n (from + 12) bytes))
unfolding Finds
step true n from bytes e f = (
  0,
  record {
    inside = omega arith;
    found = ap (is_executable bytes) (at_first from) ∙ e;
    first = λ j l. absurd (omega (arith, l));
    gives = ap (λ (p : ℕ). word bytes (p + 8)) (sym (at_first from));
  },
)
step false n from bytes e f = later n from bytes (story_start n (from + 12) bytes) e f

all : (count from : ℕ) (bytes : List ℕ) → Finds count from bytes (story_start count from bytes)
unfolding Finds
all zero from bytes = λ j l. absurd (omega (arith, l))
all (suc n) from bytes = step (is_executable bytes from) n from bytes refl (all n (from + 12) bytes)

pub finds_first : FindsFirst
unfolding Finds
finds_first count from bytes = all count from bytes
