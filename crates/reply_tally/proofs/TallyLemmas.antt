-- A tally as it grows, byte by byte and line by line.
use Rattle.std.proofs.Common.{◌≡◌, ◌≢◌, ℕ, ◌+◌, ◌-◌, ◌<◌, ◌≤◌, Bool, true, false, ◌==◌, ◌||◌, cond}
use Rattle.std.proofs.Common.{List, [], ◌∷◌, ◌++◌, map, filter, length, take, drop, get_or}
use Rattle.std.proofs.Common.{refl, sym, ap, ◌∙◌, arith}
use Rattle.std.specs.Prelude.{slice_range}
use Rattle.std.specs.List.{All, list_any}
use Rattle.std.proofs.lemmas.Bool.Decides.{nat_tests}
use Rattle.std.proofs.lemmas.List.{drop_more, take_more, drop_all, get_or-drop, length-drop}
use Rattle.std.proofs.lemmas.List.{length-map}
use Rattle.std.proofs.Math.Bool.{or_assoc, or-false}
use Rattle.line_words.specs.Reply.{print_reply}
use Rattle.line_words.specs.declared.reply.Reply.{Reply}
use Rattle.line_talk.specs.Conversation.{texts_joined}
use Rattle.line_talk.specs.Lines.{lines_from, lines}
use Rattle.reply_tally.specs.Refusals.{refusals_in, line_of_no, begins_refusal, says_failure}
use Rattle.reply_tally.specs.ShowLines.{HasShowLines}
use Rattle.reply_tally.specs.Tally.{AddsLine, IsTallyOf}
use Rattle.reply_tally.specs.declared.tally.Tally.{Tally}
use Rattle.reply_tally.proofs.FoundLemmas.{found, failures}

-- of lines, how many are refusals, and whether one says a failure
abbrev pub count : List (List ℕ) → ℕ
count ls = length (filter begins_refusal ls)

abbrev pub fails : List (List ℕ) → Bool
fails ls = list_any says_failure ls

-- the lines that are left at a place, where the first has begun
abbrev pub left : List ℕ → ℕ → ℕ → List (List ℕ)
left bytes start i = lines_from (slice_range bytes start i) (drop i bytes)

-- the tally is that of the lines before
pub record Tallied (bytes : List ℕ) (tally : Tally) (start i : ℕ) : Type 0 where
  pub begun : start ≤ i
  pub few : tally.refusals ≤ start
  pub refusals : count (lines bytes) ≡ tally.refusals + count (left bytes start i)
  pub failed : fails (lines bytes) ≡ (tally.failed || fails (left bytes start i))

at_lf : (bytes : List ℕ) (start i : ℕ) → i < length bytes → get_or bytes i 0 ≡ 10
    → left bytes start i ≡ slice_range bytes start i ∷ left bytes (i + 1) (i + 1)
at_lf bytes start i within is =
    let ends : (get_or bytes i 0 == 10) ≡ true = grind (arith, nat_tests) in
    let none : i + 1 - (i + 1) ≡ 0 = omega arith in
    ap (lines_from (slice_range bytes start i)) (drop_more bytes i 0 within)
    ∙ rw (ends, none) refl

grows : (bytes : List ℕ) (start i : ℕ) → start ≤ i → i < length bytes
    → slice_range bytes start (i + 1) ≡ slice_range bytes start i ++ get_or bytes i 0 ∷ []
grows bytes start i begun within =
    let more : i + 1 - start ≡ i - start + 1 = omega arith in
    let place : start + (i - start) ≡ i = omega arith in
    let byte : get_or (drop start bytes) (i - start) 0 ≡ get_or bytes i 0 =
    get_or-drop start bytes (i - start) 0 ∙ ap (λ (n : ℕ). get_or bytes n 0) place in
    ap (λ (n : ℕ). take n (drop start bytes)) more
    ∙ take_more (drop start bytes) (i - start) 0 (omega (arith, length-drop start bytes))
    ∙ ap (λ (b : ℕ). slice_range bytes start i ++ b ∷ []) byte

past : (bytes : List ℕ) (start i : ℕ) → start ≤ i → i < length bytes → get_or bytes i 0 ≢ 10
    → left bytes start i ≡ left bytes start (i + 1)
past bytes start i begun within other =
    let goes_on : (get_or bytes i 0 == 10) ≡ false = grind (arith, nat_tests) in
    let longer = sym (grows bytes start i begun within) in
    ap (lines_from (slice_range bytes start i)) (drop_more bytes i 0 within)
    ∙ rw goes_on refl
    ∙ ap (λ (line : List ℕ). lines_from line (drop (i + 1) bytes)) longer

-- ---- the steps

count_line : (line : List ℕ) (more : List (List ℕ))
    → count (line ∷ more) ≡ cond (begins_refusal line) 1 0 + count more
count_line line more = by (begins_refusal line) (filter begins_refusal more) where
  by : (is : Bool) (ls : List (List ℕ)) → length (cond is (line ∷ ls) ls) ≡ cond is 1 0 + length ls
  by true ls = omega arith
  by false ls = omega arith

at_most_one : (is : Bool) → cond is 1 0 ≤ 1
at_most_one true = omega arith
at_most_one false = omega arith

pub tallied_line : {bytes : List ℕ} {tally next : Tally} {start i : ℕ}
    → Tallied bytes tally start i → i < length bytes → get_or bytes i 0 ≡ 10
    → AddsLine (slice_range bytes start i) tally next
    → Tallied bytes next (i + 1) (i + 1)
tallied_line {bytes} {tally} {next} {start} {i} t within is adds =
    let line = slice_range bytes start i in
    let more = left bytes (i + 1) (i + 1) in
    let rest = at_lf bytes start i within is in
    record {
      begun = omega arith;
      few = omega (arith, t.begun, t.few, adds.refusals, at_most_one (begins_refusal line));
      refusals = omega (arith, t.refusals, adds.refusals, ap count rest, count_line line more);
      failed = t.failed
          ∙ ap (λ (ls : List (List ℕ)). tally.failed || fails ls) rest
          ∙ sym (or_assoc tally.failed (says_failure line) (fails more))
          ∙ ap (λ (is_so : Bool). is_so || fails more) (sym adds.failed);
    }

pub tallied_byte : {bytes : List ℕ} {tally : Tally} {start i : ℕ}
    → Tallied bytes tally start i → i < length bytes → get_or bytes i 0 ≢ 10
    → Tallied bytes tally start (i + 1)
tallied_byte {bytes} {tally} {start} {i} t within other =
    let rest = past bytes start i t.begun within other in
    record {
      begun = omega (arith, t.begun);
      few = t.few;
      refusals = t.refusals ∙ ap (λ (ls : List (List ℕ)). tally.refusals + count ls) rest;
      failed = t.failed ∙ ap (λ (ls : List (List ℕ)). tally.failed || fails ls) rest;
    }

pub tallied_all : {bytes : List ℕ} {tally : Tally} {start i : ℕ}
    → Tallied bytes tally start i → length bytes ≤ i
    → (tally.refusals ≡ count (lines bytes)) × (tally.failed ≡ fails (lines bytes))
tallied_all {bytes} {tally} {start} {i} t all =
    let none : left bytes start i ≡ [] =
    ap (lines_from (slice_range bytes start i)) (drop_all i bytes all) in
    let told = ap (λ (ls : List (List ℕ)). tally.failed || fails ls) none in (
      omega (arith, t.refusals, ap count none),
      sym (t.failed ∙ told ∙ or-false tally.failed),
    )

-- ---- what the tally says of written replies

pub is_tally : (replies : List Reply) (bytes : List ℕ) (tally : Tally) → All HasShowLines replies
    → bytes ≡ texts_joined (map print_reply replies)
    → (tally.refusals ≡ count (lines bytes)) × (tally.failed ≡ fails (lines bytes))
    → IsTallyOf replies tally
is_tally replies bytes tally shows same counts = record {
  refusals = counts.0 ∙ ap (λ (text : List ℕ). count (lines text)) same
      ∙ ap length (found replies shows) ∙ length-map (refusals_in replies) line_of_no;
  failed = counts.1 ∙ ap (λ (text : List ℕ). fails (lines text)) same ∙ failures replies shows;
}
