-- The lines of written replies: those of a show are no refusals, and each refusal has one.
use Rattle.std.proofs.Common.{◌≡◌, ◌≢◌, ℕ, Bool, true, false, ◌==◌, ◌||◌, nat_eq, cond}
use Rattle.std.proofs.Common.{List, [], ◌∷◌, ◌++◌, map, filter, refl, sym, ap, ◌∙◌, arith}
use Rattle.std.proofs.Common.{append_assoc, take, drop, subst, inl, inr}
use Rattle.std.specs.Prelude.{codes}
use Rattle.std.specs.List.{All, AllByRecursion as Each, flat_map, list_any, starts_with}
use Rattle.std.specs.Fmt.{digits}
use Rattle.std.specs.Str.{bytes_eq}
use Rattle.std.proofs.lemmas.Bool.Decides.{nat_tests}
use Rattle.std.proofs.lemmas.Bool.{or_cases}
use Rattle.std.proofs.lemmas.List.{take-append-drop}
use Rattle.std.proofs.lemmas.Slice.Eq.{bytes_eq-Decides}
use Rattle.std.proofs.lemmas.List.Elements.{recursion_from_All, filter-append}
use Rattle.line_words.specs.Reply.{number_of_no, numbers_of_no, print_no, print_seen, print_show}
use Rattle.line_words.specs.Reply.{print_reply}
use Rattle.line_words.specs.Spelling.{number_field}
use Rattle.line_words.specs.declared.reply.No.{No}
use Rattle.line_words.specs.declared.reply.No.TheVariants as no
use Rattle.line_words.specs.declared.reply.Reply.{Reply}
use Rattle.line_words.specs.declared.reply.Reply.TheVariants as replies
use Rattle.line_talk.specs.Conversation.{texts_joined}
use Rattle.line_talk.specs.Lines.{lines}
use Rattle.reply_tally.specs.ShowLines.{IsShowLine, AreShowLines, HasShowLines, NumberedShow}
use Rattle.reply_tally.specs.ShowLines.{print_numbered}
use Rattle.reply_tally.specs.Refusals.{refusals_in, is_failure, line_of_no, begins_refusal}
use Rattle.reply_tally.specs.Refusals.{says_failure}
use Rattle.reply_tally.proofs.LineLemmas.{NoLf, NoLf-append, checked_no_lf, letter_no_lf}
use Rattle.reply_tally.proofs.LineLemmas.{number_no_lf, first_line, first_lines}

-- ---- a line of a show is no refusal

no_letter : (byte : ℕ) → list_any (λ letter. letter == byte) (codes "WCTGEPI") ≡ true
    → (78 == byte) ≡ false
no_letter byte h = by (78 == byte) refl where
  by : (is : Bool) → (78 == byte) ≡ is → is ≡ false
  by false e = refl
  by true e =
      let same : byte ≡ 78 = grind (arith, nat_tests, e) in
      let wrong : list_any (λ letter. letter == 78) (codes "WCTGEPI") ≡ true = rw same at h in
      absurd cc

show_line_is_none : (line : List ℕ) → IsShowLine line → begins_refusal line ≡ false
show_line_is_none [] h = refl
show_line_is_none (byte ∷ bytes) h = rw (no_letter byte h.begins) refl

show_line_whole : (line : List ℕ) → IsShowLine line → NoLf line
show_line_whole line h = recursion_from_All (λ byte. byte ≢ 10) line h.whole

shows_have_none : (ls : List (List ℕ)) → Each IsShowLine ls → filter begins_refusal ls ≡ []
shows_have_none [] h = refl
shows_have_none (l ∷ ls) h = rw (show_line_is_none l h.0) (shows_have_none ls h.1)

shows_whole : (ls : List (List ℕ)) → Each IsShowLine ls → Each NoLf ls
shows_whole [] h = tt
shows_whole (l ∷ ls) h = (show_line_whole l h.0, shows_whole ls h.1)

-- ---- the lines of a reply

head : ℕ → ℕ → List ℕ
head s n = codes "SHOW" ++ (number_field s ++ number_field n)

parts_of_show : (a b c body dot rest : List ℕ)
    → (a ++ (b ++ (c ++ ((10 ∷ []) ++ (body ++ dot))))) ++ rest
    ≡ (a ++ (b ++ c)) ++ 10 ∷ (body ++ (dot ++ rest))
parts_of_show a b c body dot rest = simp append_assoc

head_whole : (s n : ℕ) → NoLf (head s n)
unfolding head
head_whole s n =
    NoLf-append (codes "SHOW") (number_field s ++ number_field n)
    (checked_no_lf (codes "SHOW") refl)
    (NoLf-append (number_field s) (number_field n) (number_no_lf s) (number_no_lf n))

lines_of_show : (s n : ℕ) (body rest : List ℕ) (h : AreShowLines body)
    → lines (print_show s n body ++ rest) ≡ head s n ∷ (h.lines ++ (46 ∷ []) ∷ lines rest)
unfolding head
lines_of_show s n body rest h =
    let each = recursion_from_All IsShowLine h.lines h.each in
    let behind = codes ".\n" ++ rest in
    let dot = first_line (46 ∷ []) rest (letter_no_lf 46 refl) in
    ap lines
    (parts_of_show (codes "SHOW") (number_field s) (number_field n) body (codes ".\n") rest)
    ∙ first_line (head s n) (body ++ behind) (head_whole s n)
    ∙ ap (λ (b : List ℕ). head s n ∷ lines (b ++ behind)) h.spelled
    ∙ ap (λ (more : List (List ℕ)). head s n ∷ more) (
    first_lines h.lines (codes ".\n" ++ rest) (shows_whole h.lines each)
    ∙ ap (λ (more : List (List ℕ)). h.lines ++ more) dot
    )

none_in_show : (s n : ℕ) (ls more : List (List ℕ)) → Each IsShowLine ls
    → filter begins_refusal (head s n ∷ (ls ++ (46 ∷ []) ∷ more)) ≡ filter begins_refusal more
unfolding head
none_in_show s n ls more h =
    let none = shows_have_none ls h in
    filter-append begins_refusal ls ((46 ∷ []) ∷ more)
    ∙ ap (λ (front : List (List ℕ)). front ++ filter begins_refusal more) none

none_in_shows : (shows : List NumberedShow) (rest : List ℕ)
    → Each (λ (show : NumberedShow). AreShowLines show.body) shows
    → filter begins_refusal (lines (flat_map print_numbered shows ++ rest))
    ≡ filter begins_refusal (lines rest)
none_in_shows [] rest h = refl
none_in_shows (x ∷ xs) rest h =
    let more = flat_map print_numbered xs ++ rest in
    ap (λ (bytes : List ℕ). filter begins_refusal (lines bytes))
    (append_assoc (print_numbered x) (flat_map print_numbered xs) rest)
    ∙ ap (filter begins_refusal) (lines_of_show x.session x.number x.body more h.0)
    ∙ none_in_show x.session x.number h.0.lines (lines more)
    (recursion_from_All IsShowLine h.0.lines h.0.each)
    ∙ none_in_shows xs rest h.1

head_of_seen : ℕ → ℕ → ℕ → List ℕ
head_of_seen s from to = codes "SEEN" ++ (number_field s ++ (number_field from ++ number_field to))

parts_of_seen : (a b c d text rest : List ℕ)
    → (a ++ (b ++ (c ++ (d ++ 10 ∷ text)))) ++ rest
    ≡ (a ++ (b ++ (c ++ d))) ++ 10 ∷ (text ++ rest)
parts_of_seen a b c d text rest = simp append_assoc

head_of_seen_whole : (s from to : ℕ) → NoLf (head_of_seen s from to)
unfolding head_of_seen
head_of_seen_whole s from to =
    NoLf-append (codes "SEEN") (number_field s ++ (number_field from ++ number_field to))
    (checked_no_lf (codes "SEEN") refl)
    (NoLf-append (number_field s) (number_field from ++ number_field to) (number_no_lf s)
    (NoLf-append (number_field from) (number_field to) (number_no_lf from) (number_no_lf to)))

none_in_seen : (s from to : ℕ) (text rest : List ℕ)
    → filter begins_refusal (lines (print_seen s from to text ++ rest))
    ≡ filter begins_refusal (lines (text ++ rest))
unfolding head_of_seen
none_in_seen s from to text rest =
    ap (λ (bytes : List ℕ). filter begins_refusal (lines bytes))
    (parts_of_seen (codes "SEEN") (number_field s) (number_field from) (number_field to) text rest)
    ∙ ap (filter begins_refusal)
    (first_line (head_of_seen s from to) (text ++ rest) (head_of_seen_whole s from to))

parts_of_no : (a b c rest : List ℕ)
    → (a ++ (b ++ (c ++ 10 ∷ []))) ++ rest ≡ (a ++ (b ++ c)) ++ 10 ∷ rest
parts_of_no a b c rest = simp append_assoc

numbers_whole : (why : No) → NoLf (numbers_of_no why)
numbers_whole (no.Early c) = number_no_lf c
numbers_whole (no.Stale c) = number_no_lf c
numbers_whole (no.DiskFault from to) =
    NoLf-append (number_field from) (number_field to) (number_no_lf from) (number_no_lf to)
numbers_whole no.BadLine = tt
numbers_whole no.NoSession = tt
numbers_whole no.InUse = tt
numbers_whole no.NoStory = tt
numbers_whole no.Other = tt
numbers_whole no.Unwanted = tt
numbers_whole no.Over = tt
numbers_whole no.Full = tt
numbers_whole no.NoMemory = tt
numbers_whole no.Changed = tt
numbers_whole no.LongLine = tt

no_whole : (why : No) → NoLf (line_of_no why)
no_whole why =
    let first = number_field (number_of_no why) in
    let more = numbers_of_no why in
    NoLf-append (codes "NO") (first ++ more) (checked_no_lf (codes "NO") refl)
    (NoLf-append first more (number_no_lf (number_of_no why)) (numbers_whole why))

lines_of_no : (why : No) (rest : List ℕ)
    → lines (print_no why ++ rest) ≡ line_of_no why ∷ lines rest
lines_of_no why rest =
    ap lines (parts_of_no (codes "NO") (number_field (number_of_no why)) (numbers_of_no why) rest)
    ∙ first_line (line_of_no why) rest (no_whole why)

-- ---- the lines of many replies

-- the lines of written replies
abbrev written : List Reply → List (List ℕ)
written rs = lines (texts_joined (map print_reply rs))

found_each : (rs : List Reply) → Each HasShowLines rs
    → filter begins_refusal (written rs) ≡ map line_of_no (refusals_in rs)
found_each [] h = refl
found_each (replies.Show s n body ∷ rs) h =
    let more = texts_joined (map print_reply rs) in
    ap (filter begins_refusal) (lines_of_show s n body more h.0)
    ∙ none_in_show s n h.0.lines (lines more) (recursion_from_All IsShowLine h.0.lines h.0.each)
    ∙ found_each rs h.1
found_each (replies.No why ∷ rs) h =
    ap (filter begins_refusal) (lines_of_no why (texts_joined (map print_reply rs)))
    ∙ ap (λ (more : List (List ℕ)). line_of_no why ∷ more) (found_each rs h.1)
found_each (replies.Seen s from to text ∷ rs) h =
    let more = texts_joined (map print_reply rs) in
    none_in_seen s from to text more
    ∙ ap (λ (bytes : List ℕ). filter begins_refusal (lines (bytes ++ more))) h.0.spelled
    ∙ none_in_shows h.0.shows more
    (recursion_from_All (λ (show : NumberedShow). AreShowLines show.body) h.0.shows h.0.each)
    ∙ found_each rs h.1

pub found : (rs : List Reply) → All HasShowLines rs
    → filter begins_refusal (written rs) ≡ map line_of_no (refusals_in rs)
found rs h = found_each rs (recursion_from_All HasShowLines rs h)

-- ---- failures

-- a line that says a failure is a refusal
says_begins : (line : List ℕ) → says_failure line ≡ true → begins_refusal line ≡ true
says_begins line h =
    let twelve = bytes_eq line (codes "NO 12") in
    let eleven = starts_with nat_eq line (codes "NO 11 ") in
    elim (or_cases twelve eleven h) [
      | inl e ↦ rw ((bytes_eq-Decides line (codes "NO 12")).0 e) refl
      | inr e ↦
          let front = (bytes_eq-Decides (codes "NO 11 ") (take 6 line)).0 e in
          let parts : line ≡ codes "NO 11 " ++ drop 6 line =
          sym (take-append-drop 6 line) ∙ ap (λ (t : List ℕ). t ++ drop 6 line) (sym front) in
          subst (λ (l : List ℕ). begins_refusal l ≡ true) (sym parts) refl
    ]

fails_only : (line : List ℕ) → begins_refusal line ≡ false → says_failure line ≡ false
fails_only line h = by (says_failure line) refl where
  by : (is : Bool) → says_failure line ≡ is → is ≡ false
  by false e = refl
  by true e = absurd (let wrong = says_begins line e in cc)

abbrev fails : List (List ℕ) → Bool
fails ls = list_any says_failure ls

any_found : (ls : List (List ℕ)) → fails ls ≡ fails (filter begins_refusal ls)
any_found [] = refl
any_found (l ∷ ls) = by (any_found ls) (begins_refusal l) refl where
  by : fails ls ≡ fails (filter begins_refusal ls) → (is : Bool) → begins_refusal l ≡ is
      → (says_failure l || fails ls)
      ≡ fails (cond is (l ∷ filter begins_refusal ls) (filter begins_refusal ls))
  by more true e = ap (λ (rest : Bool). says_failure l || rest) more
  by more false e = rw (fails_only l e) more

says : (why : No) → says_failure (line_of_no why) ≡ is_failure why
unfolding digits
says no.BadLine = refl
says no.NoSession = refl
says no.InUse = refl
says no.NoStory = refl
says (no.Early c) = refl
says (no.Stale c) = refl
says no.Other = refl
says no.Unwanted = refl
says no.Over = refl
says no.Full = refl
says (no.DiskFault from to) = refl
says no.NoMemory = refl
says no.Changed = refl
says no.LongLine = refl

any_said : (whys : List No) → fails (map line_of_no whys) ≡ list_any is_failure whys
any_said [] = refl
any_said (why ∷ whys) = rw (says why, any_said whys) refl

pub failures : (rs : List Reply) → All HasShowLines rs
    → fails (written rs) ≡ list_any is_failure (refusals_in rs)
failures rs h = any_found (written rs) ∙ ap fails (found rs h) ∙ any_said (refusals_in rs)
