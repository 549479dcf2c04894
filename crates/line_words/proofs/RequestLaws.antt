-- Each spelling of a request and of an input of `run` is read, and what is read is spelled so.
use Rattle.std.proofs.Common.{◌≡◌, ℕ, ◌≤◌, true, ◌==◌, List, [], ◌∷◌, ◌++◌, Option, Some, None}
use Rattle.std.proofs.Common.{refl, ap, subst, arith, codes}
use Rattle.std.proofs.lemmas.Bool.Decides.{nat_tests}
use Rattle.story_text.specs.Escape.{escaped}
use Rattle.story_text.specs.Escape as texts
use Rattle.story_text.proofs.TextLaws.{text_again, spells_only}
use Rattle.line_words.specs.declared.request.Request.{Request}
use Rattle.line_words.specs.declared.request.Request.TheVariants.{Open, Line, Char, File, Size}
use Rattle.line_words.specs.declared.request.Request.TheVariants.{Last, Close, Watch}
use Rattle.story_text.specs.declared.input.Input.{Input}
use Rattle.story_text.specs.declared.input.Input.TheVariants as plays
use Rattle.line_words.specs.Keycode.{is_code}
use Rattle.line_words.specs.Reading.{Reader, whole, made_if_read}
use Rattle.line_words.specs.Field.{behind_name, fields_or, fields_named}
use Rattle.line_words.specs.Play.{line_at, window_and_code_at, screen_at, line_play, char_play}
use Rattle.line_words.specs.Play.{file_play, spelled_play, play_of}
use Rattle.line_words.specs.Play as play
use Rattle.line_words.specs.Request.{session_at, numbered_at, setup_fields_at, open_of}
use Rattle.line_words.specs.Request.{line_request, char_request, file_request, size_request}
use Rattle.line_words.specs.Request.{last_request, made_size, watched_at, watch_of, made_watch}
use Rattle.line_words.specs.Request.{close_of, made_open, made_line, made_char, made_file}
use Rattle.line_words.specs.Request.{made_last, made_close, spelled_request, request_of}
use Rattle.line_words.specs.Spelling.{number_field, session, numbered_fields, watched_fields}
use Rattle.line_words.specs.Spelling.{screen_fields, IsScreen}
use Rattle.line_words.specs.Spelling.{typed_fields, IsSession, IsNumbered, IsTerminator, IsRequest}
use Rattle.line_words.specs.Spelling.{SpellsRequest, print_request, SpellsPlay, IsLineOf}
use Rattle.line_words.proofs.CrLaws.{line_again, line_only}
use Rattle.line_words.proofs.WordLaws.{some_is, if_some, IsEnd}
use Rattle.line_words.proofs.ReaderLaws.{NoCr, NoCr-append, IsNil, IsReader, Both, then_reads}
use Rattle.line_words.proofs.ReaderLaws.{whole-again, whole-only, made-only, NumberIs}
use Rattle.line_words.proofs.ReaderLaws.{KeyIs, TextIs, CodeIs, TerminatorIs, number_reads}
use Rattle.line_words.specs.Field.{are_letters}
use Rattle.line_words.proofs.WordLaws.{visible_lacks}
use Rattle.line_words.proofs.ReaderLaws.{letters_visible, u32_reads, WatchWordIs, watch_word_reads}
use Rattle.line_words.proofs.ReaderLaws.{key_reads, text_reads, code_reads, terminator_reads}

-- ---- the fields of each kind of line

abbrev Session : List ℕ → ℕ × List ℕ → Type 0
Session = Both (NumberIs 0 4294967295) KeyIs

abbrev Numbered : List ℕ → ℕ × (List ℕ × ℕ) → Type 0
Numbered = Both (NumberIs 0 4294967295) (Both KeyIs (NumberIs 1 4294967295))

abbrev Watched : List ℕ → ℕ × (List ℕ × ℕ) → Type 0
Watched = Both (NumberIs 0 4294967295) (Both WatchWordIs (NumberIs 0 4294967295))

abbrev Screen : List ℕ → ℕ × ℕ → Type 0
Screen = Both (NumberIs 1 255) (NumberIs 1 255)

abbrev Setup : List ℕ → ℕ × (ℕ × (ℕ × ℕ)) → Type 0
Setup =
    Both (NumberIs 0 65535)
    (Both (NumberIs 0 18446744073709551615) Screen)

abbrev Typed : List ℕ → ℕ × (List ℕ × ℕ) → Type 0
Typed = Both (NumberIs 0 4294967295) (Both TextIs TerminatorIs)

abbrev Pressed : List ℕ → ℕ × ℕ → Type 0
Pressed = Both (NumberIs 0 4294967295) CodeIs

session_reads : IsReader (ℕ × List ℕ) IsEnd Session session_at
unfolding session_at
session_reads = then_reads u32_reads key_reads

numbered_reads : IsReader (ℕ × (List ℕ × ℕ)) IsEnd Numbered numbered_at
unfolding numbered_at
numbered_reads =
    then_reads u32_reads (then_reads key_reads (number_reads 1 4294967295 (omega arith)))

watched_reads : IsReader (ℕ × (List ℕ × ℕ)) IsEnd Watched watched_at
unfolding watched_at
watched_reads = then_reads u32_reads (then_reads watch_word_reads u32_reads)

screen_reads : IsReader (ℕ × ℕ) IsEnd Screen screen_at
unfolding screen_at
screen_reads = let byte = number_reads 1 255 (omega arith) in then_reads byte byte

setup_reads : IsReader (ℕ × (ℕ × (ℕ × ℕ))) IsEnd Setup setup_fields_at
unfolding setup_fields_at
setup_reads =
    then_reads (number_reads 0 65535 (omega arith))
    (then_reads (number_reads 0 18446744073709551615 (omega arith)) screen_reads)

typed_reads : IsReader (ℕ × (List ℕ × ℕ)) IsNil Typed line_at
unfolding line_at
typed_reads = then_reads u32_reads (then_reads text_reads terminator_reads)

pressed_reads : IsReader (ℕ × ℕ) IsEnd Pressed window_and_code_at
unfolding window_and_code_at
pressed_reads = then_reads u32_reads code_reads

-- ---- from what was read to the spelling

open_behind : (rest : List ℕ) (x : (ℕ × List ℕ) × (ℕ × (ℕ × (ℕ × ℕ))))
    → Both Session Setup rest x
    → SpellsRequest (codes "OPEN" ++ rest) (made_open x)
open_behind rest ((s, key), (story, (seed, (cols, rows))))
    (one, two, e, (a, b, e1, hs, hk), (c, d, e2, ht, (f, g, e3, hd, (i, j, e4, hc, hr)))) = (
      ((hs.2, hk.1), ht.2, hd.2, (hc.1, hc.2, hr.1, hr.2), refl),
      [],
      refl,
      rw (e, e1, hs.0, hk.0, e2, ht.0, e3, hd.0, e4, hc.0, hr.0) refl,
    )

line_behind : (rest : List ℕ) (x : (ℕ × (List ℕ × ℕ)) × (ℕ × (List ℕ × ℕ)))
    → Both Numbered Typed rest x
    → SpellsRequest (codes "LINE" ++ rest) (made_line x)
line_behind rest ((s, (key, n)), (win, (text, term)))
    (one, two, e, (a, b, e1, hs, (c, d, e2, hk, hn)), (f, g, e3, hw, (i, j, e4, ht, hm))) = (
      ((hs.2, hk.1, hn.1, hn.2), hw.2, ht.2.2, hm.1),
      ht.0,
      ht.2,
      rw (e, e1, hs.0, e2, hk.0, hn.0, e3, hw.0, e4, ht.1, hm.0) refl,
    )

char_behind : (rest : List ℕ) (x : (ℕ × (List ℕ × ℕ)) × (ℕ × ℕ))
    → Both Numbered Pressed rest x
    → SpellsRequest (codes "CHAR" ++ rest) (made_char x)
char_behind rest ((s, (key, n)), (win, code))
    (one, two, e, (a, b, e1, hs, (c, d, e2, hk, hn)), (f, g, e3, hw, hc)) = (
      ((hs.2, hk.1, hn.1, hn.2), hw.2, hc.1),
      [],
      refl,
      rw (e, e1, hs.0, e2, hk.0, hn.0, e3, hw.0, hc.0.0) refl,
    )

file_behind : (rest : List ℕ) (x : (ℕ × (List ℕ × ℕ)) × List ℕ)
    → Both Numbered TextIs rest x
    → SpellsRequest (codes "FILE" ++ rest) (made_file x)
file_behind rest ((s, (key, n)), name) (one, two, e, (a, b, e1, hs, (c, d, e2, hk, hn)), ht) = (
  ((hs.2, hk.1, hn.1, hn.2), ht.2.2),
  ht.0,
  ht.2,
  rw (e, e1, hs.0, e2, hk.0, hn.0, ht.1) refl,
)

size_behind : (rest : List ℕ) (x : (ℕ × (List ℕ × ℕ)) × (ℕ × ℕ))
    → Both Numbered Screen rest x
    → SpellsRequest (codes "SIZE" ++ rest) (made_size x)
size_behind rest ((s, (key, n)), (cols, rows))
    (one, two, e, (a, b, e1, hs, (c, d, e2, hk, hn)), (f, g, e3, hc, hr)) = (
      ((hs.2, hk.1, hn.1, hn.2), (hc.1, hc.2, hr.1, hr.2)),
      [],
      refl,
      rw (e, e1, hs.0, e2, hk.0, hn.0, e3, hc.0, hr.0) refl,
    )

last_behind : (rest : List ℕ) (x : ℕ × List ℕ)
    → Session rest x → SpellsRequest (codes "LAST" ++ rest) (made_last x)
last_behind rest (s, key) (a, b, e, hs, hk) = ((hs.2, hk.1), [], refl, rw (e, hs.0, hk.0) refl)

close_behind : (rest : List ℕ) (x : ℕ × (List ℕ × ℕ))
    → Numbered rest x
    → SpellsRequest (codes "CLOSE" ++ rest) (made_close x)
close_behind rest (s, (key, n)) (a, b, e, hs, (c, d, e2, hk, hn)) =
    ((hs.2, hk.1, hn.1, hn.2), [], refl, rw (e, hs.0, e2, hk.0, hn.0) refl)

watch_behind : (rest : List ℕ) (x : ℕ × (List ℕ × ℕ))
    → Watched rest x
    → SpellsRequest (codes "WATCH" ++ rest) (made_watch x)
watch_behind rest (s, (digits, from)) (a, b, e, hs, (c, d, e2, hw, hf)) =
    ((hs.2, hw.1, hf.2), [], refl, rw (e, hs.0, e2, hw.0, hf.0) refl)

after_only : (name line rest : List ℕ) → behind_name name line ≡ Some rest → line ≡ name ++ rest
after_only [] line rest e = some_is line rest e
after_only (n ∷ ns) [] rest e = absurd cc
after_only (n ∷ ns) (b ∷ bs) rest e =
    let h = if_some (n == b) (behind_name ns bs) rest e in
    let same : n ≡ b = grind (arith, nat_tests, h.0) in
    rw (← same) (ap (λ (t : List ℕ). n ∷ t) (after_only ns bs rest h.1))

-- the line begins with this kind's name and its fields are read, or another kind has it
kind_only : {A B : Type 0} {Rests : List ℕ → Type 0} {S : List ℕ → A → Type 0} {read : Reader A}
    (Spells : List ℕ → B → Type 0) (name line : List ℕ) (make : A → B) (other : Option B) (y : B)
    → IsReader A Rests S read
    → ((rest : List ℕ) (x : A) → S rest x → Spells (name ++ rest) (make x))
    → (other ≡ Some y → Spells line y)
    → fields_named name line (λ rest. made_if_read make (whole read rest)) other ≡ Some y
    → Spells line y
kind_only {read = read} Spells name line make other y reads spells next =
    by (behind_name name line) refl where
      by : (found : Option (List ℕ))
          → behind_name name line ≡ found
          → fields_or (λ rest. made_if_read make (whole read rest)) other found ≡ Some y
          → Spells line y
      by (Some rest) is e =
          let m = made-only make (whole read rest) y e in
          rw (after_only name line rest is)
          (subst (Spells (name ++ rest)) m.2 (spells rest m.0 (whole-only rest m.0 reads m.1)))
      by None is e = next e

spelled_only : (line : List ℕ) (request : Request)
    → spelled_request line ≡ Some request
    → SpellsRequest line request
unfolding spelled_request open_of line_request char_request file_request size_request last_request
    close_of watch_of
spelled_only line request =
    kind_only SpellsRequest (codes "OPEN") line made_open _ request
    (then_reads session_reads setup_reads) open_behind
    (kind_only SpellsRequest (codes "LINE") line made_line _ request
    (then_reads numbered_reads typed_reads) line_behind
    (kind_only SpellsRequest (codes "CHAR") line made_char _ request
    (then_reads numbered_reads pressed_reads) char_behind
    (kind_only SpellsRequest (codes "FILE") line made_file _ request
    (then_reads numbered_reads text_reads) file_behind
    (kind_only SpellsRequest (codes "SIZE") line made_size _ request
    (then_reads numbered_reads screen_reads) size_behind
    (kind_only SpellsRequest (codes "LAST") line made_last _ request session_reads last_behind
    (kind_only SpellsRequest (codes "CLOSE") line made_close _ request numbered_reads close_behind
    (kind_only SpellsRequest (codes "WATCH") line made_watch _ request watched_reads watch_behind
    (λ e. absurd cc))))))))

-- ---- from the spelling to what is read

-- what spells the fields of a kind of line is read, and no CR stands in such a line
kind_again : {A B : Type 0} {Rests : List ℕ → Type 0} {S : List ℕ → A → Type 0} {read : Reader A}
    (name rest : List ℕ) (make : A → B) (x : A)
    → IsReader A Rests S read → Rests [] → are_letters name ≡ true → S rest x
    → (made_if_read make (whole read rest) ≡ Some (make x)) × NoCr (name ++ rest)
kind_again name rest make x reads nil letters h = (
  rw (whole-again rest x reads nil h) refl,
  NoCr-append name rest (visible_lacks 13 name (omega arith) (letters_visible name letters))
      (reads.clean rest x h),
)

session_spelling : (s : ℕ) (key : List ℕ) → IsSession s key → Session (session s key) (s, key)
session_spelling s key h = (_, _, refl, (refl, omega arith, h.0), (refl, h.1))

numbered_spelling : (s : ℕ) (key : List ℕ) (n : ℕ)
    → IsNumbered s key n
    → Numbered (numbered_fields s key n) (s, (key, n))
numbered_spelling s key n h =
    (_, _, refl, (refl, omega arith, h.0), (_, _, refl, (refl, h.1), (refl, h.2, h.3)))

watched_spelling : (s : ℕ) (digits : List ℕ) (from : ℕ)
    → IsRequest (Watch s digits from)
    → Watched (watched_fields s digits from) (s, (digits, from))
watched_spelling s digits from h =
    (_, _, refl, (refl, omega arith, h.0), (_, _, refl, (refl, h.1), (refl, omega arith, h.2)))

typed_spelling : (win : ℕ) (word text : List ℕ) (term : ℕ)
    → win ≤ 4294967295 → texts.WordSpells word text
    → IsTerminator term
    → Typed (typed_fields win word term) (win, (text, term))
typed_spelling win word text term w h t =
    (_, _, refl, (refl, omega arith, w), (_, _, refl, (word, refl, h), (refl, t)))

pressed_spelling : (win code : ℕ)
    → win ≤ 4294967295 → is_code code ≡ true
    → Pressed (number_field win ++ number_field code) (win, code)
pressed_spelling win code w h =
    (_, _, refl, (refl, omega arith, w), ((refl, omega arith, grind (arith, nat_tests, h)), h))

screen_spelling : (cols rows : ℕ)
    → IsScreen cols rows
    → Screen (screen_fields cols rows) (cols, rows)
screen_spelling cols rows h = (_, _, refl, (refl, h.0, h.1), (refl, h.2, h.3))

setup_spelling : (story seed cols rows : ℕ)
    → story ≤ 65535 → seed ≤ 18446744073709551615 → IsScreen cols rows
    → Setup (number_field story ++ (number_field seed ++ screen_fields cols rows))
    (story, (seed, (cols, rows)))
setup_spelling story seed cols rows st se h = (
  _,
  _,
  refl,
  (refl, omega arith, st),
  (_, _, refl, (refl, omega arith, se), screen_spelling cols rows h),
)

-- a spelling is read as its request, and has no CR
spelled_again : (bytes : List ℕ) (request : Request)
    → SpellsRequest bytes request
    → (spelled_request bytes ≡ Some request) × NoCr bytes
unfolding spelled_request open_of line_request char_request file_request size_request last_request
    close_of watch_of
spelled_again bytes (Open s key story seed cols rows budget) (h, word, text, e) =
    rw (e, h.4) (kind_again (codes "OPEN") _ made_open ((s, key), (story, (seed, (cols, rows))))
    (then_reads session_reads setup_reads) tt refl (
      _,
      _,
      refl,
      session_spelling s key h.0,
      setup_spelling story seed cols rows h.1 h.2 h.3,
    ))
spelled_again bytes (Line s key n win text term) (h, word, t, e) =
    rw e (kind_again (codes "LINE") _ made_line ((s, (key, n)), (win, (text, term)))
    (then_reads numbered_reads typed_reads) refl refl
    (_, _, refl, numbered_spelling s key n h.0, typed_spelling win word text term h.1 t h.3))
spelled_again bytes (Char s key n win code) (h, word, t, e) =
    rw e (kind_again (codes "CHAR") _ made_char ((s, (key, n)), (win, code))
    (then_reads numbered_reads pressed_reads) tt refl
    (_, _, refl, numbered_spelling s key n h.0, pressed_spelling win code h.1 h.2))
spelled_again bytes (File s key n name) (h, word, t, e) =
    rw e (kind_again (codes "FILE") _ made_file ((s, (key, n)), name)
    (then_reads numbered_reads text_reads) tt refl
    (_, _, refl, numbered_spelling s key n h.0, (word, refl, t)))
spelled_again bytes (Size s key n cols rows) (h, word, t, e) =
    rw e (kind_again (codes "SIZE") _ made_size ((s, (key, n)), (cols, rows))
    (then_reads numbered_reads screen_reads) tt refl
    (_, _, refl, numbered_spelling s key n h.0, screen_spelling cols rows h.1))
spelled_again bytes (Last s key) (h, word, t, e) =
    rw e (kind_again (codes "LAST") _ made_last (s, key) session_reads tt refl
    (session_spelling s key h))
spelled_again bytes (Close s key n) (h, word, t, e) =
    rw e (kind_again (codes "CLOSE") _ made_close (s, (key, n)) numbered_reads tt refl
    (numbered_spelling s key n h))
spelled_again bytes (Watch s digits from) (h, word, t, e) =
    rw e (kind_again (codes "WATCH") _ made_watch (s, (digits, from)) watched_reads tt refl
    (watched_spelling s digits from h))

pub prints : (request : Request) → IsRequest request → SpellsRequest (print_request request) request
prints (Open s key story seed cols rows budget) h = (h, [], refl, refl)
prints (Line s key n win text term) h =
    (h, escaped text, spells_only (escaped text) text (text_again text h.2), refl)
prints (Char s key n win code) h = (h, [], refl, refl)
prints (File s key n name) h =
    (h, escaped name, spells_only (escaped name) name (text_again name h.1), refl)
prints (Size s key n cols rows) h = (h, [], refl, refl)
prints (Last s key) h = (h, [], refl, refl)
prints (Close s key n) h = (h, [], refl, refl)
prints (Watch s digits from) h = (h, [], refl, refl)

-- ---- inputs of `run`

typed_behind : (rest : List ℕ) (x : ℕ × (List ℕ × ℕ))
    → Typed rest x
    → SpellsPlay (codes "LINE" ++ rest) (play.made_line_play x)
typed_behind rest (win, (text, term)) (f, g, e3, hw, (i, j, e4, ht, hm)) =
    (ht.0, hw.2, ht.2, hm.1, rw (e3, hw.0, e4, ht.1, hm.0) refl)

pressed_behind : (rest : List ℕ) (x : ℕ × ℕ)
    → Pressed rest x
    → SpellsPlay (codes "CHAR" ++ rest) (play.made_char_play x)
pressed_behind rest (win, code) (f, g, e3, hw, hc) = (hw.2, hc.1, rw (e3, hw.0, hc.0.0) refl)

sized_behind : (rest : List ℕ) (x : ℕ × ℕ)
    → Screen rest x
    → SpellsPlay (codes "SIZE" ++ rest) (play.made_size_play x)
sized_behind rest (cols, rows) (f, g, e3, hc, hr) =
    ((hc.1, hc.2, hr.1, hr.2), rw (e3, hc.0, hr.0) refl)

play_only : (line : List ℕ) (x : Input) → spelled_play line ≡ Some x → SpellsPlay line x
unfolding spelled_play
play_only line x =
    kind_only SpellsPlay (codes "LINE") line play.made_line_play _ x typed_reads typed_behind
    (kind_only SpellsPlay (codes "CHAR") line play.made_char_play _ x pressed_reads pressed_behind
    (kind_only SpellsPlay (codes "FILE") line (λ name. plays.File name) _ x text_reads
    (λ rest name h. (h.0, h.2, rw h.1 refl))
    (kind_only SpellsPlay (codes "SIZE") line play.made_size_play _ x screen_reads sized_behind
    (λ e. absurd cc))))

play_again : (bytes : List ℕ) (x : Input)
    → SpellsPlay bytes x
    → (spelled_play bytes ≡ Some x) × NoCr bytes
unfolding spelled_play
play_again bytes (plays.Line win text key) (word, w, t, h, e) =
    rw e (kind_again (codes "LINE") _ play.made_line_play (win, (text, key)) typed_reads refl refl
    (typed_spelling win word text key w t h))
play_again bytes (plays.Char win code) (w, h, e) =
    rw e (kind_again (codes "CHAR") _ play.made_char_play (win, code) pressed_reads tt refl
    (pressed_spelling win code w h))
play_again bytes (plays.File name) (word, t, e) =
    rw e (kind_again (codes "FILE") _ (λ name. plays.File name) name text_reads tt refl
    (word, refl, t))
play_again bytes (plays.Size cols rows) (h, e) =
    rw e (kind_again (codes "SIZE") _ play.made_size_play (cols, rows) screen_reads tt refl
    (screen_spelling cols rows h))

-- ---- lines

pub request_again : (line : List ℕ) (request : Request)
    → IsLineOf SpellsRequest line request
    → request_of line ≡ Some request
request_again = line_again SpellsRequest spelled_request spelled_again

pub request_only : (line : List ℕ) (request : Request)
    → request_of line ≡ Some request
    → IsLineOf SpellsRequest line request
request_only = line_only SpellsRequest spelled_request spelled_only

pub each_play : (line : List ℕ) (x : Input) → IsLineOf SpellsPlay line x → play_of line ≡ Some x
each_play = line_again SpellsPlay spelled_play play_again

pub plays_only : (line : List ℕ) (x : Input) → play_of line ≡ Some x → IsLineOf SpellsPlay line x
plays_only = line_only SpellsPlay spelled_play play_only
