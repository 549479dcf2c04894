-- The fields of a line: one space and a word (own).
use Rattle.std.specs.Prelude.{ℕ, ◌+◌, ◌-◌, ◌*◌, Bool, true, ◌&&◌, ◌||◌, ◌==◌, nat_le, nat_lt}
use Rattle.std.specs.Prelude.{if◌then◌else◌, List, [], ◌∷◌, length, Option, Some, None}
use Rattle.story_text.specs.Reading.{text_of}
use Rattle.line_words.specs.Reading.{Reader, ◌>>=◌}
use Rattle.story_text.specs.Keycode.{is_terminator}
use Rattle.line_words.specs.Keycode.{is_code}

-- the bytes up to the first space
abbrev pub word_of : List ℕ → List ℕ
word_of [] = []
word_of (b ∷ bs) = if b == 32 then [] else b ∷ word_of bs

-- the bytes from the first space on
abbrev pub rest_from_space : List ℕ → List ℕ
rest_from_space [] = []
rest_from_space (b ∷ bs) = if b == 32 then b ∷ bs else rest_from_space bs

-- the word after one space, and what follows it
unfoldable pub word_at : Reader (List ℕ)
word_at [] = None
word_at (b ∷ bs) = if b == 32 then Some (word_of bs, rest_from_space bs) else None

-- a decimal digit
abbrev pub is_digit : ℕ → Bool
is_digit b = nat_le 48 b && nat_le b 57

-- the number whose digits are those of n and then these, if it is at most high
abbrev pub number_from : ℕ → ℕ → List ℕ → Option ℕ
number_from high n [] = Some n
number_from high n (b ∷ bs) =
    if is_digit b && nat_le (n * 10 + (b - 48)) high
    then number_from high (n * 10 + (b - 48)) bs
    else None

-- the number that a word spells without leading zeros, if it is at most high
unfoldable pub number_spelled : ℕ → List ℕ → Option ℕ
number_spelled high [] = None
number_spelled high (b ∷ []) = number_from high 0 (b ∷ [])
number_spelled high (b ∷ c ∷ bs) = if b == 48 then None else number_from high 0 (b ∷ c ∷ bs)

-- what passes a test
abbrev pub checked : {A : Type 0} → Bool → A → Option A
checked holds x = if holds then Some x else None

-- a number from low to high
unfoldable pub number_between : ℕ → ℕ → Reader ℕ
number_between low high bytes = do
  word ← word_at bytes
  n ← number_spelled high word.0
  checked (nat_le low n) (n, word.1)

-- a letter from A to Z or a to z, or a digit
abbrev pub is_letter : ℕ → Bool
is_letter b = is_digit b || ((nat_le 65 b && nat_le b 90) || (nat_le 97 b && nat_le b 122))

-- each byte is such a one
abbrev pub are_letters : List ℕ → Bool
are_letters [] = true
are_letters (b ∷ bs) = is_letter b && are_letters bs

-- a session's key: 1 to 32 letters and digits
abbrev pub is_key : List ℕ → Bool
is_key word = nat_lt 0 (length word) && (nat_le (length word) 32 && are_letters word)

-- a key
unfoldable pub key_at : Reader (List ℕ)
key_at bytes = do
  word ← word_at bytes
  checked (is_key word.0) word

-- a digit from 0 to 9 or a to f
abbrev pub is_watch_digit : ℕ → Bool
is_watch_digit b = is_digit b || (nat_le 97 b && nat_le b 102)

-- each byte is such a one
abbrev pub are_watch_digits : List ℕ → Bool
are_watch_digits [] = true
are_watch_digits (b ∷ bs) = is_watch_digit b && are_watch_digits bs

-- a session's word for spectators: 16 of them
abbrev pub is_watch_word : List ℕ → Bool
is_watch_word word = length word == 16 && are_watch_digits word

-- such a word
unfoldable pub watch_word_at : Reader (List ℕ)
watch_word_at bytes = do
  word ← word_at bytes
  checked (is_watch_word word.0) word

-- a text with its escapes
unfoldable pub text_at : Reader (List ℕ)
text_at bytes = do
  word ← word_at bytes
  text ← text_of word.0
  Some (text, word.1)

-- a Unicode scalar value or a keycode
unfoldable pub code_at : Reader ℕ
code_at bytes = do
  code ← number_between 0 4294967295 bytes
  checked (is_code code.0) code

-- the terminator key that ends the line, or 0 where none is named
unfoldable pub terminator_at : Reader ℕ
terminator_at [] = Some (0, [])
terminator_at (b ∷ bs) = do
  key ← number_between 0 4294967295 (b ∷ bs)
  checked (is_terminator key.0) key

-- what follows a name at the front
abbrev pub behind_name : List ℕ → List ℕ → Option (List ℕ)
behind_name [] line = Some line
behind_name (n ∷ ns) [] = None
behind_name (n ∷ ns) (b ∷ bs) = if n == b then behind_name ns bs else None

-- the fields behind a name where the line begins with it, else the next
abbrev pub fields_or : {A : Type 0} → (List ℕ → Option A) → Option A → Option (List ℕ)
    → Option A
fields_or fields other (Some rest) = fields rest
fields_or fields other None = other

abbrev pub fields_named : {A : Type 0} → List ℕ → List ℕ → (List ℕ → Option A) → Option A
    → Option A
fields_named name line fields other = fields_or fields other (behind_name name line)
