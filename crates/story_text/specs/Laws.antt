-- What ties reading and writing of texts together (own).
use Rattle.std.specs.Prelude.{◌≡◌, ℕ, true, List, [], ◌∷◌, Some}
use Rattle.story_text.specs.Text.{IsText}
use Rattle.story_text.specs.Escape.{is_visible, escaped, WordSpells}
use Rattle.story_text.specs.Reading.{text_of}

-- each spelling of a text is read as that text
abbrev pub ReadsEachSpelling : Type 0
ReadsEachSpelling = (word text : List ℕ) → WordSpells word text → text_of word ≡ Some text

-- a word that is read as a text is a spelling of that text
abbrev pub ReadsSpellingsOnly : Type 0
ReadsSpellingsOnly = (word text : List ℕ) → text_of word ≡ Some text → WordSpells word text

-- what is written for a text is read as that text
abbrev pub TextRoundTrip : Type 0
TextRoundTrip = (text : List ℕ) → IsText text → text_of (escaped text) ≡ Some text

-- each byte is visible
abbrev pub AreVisible : List ℕ → Type 0
AreVisible [] = Unit {0}
AreVisible (b ∷ bs) = (is_visible b ≡ true) × AreVisible bs

-- a word that is read has visible bytes alone, so no space and no line end
abbrev pub ReadsVisibleOnly : Type 0
ReadsVisibleOnly = (word text : List ℕ) → text_of word ≡ Some text → AreVisible word
