-- The lines of a show (own: docs/FORMATS.md, "Shows").
use Rattle.std.specs.Prelude.{◌≡◌, ◌≢◌, ℕ, Bool, true, false, ◌==◌, List, [], ◌∷◌, ◌++◌, codes}
use Rattle.std.specs.List.{All, flat_map, list_any}
use Rattle.line_words.specs.Reply.{print_show}
use Rattle.line_words.specs.declared.reply.Reply.{Reply}
use Rattle.line_words.specs.declared.reply.Reply.TheVariants.{Show, No, Seen}

-- a line begins with one of the letters of a show
abbrev pub begins_show : List ℕ → Bool
begins_show [] = false
begins_show (byte ∷ bytes) = list_any (λ letter. letter == byte) (codes "WCTGEPI")

-- a line of a show, without its LF
pub record IsShowLine (line : List ℕ) : Type 0 where
  pub begins : begins_show line ≡ true
  pub whole : All (λ byte. byte ≢ 10) line

-- lines, each with its LF
abbrev pub with_lf : List (List ℕ) → List ℕ
with_lf lines = flat_map (λ line. line ++ 10 ∷ []) lines

-- bytes are lines of a show, each with its LF
pub record AreShowLines (bytes : List ℕ) : Type 0 where
  pub lines : List (List ℕ)
  pub each : All IsShowLine lines
  pub spelled : bytes ≡ with_lf lines

-- a show among others: its session, its number and its lines
pub record NumberedShow : Type 0 where
  pub session : ℕ
  pub number : ℕ
  pub body : List ℕ

-- it as it is written
abbrev pub print_numbered : NumberedShow → List ℕ
print_numbered show = print_show show.session show.number show.body

-- bytes are shows as they are written, one behind the other, each with show lines
pub record AreShows (bytes : List ℕ) : Type 0 where
  pub shows : List NumberedShow
  pub each : All (λ (show : NumberedShow). AreShowLines show.body) shows
  pub spelled : bytes ≡ flat_map print_numbered shows

-- a reply that is a show, or shows, has show lines
abbrev pub HasShowLines : Reply → Type 0
HasShowLines (Show s n body) = AreShowLines body
HasShowLines (No why) = Unit {0}
HasShowLines (Seen s from to text) = AreShows text
