-- What a command writes for an input, by its exit status (own).
use Rattle.std.specs.Prelude.{◌≡◌, ℕ, ◌⊎◌, List, [], Bool, true, Result, Ok, Err, IsOkAnd}
use Rattle.line_talk.specs.Lines.{lines, talk, IsWithinLimits, ReachesLimit}
use Rattle.line_talk.specs.Writing.{IsPartOf}
use Rattle.host_top.specs.declared.status.Status.{Status}
use Rattle.host_top.specs.declared.status.Status.TheVariants.{Done, BadWords, Refused, ReadFault}
use Rattle.host_top.specs.declared.status.Status.TheVariants.{WriteFault, NoMemory, LineLimit}
use Rattle.host_top.specs.declared.status.Status.TheVariants.{DiskFault, BadFolder, DoorFault}

-- what a command says: its text for the lines of an input, and whether it is over after them
pub record Speech : Type 0 where
  pub text : List (List ℕ) → List ℕ
  pub is_over : List (List ℕ) → Bool

-- what is written where nothing fails: the text, or the line by which a story is refused
abbrev pub whole_text : Result Speech (List ℕ) → List (List ℕ) → List ℕ
whole_text (Ok speech) lines = speech.text lines
whole_text (Err line) lines = line

-- what is written over the bytes of an input
abbrev pub WritesOf : Status → Result Speech (List ℕ) → List ℕ → List ℕ → Type 0
WritesOf Done said input written = IsOkAnd said (λ speech.
    (written ≡ speech.text (lines input))
    × (IsWithinLimits input ⊎ (speech.is_over (lines input) ≡ true)))
WritesOf Refused said input written = said ≡ Err written
WritesOf ReadFault said input written = (written ≡ []) ⊎ IsOkAnd said (λ speech.
    (read : List ℕ) × IsPartOf read input × (written ≡ speech.text (talk read)))
WritesOf WriteFault said input written = IsPartOf written (whole_text said (talk input))
WritesOf NoMemory said input written = IsPartOf written (whole_text said (talk input))
WritesOf LineLimit said input written = IsOkAnd said (λ speech.
    (written ≡ speech.text (talk input)) × ReachesLimit input)
WritesOf BadWords said input written = ⊥
WritesOf DiskFault said input written = ⊥
WritesOf BadFolder said input written = ⊥
WritesOf DoorFault said input written = ⊥
