-- What a command leaves of its input and output, told or not (own).
use Rattle.std.specs.Prelude.{◌≡◌, ℕ, ◌^◌, ◌≤◌, ◌⊎◌, List, length, true, Result, Err, IsOkAnd}
use Rattle.host_top.specs.Headline.{Speech, whole_text}
use Rattle.line_talk.specs.Lines.{lines, talk, ReachesLimit}
use Rattle.line_talk.specs.Streams.{SourceState, SinkState, Gave, Wrote}
use Rattle.line_talk.specs.Talked.{IsReadToEnd}
use Rattle.line_talk.specs.Writing.{IsPartOf}
use Rattle.host_top.specs.declared.status.Status.{Status}
use Rattle.host_top.specs.declared.status.Status.TheVariants.{Done, BadWords, Refused, ReadFault}
use Rattle.host_top.specs.declared.status.Status.TheVariants.{WriteFault, NoMemory, LineLimit}
use Rattle.host_top.specs.declared.status.Status.TheVariants.{DiskFault, BadFolder, DoorFault}

-- what is left, by the bytes read, the source after them and the bytes written
abbrev pub SpeechLeaves : Status → Result Speech (List ℕ) → List ℕ → SourceState → List ℕ
    → Type 0
SpeechLeaves Done said read now written = IsOkAnd said (λ speech.
    (written ≡ speech.text (lines read))
    × (IsReadToEnd read now ⊎ (speech.is_over (lines read) ≡ true)))
SpeechLeaves Refused said read now written = said ≡ Err written
SpeechLeaves ReadFault said read now written =
    IsOkAnd said (λ speech. written ≡ speech.text (talk read))
SpeechLeaves WriteFault said read now written = IsPartOf written (whole_text said (talk read))
SpeechLeaves NoMemory said read now written = IsPartOf written (whole_text said (talk read))
SpeechLeaves LineLimit said read now written = IsOkAnd said (λ speech.
    (written ≡ speech.text (talk read)) × ReachesLimit read)
SpeechLeaves BadWords said read now written = ⊥
SpeechLeaves DiskFault said read now written = ⊥
SpeechLeaves BadFolder said read now written = ⊥
SpeechLeaves DoorFault said read now written = ⊥

-- what was read and what was written
pub record Spoken (said : Result Speech (List ℕ)) (input now : SourceState)
    (output new : SinkState)
    (status : Status) : Type 0 where
  pub read : List ℕ
  pub written : List ℕ
  pub gave : Gave input now read
  pub within : length read ≤ 2 ^ 31
  pub wrote : Wrote output new written
  pub leaves : SpeechLeaves status said read now written
