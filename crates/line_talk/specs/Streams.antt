-- What is known of a source and of a sink of bytes (own).
use Rattle.std.specs.Prelude.{ℕ, ◌<◌, ◌≤◌, List, [], length, take, Bool, true, false, Option}
use Rattle.std.specs.Io.KnownBytes.{Consumes, Appends}
use Rattle.line_talk.specs.Causes.{CountsMore}
use Rattle.line_talk.specs.declared.source.Got.{Got}
use Rattle.line_talk.specs.declared.source.Got.TheVariants as got
use Rattle.line_talk.specs.declared.sink.Put.{Put}
use Rattle.line_talk.specs.declared.sink.Put.TheVariants as put

-- a source: the bytes left where it tells them, how many it gave, whether it has ended, its faults
pub record SourceState : Type 0 where
  pub left : Option (List ℕ)
  pub taken : ℕ
  pub ended : Bool
  pub faults : ℕ

-- a sink: the bytes that it holds where it tells them, and its faults
pub record SinkState : Type 0 where
  pub held : Option (List ℕ)
  pub faults : ℕ

-- from old to new a source gave these bytes, those that it told next where it tells them
pub record Gave (old new : SourceState) (bytes : List ℕ) : Type 0 where
  pub told : Consumes old.left new.left bytes
  pub count : CountsMore old.taken (length bytes) new.taken
  pub later : old.faults ≤ new.faults

-- from old to new a sink took these bytes, and holds them behind the others where it tells them
pub record Wrote (old new : SinkState) (bytes : List ℕ) : Type 0 where
  pub told : Appends old.held new.held bytes
  pub later : old.faults ≤ new.faults

-- the bytes that an answer to a read gave
abbrev pub bytes_got : Got → List ℕ → List ℕ
bytes_got (got.Bytes n) into = take n into
bytes_got got.End into = []
bytes_got got.Failed into = []

-- whether an answer to a read is the end
abbrev pub is_end : Got → Bool
is_end (got.Bytes n) = false
is_end got.End = true
is_end got.Failed = false

-- whether a read failed
abbrev pub is_failed : Got → Bool
is_failed (got.Bytes n) = false
is_failed got.End = false
is_failed got.Failed = true

-- the count of a read is at least 1, and within the room
abbrev pub IsCountWithin : Got → ℕ → Type 0
IsCountWithin (got.Bytes n) room = (0 < n) × (n ≤ room)
IsCountWithin got.End room = Unit {0}
IsCountWithin got.Failed room = Unit {0}

-- the part of a piece that a write took
abbrev pub part_taken : Put → List ℕ → List ℕ
part_taken (put.Took n) piece = take n piece
part_taken put.Failed piece = []

-- whether a write failed
abbrev pub is_refused : Put → Bool
is_refused (put.Took n) = false
is_refused put.Failed = true

-- the count of a write is within the piece, and at least 1 where the piece isn't empty
abbrev pub IsTakenWithin : Put → ℕ → Type 0
IsTakenWithin (put.Took n) room = (0 < room → 0 < n) × (n ≤ room)
IsTakenWithin put.Failed room = Unit {0}
