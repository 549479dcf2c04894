-- Positions in streams (Glk 0.7.5, "Streams").
use Rattle.std.specs.Prelude.{ℕ, ◌+◌, ◌-◌, ◌==◌, nat_lt, min, if◌then◌else◌}
use Rattle.std.specs.Prelude.{Bool, List, Result, Ok, Err}
use Rattle.glk_streams.specs.Answer.{live}
use Rattle.glk_streams.specs.Coding.{coding_of, units_of}
use Rattle.glk_streams.specs.Files.{content_of}
use Rattle.glk_streams.specs.Output.{at_position, length_of}
use Rattle.glk_streams.specs.Streams.{StreamTable, stream_at, with_stream}
use Rattle.glk_streams.specs.declared.file.File.{File}
use Rattle.glk_streams.specs.declared.stream.Stream.{Stream}
use Rattle.glk_streams.specs.declared.stream.Target.{Target}
use Rattle.glk_streams.specs.declared.stream.Target.TheVariants as of
use Rattle.glk_streams.specs.declared.fault.StreamStop.{StreamStop}
use Rattle.glk_streams.specs.declared.fault.StreamStop.TheVariants.{BadArgument}

-- how many positions there are; a window's stream has none
abbrev pub end_in : Target → List File → Bool → ℕ
end_in (of.Window win) fs unicode = 0
end_in (of.Memory buf len) fs unicode = length_of buf len
end_in (of.File usage name) fs unicode =
    units_of (coding_of unicode (of.File usage name)) (content_of fs usage name)

abbrev pub end_position : List File → Stream → ℕ
end_position fs s = end_in s.target fs s.unicode

-- the position; one past the end is taken as the end. A window's is its write count
abbrev pub place_in : Target → List File → Stream → ℕ
place_in (of.Window win) fs s = s.written
place_in (of.Memory buf len) fs s = min s.place (end_position fs s)
place_in (of.File usage name) fs s = min s.place (end_position fs s)

abbrev pub position : StreamTable → ℕ → Result ℕ StreamStop
position t n = live (stream_at t n) (λ s. Ok (place_in s.target t.files s))

-- a signed distance from a place, held between 0 and the end
abbrev pub away : ℕ → ℕ → ℕ → ℕ
away last base by =
    if nat_lt by 2147483648 then min (base + by) last else min (base - (4294967296 - by)) last

-- where a distance begins: at 0, at the position, or at the end
abbrev pub base_of : List File → Stream → ℕ → ℕ
base_of fs s from =
    if from == 0 then 0
    else (if from == 1 then min s.place (end_position fs s) else end_position fs s)

abbrev pub sought_place : List File → Stream → ℕ → ℕ → ℕ
sought_place fs s by from = away (end_position fs s) (base_of fs s from) by

-- the stream at another position; a window's stays as it is
abbrev pub sought_in : Target → List File → Stream → ℕ → ℕ → Stream
sought_in (of.Window win) fs s by from = s
sought_in (of.Memory buf len) fs s by from = at_position (sought_place fs s by from) s
sought_in (of.File usage name) fs s by from = at_position (sought_place fs s by from) s

abbrev pub position_sought : StreamTable → ℕ → ℕ → ℕ → Result StreamTable StreamStop
position_sought t n by from = live (stream_at t n) (λ s. if nat_lt 2 from then Err BadArgument
    else Ok (with_stream t n (sought_in s.target t.files s by from)))
