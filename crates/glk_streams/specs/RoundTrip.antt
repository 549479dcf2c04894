-- What is written through a stream and read back through another (own).
use Rattle.std.specs.Prelude.{◌≡◌, ℕ, ◌+◌, nat_lt, Bool, true, ◌≢◌, ◌≤◌}
use Rattle.std.specs.Prelude.{List, [], ◌∷◌, ◌++◌, length, Some, None, Result, Ok}
use lib.Utf8.{scalar}
use Rattle.vm_memory.specs.Chaining.{◌>>=◌}
use Rattle.vm_memory.specs.MemoryMap.{MemoryMap, replaced}
use Rattle.glk_streams.specs.Coding.{bytes_in, coding_of, bytes_kept, units_of, character_at}
use Rattle.glk_streams.specs.Files.{sum_of_bytes, content_of, file_may_stand}
use Rattle.glk_streams.specs.Input.{got}
use Rattle.glk_streams.specs.Output.{put_on_stream, byte_start}
use Rattle.glk_streams.specs.Streams.{StreamTable, stream_at, is_read_mode, is_write_mode}
use Rattle.glk_streams.specs.declared.fault.StreamStop.{StreamStop}
use Rattle.glk_streams.specs.declared.stream.Stream.{Stream}
use Rattle.glk_streams.specs.declared.stream.Target.{Target}
use Rattle.glk_streams.specs.declared.stream.Target.TheVariants.{File}
use Rattle.glk_streams.specs.declared.coding.Coding.{Coding}
use Rattle.glk_streams.specs.declared.coding.Coding.TheVariants.{Latin1, Utf8, Utf32}

-- a character that the coding has: a code below 256, a Unicode scalar value, any code
abbrev pub has_code : Coding → ℕ → Bool
has_code Latin1 code = nat_lt code 256
has_code Utf8 code = scalar code
has_code Utf32 code = nat_lt code 4294967296

abbrev pub AreHeld : Coding → List ℕ → Type 0
AreHeld c [] = Unit {0}
AreHeld c (x ∷ xs) = (has_code c x ≡ true) × AreHeld c xs

-- the bytes of a file after characters are put at its end, one after the other
unfoldable pub after_puts : Coding → List ℕ → List ℕ → List ℕ
after_puts c bytes [] = bytes
after_puts c bytes (x ∷ xs) =
    after_puts c (replaced bytes (byte_start c bytes (units_of c bytes)) (bytes_kept c x)) xs

-- these are the characters that are read from a position on, one after the other, to the end
abbrev pub ReadsCharacters : Coding → List ℕ → ℕ → List ℕ → Type 0
ReadsCharacters c bytes place [] = character_at c bytes place ≡ None
ReadsCharacters c bytes place (x ∷ xs) =
    (steps : ℕ) × (character_at c bytes place ≡ Some (record { code = x; steps = steps }))
    × ReadsCharacters c bytes (place + steps) xs

-- what is put into an empty file is read from its start, in each coding
abbrev pub StreamRoundTrip : Type 0
StreamRoundTrip =
    (c : Coding) (codes : List ℕ) → AreHeld c codes
    → ReadsCharacters c (after_puts c [] codes) 0 codes

-- the bytes of the characters, one after the other
unfoldable pub bytes_of_characters : Coding → List ℕ → List ℕ
bytes_of_characters c [] = []
bytes_of_characters c (x ∷ xs) = bytes_in c x ++ bytes_of_characters c xs

-- a stream in one of these modes, at this position
pub record IsOpen (allows : ℕ → Bool) (t : StreamTable) (n : ℕ) (target : Target)
    (unicode : Bool) (place : ℕ) : Type 0 where
  pub stream : Stream
  pub is : stream_at t n ≡ Some stream
  pub mode : allows stream.mode ≡ true
  pub target_is : stream.target ≡ target
  pub unicode_is : stream.unicode ≡ unicode
  pub place_is : stream.place ≡ place

-- characters are put to a stream in turn
unfoldable pub put_all : StreamTable → MemoryMap → ℕ → List ℕ
    → Result (StreamTable × MemoryMap) StreamStop
put_all t m n [] = Ok (t, m)
put_all t m n (x ∷ xs) = put_on_stream t m n x >>= (λ done. put_all done.0 done.1 n xs)

-- a stream gives these characters in turn, and then its end
abbrev pub GivesCharacters : StreamTable → MemoryMap → ℕ → List ℕ → Type 0
GivesCharacters t m n [] = got t m n ≡ Ok (t, None)
GivesCharacters t m n (x ∷ xs) = (after : StreamTable) × (got t m n ≡ Ok (after, Some x))
    × GivesCharacters after m n xs

-- what is put to one stream on an empty file is what another stream on it then gives, where the
-- files have room
abbrev pub ReadsBack : Type 0
ReadsBack =
    (t : StreamTable) (m : MemoryMap) (a b usage : ℕ) (name : List ℕ) (unicode : Bool)
    (codes : List ℕ)
    → a ≢ b → IsOpen is_write_mode t a (File usage name) unicode 0
    → IsOpen is_read_mode t b (File usage name) unicode 0
    → content_of t.files usage name ≡ [] → file_may_stand t.files usage name ≡ true
    → AreHeld (coding_of unicode (File usage name)) codes
    → sum_of_bytes t.files
    + length (bytes_of_characters (coding_of unicode (File usage name)) codes) ≤ 1048576
    → (after : StreamTable) × (put_all t m a codes ≡ Ok (after, m))
    × GivesCharacters after m b codes
