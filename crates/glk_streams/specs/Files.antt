-- The files of a session (Glk 0.7.5, "File References"; own: they live inside the session).
use Rattle.std.specs.Prelude.{ℕ, ◌+◌, ◌-◌, ◌/◌, ◌%◌, ◌==◌, ◌||◌, nat_lt, if◌then◌else◌, Bool, false}
use Rattle.std.specs.Prelude.{List, [], ◌∷◌, length, Option, Some, None}
use Rattle.std.specs.Ordering.{is_eq, is_lt, nat_cmp}
use Rattle.std.specs.declared.cmp.Ordering.{Ordering}
use Rattle.std.specs.Cmp.Lexicographic.{slice_cmp}
use Rattle.std.specs.Str.{encode_utf8_all}
use Rattle.glk_numbers.specs.Numbered.{behind}
use Rattle.glk_streams.specs.declared.file.File.{File}
use Rattle.glk_streams.specs.declared.file.TheConstants.{MAX_FILES, MAX_FILE_BYTES}

-- a file's kind: data, a saved game, a transcript or input; the bits above don't name it
abbrev pub file_kind : ℕ → ℕ
file_kind usage = usage % 16

-- the usage has text mode, 0x100
abbrev pub has_text_mode : ℕ → Bool
has_text_mode usage = usage / 256 % 2 == 1

-- what names a file: its kind, and then its name's bytes in UTF-8
abbrev pub key_of_file : ℕ → List ℕ → List ℕ
key_of_file usage name = file_kind usage ∷ encode_utf8_all name

abbrev pub file_key : File → List ℕ
file_key f = f.usage ∷ encode_utf8_all f.name

-- keys are in order by their first difference
abbrev pub file_compared : ℕ → List ℕ → File → Ordering
file_compared usage name f = slice_cmp nat_cmp (key_of_file usage name) (file_key f)

-- this usage and this name are the file's
abbrev pub is_named : ℕ → List ℕ → File → Bool
is_named usage name f = is_eq (file_compared usage name f)

-- a file with this usage and name stands before that file
abbrev pub stands_before : ℕ → List ℕ → File → Bool
stands_before usage name f = is_lt (file_compared usage name f)

-- where the file with this usage and name stands
unfoldable pub seat_of : List File → ℕ → List ℕ → Option ℕ
seat_of [] usage name = None
seat_of (f ∷ fs) usage name =
    if is_named usage name f then Some 0 else behind 1 (seat_of fs usage name)

-- where a file with this usage and name is put in: before the first that it stands before
unfoldable pub spot_of : List File → ℕ → List ℕ → ℕ
spot_of [] usage name = 0
spot_of (f ∷ fs) usage name = if stands_before usage name f then 0 else 1 + spot_of fs usage name

-- a file with this usage and name
unfoldable pub has_file : List File → ℕ → List ℕ → Bool
has_file [] usage name = false
has_file (f ∷ fs) usage name = is_named usage name f || has_file fs usage name

-- the bytes of the file with this usage and name, none where it isn't there
unfoldable pub content_of : List File → ℕ → List ℕ → List ℕ
content_of [] usage name = []
content_of (f ∷ fs) usage name =
    if is_named usage name f then f.bytes else content_of fs usage name

-- other bytes in the file with this usage and name
unfoldable pub file_with_bytes : List File → ℕ → List ℕ → List ℕ → List File
file_with_bytes [] usage name bytes = []
file_with_bytes (f ∷ fs) usage name bytes =
    if is_named usage name f then record f { bytes = bytes } ∷ fs
    else f ∷ file_with_bytes fs usage name bytes

abbrev pub file_of : ℕ → List ℕ → List ℕ → File
file_of usage name bytes = record { usage = file_kind usage; name = name; bytes = bytes }

-- one file more, in its place
unfoldable pub with_file : List File → ℕ → List ℕ → List ℕ → List File
with_file [] usage name bytes = file_of usage name bytes ∷ []
with_file (f ∷ fs) usage name bytes =
    if stands_before usage name f then file_of usage name bytes ∷ f ∷ fs
    else f ∷ with_file fs usage name bytes

-- the files, that with this usage and name holding these bytes; it is made where it isn't there
abbrev pub files_holding : List File → ℕ → List ℕ → List ℕ → List File
files_holding fs usage name bytes =
    if has_file fs usage name then file_with_bytes fs usage name bytes
    else with_file fs usage name bytes

-- the files without that with this usage and name
unfoldable pub without_file : List File → ℕ → List ℕ → List File
without_file [] usage name = []
without_file (f ∷ fs) usage name =
    if is_named usage name f then fs else f ∷ without_file fs usage name

-- how many bytes the files have in sum
unfoldable pub sum_of_bytes : List File → ℕ
sum_of_bytes [] = 0
sum_of_bytes (f ∷ fs) = length f.bytes + sum_of_bytes fs

-- how many bytes the files may still have
abbrev pub room_of : List File → ℕ
room_of fs = MAX_FILE_BYTES - sum_of_bytes fs

-- the file is there, or may be made
abbrev pub file_may_stand : List File → ℕ → List ℕ → Bool
file_may_stand fs usage name = has_file fs usage name || nat_lt (length fs) MAX_FILES
