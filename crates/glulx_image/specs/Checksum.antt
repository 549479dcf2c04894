-- The checksum of a story file (Glulx 3.1.3, "The Header").
use Rattle.std.specs.Prelude.{ℕ, zero, suc, ◌+◌, ◌*◌, ◌%◌, ◌^◌, ◌/◌, ◌==◌, if◌then◌else◌, List}
use Rattle.glulx_image.specs.Header.{word, extstart, checksum}

-- the k-th word of a file, the ninth, which is the checksum itself, taken as 0
abbrev pub summand : List ℕ → ℕ → ℕ
summand file k = if k == 8 then 0 else word file (4 * k)

-- the sum of the first n words
unfoldable pub sum_of_words : List ℕ → ℕ → ℕ
sum_of_words file zero = 0
sum_of_words file (suc n) = sum_of_words file n + summand file n

-- 0 where the words up to EXTSTART sum to the checksum modulo 2^32, else 1
abbrev pub verified : List ℕ → ℕ
verified file =
    if sum_of_words file (extstart file / 4) % 2 ^ 32 == checksum file then 0 else 1
