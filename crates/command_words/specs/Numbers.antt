-- The numbers of the command line (own).
use Rattle.std.specs.Prelude.{ℕ, ◌≤◌, ◌==◌, if◌then◌else◌, Bool, length, ◌&&◌, ◌||◌, nat_le, nat_lt}
use Rattle.std.specs.Prelude.{slice_index, Option, None, Some}
use Rattle.std.specs.Str.{all_ascii_digits}
use Rattle.std.specs.Str.Parse.{digits_value}
use Rattle.clap.specs.Walk.{Text}

-- first a digit from 1 to 9, or 0 alone
abbrev pub begins_number : Text → Bool
begins_number word =
    (nat_lt 48 (slice_index word 0) && nat_lt (slice_index word 0) 58) ||
    (slice_index word 0 == 48 && length word == 1)

-- decimal digits, without sign or leading zero
abbrev pub is_number : Text → Bool
is_number word = begins_number word && all_ascii_digits word

-- the number that a word spells, where it lies between these two
abbrev pub number_within : ℕ → ℕ → Text → Option ℕ
number_within least most word =
    if is_number word &&
    (nat_le least (digits_value 10 word) && nat_le (digits_value 10 word) most)
    then Some (digits_value 10 word) else None

-- the budget of a turn that a word spells: 1 to 1,000,000,000,000
abbrev pub budget_of : Text → Option ℕ
budget_of word = number_within 1 1000000000000 word

-- the budget that is given, or 50,000,000
abbrev pub budget_given : Option Text → Option ℕ
budget_given None = Some 50000000
budget_given (Some word) = budget_of word

-- the port that a word spells: 0 to 65,535
abbrev pub port_of : Text → Option ℕ
port_of word = number_within 0 65535 word

-- the number of workers that a word spells: 1 to 16
abbrev pub workers_of : Text → Option ℕ
workers_of word = number_within 1 16 word

abbrev pub IsWorkerCount : ℕ → Type 0
IsWorkerCount workers = (1 ≤ workers) × (workers ≤ 16)

-- the number of a drill that a word spells: 0 to 18,446,744,073,709,551,615
abbrev pub drill_number_of : Text → Option ℕ
drill_number_of word = number_within 0 18446744073709551615 word

-- the number of links that a word spells: 1 to 4,294,967,295
abbrev pub links_of : Text → Option ℕ
links_of word = number_within 1 4294967295 word

-- the number of links that is given, or 4,294,967,295
abbrev pub links_given : Option Text → Option ℕ
links_given None = Some 4294967295
links_given (Some word) = links_of word
