-- Random words (Glulx 3.1.3, "Random Number Generator"; the generator is own: PCG XSH RR 64/32).
use Rattle.std.specs.Prelude.{ℕ, ◌+◌, ◌-◌, ◌%◌, ◌^◌, ◌==◌, nat_lt, if◌then◌else◌}
use Rattle.rand_pcg.specs.Lcg.{advance, started, increment_of}
use Rattle.rand_pcg.specs.Pcg.{multiplier_64, output_xsh_rr}
use Rattle.vm_exec.specs.declared.random.Random.{Random}

-- word k of the generator that a start and a stream make
abbrev pub random_word : ℕ → ℕ → ℕ → ℕ
random_word start stream k =
    output_xsh_rr (advance 64 multiplier_64 k
    (started 64 multiplier_64 start (increment_of 64 stream))).state

-- the next random word
abbrev pub next_word : Random → ℕ
next_word r = random_word r.start r.stream r.taken

-- a word more is taken
abbrev pub after_word : Random → Random
after_word r = record r { taken = (r.taken + 1) % 2 ^ 64 }

-- how a session begins
abbrev pub seeded : ℕ → Random
seeded seed = record { seed = seed; fresh = 0; start = seed; stream = 0; taken = 0 }

-- fresh words: the j-th time those of the session's seed and j
abbrev pub refreshed : Random → Random
refreshed r = record r {
  fresh = (r.fresh + 1) % 2 ^ 64;
  start = (r.seed + r.fresh + 1) % 2 ^ 64;
  stream = 2;
  taken = 0;
}

-- after setrandom: a number other than 0 starts the words that it stands for; 0 starts fresh ones
abbrev pub reseeded : Random → ℕ → Random
reseeded r v =
    if v == 0 then refreshed r else record r { start = v; stream = 54; taken = 0 }

-- a word within a bound: below a positive one, above a negative one and at most 0, any under 0
abbrev pub bounded : ℕ → ℕ → ℕ
bounded bound word =
    if bound == 0 then word
    else (if nat_lt bound 0x80000000 then word % bound
    else (2 ^ 32 - word % (2 ^ 32 - bound)) % 2 ^ 32)
