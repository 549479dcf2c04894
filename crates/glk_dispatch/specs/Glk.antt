-- The Glk state of a session (Glk 0.7.5, "Opaque Objects").
use Rattle.std.specs.Prelude.{ℕ, ◌+◌, ◌-◌, ◌^◌, ◌==◌, ◌||◌, min, Bool, []}
use Rattle.glk_numbers.specs.Numbered.{has}
use Rattle.glk_windows.specs.Tree as tree
use Rattle.glk_windows.specs.Output as output
use Rattle.glk_windows.specs.Placing as placing
use Rattle.glk_streams.specs.Streams as streams
use Rattle.glk_streams.specs.FileRefs as refs
use Rattle.glk_dispatch.specs.Answer.{Reached, needs}
use Rattle.glk_dispatch.specs.declared.glk.Glk.{Glk}
use Rattle.glk_dispatch.specs.declared.glk.Prompt.{Prompt}

-- no prompt is waited with
abbrev pub no_prompt : Prompt
no_prompt = record { usage = 0; mode = 0; rock = 0 }

-- a screen without windows, streams and requests
abbrev pub empty_screen : ℕ → ℕ → Glk
empty_screen cols rows = record {
  windows = record { slots = []; next = 1; root = 0 };
  streams = streams.no_streams;
  requests = [];
  cols = cols;
  rows = rows;
  chars = 0;
  printed = 0;
  event = 0;
  prompt = no_prompt;
}

-- a turn begins: nothing was read, written or printed in it
abbrev pub turn_begun : Glk → Glk
turn_begun g = record g { windows = output.begin_turn g.windows; chars = 0; printed = 0 }

-- what a select or a prompt waited with is set back
abbrev pub wait_set_back : Glk → Glk
wait_set_back g = record g { event = 0; prompt = no_prompt }

-- one more character was read or written in this turn; the greatest count stays
abbrev pub character_charged : Glk → Glk
character_charged g = record g { chars = min (g.chars + 1) (2 ^ 64 - 1) }

-- so many characters more, one by one or all at once
abbrev pub characters_charged : ℕ → Glk → Glk
characters_charged count g = record g { chars = min (g.chars + count) (2 ^ 64 - 1) }

-- the windows have their rectangles
abbrev pub with_rectangles : Glk → Glk
with_rectangles g = record g { windows = placing.place g.windows g.cols g.rows }

-- the screen has this size, and the windows have their rectangles of it
abbrev pub screen_sized : Glk → ℕ → ℕ → Glk
screen_sized g cols rows = with_rectangles (record g { cols = cols; rows = rows })

abbrev pub has_window : Glk → ℕ → Bool
has_window g n = has tree.window_number g.windows.slots n

abbrev pub is_stream : Glk → ℕ → Bool
is_stream g n = has streams.stream_number g.streams.streams n

abbrev pub is_ref : Glk → ℕ → Bool
is_ref g n = has streams.ref_number_of g.streams.refs n

-- the number is that of a live object, else fault 21
abbrev pub window : {A : Type 0} → Glk → ℕ → Reached A → Reached A
window g n rest = needs g (has_window g n) 21 rest

abbrev pub stream : {A : Type 0} → Glk → ℕ → Reached A → Reached A
stream g n rest = needs g (is_stream g n) 21 rest

abbrev pub fref : {A : Type 0} → Glk → ℕ → Reached A → Reached A
fref g n rest = needs g (is_ref g n) 21 rest

-- the same where 0 is allowed
abbrev pub window_or_none : {A : Type 0} → Glk → ℕ → Reached A → Reached A
window_or_none g n rest = needs g (n == 0 || has_window g n) 21 rest

abbrev pub stream_or_none : {A : Type 0} → Glk → ℕ → Reached A → Reached A
stream_or_none g n rest = needs g (n == 0 || is_stream g n) 21 rest

abbrev pub fref_or_none : {A : Type 0} → Glk → ℕ → Reached A → Reached A
fref_or_none g n rest = needs g (n == 0 || is_ref g n) 21 rest

-- the value is one that the call takes, else fault 22
abbrev pub takes : {A : Type 0} → Glk → Bool → Reached A → Reached A
takes g holds rest = needs g holds 22 rest

-- the window of a stream, or 0; and a stream's style
abbrev pub window_of_stream : Glk → ℕ → ℕ
window_of_stream g n = streams.of_stream (streams.stream_at g.streams n) 0
    (λ s. streams.window_in s.target)

abbrev pub style_of_stream : Glk → ℕ → ℕ
style_of_stream g n = streams.of_stream (streams.stream_at g.streams n) 0 (λ s. s.style)

-- the rock of a stream, and of a file reference; 0 where there is none
abbrev pub stream_rock : Glk → ℕ → ℕ
stream_rock g n = streams.of_stream (streams.stream_at g.streams n) 0 (λ s. s.rock)

abbrev pub ref_rock : Glk → ℕ → ℕ
ref_rock g n = refs.of_ref (streams.ref_at g.streams n) 0 (λ r. r.rock)

-- how many characters were written to a stream
abbrev pub written_to : Glk → ℕ → ℕ
written_to g n = streams.of_stream (streams.stream_at g.streams n) 0 (λ s. s.written)
