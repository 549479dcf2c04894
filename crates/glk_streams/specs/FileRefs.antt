-- File references (Glk 0.7.5, "File References"), the current stream and styles.
use Rattle.std.specs.Prelude.{ℕ, ◌+◌, ◌==◌, ◌||◌, nat_le, nat_lt, if◌then◌else◌, Bool, List, []}
use Rattle.std.specs.Prelude.{◌∷◌, ◌++◌, length, Option, Some, None, Result, Ok, Err}
use Rattle.glk_numbers.specs.Numbered.{has, without}
use Rattle.glk_numbers.specs.declared.numbered.TheConstants.{MAX_NUMBER}
use Rattle.glk_streams.specs.Answer.{live}
use Rattle.glk_streams.specs.Files.{has_file, without_file}
use Rattle.glk_streams.specs.Streams.{StreamTable, stream_number, ref_number_of, stream_at, ref_at}
use Rattle.glk_streams.specs.Streams.{with_stream}
use Rattle.glk_streams.specs.declared.fileref.FileRef.{FileRef}
use Rattle.glk_streams.specs.declared.fileref.TheConstants.{MAX_REFS}
use Rattle.glk_streams.specs.declared.fault.StreamStop.{StreamStop}
use Rattle.glk_streams.specs.declared.fault.StreamStop.TheVariants.{BadObject}

-- one reference more, with the next number; 0 at the limit, and where no number is left
abbrev pub made_ref : StreamTable → ℕ → List ℕ → ℕ → StreamTable × ℕ
made_ref t usage name rock =
    if nat_le MAX_REFS (length t.refs) || nat_lt MAX_NUMBER t.next_ref then (t, 0)
    else (
      record t {
        refs = t.refs
            ++ record { number = t.next_ref; usage = usage; rock = rock; name = name } ∷ [];
        next_ref = t.next_ref + 1;
      },
      t.next_ref,
    )

-- the same with the name of another
abbrev pub copied_ref : StreamTable → ℕ → ℕ → ℕ
    → Result (StreamTable × ℕ) StreamStop
copied_ref t usage fref rock = live (ref_at t fref) (λ r. Ok (made_ref t usage r.name rock))

abbrev pub dropped_ref : StreamTable → ℕ → Result StreamTable StreamStop
dropped_ref t fref = live (ref_at t fref)
    (λ r. Ok (record t { refs = without ref_number_of t.refs fref }))

-- the reference's file is deleted, where it is there
abbrev pub deleted : StreamTable → ℕ → Result StreamTable StreamStop
deleted t fref = live (ref_at t fref)
    (λ r. Ok (record t { files = without_file t.files r.usage r.name }))

abbrev pub is_there : StreamTable → ℕ → Result Bool StreamStop
is_there t fref = live (ref_at t fref) (λ r. Ok (has_file t.files r.usage r.name))

-- what a reference has, and else where there is none
abbrev pub of_ref : {A : Type 0} → Option FileRef → A → (FileRef → A) → A
of_ref None none have = none
of_ref (Some r) none have = have r

-- the current stream is this, or none
abbrev pub with_current : StreamTable → ℕ → Result StreamTable StreamStop
with_current t n =
    if n == 0 || has stream_number t.streams n then Ok (record t { current = n }) else Err BadObject

-- a style above 10 is taken as 0
abbrev pub style_of : ℕ → ℕ
style_of style = if nat_lt 10 style then 0 else style

abbrev pub styled : StreamTable → ℕ → ℕ → Result StreamTable StreamStop
styled t n style = live (stream_at t n)
    (λ s. Ok (with_stream t n (record s { style = style_of style })))
