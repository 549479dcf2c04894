-- Styles (Glk 0.7.5, "Styles").
use Rattle.std.specs.Prelude.{ℕ, ◌==◌, if◌then◌else◌, Ok}
use Rattle.vm_memory.specs.Chaining.{◌>>=◌}
use Rattle.glk_streams.specs.FileRefs as streams
use Rattle.glk_dispatch.specs.Answer.{GlkCall, Reached, CallRule, within}
use Rattle.glk_dispatch.specs.Fault.{streams_coded}
use Rattle.glk_dispatch.specs.Glk.{stream, window}
use Rattle.glk_dispatch.specs.Reference.{gives}
use Rattle.glk_dispatch.specs.declared.called.Called.{Called}
use Rattle.glk_dispatch.specs.declared.glk.Glk.{Glk}
use Rattle.glk_dispatch.specs.declared.style.StyleCall.{StyleCall}
use Rattle.glk_dispatch.specs.declared.style.StyleCall.TheVariants.{Set, SetStream, HintSet}
use Rattle.glk_dispatch.specs.declared.style.StyleCall.TheVariants.{HintClear, Distinguish, Measure}

-- the stream has this style, one above 10 being taken as 0; nothing for 0
abbrev pub glk_styled : Glk → ℕ → ℕ → Reached Glk
glk_styled g n style =
    if n == 0 then Ok g
    else within g (streams_coded (streams.styled g.streams n style))
    >>= (λ t. Ok (record g { streams = t }))

abbrev pub sets : GlkCall → ℕ → ℕ → CallRule Called
sets s n style = glk_styled s.glk n style >>= (λ g. gives 0 (record s { glk = g }))

-- glk_set_style style · glk_set_style_stream str, style · glk_stylehint_set, glk_stylehint_clear:
-- nothing · glk_style_distinguish win, .. and glk_style_measure win, ..: 0, nothing measured
unfoldable pub style_work : StyleCall → GlkCall → (ℕ → ℕ) → CallRule Called
style_work Set s l = sets s s.glk.streams.current (l 0)
style_work SetStream s l = stream s.glk (l 0) (sets s (l 0) (l 1))
style_work HintSet s l = gives 0 s
style_work HintClear s l = gives 0 s
style_work Distinguish s l = window s.glk (l 0) (gives 0 s)
style_work Measure s l = window s.glk (l 0) (gives 0 s)
