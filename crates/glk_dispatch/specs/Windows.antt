-- The calls of windows (Glk 0.7.5, "Windows").
use Rattle.std.specs.Prelude.{ℕ, zero, suc, ◌+◌, ◌==◌, ◌||◌, ◌&&◌, not, nat_lt, nat_le, Bool, false}
use Rattle.std.specs.Prelude.{if◌then◌else◌, List, [], ◌∷◌, length, Result, Ok, Err}
use Rattle.vm_memory.specs.Chaining.{◌>>=◌}
use Rattle.glk_numbers.specs.Numbered.{number_above}
use Rattle.glk_numbers.specs.declared.numbered.TheConstants.{MAX_NUMBER}
use Rattle.glk_windows.specs.Tree as tree
use Rattle.glk_windows.specs.Reading as reading
use Rattle.glk_windows.specs.declared.window.Window.{Window}
use Rattle.glk_windows.specs.Opening as opening
use Rattle.glk_windows.specs.Closing as closing
use Rattle.glk_windows.specs.Arranging as arranging
use Rattle.glk_windows.specs.Output as output
use Rattle.glk_streams.specs.Opening as streams
use Rattle.glk_streams.specs.FileRefs as current
use Rattle.glk_input.specs.Request.{with_window, without_window}
use Rattle.glk_dispatch.specs.Answer.{GlkCall, Reached, CallRule, over_glk_alone, within}
use Rattle.glk_dispatch.specs.Fault.{streams_coded}
use Rattle.glk_dispatch.specs.Glk.{has_window, with_rectangles, takes, stream_or_none, window}
use Rattle.glk_dispatch.specs.Glk.{window_of_stream, window_or_none, written_to}
use Rattle.glk_dispatch.specs.Reference.{gives, refers, refers_all}
use Rattle.glk_dispatch.specs.declared.called.Called.{Called}
use Rattle.glk_dispatch.specs.declared.called.Called.TheVariants.{Value}
use Rattle.glk_dispatch.specs.declared.glk.Glk.{Glk}
use Rattle.glk_dispatch.specs.declared.windows.WindowCall.{WindowCall}
use Rattle.glk_dispatch.specs.declared.windows.WindowCall.TheVariants as to

-- the windows that a call works on
abbrev pub slots : GlkCall → List Window
slots s = s.glk.windows.slots

-- the call leaves this Glk state and answers 0
abbrev pub leaves_windows : Glk → Reached (Glk × Called)
leaves_windows g = Ok (g, Value 0)

-- a window's type is that of pairs, or of grids
abbrev pub is_pair : Glk → ℕ → Bool
is_pair g win = reading.window_kind g.windows.slots win == 1

abbrev pub is_grid : Glk → ℕ → Bool
is_grid g win = reading.window_kind g.windows.slots win == 4

-- glk_window_iterate win or 0, &rock; the end of the list has rock 0
abbrev pub iterates_windows : GlkCall → ℕ → ℕ → CallRule Called
iterates_windows s win rock =
    let next = number_above tree.window_number (slots s) win in
    window_or_none s.glk win (refers s rock (reading.rock_of (slots s) next) >>= gives next)

-- a new window takes the next stream number, and has no request
abbrev pub window_begun : Glk → ℕ → Glk
window_begun g win =
    let opened = streams.opened_window g.streams win in
    record g {
      streams = opened.0;
      windows = arranging.stream_set g.windows win opened.1;
      requests = with_window g.requests win;
    }

-- the state after a split: where a window was made, it begins, and all have their rectangles
abbrev pub first_made : Glk → tree.WindowTree × ℕ → Glk × ℕ
first_made g made =
    if made.1 == 0 then (record g { windows = made.0 }, 0)
    else (with_rectangles (window_begun (record g { windows = made.0 }) made.1), made.1)

-- the same with a pair, whose number is the next
abbrev pub beside_made : Glk → tree.WindowTree × ℕ → Glk × ℕ
beside_made g made =
    if made.1 == 0 then (record g { windows = made.0 }, 0)
    else (
      with_rectangles
          (window_begun (window_begun (record g { windows = made.0 }) made.1) (made.1 + 1)),
      made.1,
    )

-- nothing is made where a number for a stream is wanting
abbrev pub first_window_opened : Glk → ℕ → ℕ → Glk × ℕ
first_window_opened g kind rock =
    if nat_lt MAX_NUMBER g.streams.next then (g, 0)
    else first_made g (opening.split g.windows 0 0 0 kind rock)

abbrev pub window_beside : Glk → ℕ → ℕ → ℕ → ℕ → ℕ → Glk × ℕ
window_beside g split method size kind rock =
    if nat_le MAX_NUMBER g.streams.next then (g, 0)
    else beside_made g (opening.split g.windows split method size kind rock)

-- glk_window_open split, method, size, type, rock: the new window or 0; method and size aren't
-- looked at without a split
abbrev pub window_opened : Glk → ℕ → ℕ → ℕ → ℕ → ℕ → Reached (Glk × ℕ)
window_opened g split method size kind rock =
    window_or_none g split
    (if split == 0 then Ok (first_window_opened g kind rock)
    else takes g (arranging.is_method method) (Ok (window_beside g split method size kind rock)))

abbrev pub opens_window : GlkCall → (ℕ → ℕ) → CallRule Called
opens_window s l =
    over_glk_alone s (window_opened s.glk (l 0) (l 1) (l 2) (l 3) (l 4)) >>= (λ p. gives p.1 p.0)

-- what is kept for a window beside the tree: its stream and its requests
abbrev pub window_dropped : Glk → ℕ → Glk
window_dropped g win = record g {
  streams = (streams.closed_window g.streams win).0;
  requests = without_window g.requests win;
}

-- the same of both windows of a pair
abbrev pub both_dropped : (Glk → ℕ → Glk) → Glk → ℕ × ℕ → Glk
both_dropped drops g parts = if parts.0 == 0 then g else drops (drops g parts.0) parts.1

-- of a window and of all below it
unfoldable pub all_dropped : ℕ → Glk → ℕ → Glk
all_dropped zero g win = g
all_dropped (suc depth) g win =
    both_dropped (all_dropped depth) (window_dropped g win)
    (reading.children_of g.windows.slots win)

-- of a window, of all below it, and of the pair above it
abbrev pub closed_dropped : Glk → ℕ → Glk
closed_dropped g win =
    window_dropped (all_dropped (length g.windows.slots) g win) (tree.parent_of g.windows.slots win)

-- these closed
abbrev pub window_ended : Glk → ℕ → Glk
window_ended g win =
    record (closed_dropped g win) { windows = closing.close (closed_dropped g win).windows win }

-- the same, and those that stay have their rectangles
abbrev pub glk_without_window : Glk → ℕ → Glk
glk_without_window g win = with_rectangles (window_ended g win)

-- glk_window_close win, &result: read count, which is 0, and write count, after the closing
abbrev pub closes_window : GlkCall → ℕ → ℕ → CallRule Called
closes_window s win result =
    window s.glk win
    (refers_all (record s { glk = glk_without_window s.glk win }) result
    (0 ∷ written_to s.glk (tree.stream_of (slots s) win) ∷ []) >>= gives 0)

-- glk_window_get_size win, &width, &height
abbrev pub sizes : GlkCall → ℕ → ℕ → ℕ → CallRule Called
sizes s win width height =
    window s.glk win
    (refers s width (reading.size_of (slots s) win).0
    >>= (λ t. refers t height (reading.size_of (slots s) win).1) >>= gives 0)

-- glk_window_set_arrangement win, method, size, key or 0
abbrev pub window_arranged : Glk → ℕ → ℕ → ℕ → ℕ → Reached (Glk × Called)
window_arranged g win method size key =
    window g win (takes g (is_pair g win)
    (takes g (arranging.is_method method && reading.is_same_axis g.windows.slots win method)
    (window_or_none g key (takes g (reading.may_key g.windows.slots win key)
    (leaves_windows (with_rectangles
    (record g { windows = arranging.arrange g.windows win method size key })))))))

-- glk_window_get_arrangement win, &method, &size, &key
abbrev pub tells_arrangement : GlkCall → ℕ → ℕ → ℕ → ℕ → CallRule Called
tells_arrangement s win method size key =
    let held = reading.arrangement_of (slots s) win in
    window s.glk win (takes s.glk (is_pair s.glk win)
    (refers s method held.0 >>= (λ t. refers t size held.1) >>= (λ t. refers t key held.2)
    >>= gives 0))

-- glk_window_clear win
abbrev pub cleared : Glk → ℕ → Reached (Glk × Called)
cleared g win = window g win (leaves_windows (record g { windows = output.clear g.windows win }))

-- glk_window_move_cursor win, x, y
abbrev pub cursor_moved : Glk → ℕ → ℕ → ℕ → Reached (Glk × Called)
cursor_moved g win x y =
    window g win (takes g (is_grid g win)
    (leaves_windows (record g { windows = arranging.move_to g.windows win x y })))

-- the output of this stream goes to the window too
unfoldable pub reaches : ℕ → Glk → ℕ → ℕ → Bool
reaches zero g n win = false
reaches (suc steps) g n win =
    not (window_of_stream g n == 0)
    && (window_of_stream g n == win
    || reaches steps g (reading.echo_of g.windows.slots (window_of_stream g n)) win)

abbrev pub is_loop : Glk → ℕ → ℕ → Bool
is_loop g win n = reaches (length g.windows.slots) g n win

-- glk_window_set_echo_stream win, str or 0: no loop of echoes
abbrev pub echo_stream_set : Glk → ℕ → ℕ → Reached (Glk × Called)
echo_stream_set g win n =
    window g win (stream_or_none g n (takes g (not (is_loop g win n))
    (leaves_windows (record g { windows = arranging.echo_set g.windows win n }))))

-- glk_set_window win or 0: its stream is the current one
abbrev pub window_set : Glk → ℕ → Reached (Glk × Called)
window_set g win =
    window_or_none g win
    (within g (streams_coded (current.with_current g.streams (tree.stream_of g.windows.slots win)))
    >>= (λ t. leaves_windows (record g { streams = t })))

-- what a call tells of a window
abbrev pub told_of_window : Glk → ℕ → ℕ → Result ℕ ℕ
told_of_window g win value = if has_window g win then Ok value else Err 21

abbrev pub tells_of_window : GlkCall → ℕ → ℕ → CallRule Called
tells_of_window s win value = within s.glk (told_of_window s.glk win value) >>= (λ x. gives x s)

unfoldable pub window_work : WindowCall → GlkCall → (ℕ → ℕ) → CallRule Called
window_work to.Iterate s l = iterates_windows s (l 0) (l 1)
window_work to.GetRock s l = tells_of_window s (l 0) (reading.rock_of (slots s) (l 0))
window_work to.GetRoot s l = gives s.glk.windows.root s
window_work to.Open s l = opens_window s l
window_work to.Close s l = closes_window s (l 0) (l 1)
window_work to.GetSize s l = sizes s (l 0) (l 1) (l 2)
window_work to.SetArrangement s l = over_glk_alone s (window_arranged s.glk (l 0) (l 1) (l 2) (l 3))
window_work to.GetArrangement s l = tells_arrangement s (l 0) (l 1) (l 2) (l 3)
window_work to.GetType s l = tells_of_window s (l 0) (reading.window_kind (slots s) (l 0))
window_work to.GetParent s l = tells_of_window s (l 0) (tree.parent_of (slots s) (l 0))
window_work to.GetSibling s l = tells_of_window s (l 0) (reading.sibling_of (slots s) (l 0))
window_work to.Clear s l = over_glk_alone s (cleared s.glk (l 0))
window_work to.MoveCursor s l = over_glk_alone s (cursor_moved s.glk (l 0) (l 1) (l 2))
window_work to.GetStream s l = tells_of_window s (l 0) (tree.stream_of (slots s) (l 0))
window_work to.SetEchoStream s l = over_glk_alone s (echo_stream_set s.glk (l 0) (l 1))
window_work to.GetEchoStream s l = tells_of_window s (l 0) (reading.echo_of (slots s) (l 0))
window_work to.SetWindow s l = over_glk_alone s (window_set s.glk (l 0))
