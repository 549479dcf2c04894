-- Windows that are closed (Glk 0.7.5, "Window Opening, Closing, and Constraints").
use Rattle.std.specs.Prelude.{ℕ, zero, suc, ◌==◌, if◌then◌else◌, List, map, length}
use Rattle.std.specs.Prelude.{Option, Some, None}
use Rattle.glk_windows.specs.declared.window.Window.{Window}
use Rattle.glk_windows.specs.declared.window.Pair as p
use Rattle.glk_windows.specs.declared.window.Content.{Content}
use Rattle.glk_windows.specs.declared.window.Content.TheVariants.{Pair, Blank, Buffer, Grid}
use Rattle.glk_windows.specs.Tree.{WindowTree, window_number, set_at, pair_of, parent_of, stream_of}
use Rattle.glk_windows.specs.Tree.{swapped}
use Rattle.glk_windows.specs.Reading.{other_window}
use Rattle.glk_numbers.specs.Numbered.{without}

-- a pair with this key has none
abbrev pub pair_unkeyed : ℕ → p.Pair → p.Pair
pair_unkeyed n p = if p.key == n then record p { key = 0 } else p

abbrev pub content_unkeyed : ℕ → Content → Content
content_unkeyed n (Pair p) = Pair (pair_unkeyed n p)
content_unkeyed n Blank = Blank
content_unkeyed n (Buffer b) = Buffer b
content_unkeyed n (Grid g) = Grid g

-- a window to whose stream nothing echoes any more
abbrev pub unechoed : ℕ → Window → Window
unechoed stream w = record w { echo = if w.echo == stream then 0 else w.echo }

-- a window that doesn't name another one, nor its stream
abbrev pub unlinked : ℕ → ℕ → Window → Window
unlinked n stream w = record (unechoed stream w) { content = content_unkeyed n w.content }

abbrev pub forgotten : List Window → ℕ → ℕ → List Window
forgotten ws n stream = map (unlinked n stream) ws

-- without the window, which is no pair's key, and whose stream is no window's echo
abbrev pub windows_without : List Window → ℕ → List Window
windows_without ws n = forgotten (without window_number ws n) n (stream_of ws n)

-- a pair's two windows are taken away too
abbrev pub both : (List Window → ℕ → List Window) → List Window → Option p.Pair
    → List Window
both takes ws None = ws
both takes ws (Some p) = takes (takes ws p.first) p.second

-- without the window of this number and all below it
unfoldable pub removed : ℕ → List Window → ℕ → List Window
removed zero ws n = ws
removed (suc depth) ws n = both (removed depth) (windows_without ws n) (pair_of ws n)

-- a window in the place of the pair above it, which ends
abbrev pub raised : List Window → ℕ → ℕ → ℕ → List Window
raised ws pair sibling above =
    set_at (λ w. record w { parent = above })
    (set_at (λ w. record w { content = swapped w.content pair sibling }) (windows_without ws pair)
    above)
    sibling

abbrev pub lifted : WindowTree → ℕ → ℕ → WindowTree
lifted t pair sibling = record t {
  slots = raised t.slots pair sibling (parent_of t.slots pair);
  root = if t.root == pair then sibling else t.root;
}

abbrev pub sibling_lifted : WindowTree → ℕ → Option p.Pair → ℕ → WindowTree
sibling_lifted t pair None n = t
sibling_lifted t pair (Some p) n = lifted t pair (other_window p n)

-- the window and all below it closed, its sibling in the place of their pair
abbrev pub close : WindowTree → ℕ → WindowTree
close t n =
    if parent_of t.slots n == 0
    then record t { slots = removed (length t.slots) t.slots n; root = 0 }
    else sibling_lifted (record t { slots = removed (length t.slots) t.slots n })
    (parent_of t.slots n)
    (pair_of (removed (length t.slots) t.slots n) (parent_of t.slots n)) n

-- no window echoes to this stream
abbrev pub echo_ended : WindowTree → ℕ → WindowTree
echo_ended t stream = record t { slots = map (unechoed stream) t.slots }
