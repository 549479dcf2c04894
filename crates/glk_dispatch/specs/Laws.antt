-- What calls keep valid, and what a new size of the screen changes (own).
use Rattle.std.specs.Prelude.{◌≡◌, ℕ, [], List, Option, Some, None, Ok, Err}
use Rattle.vm_memory.specs.Chaining.{◌>>=◌}
use Rattle.glk_windows.specs.Laws.{nowhere}
use Rattle.glk_windows.specs.Tree.{read_window, window_at}
use Rattle.glk_windows.specs.declared.window.Content.{Content}
use Rattle.glk_windows.specs.declared.window.Content.TheVariants.{Pair, Blank, Buffer, Grid}
use Rattle.glk_windows.specs.declared.window.Window.{Window}
use Rattle.glk_input.specs.Request.{arrange_event}
use Rattle.story_text.specs.declared.input.Input.{Input}
use Rattle.story_text.specs.declared.input.Input.TheVariants.{Size}
use Rattle.glk_dispatch.specs.Answer.{GlkCall, Reached}
use Rattle.glk_dispatch.specs.Call.{selector_called}
use Rattle.glk_dispatch.specs.Events.{event_words, input_answered}
use Rattle.glk_dispatch.specs.Glk.{empty_screen, screen_sized, turn_begun, wait_set_back}
use Rattle.glk_dispatch.specs.Output.{put_code}
use Rattle.glk_dispatch.specs.Reference.{refers_all}
use Rattle.glk_dispatch.specs.Streams.{ahead_read, got_code}
use Rattle.glk_dispatch.specs.Valid.{IsReadyGlk, IsValidGlk, IsValidWaiting}
use Rattle.glk_dispatch.specs.declared.glk.Glk.{Glk}

-- so is what has been reached; the Glk state of a fault is valid, and nothing is waited with
abbrev pub Reaches : {A : Type 0} → (A → Type 0) → Reached A → Type 0
Reaches Is (Ok x) = Is x
Reaches Is (Err e) = IsReadyGlk e.0

-- from a valid state in which calls may be made every call leaves a valid one that waits with what
-- its answer says; from each valid one every input leaves one in which calls may be made; and so
-- does a character that is put or read, and all that is read of a file at once
pub record CallsKeepValid : Type 0 where
  pub new : (cols rows : ℕ) → IsReadyGlk (empty_screen cols rows)
  pub begun : (g : Glk) → IsValidGlk g → IsValidGlk (turn_begun g)
  pub called : (s : GlkCall) (selector given : ℕ) → IsReadyGlk s.glk
      → Reaches (λ p. IsValidWaiting p.1 p.0.glk) (selector_called s selector given)
  pub answered : (s : GlkCall) (i : Input) → IsValidGlk s.glk
      → Reaches (λ p. IsReadyGlk p.0.glk) (input_answered s i)
  pub put : (s : GlkCall) (n code : ℕ) → IsReadyGlk s.glk
      → Reaches (λ p. IsReadyGlk p.0) (put_code s.glk s.memory n code)
  pub got : (s : GlkCall) (n : ℕ) → IsReadyGlk s.glk
      → Reaches (λ p. IsReadyGlk p.0) (got_code s.glk s.memory n)
  pub ahead : (g : Glk) (n : ℕ) → IsReadyGlk g → IsReadyGlk (ahead_read g n)

-- a window without its size: its rectangle, and of a grid the cells
abbrev pub unsized_content : Content → Content
unsized_content (Pair p) = Pair p
unsized_content Blank = Blank
unsized_content (Buffer b) = Buffer b
unsized_content (Grid g) = Grid (record g { w = 0; h = 0; cells = [] })

abbrev pub unsized : Window → Window
unsized w = record w { area = nowhere; content = unsized_content w.content }

abbrev pub unsized_of : List Window → ℕ → Option Window
unsized_of ws n = read_window None (λ w. Some (unsized w)) (window_at ws n)

-- the screen has this size, and but for the sizes of windows all else is as it was
pub record IsResized (old new : Glk) (cols rows : ℕ) : Type 0 where
  pub width : new.cols ≡ cols
  pub height : new.rows ≡ rows
  pub windows : (n : ℕ) → unsized_of new.windows.slots n ≡ unsized_of old.windows.slots n
  pub next : new.windows.next ≡ old.windows.next
  pub root : new.windows.root ≡ old.windows.root
  pub streams : new.streams ≡ old.streams
  pub requests : new.requests ≡ old.requests
  pub chars : new.chars ≡ old.chars
  pub printed : new.printed ≡ old.printed

-- a new size of the screen: memory and stack take its event alone, and all that was asked for stays
pub record SizesChangeTheScreen : Type 0 where
  pub told : (s : GlkCall) (cols rows : ℕ) → input_answered s (Size cols rows)
      ≡ refers_all (record s { glk = screen_sized (wait_set_back s.glk) cols rows }) s.glk.event
      (event_words arrange_event) >>= (λ t. Ok (t, 0))
  pub alone : (g : Glk) (cols rows : ℕ)
      → IsResized g (screen_sized (wait_set_back g) cols rows) cols rows
