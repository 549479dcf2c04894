-- Streams told and made again: the window of a window's stream is the one that has it.
use Rattle.std.proofs.Common.{◌≡◌, ◌∙◌, ℕ, ◌==◌, List, [], ◌∷◌, map, refl, ap, arith, Some, inl}
use Rattle.std.proofs.Common.{inr}
use Rattle.std.specs.List.{AllByRecursion, zip}
use Rattle.std.proofs.lemmas.Bool.{cases_Bool}
use Rattle.std.proofs.lemmas.Bool.Decides.{nat_tests}
use Rattle.glk_numbers.specs.Numbered.{found}
use Rattle.glk_windows.specs.Tree as tree
use Rattle.glk_windows.specs.declared.window.Window as window
use Rattle.glk_streams.specs.declared.stream.Stream as stream
use Rattle.glk_streams.specs.declared.stream.Target as target
use Rattle.glk_streams.specs.declared.stream.Target.TheVariants as to
use Rattle.glk_input.specs.Request as requests
use Rattle.glk_input.specs.declared.request.WindowInput.{WindowInput}
use Rattle.snap_fields.specs.declared.glk.SnapStream.{SnapStream}
use Rattle.snap_fields.specs.declared.glk.SnapTarget.{SnapTarget}
use Rattle.snap_fields.specs.declared.glk.SnapTarget.TheVariants as told
use Rattle.snap_fields.specs.declared.glk.SnapWindow.{SnapWindow}
use Rattle.snap_glk.specs.Made.{stream_made, target_made, window_with}
use Rattle.snap_glk.specs.Told.{stream_told, target_told, window_told}
use Rattle.snap_glk.proofs.WindowLemmas.{numbers}

-- the windows that have this stream are those of this number
abbrev pub Owns : ℕ → ℕ → window.Window → Type 0
Owns stream n w = (w.stream == stream) ≡ (w.number == n)

-- the window of a stream is found among the fields of windows
pub window-found : (ws : List window.Window) (is : List WindowInput) (stream n : ℕ)
    (v : window.Window)
    → map requests.input_window_number is ≡ map tree.window_number ws
    → AllByRecursion (Owns stream n) ws → found tree.window_number ws n ≡ Some v
    → window_with (map window_told (zip ws is)) stream ≡ n
unfolding window_with found
window-found [] [] stream n v e a f = absurd cc
window-found [] (i ∷ is) stream n v e a f = absurd cc
window-found (w ∷ ws) [] stream n v e a f = absurd cc
window-found (w ∷ ws) (i ∷ is) stream n v e a f = elim (cases_Bool (w.number == n)) [
  | inl k ↦
      let same : w.number ≡ n = grind (arith, nat_tests, k) in
      rw (a.0, k) same
  | inr k ↦
      let rest : found tree.window_number ws n ≡ Some v = rw k at f in
      let m =
      numbers i.win w.number (map requests.input_window_number is) (map tree.window_number ws) e in
      rw (a.0, k) (window-found ws is stream n v m.1 a.1 rest)
]

-- the fields of windows tell the window of this stream, where it is a window's
abbrev pub IsTold : List SnapWindow → stream.Stream → Type 0
IsTold ws s = (n : ℕ) → s.target ≡ to.Window n → window_with ws s.number ≡ n

target-back : (ws : List SnapWindow) (stream : ℕ) (t : target.Target)
    → ((n : ℕ) → t ≡ to.Window n → window_with ws stream ≡ n)
    → target_made ws stream (target_told t) ≡ t
target-back ws stream (to.Window n) h = ap to.Window (h n refl)
target-back ws stream (to.Memory buf len) h = refl
target-back ws stream (to.File usage name) h = refl

stream-back : (ws : List SnapWindow) (s : stream.Stream) → IsTold ws s
    → stream_made ws (stream_told s) ≡ s
stream-back ws s h = ap (λ (t : target.Target). record s { target = t })
    (target-back ws s.number s.target h)

pub streams-back : (ws : List SnapWindow) (ss : List stream.Stream) → AllByRecursion (IsTold ws) ss
    → map (stream_made ws) (map stream_told ss) ≡ ss
streams-back ws [] a = refl
streams-back ws (s ∷ ss) a =
    ap (λ (t : stream.Stream). t ∷ map (stream_made ws) (map stream_told ss))
    (stream-back ws s a.0)
    ∙ ap (λ (ts : List stream.Stream). s ∷ ts) (streams-back ws ss a.1)

target-again : (ws : List SnapWindow) (stream : ℕ) (t : SnapTarget)
    → target_told (target_made ws stream t) ≡ t
target-again ws stream told.Window = refl
target-again ws stream (told.Memory buffer length) = refl
target-again ws stream (told.File usage name) = refl

pub stream-again : (ws : List SnapWindow) (s : SnapStream) → stream_told (stream_made ws s) ≡ s
stream-again ws s = ap (λ (t : SnapTarget). record s { target = t })
    (target-again ws s.number s.target)
