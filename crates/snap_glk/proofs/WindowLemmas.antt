-- Windows and their entries for input, told and made again.
use Rattle.std.proofs.Common.{◌≡◌, ◌∙◌, ℕ, ◌==◌, true, List, [], ◌∷◌, map}
use Rattle.std.proofs.Common.{refl, ap, Option, Some, None}
use Rattle.std.specs.List.{zip}
use Rattle.std.proofs.lemmas.Bool.{and_parts, eqb-true}
use Rattle.glk_windows.specs.Output.{content_kept, window_kept}
use Rattle.glk_windows.specs.Tree as tree
use Rattle.glk_windows.specs.Valid as windows
use Rattle.glk_windows.specs.declared.window.Area as area
use Rattle.glk_windows.specs.declared.window.Content as content
use Rattle.glk_windows.specs.declared.window.Content.TheVariants as holds
use Rattle.glk_windows.specs.declared.window.Window as window
use Rattle.glk_input.specs.Request as requests
use Rattle.glk_input.specs.declared.request.Request as request
use Rattle.glk_input.specs.declared.request.Request.TheVariants as asks
use Rattle.glk_input.specs.declared.request.WindowInput.{WindowInput}
use Rattle.snap_fields.specs.declared.glk.SnapContent.{SnapContent}
use Rattle.snap_fields.specs.declared.glk.SnapContent.TheVariants.{Pair, Blank, Buffer, Grid}
use Rattle.snap_fields.specs.declared.glk.SnapArea.{SnapArea}
use Rattle.snap_fields.specs.declared.glk.SnapRequest.{SnapRequest}
use Rattle.snap_fields.specs.declared.glk.SnapRequest.TheVariants.{Nothing, Line, Char}
use Rattle.snap_fields.specs.declared.glk.SnapWindow.{SnapWindow}
use Rattle.snap_glk.specs.Made.{content_made, input_made, request_made, window_made}
use Rattle.snap_glk.specs.Told.{area_told, content_told, request_told, window_told}

-- ---- from a Glk state and back

content-back : (a : area.Area) (c : content.Content) → content_kept c ≡ c
    → windows.is_sound_content c a ≡ true → content_made (area_told a) (content_told c) ≡ c
content-back a (holds.Pair p) k s = refl
content-back a holds.Blank k s = refl
content-back a (holds.Buffer b) k s = k
content-back a (holds.Grid g) k s =
    let p = and_parts (g.w == a.w) _ s in
    let q = and_parts (g.h == a.h) _ p.1 in
    let w = eqb-true g.w a.w p.0 in
    let h = eqb-true g.h a.h q.0 in
    rw (← w, ← h) refl

window-back : (w : window.Window) (i : WindowInput) → window_kept w ≡ w
    → windows.is_sound_window w ≡ true → window_made (window_told (w, i)) ≡ w
window-back w i k s =
    ap (λ (c : content.Content). record w { content = c })
    (content-back w.area w.content (ap (λ (v : window.Window). v.content) k) s)

firsts : (v w : window.Window) (vs ws : List window.Window)
    → ◌≡◌ {A = List window.Window} (v ∷ vs) (w ∷ ws) → (v ≡ w) × (vs ≡ ws)
firsts v w vs ws e = (cc, cc)

pub numbers : (m n : ℕ) (ms ns : List ℕ) → ◌≡◌ {A = List ℕ} (m ∷ ms) (n ∷ ns)
    → (m ≡ n) × (ms ≡ ns)
numbers m n ms ns e = (cc, cc)

-- windows whose text of the last turn is set back, and whose grids have the sizes of their
-- rectangles, are made again
pub windows-back : (ws : List window.Window) (is : List WindowInput)
    → map requests.input_window_number is ≡ map tree.window_number ws → map window_kept ws ≡ ws
    → windows.are_sound_windows ws ≡ true → map window_made (map window_told (zip ws is)) ≡ ws
windows-back [] [] n k s = refl
windows-back [] (i ∷ is) n k s = absurd cc
windows-back (w ∷ ws) [] n k s = absurd cc
windows-back (w ∷ ws) (i ∷ is) n k s =
    let p = and_parts (windows.is_sound_window w) _ s in
    let q = firsts (window_kept w) w (map window_kept ws) ws k in
    let m =
    numbers i.win w.number (map requests.input_window_number is) (map tree.window_number ws) n in
    ap (λ (v : window.Window). v ∷ map window_made (map window_told (zip ws is)))
    (window-back w i q.0 p.0)
    ∙ ap (λ (vs : List window.Window). w ∷ vs) (windows-back ws is m.1 q.1 p.1)

request-back : (r : Option request.Request) → request_made (request_told r) ≡ r
request-back None = refl
request-back (Some (asks.Line r)) = refl
request-back (Some (asks.Char unicode)) = refl

input-back : (w : window.Window) (i : WindowInput) → i.win ≡ w.number
    → input_made (window_told (w, i)) ≡ i
input-back w i e = rw (← e, request-back i.request) refl

-- entries for input that are those of the windows, in their order, are made again
pub inputs-back : (ws : List window.Window) (is : List WindowInput)
    → map requests.input_window_number is ≡ map tree.window_number ws
    → map input_made (map window_told (zip ws is)) ≡ is
inputs-back [] [] n = refl
inputs-back [] (i ∷ is) n = absurd cc
inputs-back (w ∷ ws) [] n = absurd cc
inputs-back (w ∷ ws) (i ∷ is) n =
    let m =
    numbers i.win w.number (map requests.input_window_number is) (map tree.window_number ws) n in
    ap (λ (j : WindowInput). j ∷ map input_made (map window_told (zip ws is)))
    (input-back w i m.0)
    ∙ ap (λ (js : List WindowInput). i ∷ js) (inputs-back ws is m.1)

-- ---- from fields and back

content-again : (a : SnapArea) (c : SnapContent) → content_told (content_made a c) ≡ c
content-again a (Pair method size key first second) = refl
content-again a Blank = refl
content-again a Buffer = refl
content-again a (Grid x y cells) = refl

request-again : (r : SnapRequest) → request_told (request_made r) ≡ r
request-again Nothing = refl
request-again (Line unicode buffer maximum initial echo terminators) = refl
request-again (Char unicode) = refl

window-again : (w : SnapWindow) → window_told (window_made w, input_made w) ≡ w
window-again w = rw (content-again w.area w.content, request-again w.request) refl

pub windows-again : (ws : List SnapWindow)
    → map window_told (zip (map window_made ws) (map input_made ws)) ≡ ws
windows-again [] = refl
windows-again (w ∷ ws) =
    ap (λ (v : SnapWindow). v ∷ map window_told (zip (map window_made ws) (map input_made ws)))
    (window-again w)
    ∙ ap (λ (vs : List SnapWindow). w ∷ vs) (windows-again ws)

-- ---- between two turns

content-begun : (a : SnapArea) (c : SnapContent) → content_kept (content_made a c) ≡ content_made a c
content-begun a (Pair method size key first second) = refl
content-begun a Blank = refl
content-begun a Buffer = refl
content-begun a (Grid x y cells) = refl

window-begun : (w : SnapWindow) → window_kept (window_made w) ≡ window_made w
window-begun w = ap (λ (c : content.Content). record (window_made w) { content = c })
    (content-begun w.area w.content)

pub windows-begun : (ws : List SnapWindow) → map window_kept (map window_made ws) ≡ map window_made ws
windows-begun [] = refl
windows-begun (w ∷ ws) =
    ap (λ (v : window.Window). v ∷ map window_kept (map window_made ws)) (window-begun w)
    ∙ ap (λ (vs : List window.Window). window_made w ∷ vs) (windows-begun ws)
