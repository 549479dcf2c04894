-- A new size of the screen.
use Rattle.std.proofs.Common.{◌≡◌, ℕ, ◌==◌, ◌&&◌, List, [], length, refl, sym, ap, ◌∙◌}
use Rattle.std.proofs.Common.{Option, Some, None, Ok, Err}
use Rattle.std.proofs.lemmas.Bool.{cond_both}
use Rattle.glk_windows.specs.Resizing.{content_sized, grid_sized, rows_sized, sized}
use Rattle.glk_windows.specs.declared.window.Area.{Area}
use Rattle.glk_windows.specs.declared.window.Content.{Content}
use Rattle.glk_windows.specs.declared.window.Content.TheVariants.{Pair, Blank, Buffer, Grid}
use Rattle.glk_windows.specs.declared.window.Grid as g
use Rattle.glk_windows.specs.declared.window.Window.{Window}
use Rattle.glk_windows.proofs.RectangleLemmas.{read_placed}
use Rattle.story_text.specs.declared.input.Input.{Input}
use Rattle.story_text.specs.declared.input.Input.TheVariants as input
use Rattle.glk_input.specs.declared.request.WindowInput.{WindowInput}
use Rattle.glk_dispatch.specs.Answer.{Reached}
use Rattle.glk_dispatch.specs.Events.{screen_after}
use Rattle.glk_dispatch.specs.Glk.{screen_sized, wait_set_back}
use Rattle.glk_dispatch.specs.Laws.{IsResized, SizesChangeTheScreen, unsized, unsized_content}
use Rattle.glk_dispatch.specs.Valid.{AreValid, IsReadyGlk}
use Rattle.glk_dispatch.specs.declared.glk.Glk.{Glk}
use Rattle.glk_dispatch.proofs.KeptOpening.{placed-parts}
use Rattle.glk_dispatch.proofs.OpenLemmas.{beside-of, placed-valid}

-- the windows have the rectangles of each size
pub sized-ready : (g : Glk) (cols rows : ℕ) → IsReadyGlk g → IsReadyGlk (screen_sized g cols rows)
sized-ready g cols rows v =
    let h : Glk = record g { cols = cols; rows = rows } in
    let p = v.valid.parts in
    let parts : AreValid h =
    record { windows = p.windows; streams = p.streams; requests = p.requests; next = p.next } in
    record {
      valid = placed-valid h (placed-parts h parts) p.windows (beside-of g v.valid);
      rests = record { event = v.rests.event; prompt = v.rests.prompt };
    }

pub screen-ready : (i : Input) (g : Glk) → IsReadyGlk g → IsReadyGlk (screen_after g i)
screen-ready (input.Line win text key) g v = v
screen-ready (input.Char win code) g v = v
screen-ready (input.File name) g v = v
screen-ready (input.Size cols rows) g v = sized-ready g cols rows v

-- what windows ask for stays
same-asks : (i : Input) (g : Glk) → (screen_after g i).requests ≡ g.requests
same-asks (input.Line win text key) g = refl
same-asks (input.Char win code) g = refl
same-asks (input.File name) g = refl
same-asks (input.Size cols rows) g = refl

abbrev asked-in : List WindowInput → Reached Glk → List WindowInput
asked-in none (Ok g) = g.requests
asked-in none (Err e) = none

pub screen_asks : (i : Input) (g h : Glk)
    → ◌≡◌ {A = Reached Glk} (Ok (screen_after g i)) (Ok h) → h.requests ≡ g.requests
screen_asks i g h e = sym (ap (asked-in []) e) ∙ same-asks i g

-- ---- what a size leaves of a window

grid-unsized : (g : g.Grid) (w h : ℕ)
    → unsized_content (Grid (grid_sized g w h)) ≡ unsized_content (Grid g)
grid-unsized g w h =
    cond_both (g.w == w && g.h == h) g
    (record g { w = w; h = h; cells = rows_sized h w g.w g.cells })
    (λ x. unsized_content (Grid x) ≡ unsized_content (Grid g)) (λ e. refl) (λ e. refl)

content-unsized : (c : Content) (a : Area) → unsized_content (content_sized c a) ≡ unsized_content c
content-unsized (Pair p) a = refl
content-unsized Blank a = refl
content-unsized (Buffer b) a = refl
content-unsized (Grid g) a = grid-unsized g a.w a.h

window-unsized : (a : Area) (w : Window)
    → ◌≡◌ {A = Option Window} (Some (unsized (sized a w))) (Some (unsized w))
window-unsized a w =
    ap (λ (c : Content). Some (record (unsized w) { content = c })) (content-unsized w.content a)

resized : (g : Glk) (cols rows : ℕ) → IsResized g (screen_sized g cols rows) cols rows
resized g cols rows = record {
  width = refl;
  height = refl;
  windows = λ n. read_placed None (λ w. Some (unsized w)) window-unsized
      (length g.windows.slots) g.windows.slots g.windows.root
      (record { x = 0; y = 0; w = cols; h = rows }) n;
  next = refl;
  root = refl;
  streams = refl;
  requests = refl;
  chars = refl;
  printed = refl;
}

pub size_changes : SizesChangeTheScreen
size_changes = record {
  told = λ s cols rows. refl;
  alone = λ g cols rows.
      let h = resized (wait_set_back g) cols rows in
      record {
        width = h.width;
        height = h.height;
        windows = h.windows;
        next = h.next;
        root = h.root;
        streams = h.streams;
        requests = h.requests;
        chars = h.chars;
        printed = h.printed;
      };
}
