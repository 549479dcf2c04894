-- Values that the profile gives, so that a wrong rule in the specs does not check.
use Rattle.std.specs.Prelude.{◌≡◌, ℕ, map, true, false, [], ◌∷◌}
use Rattle.std.proofs.Common.{refl}
use Rattle.glk_numbers.specs.Numbered.{found, changed_at, without}
use Rattle.glk_windows.specs.Tree.{WindowTree}
use Rattle.glk_windows.specs.Arranging.{is_method}
use Rattle.glk_windows.specs.Opening.{split}
use Rattle.glk_windows.specs.Closing.{close, removed}
use Rattle.glk_windows.specs.Placing.{place, windows_placed}
use Rattle.glk_windows.specs.Output.{grid_put}
use Rattle.glk_windows.specs.Laws.{window_area}
use Rattle.glk_windows.specs.declared.window.Area.{Area}

pub methods : map is_method (0x12 ∷ 0x20 ∷ 0x113 ∷ 0x02 ∷ 0x32 ∷ 0x14 ∷ [])
    ≡ true ∷ true ∷ true ∷ false ∷ false ∷ false ∷ []
methods = refl

-- a buffer, a grid of one row above it, and a buffer of a third at its right
abbrev pub three : WindowTree
three =
    (split (split (split (record { slots = []; next = 1; root = 0 }) 0 0 0 3 0).0 1 0x12 1 4 0).0
    1 0x21 33 3 0).0

abbrev pub area : ℕ → ℕ → ℕ → ℕ → Area
area x y w h = record { x = x; y = y; w = w; h = h }

pub three_places : map (window_area (place three 80 24).slots) (1 ∷ 2 ∷ 4 ∷ [])
    ≡ area 0 1 54 23 ∷ area 0 0 80 1 ∷ area 54 1 26 23 ∷ []
unfolding found changed_at windows_placed
three_places = refl

pub place_after_closing : window_area (place (close three 4) 80 24).slots 1 ≡ area 0 1 80 23
unfolding found changed_at without windows_placed removed
place_after_closing = refl

-- a full row goes on in the next
pub row_is_full : grid_put
    (record { w = 3; h = 2; x = 3; y = 0; cells = 97 ∷ 98 ∷ 99 ∷ 32 ∷ 32 ∷ 32 ∷ [] }) 100
    ≡ record { w = 3; h = 2; x = 1; y = 1; cells = 97 ∷ 98 ∷ 99 ∷ 100 ∷ 32 ∷ 32 ∷ [] }
row_is_full = refl
