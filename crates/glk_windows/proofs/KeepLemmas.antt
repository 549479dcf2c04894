-- What each step of placing, or of closing, keeps, the whole of it keeps.
use Rattle.std.proofs.Common.{ℕ, zero, suc, List, Option, Some, None}
use Rattle.glk_windows.specs.declared.window.Window.{Window}
use Rattle.glk_windows.specs.declared.window.Area.{Area}
use Rattle.glk_windows.specs.declared.window.Pair as pairs
use Rattle.glk_windows.specs.Tree.{pair_of}
use Rattle.glk_windows.specs.Placing.{windows_placed, pair_divided, with_area}
use Rattle.glk_windows.specs.Closing.{removed, both, windows_without}

divided-keeps : (P : List Window → Type 0) (f : List Window → ℕ → Area → List Window)
    → ((ws : List Window) (n : ℕ) (r : Area) → P ws → P (f ws n r))
    → (ws : List Window) (o : Option pairs.Pair) (r : Area) → P ws → P (pair_divided f ws o r)
divided-keeps P f h ws None r k = k
divided-keeps P f h ws (Some q) r k = h _ _ _ (h _ _ _ k)

pub placed_keeps : (P : List Window → Type 0)
    → ((ws : List Window) (n : ℕ) (r : Area) → P ws → P (with_area ws n r))
    → (d : ℕ) (ws : List Window) (n : ℕ) (r : Area) → P ws → P (windows_placed d ws n r)
unfolding windows_placed
placed_keeps P h zero ws n r k = k
placed_keeps P h (suc d) ws n r k =
    divided-keeps P (windows_placed d) (placed_keeps P h d) (with_area ws n r) (pair_of ws n) r
    (h ws n r k)

both-keeps : (P : List Window → Type 0) (f : List Window → ℕ → List Window)
    → ((ws : List Window) (n : ℕ) → P ws → P (f ws n))
    → (ws : List Window) (o : Option pairs.Pair) → P ws → P (both f ws o)
both-keeps P f h ws None k = k
both-keeps P f h ws (Some q) k = h _ _ (h _ _ k)

pub removed_keeps : (P : List Window → Type 0)
    → ((ws : List Window) (n : ℕ) → P ws → P (windows_without ws n))
    → (d : ℕ) (ws : List Window) (n : ℕ) → P ws → P (removed d ws n)
unfolding removed
removed_keeps P h zero ws n k = k
removed_keeps P h (suc d) ws n k =
    both-keeps P (removed d) (removed_keeps P h d) (windows_without ws n) (pair_of ws n) (h ws n k)
