-- A window that is taken away with all below it.
use native.Mathlib.Numerals.{unary_clauses}
use Rattle.std.proofs.Common.{◌≡◌, ℕ, zero, suc, ◌-◌, ◌<◌, List, Option, arith}
use Rattle.glk_windows.specs.declared.window.Window.{Window}
use Rattle.glk_windows.specs.declared.window.Pair as p
use Rattle.glk_windows.specs.Tree.{pair_of}
use Rattle.glk_windows.specs.Closing.{windows_without, removed, both}

pub removed-more : (d : ℕ) (ws : List Window) (n : ℕ) (o : Option p.Pair) → 0 < d → o ≡ pair_of ws n
    → removed d ws n ≡ both (removed (d - 1)) (windows_without ws n) o
unfolding removed
removed-more zero ws n o h e = absurd (omega arith)
removed-more (suc d) ws n o h e = simp (unary_clauses, e)
