-- Calls keep the order of numbers.
use Rattle.std.proofs.Common.{◌≡◌, ℕ, ◌+◌, ◌<◌, List, [], ◌∷◌, ◌++◌, map, arith, true, refl, ◌∙◌}
use Rattle.std.proofs.lemmas.Grind.{common_steps}
use Rattle.glk_numbers.specs.Numbered.{ascends, without}
use Rattle.glk_numbers.proofs.OrderLemmas as order
use Rattle.glk_windows.specs.declared.window.Window.{Window}
use Rattle.glk_windows.specs.Tree.{window_number, set_at, stream_of}
use Rattle.glk_windows.specs.Closing.{windows_without, unlinked, removed}
use Rattle.glk_windows.proofs.KeepLemmas.{removed_keeps}

-- the numbers ascend, each above low and below high, as those of an ordered tree above 0
abbrev pub Ascends : ℕ → List Window → ℕ → Type 0
Ascends low ws high = (low < high) × (ascends window_number low high ws ≡ true)

pub ascends-behind : (low : ℕ) (w : Window) (ws : List Window) (high : ℕ)
    → Ascends low (w ∷ ws) high → Ascends w.number ws high
ascends-behind low w ws high o =
    let first = order.ascends-first window_number w ws low high o.1 in (first.1, first.2)

pub ascends-set_at : (f : Window → Window) (h : (w : Window) → (f w).number ≡ w.number)
    → (low : ℕ) (ws : List Window) (high n : ℕ) → Ascends low ws high
    → Ascends low (set_at f ws n) high
ascends-set_at f h low ws high n o =
    (o.0, order.ascends-changed window_number f n (λ w e. h w ∙ e) ws low high ∙ o.1)

pub ascends-map : (f : Window → Window) (h : (w : Window) → (f w).number ≡ w.number)
    → (low : ℕ) (ws : List Window) (high : ℕ) → Ascends low ws high → Ascends low (map f ws) high
ascends-map f h low ws high o = (o.0, order.ascends-mapped window_number f h ws low high ∙ o.1)

pub ascends-without : (low : ℕ) (ws : List Window) (high n : ℕ) → Ascends low ws high
    → Ascends low (without window_number ws n) high
ascends-without low ws high n o = (o.0, order.ascends-without window_number ws low high n o.1)

-- one more window at the end
pub ascends-more : (low : ℕ) (ws : List Window) (high : ℕ) (v : Window) → v.number ≡ high
    → Ascends low ws high → Ascends low (ws ++ v ∷ []) (high + 1)
ascends-more low ws high v e o =
    (omega (arith, o.0), order.ascends-more window_number ws low high v o.0 e o.1)

pub ascends-closed : (low : ℕ) (ws : List Window) (high n : ℕ) → Ascends low ws high
    → Ascends low (windows_without ws n) high
ascends-closed low ws high n o =
    ascends-map (unlinked n (stream_of ws n)) (λ w. refl) low (without window_number ws n) high
    (ascends-without low ws high n o)

pub ascends-removed : (d low : ℕ) (ws : List Window) (high n : ℕ) → Ascends low ws high
    → Ascends low (removed d ws n) high
ascends-removed d low ws high n o =
    removed_keeps (λ v. Ascends low v high) (λ v m. ascends-closed low v high m) d ws n o

-- two more windows at the end
pub ascends-two : (low : ℕ) (ws : List Window) (high : ℕ) (v u : Window) → v.number ≡ high
    → u.number ≡ high + 1 → Ascends low ws high → Ascends low (ws ++ v ∷ u ∷ []) (high + 2)
unfolding ascends
ascends-two low ws high v u e k o = (
  omega (arith, o.0),
  order.ascends-joined window_number ws (v ∷ u ∷ []) low high (high + 2) o.0 (omega arith) o.1
      (λ last l. grind (arith, common_steps, e, k, l)),
)
