-- Windows in order, few and sound, as each call leaves them.
use Rattle.std.proofs.Common.{◌≡◌, ℕ, ◌≤◌, ◌==◌, List, map, length, refl, Option, Some, None, arith}
use Rattle.std.proofs.Common.{true}
use Rattle.std.proofs.lemmas.Bool.{cond_both}
use Rattle.std.proofs.lemmas.List.{length-map}
use Rattle.glk_numbers.specs.Numbered.{without}
use Rattle.glk_numbers.proofs.FoundLemmas.{length-changed, length-left}
use Rattle.glk_windows.specs.declared.window.Window.{Window}
use Rattle.glk_windows.specs.declared.window.Area.{Area}
use Rattle.glk_windows.specs.declared.window.Pair as pairs
use Rattle.glk_windows.specs.Tree.{WindowTree, window_number, set_at, swapped, parent_of, stream_of}
use Rattle.glk_windows.specs.Reading.{other_window as sibling}
use Rattle.glk_windows.specs.Resizing.{sized}
use Rattle.glk_windows.specs.Placing.{windows_placed}
use Rattle.glk_windows.specs.Closing.{windows_without, unlinked, close, sibling_lifted}
use Rattle.glk_windows.specs.Valid.{IsOrdered, IsValidTree, are_sound_windows}
use Rattle.glk_windows.proofs.KeepLemmas.{placed_keeps, removed_keeps}
use Rattle.glk_windows.proofs.OrderLemmas.{Ascends, ascends-set_at, ascends-map}
use Rattle.glk_windows.proofs.OrderLemmas.{ascends-without}
use Rattle.glk_windows.proofs.SoundLemmas.{KeepsSound, sound_set_at, sound_map, sound_without}
use Rattle.glk_windows.proofs.SoundLemmas.{sound_swapped, sound_unkeyed, sound_sized}

pub record Fit (ws : List Window) (z : ℕ) : Type 0 where
  pub ordered : Ascends 0 ws z
  pub few : length ws ≤ 64
  pub sound : are_sound_windows ws ≡ true

pub fit_of : (t : WindowTree) → IsValidTree t → Fit t.slots t.next
unfolding IsOrdered
fit_of t v = record { ordered = v.ordered; few = v.few; sound = v.sound }

pub fit_set_at : (f : Window → Window) → ((w : Window) → (f w).number ≡ w.number) → KeepsSound f
    → (ws : List Window) (z n : ℕ) → Fit ws z → Fit (set_at f ws n) z
fit_set_at f num k ws z n h = record {
  ordered = ascends-set_at f num 0 ws z n h.ordered;
  few = omega (arith, length-changed window_number f ws n, h.few);
  sound = sound_set_at f k ws n h.sound;
}

pub fit_map : (f : Window → Window) → ((w : Window) → (f w).number ≡ w.number) → KeepsSound f
    → (ws : List Window) (z : ℕ) → Fit ws z → Fit (map f ws) z
fit_map f num k ws z h = record {
  ordered = ascends-map f num 0 ws z h.ordered;
  few = omega (arith, length-map ws f, h.few);
  sound = sound_map f k ws h.sound;
}

pub fit_placed : (d : ℕ) (ws : List Window) (z n : ℕ) (r : Area)
    → Fit ws z → Fit (windows_placed d ws n r) z
fit_placed d ws z n r h =
    placed_keeps (λ v. Fit v z)
    (λ v m a k. fit_set_at (sized a) (λ w. refl) (sound_sized a) v z m k)
    d ws n r h

-- another window in a pair, and another pair above a window
pub fit_relinked : (ws : List Window) (z old new at up n : ℕ) → Fit ws z
    → Fit (set_at (λ w. record w { parent = up })
    (set_at (λ w. record w { content = swapped w.content old new }) ws at) n) z
fit_relinked ws z old new at up n h =
    fit_set_at (λ w. record w { parent = up }) (λ w. refl) (λ w e. e) _ z n
    (fit_set_at (λ w. record w { content = swapped w.content old new }) (λ w. refl)
    (λ w e. sound_swapped w.content w.area old new e) ws z at h)

fit-closed : (ws : List Window) (z n : ℕ) → Fit ws z → Fit (windows_without ws n) z
fit-closed ws z n h =
    fit_map (unlinked n (stream_of ws n)) (λ w. refl)
    (λ w e. sound_unkeyed w.content w.area n e) (without window_number ws n) z (record {
      ordered = ascends-without 0 ws z n h.ordered;
      few = omega (arith, length-left window_number ws n, h.few);
      sound = sound_without ws n h.sound;
    })

fit-lifted : (t : WindowTree) (pair : ℕ) (o : Option pairs.Pair) (n : ℕ) → Fit t.slots t.next
    → Fit (sibling_lifted t pair o n).slots (sibling_lifted t pair o n).next
fit-lifted t pair None n h = h
fit-lifted t pair (Some q) n h =
    fit_relinked (windows_without t.slots pair) t.next pair (sibling q n) (parent_of t.slots pair)
    (parent_of t.slots pair) (sibling q n) (fit-closed t.slots t.next pair h)

pub fit_close : (t : WindowTree) (n : ℕ)
    → Fit t.slots t.next → Fit (close t n).slots (close t n).next
fit_close t n h =
    let k = removed_keeps (λ v. Fit v t.next) (λ v m. fit-closed v t.next m) (length t.slots)
    t.slots n h in
    cond_both (parent_of t.slots n == 0) _ _ (λ (u : WindowTree). Fit u.slots u.next) (λ e. k)
    (λ e. fit-lifted _ (parent_of t.slots n) _ n k)
