use Rattle.std.proofs.Common.{◌≡◌, ◌<◌, ◌≤◌, ℕ, length, get_or, true, false}
use Rattle.disk_model.specs.Drawn.{keeps}
use Rattle.disk_model.proofs.stop.draw_image.Given as goal

abbrev pub invariant-loop-place : goal.invariant-loop-place
invariant-loop-place l = record {
  size : length l.image.items ≡ l.place;
  kept : (i : ℕ)
      → i < l.place → i < length l.written → keeps l.choice i ≡ true
      → get_or l.image.items i 0 ≡ get_or l.written i 0;
  lost : (i : ℕ)
      → i < l.place → i < length l.synced
      → keeps l.choice i ≡ false
      → get_or l.image.items i 0 ≡ get_or l.synced i 0;
  rubbish : (i : ℕ)
      → i < l.place → length l.synced ≤ i
      → keeps l.choice i ≡ false
      → get_or l.image.items i 0 ≡ 255;
}
