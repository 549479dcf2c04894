-- One entry of the resource index.
use Rattle.std.proofs.Common.{◌≡◌, ℕ, suc, ◌+◌, ◌-◌, ◌*◌, ◌<◌, cond, List, Some, ap, ◌∙◌, arith}
use Rattle.blorb_read.specs.Container.{word, is_executable, story_start}

pub entry : (count i : ℕ) (bytes : List ℕ)
    → i < count
    → story_start (count - i) (24 + 12 * i) bytes
    ≡ cond (is_executable bytes (24 + 12 * i)) (Some (word bytes (24 + 12 * i + 8)))
    (story_start (count - (i + 1)) (24 + 12 * (i + 1)) bytes)
entry count i bytes lt =
    let left : count - i ≡ suc (count - (i + 1)) = omega arith in
    let next : 24 + 12 * i + 12 ≡ 24 + 12 * (i + 1) = omega arith in
    ap (λ (k : ℕ). story_start k (24 + 12 * i) bytes) left
    ∙ ap (λ (at : ℕ). cond (is_executable bytes (24 + 12 * i)) (Some (word bytes (24 + 12 * i + 8)))
    (story_start (count - (i + 1)) at bytes)) next
