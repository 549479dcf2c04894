-- Blocks in a save: read pair by pair, and in one order alone.
use Rattle.std.proofs.Common.{◌≡◌, ℕ, suc, ◌+◌, ◌-◌, ◌*◌, ◌<◌, ◌≤◌, List, [], ◌∷◌}
use Rattle.std.proofs.Common.{◌++◌, drop, refl, ap, sym, ◌∙◌, append_assoc, arith}
use Rattle.std.proofs.lemmas.List.{append-nil, drop-drop}
use Rattle.glulx_image.specs.Header.{word}
use Rattle.byteorder.specs.Endian.{big_number}
use Rattle.vm_heap.specs.declared.block.Block.{Block}
use Rattle.quetzal.specs.Heap.{blocks_in}

abbrev pub pair_at : List ℕ → ℕ → Block
pair_at xs at = record { at = word xs at; length = word xs (at + 4) }

blocks_more : (n i : ℕ) (xs : List ℕ) → i < n
    → blocks_in (n - i) (drop (8 * i) xs)
    ≡ pair_at xs (8 * i) ∷ blocks_in (n - (i + 1)) (drop (8 * (i + 1)) xs)
unfolding blocks_in
blocks_more n i xs lt =
    let left : n - i ≡ suc (n - (i + 1)) = omega arith in
    let second : word (drop (8 * i) xs) 4 ≡ word xs (8 * i + 4) =
    ap (big_number 4) (drop-drop 4 (8 * i) xs) in
    let next : drop 8 (drop (8 * i) xs) ≡ drop (8 * (i + 1)) xs =
    drop-drop 8 (8 * i) xs ∙ ap (λ (k : ℕ). drop k xs) (omega arith) in
    rw (left, second, next) refl

pub blocks_step : (n i : ℕ) (xs : List ℕ) (done whole new : List Block) → i < n
    → done ++ blocks_in (n - i) (drop (8 * i) xs) ≡ whole → new ≡ done ++ pair_at xs (8 * i) ∷ []
    → new ++ blocks_in (n - (i + 1)) (drop (8 * (i + 1)) xs) ≡ whole
blocks_step n i xs done whole new lt e is =
    rw is
    (append_assoc done (pair_at xs (8 * i) ∷ []) (blocks_in (n - (i + 1)) (drop (8 * (i + 1)) xs))
    ∙ ap (λ t. done ++ t) (sym (blocks_more n i xs lt)) ∙ e)

pub blocks_end : (n i : ℕ) (xs : List ℕ) (done whole : List Block) → n ≤ i
    → done ++ blocks_in (n - i) xs ≡ whole → done ≡ whole
unfolding blocks_in
blocks_end n i xs done whole le e =
    let none : n - i ≡ 0 = omega arith in
    let end : done ++ [] ≡ whole = rw none at e in sym (append-nil done) ∙ end
