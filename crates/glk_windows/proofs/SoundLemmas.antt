-- Methods of pairs and cells of grids stay sound, and the windows few.
use Rattle.std.proofs.Common.{◌≡◌, ℕ, zero, suc, ◌+◌, ◌-◌, ◌*◌, ◌==◌, ◌&&◌, ◌++◌, min, List}
use Rattle.std.proofs.Common.{[], ◌∷◌, map, take, drop, replicate, length, refl, ap, ◌∙◌, arith}
use Rattle.std.proofs.Common.{Bool, true, if◌then◌else◌, nat_le, slice_set, length-append}
use Rattle.std.proofs.lemmas.Bool.{and_from, and_parts, cond_both}
use Rattle.std.proofs.lemmas.List.{length-take, length-replicate}
use Rattle.std.proofs.lemmas.Grind.{common_steps}
use Rattle.glk_numbers.specs.Numbered.{without}
use Rattle.glk_numbers.proofs.EachLemmas as each
use Rattle.glk_windows.specs.declared.window.Window.{Window}
use Rattle.glk_windows.specs.declared.window.Area.{Area}
use Rattle.glk_windows.specs.declared.window.Grid as g
use Rattle.glk_windows.specs.declared.window.Content.{Content}
use Rattle.glk_windows.specs.declared.window.Content.TheVariants.{Pair, Grid}
use Rattle.glk_windows.specs.Tree.{window_number, set_at, swapped}
use Rattle.glk_windows.specs.Tree.{content_arranged, grid_cursor_moved}
use Rattle.glk_windows.specs.Output.{content_put, content_cleared, content_kept}
use Rattle.glk_windows.specs.Output.{grid_put, cell_put, next_grid_row}
use Rattle.glk_windows.specs.Resizing.{sized, content_sized, row_sized, rows_sized}
use Rattle.glk_windows.specs.Closing.{content_unkeyed}
use Rattle.glk_windows.specs.Arranging.{is_method}
use Rattle.glk_windows.specs.Valid.{is_sound_window, is_sound_content, are_sound_windows}

-- a change that keeps a window sound
abbrev pub KeepsSound : (Window → Window) → Type 0
KeepsSound f = (w : Window) → is_sound_window w ≡ true → is_sound_window (f w) ≡ true

pub sound_set_at : (f : Window → Window) → KeepsSound f → (ws : List Window) (n : ℕ)
    → are_sound_windows ws ≡ true → are_sound_windows (set_at f ws n) ≡ true
sound_set_at = each.all-changed window_number are_sound_windows is_sound_window refl (λ w ws. refl)

pub sound_map : (f : Window → Window) → KeepsSound f → (ws : List Window)
    → are_sound_windows ws ≡ true → are_sound_windows (map f ws) ≡ true
sound_map = each.all-mapped window_number are_sound_windows is_sound_window refl (λ w ws. refl)

pub sound_without : (ws : List Window) (n : ℕ) → are_sound_windows ws ≡ true
    → are_sound_windows (without window_number ws n) ≡ true
sound_without = each.all-without window_number are_sound_windows is_sound_window refl (λ w ws. refl)

pub sound_append : (ws vs : List Window) → are_sound_windows ws ≡ true
    → are_sound_windows vs ≡ true → are_sound_windows (ws ++ vs) ≡ true
sound_append = each.all-joined window_number are_sound_windows is_sound_window refl (λ w ws. refl)

-- a pair with another child
pub sound_swapped : (c : Content) (a : Area) (old new : ℕ) → is_sound_content c a ≡ true
    → is_sound_content (swapped c old new) a ≡ true
sound_swapped (Pair q) a old new e = grind (arith, common_steps)
sound_swapped c a old new e = e

pub sound_arranged : (c : Content) (a : Area) (method size key : ℕ) → is_method method ≡ true
    → is_sound_content c a ≡ true → is_sound_content (content_arranged c method size key) a ≡ true
sound_arranged (Pair q) a method size key m e = m
sound_arranged c a method size key m e = e

pub sound_moved : (c : Content) (a : Area) (x y : ℕ) → is_sound_content c a ≡ true
    → is_sound_content (grid_cursor_moved c x y) a ≡ true
sound_moved (Pair q) a x y e = e
sound_moved c a x y e = e

pub sound_unkeyed : (c : Content) (a : Area) (n : ℕ) → is_sound_content c a ≡ true
    → is_sound_content (content_unkeyed n c) a ≡ true
sound_unkeyed (Pair q) a n e = grind (arith, common_steps)
sound_unkeyed c a n e = e

pub length_slice_set : {A : Type 0} (xs : List A) (i : ℕ) (x : A)
    → length (slice_set xs i x) ≡ length xs
length_slice_set [] i x = refl
length_slice_set (y ∷ xs) zero x = refl
length_slice_set (y ∷ xs) (suc i) x = ap suc (length_slice_set xs i x)

abbrev pub is_whole : g.Grid → Area → Bool
is_whole g a = g.w == a.w && (g.h == a.h && length g.cells == g.h * g.w)

whole-cell : (x : g.Grid) (a : Area) (code : ℕ)
    → is_whole x a ≡ true → is_whole (cell_put x code) a ≡ true
whole-cell x a code e =
    cond_both _ (record x { cells = slice_set x.cells (x.y * x.w + x.x) code; x = x.x + 1 }) x
    (λ v. is_whole v a ≡ true)
    (λ i. ap (λ n. x.w == a.w && (x.h == a.h && n == x.h * x.w))
    (length_slice_set x.cells (x.y * x.w + x.x) code)
    ∙ e) (λ i. e)

whole-put : (x : g.Grid) (a : Area) (code : ℕ)
    → is_whole x a ≡ true → is_whole (grid_put x code) a ≡ true
whole-put x a code e =
    cond_both (code == 10) (next_grid_row x)
    (cell_put (if nat_le x.w x.x then next_grid_row x else x) code) (λ v. is_whole v a ≡ true)
    (λ i. e)
    (λ i. whole-cell (if nat_le x.w x.x then next_grid_row x else x) a code
    (cond_both (nat_le x.w x.x) (next_grid_row x) x (λ v. is_whole v a ≡ true) (λ j. e) (λ j. e)))

pub sound_put : (c : Content) (a : Area) (code style : ℕ) → is_sound_content c a ≡ true
    → is_sound_content (content_put c code style) a ≡ true
sound_put (Grid x) a code style e = whole-put x a code e
sound_put c a code style e = e

pub sound_cleared : (c : Content) (a : Area)
    → is_sound_content c a ≡ true
    → is_sound_content (content_cleared c) a ≡ true
sound_cleared (Grid x) a e =
    ap (λ n. x.w == a.w && (x.h == a.h && n == x.h * x.w)) (length-replicate (length x.cells) 32)
    ∙ e
sound_cleared c a e = e

pub sound_kept : (c : Content) (a : Area)
    → is_sound_content c a ≡ true
    → is_sound_content (content_kept c) a ≡ true
sound_kept (Pair q) a e = e
sound_kept c a e = e

pad : (a b w m : ℕ) → a ≡ min w m → b ≡ w - m → a + b ≡ w
pad a b w m e f = grind (arith, common_steps)

length-row : (w : ℕ) (row : List ℕ) → length (row_sized w row) ≡ w
unfolding row_sized
length-row w row =
    length-append (take w row) (replicate (w - length row) 32)
    ∙ pad _ _ w (length row) (length-take w row) (length-replicate (w - length row) 32)

length-rows : (n w old : ℕ) (cells : List ℕ) → length (rows_sized n w old cells) ≡ n * w
unfolding rows_sized
length-rows zero w old cells = grind (arith, common_steps)
length-rows (suc n) w old cells =
    let i : _ =
    length-append (row_sized w (take old cells)) (rows_sized n w old (drop old cells)) in
    let j : _ = length-row w (take old cells) in
    let k : _ = length-rows n w old (drop old cells) in
    grind (arith, common_steps)

whole-same : (x : g.Grid) (a : Area) (b : Bool) (c : Bool) → (x.w == a.w) ≡ b → (x.h == a.h) ≡ c
    → (length x.cells == x.h * x.w) ≡ true
    → is_whole
    (if b && c then x else record x { w = a.w; h = a.h; cells = rows_sized a.h a.w x.w x.cells }) a
    ≡ true
whole-same x a true true e f l = and_from _ _ e (and_from _ _ f l)
whole-same x a b c e f l =
    (let k : _ = length-rows a.h a.w x.w x.cells in grind (arith, common_steps))

sized-content : (c : Content) (o a : Area)
    → is_sound_content c o ≡ true
    → is_sound_content (content_sized c a) a ≡ true
sized-content (Grid x) o a e =
    whole-same x a (x.w == a.w) (x.h == a.h) refl refl
    (and_parts (x.h == o.h) _ (and_parts (x.w == o.w) _ e).1).1
sized-content c o a e = e

pub sound_sized : (a : Area) → KeepsSound (sized a)
sound_sized a w e = sized-content w.content w.area a e
