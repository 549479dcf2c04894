-- The call that opens a window keeps what the work of a call keeps.
use Rattle.std.proofs.Common.{◌≡◌, ℕ, ◌+◌, ◌==◌, ◌||◌, not, nat_lt, nat_le, Bool, true, false}
use Rattle.std.proofs.Common.{length, refl, cond, sym, subst, inl, inr, arith, ◌<◌, ◌≤◌}
use Rattle.std.proofs.lemmas.Bool.{both_ways, cond_both, leb-false, ltb-false, or_parts}
use Rattle.std.proofs.lemmas.Bool.Decides.{nat_tests}
use Rattle.glk_numbers.specs.declared.numbered.TheConstants.{MAX_NUMBER}
use Rattle.glk_windows.specs.Arranging as arranging
use Rattle.glk_windows.specs.Opening as opening
use Rattle.glk_windows.specs.Tree as tree
use Rattle.glk_windows.specs.Valid as wvalid
use Rattle.glk_streams.specs.Opening as sopen
use Rattle.glk_dispatch.specs.Answer.{GlkCall}
use Rattle.glk_dispatch.specs.Glk.{has_window, with_rectangles}
use Rattle.glk_dispatch.specs.Valid.{AreValid}
use Rattle.glk_dispatch.specs.Windows as rows
use Rattle.glk_dispatch.specs.declared.glk.Glk.{Glk}
use Rattle.glk_dispatch.proofs.KeptLemmas.{Kept, beside, kept-if, laws, parts-windows, row-needs}
use Rattle.glk_dispatch.proofs.BesideLemmas.{beside-ready}
use Rattle.glk_dispatch.proofs.OpenLemmas.{first-ready}

pub placed-parts : (g : Glk) → AreValid g → AreValid (with_rectangles g)
placed-parts g v = record {
  windows = laws.windows.place g.windows g.cols g.rows v.windows;
  streams = v.streams;
  requests = v.requests;
  next = v.next;
}

begun-valid : (g : Glk) (win : ℕ) → 0 < win → win < 4294967295 → AreValid g
    → AreValid (rows.window_begun g win)
begun-valid g win lo hi v = record {
  windows = laws.windows.set_stream g.windows win (sopen.opened_window g.streams win).1 v.windows;
  streams = (laws.streams g.streams v.streams).window win;
  requests = laws.requests.begun g.requests win lo hi v.requests;
  next = v.next;
}

not-none : (n : ℕ) → (n == 0) ≡ false → 0 < n
not-none n e = grind (arith, nat_tests)

first_made-valid : (g : Glk) (made : tree.WindowTree × ℕ) → AreValid g → wvalid.IsValidTree made.0
    → made.0.next ≤ 4294967295 → made.1 < 4294967295 → AreValid (rows.first_made g made).0
first_made-valid g made v w nx hi =
    let h : AreValid (record g { windows = made.0 }) = parts-windows g made.0 v w nx in
    cond_both (made.1 == 0) _ _ (λ (x : Glk × ℕ). AreValid x.0) (λ e. h)
    (λ e. placed-parts (rows.window_begun (record g { windows = made.0 }) made.1)
    (begun-valid (record g { windows = made.0 }) made.1 (not-none made.1 e) hi h))

beside_made-valid : (g : Glk) (made : tree.WindowTree × ℕ) → AreValid g → wvalid.IsValidTree made.0
    → made.0.next ≤ 4294967295 → made.1 + 1 < 4294967295 → AreValid (rows.beside_made g made).0
beside_made-valid g made v w nx hi =
    let h : AreValid (record g { windows = made.0 }) = parts-windows g made.0 v w nx in
    let one : Glk = rows.window_begun (record g { windows = made.0 }) made.1 in
    cond_both (made.1 == 0) _ _ (λ (x : Glk × ℕ). AreValid x.0) (λ e. h)
    (λ e. placed-parts (rows.window_begun one (made.1 + 1))
    (begun-valid one (made.1 + 1) (omega arith) hi
    (begun-valid (record g { windows = made.0 }) made.1 (not-none made.1 e) (omega arith) h)))

-- a tree with the number of a new window, so many further numbers being taken
record IsFine (more : ℕ) (p : tree.WindowTree × ℕ) : Type 0 where
  next : p.0.next ≤ 4294967295
  number : p.1 + more < 4294967295

fine-case : (more : ℕ) (b : Bool) (x y : tree.WindowTree × ℕ) → IsFine more x
    → (b ≡ false → IsFine more y) → IsFine more (cond b x y)
fine-case more b x y h k = cond_both b x y (IsFine more) (λ e. h) k

first-fine : (t : tree.WindowTree) (kind rock : ℕ) → t.next ≤ 4294967295
    → IsFine 0 (opening.first_opened t kind rock)
first-fine t kind rock h =
    fine-case 0
    (not (t.root == 0) || not (opening.is_kind kind) || nat_lt 4294967294 t.next
    || nat_lt 64 (length t.slots + 1))
    (t, 0) _ (record { next = h; number = omega arith })
    (λ e. let k : t.next ≤ 4294967294 =
    ltb-false 4294967294 t.next (or_parts _ (nat_lt 4294967294 t.next) (or_parts _ _ e).0).1 in
    record { next = omega arith; number = omega arith })

beside-fine : (t : tree.WindowTree) (split method size kind rock : ℕ) → t.next ≤ 4294967295
    → IsFine 1 (opening.beside_opened t split method size kind rock)
beside-fine t split method size kind rock h =
    fine-case 1
    (not (opening.is_kind kind) || nat_le 4294967294 t.next || nat_lt 64 (length t.slots + 2))
    (t, 0) _ (record { next = h; number = omega arith })
    (λ e. let k : t.next < 4294967294 =
    leb-false 4294967294 t.next (or_parts _ (nat_le 4294967294 t.next) (or_parts _ _ e).0).1 in
    record { next = omega arith; number = omega arith })

opened-first : (g : Glk) (kind rock : ℕ)
    → AreValid g
    → AreValid (rows.first_window_opened g kind rock).0
opened-first g kind rock v =
    let made = opening.split g.windows 0 0 0 kind rock in
    let fine = first-fine g.windows kind rock v.next in
    let number : made.1 + 0 < 4294967295 = fine.number in
    cond_both (nat_lt MAX_NUMBER g.streams.next) (g, 0) (rows.first_made g made)
    (λ (x : Glk × ℕ). AreValid x.0) (λ e. v)
    (λ e. first_made-valid g made v
    (laws.windows.split g.windows 0 0 0 kind rock v.windows (inl refl)) fine.next
    (omega (arith, number)))

opened-beside : (g : Glk) (split method size kind rock : ℕ) → has_window g split ≡ true
    → arranging.is_method method ≡ true → (split == 0) ≡ false
    → AreValid g → AreValid (rows.window_beside g split method size kind rock).0
opened-beside g split method size kind rock live m e v =
    let made = opening.split g.windows split method size kind rock in
    let fine : IsFine 1 made = subst
    (λ b. IsFine 1 (cond b (opening.first_opened g.windows kind rock)
    (opening.beside_opened g.windows split method size kind rock))) (sym e)
    (beside-fine g.windows split method size kind rock v.next) in
    cond_both (nat_le MAX_NUMBER g.streams.next) (g, 0) (rows.beside_made g made)
    (λ (x : Glk × ℕ). AreValid x.0) (λ f. v)
    (λ f. beside_made-valid g made v
    (laws.windows.split g.windows split method size kind rock v.windows (inr (live, m))) fine.next
    fine.number)

pub or-second : (a b : Bool) → (a || b) ≡ true → a ≡ false → b ≡ true
or-second true b e f = absurd (both_ways true f e)
or-second false b e f = e

pub kept-opened : (s : GlkCall) (split method size kind rock : ℕ)
    → Kept s (beside s) (rows.window_opened s.glk split method size kind rock)
kept-opened s split method size kind rock =
    let g = s.glk in
    row-needs s (beside s) (split == 0 || has_window g split) 21 _
    (λ live. kept-if s (beside s) (split == 0) _ _
    (λ e. λ v. first-ready g kind rock v
    (laws.windows.split g.windows 0 0 0 kind rock v.valid.parts.windows (inl refl))
    (opened-first g kind rock v.valid.parts))
    (λ e. row-needs s (beside s) (arranging.is_method method) 22 _
    (λ m. λ v. beside-ready g split method size kind rock e v
    (laws.windows.split g.windows split method size kind rock v.valid.parts.windows
    (inr (or-second (split == 0) (has_window g split) live e, m)))
    (opened-beside g split method size kind rock
    (or-second (split == 0) (has_window g split) live e) m e v.valid.parts))))
