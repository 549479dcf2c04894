-- Lemmas on vectors of vectors, and on the pages that they hold.
use Rattle.std.proofs.Common.{◌≡◌, ◌≢◌, ℕ, zero, suc, ◌+◌, ◌-◌, ◌*◌, ◌/◌, ◌%◌, ◌<◌, ◌≤◌, ◌⊎◌, inl}
use Rattle.std.proofs.Common.{inr, List, [], ◌∷◌, ◌++◌, Vec, length, get_or, take, drop, set}
use Rattle.std.proofs.Common.{replicate, slice_index, refl, ap, sym, ◌∙◌, arith, subst, min, Bool}
use Rattle.std.proofs.Common.{true, false}
use Rattle.std.proofs.lemmas.Bool.{cases_lt, cases_eq}
use Rattle.std.proofs.lemmas.List.{get_or-append_right, get_or_append_left, get_or_past}
use Rattle.std.proofs.lemmas.List.{get_or-take, get_or-drop, length-append, length-take}
use Rattle.std.proofs.lemmas.List.{length-drop, get_or-replicate, get_or_default, take_all}
use Rattle.std.specs.declared.alloc.Global.{Global}
use Rattle.std.specs.Prelude.{slice_index_or, if◌then◌else◌}
use Rattle.vm_memory.specs.Pages.{Rows, items_at, page_in, shown, Shows, ShowsPage, Cuts}

pub items_at_get : {X : Type 0} → (vs : List (Vec X Global)) (n : ℕ) (d : Vec X Global)
    → n < length vs → items_at vs n ≡ (get_or vs n d).items
items_at_get [] n d l = elim l [ ]
items_at_get (w ∷ vs) zero d l = refl
items_at_get (w ∷ vs) (suc n) d l = items_at_get vs n d (omega arith)

pub items_at_read : {X : Type 0} → (vs : List (Vec X Global)) (n : ℕ) (v : Vec X Global)
    → n < length vs → v ≡ get_or vs n v → items_at vs n ≡ v.items
items_at_read {X = X} vs n v l e =
    items_at_get vs n v l ∙ ap (λ (u : Vec X Global). u.items) (sym e)

pub items_at_past : {X : Type 0} → (vs : List (Vec X Global)) (n : ℕ) → length vs ≤ n
    → items_at vs n ≡ []
items_at_past [] n l = refl
items_at_past (w ∷ vs) zero l = elim l [ ]
items_at_past (w ∷ vs) (suc n) l = items_at_past vs n (omega arith)

pub items_at_set : {X : Type 0} → (vs : List (Vec X Global)) (n : ℕ) (v : Vec X Global)
    → n < length vs → items_at (set vs n v) n ≡ v.items
items_at_set [] n v l = elim l [ ]
items_at_set (w ∷ vs) zero v l = refl
items_at_set (w ∷ vs) (suc n) v l = items_at_set vs n v (omega arith)

pub items_at_other : {X : Type 0} → (vs : List (Vec X Global)) (n k : ℕ) (v : Vec X Global)
    → k ≢ n → items_at (set vs n v) k ≡ items_at vs k
items_at_other [] n k v q = refl
items_at_other (w ∷ vs) zero zero v q = elim (q refl) [ ]
items_at_other (w ∷ vs) zero (suc k) v q = refl
items_at_other (w ∷ vs) (suc n) zero v q = refl
items_at_other (w ∷ vs) (suc n) (suc k) v q = items_at_other vs n k v (λ e. q (ap suc e))

-- an empty vector at the end is as none
pub items_at_more : {X : Type 0} → (vs : List (Vec X Global)) (v : Vec X Global) (k : ℕ)
    → v.items ≡ [] → items_at (vs ++ v ∷ []) k ≡ items_at vs k
items_at_more [] v zero e = e
items_at_more [] v (suc k) e = refl
items_at_more (w ∷ vs) v zero e = refl
items_at_more (w ∷ vs) v (suc k) e = items_at_more vs v k e

-- a front of the vectors
items_at_take : {X : Type 0} → (vs : List (Vec X Global)) (n k : ℕ) → k < n
    → items_at (take n vs) k ≡ items_at vs k
items_at_take vs zero k l = elim l [ ]
items_at_take [] (suc n) k l = refl
items_at_take (w ∷ vs) (suc n) zero l = refl
items_at_take (w ∷ vs) (suc n) (suc k) l = items_at_take vs n k (omega arith)

pub front_kept : {X : Type 0} → (vs front : List (Vec X Global)) (n k : ℕ) → front ≡ take n vs
    → k < n → items_at front k ≡ items_at vs k
front_kept vs front n k e l = ap (λ ws. items_at ws k) e ∙ items_at_take vs n k l

pub front_ends : {X : Type 0} → (vs front : List (Vec X Global)) (n k : ℕ) → front ≡ take n vs
    → n ≤ k → items_at front k ≡ []
front_ends vs front n k e l =
    items_at_past front k (let size = ap length e in omega (arith, size, length-take n vs))

-- two numbers of one page
pub same_number : (n k : ℕ) → n / 64 ≡ k / 64 → n % 64 ≡ k % 64 → n ≡ k
same_number n k a b = omega arith

-- bytes of the image after what is held of a page
fill_rom : (rom page : List ℕ) (n start stop i : ℕ)
    → start ≡ min (length rom) (n * 256 + length page) → stop ≡ min (length rom) (n * 256 + 256)
    → i / 256 ≡ n
    → slice_index_or (page ++ take (stop - start) (drop start rom)) (i % 256) (slice_index rom i)
    ≡ slice_index_or page (i % 256) (slice_index rom i)
fill_rom rom page n start stop i e f h =
    let k = i % 256 in
    elim (cases_lt k (length page)) [
      | inl low ↦ get_or_append_left page _ _ k low
      | inr high ↦ get_or-append_right page _ (length page) k _ refl high
          ∙ elim (cases_lt (k - length page) (stop - start)) [
            | inl within ↦ get_or-take (stop - start) (drop start rom) (k - length page) _ within
                ∙ get_or-drop start rom (k - length page) _
                ∙ get_or_default rom (start + (k - length page)) _ 0 (omega arith)
                ∙ ap (slice_index rom) (omega arith) ∙ sym (get_or_past page k _ high)
            | inr past ↦ get_or_past (take (stop - start) (drop start rom)) (k - length page) _
                (omega (arith, length-take (stop - start) (drop start rom)))
                ∙ sym (get_or_past page k _ high)
          ]
    ]

-- zeros after what is held of a page, past the image
fill_zero : (rom page : List ℕ) (n i : ℕ) → i / 256 ≡ n
    → length rom ≤ n * 256 + length page ⊎ (256 ≤ length page)
    → slice_index_or (take 256 page ++ replicate (256 - length page) 0) (i % 256)
    (slice_index rom i) ≡ slice_index_or page (i % 256) (slice_index rom i)
fill_zero rom page n i h past =
    let k = i % 256 in
    let t = length-take 256 page in
    elim (cases_lt k (length page)) [
      | inl low ↦ get_or_append_left (take 256 page) _ _ k (omega arith)
          ∙ get_or-take 256 page k _ (omega arith)
      | inr high ↦ elim past [
        | inl end ↦ get_or-append_right (take 256 page) _ (length page) k _ (omega arith) high
            ∙ get_or-replicate (256 - length page) (k - length page) 0 _ (omega arith)
            ∙ sym (get_or_past page k _ high ∙ get_or_past rom i 0 (omega arith))
        | inr whole ↦ absurd (omega arith)
      ]
    ]

-- a page of whose bytes the image's are held now
fill_shows : (rom page : List ℕ) (n start stop : ℕ)
    → start ≡ min (length rom) (n * 256 + length page) → stop ≡ min (length rom) (n * 256 + 256)
    → length page < 256 → ShowsPage rom n page (page ++ take (stop - start) (drop start rom))
fill_shows rom page n start stop e f l = record {
  same = λ i h. fill_rom rom page n start stop i e f h;
  held = λ h. absurd (omega arith);
}

fill_rest : (rom page : List ℕ) (n : ℕ)
    → length rom ≤ n * 256 + length page ⊎ (256 ≤ length page)
    → ShowsPage rom n page (take 256 page ++ replicate (256 - length page) 0)
fill_rest rom page n past = record {
  same = λ i h. fill_zero rom page n i h past;
  held = λ h. omega (
    arith,
    length-append (take 256 page) (replicate (256 - length page) 0),
    length-take 256 page,
  );
}

pub shows_none : (rom page : List ℕ) (n : ℕ) → ShowsPage rom n page page
shows_none rom page n = record { same = λ i h. refl; held = λ h. h }

pub shows_more : (rom page next last : List ℕ) (n : ℕ) → ShowsPage rom n page next
    → ShowsPage rom n next last → ShowsPage rom n page last
shows_more rom page next last n a b = record {
  same = λ i h. b.same i h
      ∙ a.same i h;
  held = λ h. b.held (a.held h);
}

pub page_in_get : (rows : Rows) (n : ℕ) (d : Vec (Vec ℕ Global) Global) → n / 64 < length rows
    → page_in rows n ≡ items_at (get_or rows (n / 64) d).items (n % 64)
unfolding page_in
page_in_get rows n d l = ap (λ ps. items_at ps (n % 64)) (items_at_get rows (n / 64) d l)

pub page_in_past : (rows : Rows) (n : ℕ) → length rows ≤ n / 64 → page_in rows n ≡ []
unfolding page_in
page_in_past rows n l = ap (λ ps. items_at ps (n % 64)) (items_at_past rows (n / 64) l)

pub page_in_set : (rows : Rows) (n : ℕ) (v : Vec (Vec ℕ Global) Global) → n / 64 < length rows
    → page_in (set rows (n / 64) v) n ≡ items_at v.items (n % 64)
unfolding page_in
page_in_set rows n v l = ap (λ ps. items_at ps (n % 64)) (items_at_set rows (n / 64) v l)

pub page_in_other : (rows : Rows) (n k : ℕ) (v d : Vec (Vec ℕ Global) Global)
    → n / 64 < length rows → ((j : ℕ) → j ≢ n % 64
    → items_at v.items j ≡ items_at (get_or rows (n / 64) d).items j) → k ≢ n
    → page_in (set rows (n / 64) v) k ≡ page_in rows k
unfolding page_in
page_in_other rows n k v d l same q = elim (cases_eq (k / 64) (n / 64)) [
  | inl e ↦
      let other : k % 64 ≢ n % 64 = λ f. q (same_number k n e f) in
      rw (e, items_at_set rows (n / 64) v l, items_at_get rows (n / 64) d l) (same (k % 64) other)
  | inr other ↦ ap (λ ps. items_at ps (k % 64)) (items_at_other rows (n / 64) (k / 64) v other)
]

fill_whole : (rom page next : List ℕ) (n start stop : ℕ)
    → next ≡ page ++ take (stop - start) (drop start rom)
    → start ≡ min (length rom) (n * 256 + length page) → stop ≡ min (length rom) (n * 256 + 256)
    → length page < 256 → length rom ≤ n * 256 + length next ⊎ (256 ≤ length next)
fill_whole rom page next n start stop g e f l =
    let z = ap length g ∙ length-append page (take (stop - start) (drop start rom)) in
    let t = length-take (stop - start) (drop start rom) in
    let d = length-drop start rom in
    elim (cases_lt (length next) 256) [
      | inl low ↦ inl (omega (arith, z, t, d))
      | inr high ↦ inr high
    ]

fill_then : (rom next last : List ℕ) (n more : ℕ) (b : Bool) → more ≡ length next
    → length rom ≤ n * 256 + length next ⊎ (256 ≤ length next)
    → last ≡ (if b then take 256 next ++ replicate (256 - more) 0 else next)
    → ShowsPage rom n next last
fill_then rom next last n more true h past r = subst (ShowsPage rom n next) (sym (rw h at r))
    (fill_rest rom next n past)
fill_then rom next last n more false h past r = subst (ShowsPage rom n next) (sym r)
    (shows_none rom next n)

-- what is held of a page after the image's bytes and then the zeros were added, or the first alone
pub fill_last : (rom page was next last : List ℕ) (n start stop len more : ℕ) (b : Bool)
    → was ≡ page → len ≡ length page → len < 256 → start ≡ min (length rom) (n * 256 + len)
    → stop ≡ min (length rom) (n * 256 + 256)
    → next ≡ was ++ take (stop - start) (drop start rom) → more ≡ length next
    → last ≡ (if b then take 256 next ++ replicate (256 - more) 0 else next)
    → ShowsPage rom n page last
fill_last rom page was next last n start stop len more b w m l e f g h r =
    let begun : next ≡ page ++ take (stop - start) (drop start rom) = rw w at g in
    let first : ShowsPage rom n page next = subst (ShowsPage rom n page) (sym begun)
    (fill_shows rom page n start stop (rw m at e) f (omega arith)) in
    shows_more rom page next last n first (fill_then rom next last n more b h
    (fill_whole rom page next n start stop begun (rw m at e) f (omega arith)) r)

pub shows_same : (rom old new : List ℕ) (n : ℕ) → new ≡ old → ShowsPage rom n old new
shows_same rom old new n e = subst (ShowsPage rom n old) (sym e) (shows_none rom old n)

-- a page of a row that is shown as before
pub shows_set : (rom : List ℕ) (vs was : List (Vec ℕ Global)) (number j : ℕ) (v d : Vec ℕ Global)
    → j < length vs → items_at vs j ≡ items_at was j → d ≡ get_or vs j d
    → ShowsPage rom number d.items v.items
    → ShowsPage rom number (items_at was j) (items_at (set vs j v) j)
shows_set rom vs was number j v d l same e shows =
    rw (← same, items_at_set vs j v l, items_at_read vs j d l e) shows

-- a page that is shown as before, among others that stay
pub shows_all : (rom : List ℕ) (old new : Rows) (n : ℕ)
    → ShowsPage rom n (page_in old n) (page_in new n) → ((k : ℕ) → k ≢ n
    → page_in new k ≡ page_in old k) → Shows rom old new
unfolding shown
shows_all rom old new n at_n kept = record {
  same = λ i. elim (cases_eq (i / 256) n) [
    | inl e ↦ rw e (at_n.same i e)
    | inr q ↦ rw (kept (i / 256) q) refl
  ];
  held = λ k h. elim (cases_eq k n) [
    | inl e ↦ rw e (at_n.held (rw e at h))
    | inr q ↦ rw (kept k q) h
  ];
}

-- the same pages
pub shows_alike : (rom : List ℕ) (old new : Rows) → ((k : ℕ) → page_in new k ≡ page_in old k)
    → Shows rom old new
shows_alike rom old new same = shows_all rom old new 0 (shows_same rom _ _ 0 (same 0))
    (λ k q. same k)

-- the same rows have the same pages
pub same_pages : (old new : Rows) → ((k : ℕ) → items_at new k ≡ items_at old k) → (k : ℕ)
    → page_in new k ≡ page_in old k
unfolding page_in
same_pages old new same k = ap (λ ps. items_at ps (k % 64)) (same (k / 64))

pub shows_rows : (rom : List ℕ) (old new : Rows) → ((k : ℕ) → items_at new k ≡ items_at old k)
    → Shows rom old new
shows_rows rom old new same = shows_alike rom old new (same_pages old new same)

pub shows_then : (rom : List ℕ) (a b d : Rows) → Shows rom a b → Shows rom b d → Shows rom a d
shows_then rom a b d f g = record {
  same = λ i. g.same i
      ∙ f.same i;
  held = λ n h. g.held n (f.held n h);
}

-- a page that is held in a row
pub hold_shows : (rom : List ℕ) (was vs : Rows) (n : ℕ) (v d : Vec (Vec ℕ Global) Global)
    → n / 64 < length vs → ((k : ℕ) → items_at vs k ≡ items_at was k) → d ≡ get_or vs (n / 64) d
    → ShowsPage rom n (items_at d.items (n % 64)) (items_at v.items (n % 64)) → ((k : ℕ)
    → k ≢ n % 64 → items_at v.items k ≡ items_at d.items k) → Shows rom was (set vs (n / 64) v)
hold_shows rom was vs n v d l same e shows kept =
    let here : page_in vs n ≡ items_at d.items (n % 64) = page_in_get vs n d l
    ∙ ap (λ (u : Vec (Vec ℕ Global) Global). items_at u.items (n % 64)) (sym e) in
    shows_then rom was vs (set vs (n / 64) v) (shows_rows rom was vs same)
    (shows_all rom vs (set vs (n / 64) v) n (rw (here, page_in_set vs n v l) shows)
    (λ k q. page_in_other vs n k v d l (λ j p. kept j p
    ∙ ap (λ (u : Vec (Vec ℕ Global) Global). items_at u.items j) e) q))

pub items_at_front : {X : Type 0} → (vs : List (Vec X Global)) (v : Vec X Global) (k : ℕ)
    → k < length vs → items_at (vs ++ v ∷ []) k ≡ items_at vs k
items_at_front [] v k l = elim l [ ]
items_at_front (w ∷ vs) v zero l = refl
items_at_front (w ∷ vs) v (suc k) l = items_at_front vs v k (omega arith)

pub items_at_last : {X : Type 0} → (vs : List (Vec X Global)) (v : Vec X Global) (i : ℕ)
    → length vs ≡ i → items_at (vs ++ v ∷ []) i ≡ v.items
items_at_last [] v zero n = refl
items_at_last [] v (suc i) n = absurd (omega arith)
items_at_last (w ∷ vs) v zero n = absurd (omega arith)
items_at_last (w ∷ vs) v (suc i) n = items_at_last vs v i (omega arith)

-- one more vector of a copy, whose items are related to those of the original
pub copied_more : {X : Type 0} → (R : List X → List X
    → Type 0) (to from : List (Vec X Global)) (i : ℕ) (v : Vec X Global) → length to ≡ i
    → R v.items (items_at from i) → ((k : ℕ) → k < i → R (items_at to k) (items_at from k))
    → (k : ℕ) → k < i + 1 → R (items_at (to ++ v ∷ []) k) (items_at from k)
copied_more {X = X} R to from i v n here below k l = elim (cases_lt k i) [
  | inl low ↦ subst (λ xs. R xs (items_at from k)) (sym (items_at_front to v k (omega arith)))
      (below k low)
  | inr high ↦
      let e : i ≡ k = omega arith in
      subst (λ j. R (items_at (to ++ v ∷ []) j) (items_at from j)) e (subst (λ xs. R xs
      (items_at from i)) (sym (items_at_last to v i n)) here)
]

-- a copy of pages, past its end too
pub copied_pages : (to from : List (Vec ℕ Global)) → length to ≡ length from → ((k : ℕ)
    → k < length from → items_at to k ≡ items_at from k) → (k : ℕ) → items_at to k ≡ items_at from k
copied_pages to from n same k = elim (cases_lt k (length from)) [
  | inl low ↦ same k low
  | inr high ↦ items_at_past to k (omega arith) ∙ sym (items_at_past from k high)
]

pub copied_rows : (to from : Rows) → length to ≡ length from → ((k : ℕ) → k < length from
    → (j : ℕ) → items_at (items_at to k) j ≡ items_at (items_at from k) j) → (k : ℕ)
    → page_in to k ≡ page_in from k
unfolding page_in
copied_rows to from n same k = elim (cases_lt (k / 64) (length from)) [
  | inl low ↦ same (k / 64) low (k % 64)
  | inr high ↦ rw (items_at_past to (k / 64) (omega arith), items_at_past from (k / 64) high) refl
]

-- pages that are given up
pub cuts : (rom : List ℕ) (old new : Rows) (size : ℕ)
    → page_in new (size / 256) ≡ take (size % 256) (page_in old (size / 256)) → ((k : ℕ)
    → k < size / 256 → page_in new k ≡ page_in old k) → ((k : ℕ) → size / 256 < k
    → page_in new k ≡ []) → Cuts rom old new size
unfolding shown
cuts rom old new size here below past = record {
  below = λ i l. elim (cases_lt (i / 256) (size / 256)) [
    | inl low ↦ rw (below (i / 256) low) refl
    | inr high ↦
        let e : i / 256 ≡ size / 256 = omega arith in
        rw (e, here) (get_or-take (size % 256) (page_in old (size / 256)) (i % 256)
        (slice_index rom i) (omega arith))
  ];
  past = λ i l. elim (cases_lt (size / 256) (i / 256)) [
    | inl low ↦ rw (past (i / 256) low) refl
    | inr high ↦
        let e : i / 256 ≡ size / 256 = omega arith in
        let n = length-take (size % 256) (page_in old (size / 256)) in
        rw (e, here) (get_or_past (take (size % 256) (page_in old (size / 256))) (i % 256)
        (slice_index rom i) (omega (arith, n)))
  ];
}

-- rows of which a front stays, whose last one is cut
pub cut_rows : (rom : List ℕ) (old vs : Rows) (size : ℕ) (v d : Vec (Vec ℕ Global) Global)
    → vs ≡ take (size / 256 / 64 + 1) old → size / 256 / 64 < length vs
    → d ≡ get_or vs (size / 256 / 64) d
    → items_at v.items (size / 256 % 64) ≡ take (size % 256) (items_at d.items (size / 256 % 64))
    → ((k : ℕ) → k < size / 256 % 64 → items_at v.items k ≡ items_at d.items k) → ((k : ℕ)
    → size / 256 % 64 < k → items_at v.items k ≡ [])
    → Cuts rom old (set vs (size / 256 / 64) v) size
unfolding page_in
cut_rows rom old vs size v d front l e here below past =
    let r = size / 256 / 64 in
    let row : d.items ≡ items_at old r =
    sym (items_at_read vs r d l e) ∙ front_kept old vs (r + 1) r front (omega arith) in
    cuts rom old (set vs r v) size
    (page_in_set vs (size / 256) v l ∙ here
    ∙ ap (λ ps. take (size % 256) (items_at ps (size / 256 % 64))) row)
    (λ k low. elim (cases_lt (k / 64) r) [
      | inl less ↦
          let q : k / 64 ≢ r = omega arith in
          ap (λ ps. items_at ps (k % 64)) (items_at_other vs r (k / 64) v q
          ∙ front_kept old vs (r + 1) (k / 64) front (omega arith))
      | inr more ↦
          let f : k / 64 ≡ r = omega arith in
          rw (f, items_at_set vs r v l, ← row) (below (k % 64) (omega arith))
    ])
    (λ k high. elim (cases_lt r (k / 64)) [
      | inl more ↦
          let q : k / 64 ≢ r = omega arith in
          ap (λ ps. items_at ps (k % 64)) (items_at_other vs r (k / 64) v q
          ∙ front_ends old vs (r + 1) (k / 64) front (omega arith))
      | inr less ↦
          let f : k / 64 ≡ r = omega arith in
          rw (f, items_at_set vs r v l) (past (k % 64) (omega arith))
    ])

pub cut_short : (rom : List ℕ) (old vs : Rows) (size : ℕ) → vs ≡ take (size / 256 / 64 + 1) old
    → length vs ≤ size / 256 / 64 → Cuts rom old vs size
unfolding page_in
cut_short rom old vs size front l =
    let r = size / 256 / 64 in
    let none : items_at vs r ≡ [] = items_at_past vs r l in
    let was : items_at old r ≡ [] =
    sym (front_kept old vs (r + 1) r front (omega arith)) ∙ none in
    cuts rom old vs size (rw (none, was) (sym (take_all (size % 256) [] (omega arith))))
    (λ k low. ap (λ ps. items_at ps (k % 64))
    (front_kept old vs (r + 1) (k / 64) front (omega arith)))
    (λ k high. ap (λ ps. items_at ps (k % 64)) (items_at_past vs (k / 64) (omega arith)))
