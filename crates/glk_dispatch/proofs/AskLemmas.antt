-- Requests that change keep their windows.
use Rattle.std.proofs.Common.{zero, suc, take, drop, ◌++◌, ◌||◌, ◌≡◌, ◌⊎◌, inl, inr, ℕ, ◌==◌, Bool}
use Rattle.std.proofs.Common.{true, false, List, [], ◌∷◌, refl, sym, ap, ◌∙◌, arith, Option, Some}
use Rattle.std.proofs.Common.{None, option_map, is_some, if◌then◌else◌}
use Rattle.std.proofs.lemmas.Grind.{common_steps}
use Rattle.std.proofs.lemmas.Bool.{cases_Bool}
use Rattle.glk_numbers.specs.Numbered.{found, has}
use Rattle.glk_input.specs.Request as request
use Rattle.glk_input.specs.declared.request.Request.{Request}
use Rattle.glk_input.specs.declared.request.WindowInput.{WindowInput}
use Rattle.glk_dispatch.specs.Events.{may_ask}
use Rattle.glk_dispatch.specs.declared.glk.Glk.{Glk}
use Rattle.glk_dispatch.specs.Valid.{AreAsked}
use Rattle.glk_dispatch.specs.Links.{Link, Links, links}
use Rattle.glk_numbers.proofs.FoundLemmas.{found-changed, has-found}
use Rattle.glk_dispatch.proofs.PartLemmas.{is_window-link, kind-link, kind_at}

abbrev pub request_in : Option WindowInput → Option Request
request_in None = None
request_in (Some w) = w.request

pub request-found : (ws : List WindowInput) (m : ℕ) → request.window_request ws m
    ≡ request_in (found request.input_window_number ws m)
unfolding found
request-found [] m = refl
request-found (w ∷ ws) m = elim (cases_Bool (w.win == m)) [
  | inl e ↦ ap (λ b. if b then w.request else request.window_request ws m) e
      ∙ sym (ap (λ b. request_in (if b then Some w else found request.input_window_number ws m)) e)
  | inr e ↦ ap (λ b. if b then w.request else request.window_request ws m) e ∙ request-found ws m
      ∙ sym (ap (λ b. request_in (if b then Some w else found request.input_window_number ws m)) e)
]

-- one window's entry changed: it is asked by a window that may, or was asked before
pub asked-changed : (g : Glk) (f : WindowInput → WindowInput) (win : ℕ)
    → ((w : WindowInput) → (f w).win ≡ w.win)
    → ((w : WindowInput) → is_some (f w).request ≡ true
    → (may_ask g win ≡ true) ⊎ (is_some w.request ≡ true))
    → AreAsked g → AreAsked (record g { requests = request.window_input_changed f g.requests win })
asked-changed g f win same may v = record {
  listed =
      λ m. has-found request.input_window_number (request.window_input_changed f g.requests win) m
      ∙ ap is_some (found-changed request.input_window_number f same g.requests win m)
      ∙ some-there (m == win) (found request.input_window_number g.requests m)
      ∙ sym (has-found request.input_window_number g.requests m) ∙ v.listed m;
  askers = λ m i.
      asker m (found request.input_window_number g.requests m) refl (cases_Bool (m == win))
      (sym (ap is_some (request-found (request.window_input_changed f g.requests win) m
      ∙ ap request_in (found-changed request.input_window_number f same g.requests win m))) ∙ i);
}
  where
    some-there : (b : Bool) (o : Option WindowInput) → is_some (if b then option_map f o else o)
        ≡ is_some o
    some-there true None = refl
    some-there true (Some w) = refl
    some-there false o = refl

    asker-was : (m : ℕ) (o : Option WindowInput)
        → found request.input_window_number g.requests m ≡ o
        → is_some (request_in o) ≡ true → may_ask g m ≡ true
    asker-was m o e i = v.askers m (ap is_some (request-found g.requests m ∙ ap request_in e) ∙ i)

    asker-new : (m : ℕ) (o : Option WindowInput)
        → found request.input_window_number g.requests m ≡ o → m
        ≡ win → is_some (request_in (option_map f o)) ≡ true → may_ask g m ≡ true
    asker-new m None e z i = absurd cc
    asker-new m (Some w) e z i = elim (may w i) [
      | inl h ↦ ap (may_ask g) z ∙ h
      | inr h ↦ asker-was m (Some w) e h
    ]

    asker : (m : ℕ) (o : Option WindowInput) → found request.input_window_number g.requests m ≡ o
        → ((m == win) ≡ true) ⊎ ((m == win) ≡ false)
        → is_some (request_in (if m == win then option_map f o else o)) ≡ true → may_ask g m ≡ true
    asker m o e (inl h) i = asker-new m o e (grind (arith, common_steps, h))
        (sym (ap (λ b. is_some (request_in (if b then option_map f o else o))) h) ∙ i)
    asker m o e (inr h) i = asker-was m o e (sym (ap
        (λ b. is_some (request_in (if b then option_map f o else o))) h) ∙ i)

-- the entry of a live window is there
pub with-live : (g : Glk) (win : ℕ)
    → AreAsked g
    → has request.input_window_number g.requests win ≡ true
    → request.with_window g.requests win ≡ g.requests
with-live g win v e = rw e refl

-- ---- the entries beside windows as they are named

-- a buffer or a grid
abbrev pub may_be_asked : Option Link → Bool
may_be_asked None = false
may_be_asked (Some l) = l.kind == 3 || l.kind == 4

pub record AskedBy (w : Links) (rs : List WindowInput) : Type 0 where
  pub listed : (m : ℕ) → has request.input_window_number rs m ≡ is_some (w m)
  pub askers : (m : ℕ) → is_some (request.window_request rs m) ≡ true → may_be_asked (w m) ≡ true

may-link : (g : Glk) (m : ℕ) → may_ask g m ≡ may_be_asked (links g m)
may-link g m = ap (λ k. k == 3 || k == 4) (kind-link g m) ∙ at-kind (links g m)
  where
    at-kind : (o : Option Link) → (kind_at o == 3 || kind_at o == 4) ≡ may_be_asked o
    at-kind None = refl
    at-kind (Some l) = refl

pub asked-by : (g : Glk) → AreAsked g → AskedBy (links g) g.requests
asked-by g v = record {
  listed = λ m. v.listed m ∙ is_window-link g m;
  askers = λ m i. sym (may-link g m) ∙ v.askers m i;
}

pub asked-of : (g : Glk) → AskedBy (links g) g.requests → AreAsked g
asked-of g v = record {
  listed = λ m. v.listed m ∙ sym (is_window-link g m);
  askers = λ m i. may-link g m ∙ v.askers m i;
}

pub asked-same : (w v : Links) (rs : List WindowInput) → ((m : ℕ) → v m ≡ w m) → AskedBy w rs
    → AskedBy v rs
asked-same w v rs h a = record {
  listed = λ m. a.listed m ∙ ap is_some (sym (h m));
  askers = λ m i. ap may_be_asked (h m) ∙ a.askers m i;
}

-- ---- a window less

has-dropped : (rs : List WindowInput) (n m : ℕ)
    → has request.input_window_number (request.without_window rs n) m
    ≡ (if m == n then false else has request.input_window_number rs m)
unfolding has
has-dropped [] n m = grind (arith, common_steps)
has-dropped (w ∷ ws) n m = grind (arith, common_steps, has-dropped ws n m)

asked-dropped : (rs : List WindowInput) (n m : ℕ)
    → request.window_request (request.without_window rs n) m
    ≡ (if m == n then None else request.window_request rs m)
asked-dropped [] n m = grind (arith, common_steps)
asked-dropped (w ∷ ws) n m = grind (arith, common_steps, asked-dropped ws n m)

may-kind : (f : Link → Link) → ((l : Link) → (f l).kind ≡ l.kind) → (o : Option Link)
    → may_be_asked (option_map f o) ≡ may_be_asked o
may-kind f same None = refl
may-kind f same (Some l) = ap (λ k. k == 3 || k == 4) (same l)

pub asked-less : (w v : Links) (rs : List WindowInput) (n : ℕ) (f : Link → Link)
    → ((l : Link) → (f l).kind ≡ l.kind)
    → ((m : ℕ) → v m ≡ (if m == n then None else option_map f (w m)))
    → AskedBy w rs → AskedBy v (request.without_window rs n)
asked-less w v rs n f same h a = record {
  listed = λ m. has-dropped rs n m ∙ ap (λ b. if m == n then false else b) (a.listed m)
      ∙ some-less (m == n) (w m) ∙ ap is_some (sym (h m));
  askers = λ m i. ap may_be_asked (h m)
      ∙ asker-less m (m == n) (ap is_some (sym (asked-dropped rs n m)) ∙ i);
}
  where
    some-less : (b : Bool) (o : Option Link)
        → (if b then false else is_some o) ≡ is_some (if b then None else option_map f o)
    some-less true o = refl
    some-less false None = refl
    some-less false (Some l) = refl

    asker-less : (m : ℕ) (b : Bool)
        → is_some (if b then None else request.window_request rs m) ≡ true
        → may_be_asked (if b then None else option_map f (w m)) ≡ true
    asker-less m true i = absurd cc
    asker-less m false i = may-kind f same (w m) ∙ a.askers m i

-- ---- a window more

has-put : (rs : List WindowInput) (i : ℕ) (x : WindowInput) (m : ℕ)
    → has request.input_window_number (take i rs ++ x ∷ drop i rs) m
    ≡ (x.win == m || has request.input_window_number rs m)
unfolding has
has-put rs zero x m = refl
has-put [] (suc i) x m = refl
has-put (w ∷ ws) (suc i) x m = grind (arith, common_steps, has-put ws i x m)

asked-none : (rs : List WindowInput) (m : ℕ) → has request.input_window_number rs m ≡ false
    → request.window_request rs m ≡ None
unfolding has
asked-none [] m e = refl
asked-none (w ∷ ws) m e = grind (arith, common_steps, e, asked-none ws m)

asked-put : (rs : List WindowInput) (i : ℕ) (x : WindowInput) (m : ℕ) → x.request ≡ None
    → has request.input_window_number rs x.win ≡ false
    → request.window_request (take i rs ++ x ∷ drop i rs) m ≡ request.window_request rs m
unfolding has
asked-put rs zero x m none free = elim (cases_Bool (x.win == m)) [
  | inl e ↦
      let x_is : x.win ≡ m = grind (arith, common_steps, e) in
      ap (λ b. if b then x.request else request.window_request rs m) e ∙ none
      ∙ sym (asked-none rs m (ap (has request.input_window_number rs) (sym x_is) ∙ free))
  | inr e ↦ ap (λ b. if b then x.request else request.window_request rs m) e
]
asked-put [] (suc i) x m none free = grind (arith, common_steps, none)
asked-put (w ∷ ws) (suc i) x m none free =
    grind (arith, common_steps, free, none, asked-put ws i x m none)

-- a link at one number
abbrev pub with_link : Links → ℕ → Link → Links
with_link w a l m = if m == a then Some l else w m

pub asked-more : (w : Links) (rs : List WindowInput) (a : ℕ) (l : Link) → w a ≡ None
    → AskedBy w rs → AskedBy (with_link w a l) (request.with_window rs a)
asked-more w rs a l none v =
    let free : has request.input_window_number rs a ≡ false = v.listed a ∙ ap is_some none in
    rw free (record {
      listed = λ m. has-put rs (request.count_below rs a) (request.window_without_request a) m
          ∙ ap (λ b. a == m || b) (v.listed m) ∙ some-more m (cases_Bool (m == a));
      askers = λ m i. asker-more m (cases_Bool (m == a))
          (ap is_some (sym
          (asked-put rs (request.count_below rs a) (request.window_without_request a) m refl free))
          ∙ i);
    })
  where
    some-more : (m : ℕ) → ((m == a) ≡ true) ⊎ ((m == a) ≡ false)
        → (a == m || is_some (w m)) ≡ is_some (with_link w a l m)
    some-more m (inl e) = grind (arith, common_steps, e)
    some-more m (inr e) = grind (arith, common_steps, e)

    asker-more : (m : ℕ) → ((m == a) ≡ true) ⊎ ((m == a) ≡ false)
        → is_some (request.window_request rs m) ≡ true
        → may_be_asked (with_link w a l m) ≡ true
    asker-more m (inl e) i =
        let m_is : m ≡ a = grind (arith, common_steps, e) in
        let c : false ≡ true = sym (ap may_be_asked none)
        ∙ ap (λ k. may_be_asked (w k)) (sym m_is) ∙ v.askers m i in
        absurd cc
    asker-more m (inr e) i =
        ap (λ b. may_be_asked (if b then Some l else w m)) e ∙ v.askers m i
