-- What each step of a call leaves of windows and streams as they name each other.
use Rattle.std.proofs.Common.{◌≡◌, ◌≢◌, inl, inr, ℕ, zero, suc, ◌==◌, ◌||◌, ◌&&◌}
use Rattle.std.proofs.Common.{not, Bool, true, false, List, [], ◌∷◌, length, refl, sym, ap, ◌∙◌}
use Rattle.std.proofs.Common.{arith, Option, Some, None, option_map, is_some, if◌then◌else◌}
use Rattle.std.proofs.lemmas.Grind.{common_steps}
use Rattle.std.proofs.lemmas.Bool.{cases_Bool, ne_eqb, not_from_false}
use Rattle.glk_numbers.specs.Numbered.{ascends, found}
use Rattle.glk_windows.specs.Tree as tree
use Rattle.glk_windows.specs.Reading as reading
use Rattle.glk_windows.specs.Arranging as arranging
use Rattle.glk_windows.specs.Valid as wvalid
use Rattle.glk_streams.proofs.ValidLaws.{parts_of, held_of}
use Rattle.glk_dispatch.specs.Valid.{AreValid}
use Rattle.glk_windows.specs.declared.window.Window.{Window}
use Rattle.glk_streams.specs.Streams as streams
use Rattle.glk_streams.specs.declared.stream.Stream.{Stream}
use Rattle.glk_streams.specs.declared.stream.Target as target
use Rattle.glk_streams.specs.declared.stream.Target.TheVariants as to
use Rattle.glk_dispatch.specs.Glk.{is_stream, window_of_stream}
use Rattle.glk_dispatch.specs.Windows as rows
use Rattle.glk_dispatch.specs.declared.glk.Glk.{Glk}
use Rattle.glk_dispatch.specs.Links.{Link, AreLinked, window_link, stream_end, links, stream_ends}
use Rattle.glk_dispatch.specs.Links.{next_echo, owner, owner_in, echo_by, echo_in, live_stream}
use Rattle.glk_numbers.proofs.FoundLemmas.{found-changed, found-low, has-found}
use Rattle.glk_dispatch.proofs.LinkLemmas.{linked-echoed, echoing, owns}
use Rattle.glk_dispatch.proofs.LoopLemmas.{AreListed, is_in, passes, passes-none, passes-within}
use Rattle.glk_dispatch.proofs.LoopLemmas.{walk, walk-passes}

-- ---- windows and streams have numbers from 1 on

pub window-none : (g : Glk) → wvalid.IsValidTree g.windows → links g 0 ≡ None
unfolding wvalid.IsOrdered
window-none g v =
    ap (option_map window_link)
    (found-low tree.window_number g.windows.slots 0 g.windows.next 0 v.ordered.1 (omega arith))

-- ---- the walk of the test for a loop

owner-window : (o : Option Stream) → owner (option_map stream_end o) ≡ None
    → streams.of_stream o 0 (λ s. streams.window_in s.target) ≡ 0
owner-window None e = refl
owner-window (Some s) e = owner-target s.target e
  where
    owner-target : (t : target.Target) → owner_in t ≡ None → streams.window_in t ≡ 0
    owner-target (to.Window w) e = absurd cc
    owner-target (to.Memory b l) e = refl
    owner-target (to.File u n) e = refl

owner-some : (o : Option Stream) (win : ℕ) → owner (option_map stream_end o) ≡ Some win
    → streams.of_stream o 0 (λ s. streams.window_in s.target) ≡ win
owner-some None win e = absurd cc
owner-some (Some s) win e = owner-target s.target win e
  where
    owner-target : (t : target.Target) (win : ℕ) → owner_in t ≡ Some win → streams.window_in t ≡ win
    owner-target (to.Window w) win e = (let x : Some w ≡ Some win = e in cc)
    owner-target (to.Memory b l) win e = absurd cc
    owner-target (to.File u n) win e = absurd cc

pub echo-link : (o : Option Window)
    → tree.read_window 0 (λ w. w.echo) o ≡ echo_in (option_map window_link o)
echo-link None = refl
echo-link (Some w) = refl

pub streams-ascend : (g : Glk) → AreValid g → ascends streams.stream_number 0 g.streams.next
    g.streams.streams ≡ true
streams-ascend g v = (held_of g.streams.next g.streams.current g.streams.streams
    (parts_of g.streams v.streams).streams).order

pub stream-none : (g : Glk) → AreValid g → stream_ends g 0 ≡ None
stream-none g v = ap (option_map stream_end) (found-low streams.stream_number g.streams.streams 0
    g.streams.next 0 (streams-ascend g v) (omega arith))

pub window-some : (g : Glk) (o : Option ℕ) (n : ℕ) → owner (stream_ends g n) ≡ o
    → (o ≡ None → window_of_stream g n ≡ 0) × ((x : ℕ) → o ≡ Some x → window_of_stream g n ≡ x)
window-some g o n e = (
  λ h. owner-window (streams.stream_at g.streams n) (e ∙ h),
  λ x h. owner-some (streams.stream_at g.streams n) x (e ∙ h),
)

-- the test looks at what the echoes pass
module _ (g : Glk) (valid : AreValid g) (v : AreLinked (links g) (stream_ends g)) (win : ℕ) where
  unfoldable pub follows : ℕ → ℕ
  follows = next_echo (links g) (stream_ends g)

  unfoldable pub comes : ℕ → Bool
  comes m = owns win (owner (stream_ends g m))

  reaches-on : (k n : ℕ) (o : Option ℕ) → owner (stream_ends g n) ≡ o
      → ((m : ℕ) → rows.reaches k g m win ≡ passes k follows comes m)
      → (not (window_of_stream g n == 0) && (window_of_stream g n == win || rows.reaches k g
      (reading.echo_of g.windows.slots (window_of_stream g n)) win))
      ≡ (comes n || passes k follows comes (follows n))
  unfolding follows comes
  reaches-on k n None e rest =
      ap (λ x. not (x == 0) && (x == win || rows.reaches k g (reading.echo_of g.windows.slots x)
      win)) ((window-some g None n e).0 refl)
      ∙ sym (passes-none follows comes (ap (λ x. owns win (owner x)) (stream-none g valid))
      (ap (λ x. echo_by (links g) (owner x)) (stream-none g valid)) k)
      ∙ sym (ap (λ x. owns win x || passes k follows comes (echo_by (links g) x)) e)
  reaches-on k n (Some x) e rest =
      let live = v.windows n x e in
      let not_zero : x ≢ 0 = λ z. let c : None
      ≡ Some n = sym (ap live_stream (ap (links g) z ∙ window-none g valid.windows))
      ∙ live in cc in
      ap (λ y. not (y == 0) && (y == win || rows.reaches k g (reading.echo_of g.windows.slots y)
      win)) ((window-some g (Some x) n e).1 x refl)
      ∙ ap (λ b. b && (x == win || rows.reaches k g (reading.echo_of g.windows.slots x) win))
      (not_from_false (x == 0) (ne_eqb x 0 not_zero))
      ∙ ap (λ y. x == win || rows.reaches k g y win) (echo-link (tree.window_at g.windows.slots x))
      ∙ ap (λ b. x == win || b) (rest (echo_in (links g x)))
      ∙ sym (ap (λ y. owns win y || passes k follows comes (echo_by (links g) y)) e)

  reaches-passes : (k n : ℕ) → rows.reaches k g n win ≡ passes k follows comes n
  unfolding rows.reaches passes
  reaches-passes zero n = refl
  reaches-passes (suc k) n = reaches-on k n (owner (stream_ends g n)) refl (reaches-passes k)

  live-listed : (ws : List Window) (x : ℕ) (l : Link)
      → option_map window_link (found tree.window_number ws x) ≡ Some l
      → is_in (λ (w : Window). w.echo == l.echo) ws ≡ true
  unfolding found is_in
  live-listed [] x l e = absurd cc
  live-listed (w ∷ ws) x l e = elim (cases_Bool (w.number == x)) [
    | inl h ↦
        let same : ◌≡◌ {A = Option Link} (Some (window_link w)) (Some l) = sym
        (ap (λ b. option_map window_link (if b then Some w else found tree.window_number ws x)) h)
        ∙ e in
        let echo : w.echo ≡ l.echo = cc in
        grind (arith, common_steps, echo)
    | inr h ↦
        let rest = live-listed ws x l (sym (ap (λ b. option_map window_link
        (if b then Some w else found tree.window_number ws x)) h) ∙ e) in
        grind (arith, common_steps, rest)
  ]

  echo-listed : (o : Option ℕ) (n : ℕ) → owner (stream_ends g n) ≡ o → is_some o ≡ true
      → is_in (λ (w : Window). w.echo == echo_by (links g) o) g.windows.slots ≡ true
  echo-listed None n e h = absurd cc
  echo-listed (Some x) n e h = listed-as (links g x) refl (v.windows n x e)
    where
      listed-as : (l : Option Link) → links g x ≡ l → live_stream (links g x) ≡ Some n
          → is_in (λ (w : Window). w.echo == echo_in (links g x)) g.windows.slots ≡ true
      listed-as None f s = (let c : None ≡ Some n = sym (ap live_stream f) ∙ s in cc)
      listed-as (Some l) f s =
          ap (λ y. is_in (λ (w : Window). w.echo == echo_in y) g.windows.slots) f
          ∙ live-listed g.windows.slots x l f

  pub all-listed : AreListed follows comes (λ n. is_some (owner (stream_ends g n)))
      (λ (w : Window). w.echo) g.windows.slots
  unfolding follows comes
  all-listed = record {
    listed = λ n h. echo-listed (owner (stream_ends g n)) n refl h;
    others = λ n h. other (owner (stream_ends g n)) h;
    none = ap (λ x. is_some (owner x)) (stream-none g valid);
  }
    where
      other : (o : Option ℕ) → is_some o ≡ false → (echo_by (links g) o ≡ 0) × (owns win o ≡ false)
      other None h = (refl, refl)
      other (Some x) h = absurd cc

  -- a stream that may be a window's echo: its echoes never come to the window
  pub never-comes : (n : ℕ) → rows.is_loop g win n ≡ false → (j : ℕ)
      → owns win (owner (stream_ends g (walk j (next_echo (links g) (stream_ends g)) n))) ≡ false
  unfolding follows comes
  never-comes n e j =
      walk-passes follows comes j n
      (passes-within follows comes (λ n. is_some (owner (stream_ends g n)))
      (λ (w : Window). w.echo) g.windows.slots all-listed
      n (suc j) (v.no_loop n) (sym (reaches-passes (length g.windows.slots) n) ∙ e))

-- ---- glk_window_set_echo_stream

pub echo_set-links : (g : Glk) (win n m : ℕ) → links
    (record g { windows = arranging.echo_set g.windows win n }) m
    ≡ (if m == win then option_map (echoing n) (links g m) else links g m)
echo_set-links g win n m = part-echo g.windows.slots
  where
    split : (b : Bool) (o : Option Window) → option_map window_link
        (if b then option_map (λ (w : Window). record w { echo = n }) o else o)
        ≡ (if b then option_map (echoing n) (option_map window_link o)
        else option_map window_link o)
    split true None = refl
    split true (Some w) = refl
    split false o = refl

    part-echo : (ws : List Window) → option_map window_link
        (found tree.window_number (tree.set_at (λ w. record w { echo = n }) ws win) m)
        ≡ (if m == win
        then option_map (echoing n) (option_map window_link (found tree.window_number ws m))
        else option_map window_link (found tree.window_number ws m))
    part-echo ws = ap (option_map window_link) (found-changed tree.window_number
        (λ (w : Window). record w { echo = n }) (λ w. refl) ws win m)
        ∙ split (m == win) (found tree.window_number ws m)

is-same : (n : ℕ) → (n == n) ≡ true
is-same n = grind (arith, common_steps)

pub some-stream : (g : Glk) (n : ℕ) → is_some (stream_ends g n) ≡ is_stream g n
some-stream g n = some-of (streams.stream_at g.streams n)
    ∙ sym (has-found streams.stream_number g.streams.streams n)
  where
    some-of : (o : Option Stream) → is_some (option_map stream_end o) ≡ is_some o
    some-of None = refl
    some-of (Some s) = refl

pub echo_set-linked : (g : Glk) (win n : ℕ) → AreValid g → AreLinked (links g) (stream_ends g)
    → (n ≢ 0 → is_stream g n ≡ true)
    → rows.is_loop g win n ≡ false
    → AreLinked (links (record g { windows = arranging.echo_set g.windows win n })) (stream_ends g)
echo_set-linked g win n valid v live loop =
    linked-echoed (links g) (stream_ends g) (links (record g
    { windows = arranging.echo_set g.windows win n })) win n (record {
      windows = λ m h. echo_set-links g win n m
          ∙ ap (λ b. if b then option_map (echoing n) (links g m) else links g m)
          (ne_eqb m win h);
      window = echo_set-links g win n win ∙ ap (λ b. if b then option_map (echoing n) (links g win)
          else links g win) (is-same win);
      live = λ z. some-stream g n ∙ live z;
      away = never-comes g valid v win n loop;
    }) v

pub echo_set-kinds : (g : Glk) (win n m : ℕ) → option_map (λ (l : Link). l.kind)
    (links (record g { windows = arranging.echo_set g.windows win n }) m)
    ≡ option_map (λ (l : Link). l.kind) (links g m)
echo_set-kinds g win n m = ap (option_map (λ (l : Link). l.kind)) (echo_set-links g win n m)
    ∙ of-kind (m == win) (links g m)
  where
    of-kind : (b : Bool) (o : Option Link) → option_map (λ (l : Link). l.kind)
        (if b then option_map (echoing n) o else o) ≡ option_map (λ (l : Link). l.kind) o
    of-kind true None = refl
    of-kind true (Some l) = refl
    of-kind false o = refl
