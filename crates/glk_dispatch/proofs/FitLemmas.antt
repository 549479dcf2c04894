-- The tests of the parts of a Glk state that is made again from what was kept of it.
use Rattle.std.proofs.Common.{◌≡◌, ◌≢◌, ◌∙◌, inl, inr, ℕ, ◌+◌, ◌==◌}
use Rattle.std.proofs.Common.{◌||◌, not, Bool, true, false, length, refl, sym, ap}
use Rattle.std.proofs.Common.{arith, add-one, Option, Some, None, option_map, is_some}
use Rattle.std.proofs.lemmas.Bool.{and_from, and_parts, cases_Bool}
use Rattle.std.proofs.lemmas.Grind.{common_steps}
use Rattle.glk_numbers.specs.Numbered.{ascends, found, has}
use Rattle.glk_windows.specs.Areas.{HaveAreas}
use Rattle.glk_windows.specs.Tree as tree
use Rattle.glk_windows.specs.Valid as wvalid
use Rattle.glk_windows.specs.declared.window.Window.{Window}
use Rattle.glk_streams.specs.Streams as streams
use Rattle.glk_streams.specs.declared.stream.Stream.{Stream}
use Rattle.glk_input.specs.Request as request
use Rattle.glk_input.specs.declared.request.WindowInput.{WindowInput}
use Rattle.glk_dispatch.specs.Events.{may_ask}
use Rattle.glk_dispatch.specs.Fields.{comes_to_an_end, entries_fit, entry_fits, is_named_by}
use Rattle.glk_dispatch.specs.Fields.{is_owned, parts_fit, stream_fits, streams_fit, window_fits}
use Rattle.glk_dispatch.specs.Fields.{windows_fit}
use Rattle.glk_dispatch.specs.Glk.{is_stream, has_window}
use Rattle.glk_dispatch.specs.Links.{AreLinked, ComesToAnEnd, End, HasNoLoop, Link}
use Rattle.glk_dispatch.specs.Links.{stream_end, stream_ends, is_plain_stream}
use Rattle.glk_dispatch.specs.Links.{window_link, links, next_echo, owner, live_stream}
use Rattle.glk_dispatch.specs.Output.{echo_from}
use Rattle.glk_dispatch.specs.Valid.{AreAsked, AreValid, IsValidGlk}
use Rattle.glk_dispatch.specs.declared.glk.Glk.{Glk}
use Rattle.glk_dispatch.proofs.AskLemmas.{request_in, request-found}
use Rattle.glk_dispatch.proofs.EchoLemmas.{all-listed, comes, follows, some-stream, streams-ascend}
use Rattle.glk_numbers.proofs.FoundLemmas.{has-found, number-found}
use Rattle.glk_dispatch.proofs.LoopLemmas.{is_in, over-same, over-within}
use Rattle.glk_dispatch.proofs.NamedLemmas.{all-found, echo-next, found-all, named-stream}
use Rattle.glk_dispatch.proofs.NamedLemmas.{named-target, no-stream}
use Rattle.glk_dispatch.proofs.NamedLemmas.{owned-owner, owner-owned, stream-named, stream-of-end}
use Rattle.glk_dispatch.proofs.NamedLemmas.{stream-of-owner, target-named, window-of-link}

-- ---- parts that fit are linked

module _ (g : Glk) (v : AreValid g) where
  window-fit : windows_fit g ≡ true → (n : ℕ) (w : Window)
      → tree.window_at g.windows.slots n ≡ Some w → window_fits g w ≡ true
  window-fit e n w h = all-found tree.window_number (window_fits g) g.windows.slots n w e h

  stream-fit : streams_fit g ≡ true → (n : ℕ) (s : Stream) → streams.stream_at g.streams n ≡ Some s
      → stream_fits g s ≡ true
  stream-fit e n s h = all-found streams.stream_number (stream_fits g) g.streams.streams n s e h

  owned-by : windows_fit g ≡ true → (win : ℕ) (l : Link) → links g win ≡ Some l
      → owner (stream_ends g l.stream) ≡ Some win
  owned-by e win l h =
      let w = window-of-link (tree.window_at g.windows.slots win) l h in
      let t = and_parts (is_owned g w.0.number w.0.stream) _ (window-fit e win w.0 w.1) in
      let is = number-found tree.window_number g.windows.slots win w.0 w.1 in
      ap (λ (m : Link). owner (stream_ends g m.stream)) w.2
      ∙ owned-owner (streams.stream_at g.streams w.0.stream) w.0.number t.0 ∙ ap Some is

  echo-live : windows_fit g ≡ true → (win : ℕ) (l : Link) → links g win ≡ Some l → l.echo ≢ 0
      → is_some (stream_ends g l.echo) ≡ true
  echo-live e win l h z =
      let w = window-of-link (tree.window_at g.windows.slots win) l h in
      let t = and_parts (is_owned g w.0.number w.0.stream) _ (window-fit e win w.0 w.1) in
      let u = and_parts (w.0.echo == 0 || is_stream g w.0.echo) _ t.1 in
      let same : l.echo ≡ w.0.echo = ap (λ (m : Link). m.echo) w.2 in
      let other : (w.0.echo == 0) ≡ false = grind (arith, common_steps, same, z) in
      some-stream g l.echo ∙ ap (is_stream g) same
      ∙ sym (ap (λ b. b || is_stream g w.0.echo) other) ∙ u.0

  named-by : streams_fit g ≡ true → (n win : ℕ) → owner (stream_ends g n) ≡ Some win
      → live_stream (links g win) ≡ Some n
  named-by e n win h =
      let s = stream-of-owner (streams.stream_at g.streams n) win h in
      let t = and_parts (is_named_by g s.0.number s.0.target) _ (stream-fit e n s.0 s.1) in
      let is = number-found streams.stream_number g.streams.streams n s.0 s.1 in
      named-stream g win s.0.number (named-target g s.0.number win s.0.target s.2 t.0) ∙ ap Some is

  plain-by : streams_fit g ≡ true → (n : ℕ) (e : End) → stream_ends g n ≡ Some e → e.is_plain ≡ true
  plain-by e n x h =
      let s = stream-of-end (streams.stream_at g.streams n) x h in
      let t = and_parts (is_named_by g s.0.number s.0.target) _ (stream-fit e n s.0 s.1) in
      ap (λ (y : End). y.is_plain) s.2
      ∙ (and_parts (is_plain_stream s.0) _ t.1).0

  ends-by : streams_fit g ≡ true → HasNoLoop (next_echo (links g) (stream_ends g))
  ends-by e n = by-stream (streams.stream_at g.streams n) refl
    where
      by-stream : (o : Option Stream) → streams.stream_at g.streams n ≡ o
          → ComesToAnEnd (next_echo (links g) (stream_ends g)) n
      by-stream None h = no-stream g n h
      by-stream (Some s) h =
          let t = and_parts (is_named_by g s.number s.target) _ (stream-fit e n s h) in
          let is = number-found streams.stream_number g.streams.streams n s h in
          record {
            steps = length g.windows.slots + 1;
            over =
                sym (over-same (echo_from g) (next_echo (links g) (stream_ends g)) (echo-next g v)
                (length g.windows.slots + 1) n)
                ∙ sym (ap (comes_to_an_end g) is)
                ∙ (and_parts (is_plain_stream s) _ t.1).1;
          }

  fit-linked : windows_fit g ≡ true → streams_fit g ≡ true → AreLinked (links g) (stream_ends g)
  fit-linked e f = record {
    streams = owned-by e;
    windows = named-by f;
    plain = plain-by f;
    echoes = echo-live e;
    no_loop = ends-by f;
  }

-- ---- and have their entries for input

module _ (g : Glk) (v : AreValid g) where
  entry-fit : entries_fit g ≡ true → (n : ℕ) (w : WindowInput)
      → found request.input_window_number g.requests n ≡ Some w → entry_fits g w ≡ true
  entry-fit e n w h = all-found request.input_window_number (entry_fits g) g.requests n w e h

  has-window : windows_fit g ≡ true → (n : ℕ) (w : Window)
      → tree.window_at g.windows.slots n ≡ Some w
      → has request.input_window_number g.requests n ≡ true
  has-window e n w h =
      let t = and_parts (is_owned g w.number w.stream) _ (window-fit g v e n w h) in
      let u = and_parts (w.echo == 0 || is_stream g w.echo) _ t.1 in
      let is = number-found tree.window_number g.windows.slots n w h in
      sym (ap (has request.input_window_number g.requests) is) ∙ u.1

  has-entry : entries_fit g ≡ true → (n : ℕ) (w : WindowInput)
      → found request.input_window_number g.requests n ≡ Some w → has_window g n ≡ true
  has-entry e n w h =
      let t = and_parts (has_window g w.win) _ (entry-fit e n w h) in
      let is = number-found request.input_window_number g.requests n w h in
      sym (ap (has_window g) is) ∙ t.0

  listed-by : windows_fit g ≡ true → entries_fit g ≡ true → (n : ℕ)
      → has request.input_window_number g.requests n ≡ has_window g n
  listed-by e f n = by-both (found request.input_window_number g.requests n)
      (tree.window_at g.windows.slots n) refl refl
    where
      entry : (o : Option WindowInput) → found request.input_window_number g.requests n ≡ o
          → has request.input_window_number g.requests n ≡ is_some o
      entry o h = has-found request.input_window_number g.requests n ∙ ap is_some h

      live : (o : Option Window) → tree.window_at g.windows.slots n ≡ o
          → has_window g n ≡ is_some o
      live o h = has-found tree.window_number g.windows.slots n ∙ ap is_some h

      by-both : (o : Option WindowInput) (w : Option Window)
          → found request.input_window_number g.requests n ≡ o
          → tree.window_at g.windows.slots n ≡ w
          → has request.input_window_number g.requests n ≡ has_window g n
      by-both None None h k = entry None h ∙ sym (live None k)
      by-both (Some x) w h k = entry (Some x) h ∙ sym (has-entry f n x h)
      by-both None (Some w) h k = has-window e n w k ∙ sym (live (Some w) k)

  asked-by : entries_fit g ≡ true → (n : ℕ)
      → is_some (request.window_request g.requests n) ≡ true → may_ask g n ≡ true
  asked-by e n i = by-entry (found request.input_window_number g.requests n) refl
    where
      by-request : (b c : Bool) → (not b || c) ≡ true → b ≡ true → c ≡ true
      by-request true c h k = h
      by-request false c h k = absurd cc

      by-entry : (o : Option WindowInput) → found request.input_window_number g.requests n ≡ o
          → may_ask g n ≡ true
      by-entry None h =
          let c : true ≡ false = sym i ∙ ap is_some (request-found g.requests n
          ∙ ap request_in h) in absurd cc
      by-entry (Some w) h =
          let t = and_parts (has_window g w.win) _ (entry-fit e n w h) in
          let is = number-found request.input_window_number g.requests n w h in
          let asks : is_some w.request ≡ true = sym (ap is_some (request-found g.requests n
          ∙ ap request_in h)) ∙ i in
          sym (ap (may_ask g) is) ∙ by-request (is_some w.request) (may_ask g w.win) t.1 asks

  fit-asked : windows_fit g ≡ true → entries_fit g ≡ true → AreAsked g
  fit-asked e f = record { listed = listed-by e f; askers = asked-by f }

-- ---- parts that are linked, and have their entries, fit

module _ (g : Glk) (v : AreValid g) (k : AreLinked (links g) (stream_ends g)) (a : AreAsked g) where
  link-of : (w : Window) → tree.window_at g.windows.slots w.number ≡ Some w
      → links g w.number ≡ Some (window_link w)
  link-of w h = ap (option_map window_link) h

  echo-fits : (w : Window) → tree.window_at g.windows.slots w.number ≡ Some w
      → (w.echo == 0 || is_stream g w.echo) ≡ true
  echo-fits w h = elim (cases_Bool (w.echo == 0)) [
    | inl e ↦ ap (λ b. b || is_stream g w.echo) e
    | inr e ↦
        let other : w.echo ≢ 0 = grind (arith, common_steps, e) in
        ap (λ b. b || is_stream g w.echo) e ∙ sym (some-stream g w.echo)
        ∙ k.echoes w.number (window_link w) (link-of w h) other
  ]

  window-fits : (w : Window) → tree.window_at g.windows.slots w.number ≡ Some w
      → window_fits g w ≡ true
  window-fits w h =
      let live : has_window g w.number ≡ true =
      has-found tree.window_number g.windows.slots w.number ∙ ap is_some h in
      and_from _ _ (owner-owned (streams.stream_at g.streams w.stream) w.number
      (k.streams w.number (window_link w) (link-of w h)))
      (and_from _ _ (echo-fits w h) (a.listed w.number ∙ live))

  -- where an echo goes on, a window has it
  goes-on : (n : ℕ) → next_echo (links g) (stream_ends g) n ≢ 0
      → is_in (λ (w : Window). w.echo == next_echo (links g) (stream_ends g) n) g.windows.slots
      ≡ true
  unfolding follows comes
  goes-on n h =
      let all = all-listed g v k 0 in
      elim (cases_Bool (is_some (owner (stream_ends g n)))) [
        | inl e ↦ all.listed n e
        | inr e ↦ absurd (h (all.others n e).0)
      ]

  ends-fit : (n : ℕ) → comes_to_an_end g n ≡ true
  ends-fit n =
      over-same (echo_from g) (next_echo (links g) (stream_ends g)) (echo-next g v)
      (length g.windows.slots + 1) n
      ∙ rw add-one
      (over-within (next_echo (links g) (stream_ends g)) (λ (w : Window). w.echo) g.windows.slots
      goes-on (k.no_loop n).steps n (k.no_loop n).over)

  stream-fits : (s : Stream) → streams.stream_at g.streams s.number ≡ Some s
      → stream_fits g s ≡ true
  stream-fits s h =
      let here : stream_ends g s.number ≡ Some (stream_end s) = ap (option_map stream_end) h in
      and_from _ _ (target-named g s.number s.target (λ win e. stream-named g win s.number
      (k.windows s.number win (ap owner here ∙ e))))
      (and_from _ _ (k.plain s.number (stream_end s) here) (ends-fit s.number))

  entry-fits : (w : WindowInput) → found request.input_window_number g.requests w.win ≡ Some w
      → entry_fits g w ≡ true
  entry-fits w h =
      let there : has request.input_window_number g.requests w.win ≡ true =
      has-found request.input_window_number g.requests w.win ∙ ap is_some h in
      and_from _ _ (sym (a.listed w.win) ∙ there) (by-request (is_some w.request) refl)
    where
      by-request : (b : Bool) → is_some w.request ≡ b
          → (not (is_some w.request) || may_ask g w.win) ≡ true
      by-request false e = ap (λ c. not c || may_ask g w.win) e
      by-request true e =
          ap (λ c. not c || may_ask g w.win) e
          ∙ a.askers w.win (ap is_some (request-found g.requests w.win ∙ ap request_in h) ∙ e)

  parts-fit : parts_fit g ≡ true
  unfolding wvalid.IsOrdered
  parts-fit =
      let entries = and_parts (ascends request.input_window_number 0 4294967295 g.requests) _
      v.requests in
      and_from _ _ (found-all tree.window_number (window_fits g) g.windows.slots 0 g.windows.next
      v.windows.ordered.1 window-fits)
      (and_from _ _ (found-all streams.stream_number (stream_fits g) g.streams.streams 0
      g.streams.next (streams-ascend g v) stream-fits)
      (found-all request.input_window_number
      (entry_fits g) g.requests 0 4294967295 entries.0 entry-fits))

-- ---- a state whose parts are valid, fit and have their rectangles is valid

pub valid-of-fit : (g : Glk) → AreValid g → parts_fit g ≡ true
    → HaveAreas g.windows g.cols g.rows → IsValidGlk g
valid-of-fit g v e h =
    let a = and_parts (windows_fit g) _ e in
    let b = and_parts (streams_fit g) _ a.1 in
    record {
      parts = v;
      linked = fit-linked g v a.0 b.0;
      asked = fit-asked g v a.0 b.1;
      areas = h;
    }

pub fit-of-valid : (g : Glk) → IsValidGlk g → parts_fit g ≡ true
fit-of-valid g k = parts-fit g k.parts k.linked k.asked
