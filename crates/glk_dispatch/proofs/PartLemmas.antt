-- What each call of the parts leaves of windows and streams as they name each other.
use Rattle.std.proofs.Common.{◌≡◌, ◌⊎◌, inl, inr, ℕ, ◌==◌, ◌||◌, Bool, true, false, List, refl, sym}
use Rattle.std.proofs.Common.{ap, ◌∙◌, arith, Option, Some, None, Result, Ok, Err, option_map}
use Rattle.std.proofs.Common.{is_some, if◌then◌else◌, cond}
use Rattle.std.specs.Prelude.{IfOk}
use Rattle.std.proofs.lemmas.Grind.{common_steps}
use Rattle.std.proofs.lemmas.Bool.{cases_Bool}
use Rattle.vm_memory.specs.Chaining.{◌>>=◌}
use Rattle.vm_memory.specs.MemoryMap.{MemoryMap}
use Rattle.glk_numbers.specs.Numbered.{has}
use Rattle.glk_windows.specs.Areas.{HaveAreas}
use Rattle.glk_windows.specs.Tree as tree
use Rattle.glk_windows.specs.Reading as reading
use Rattle.glk_windows.specs.Closing as closing
use Rattle.glk_windows.specs.Output as output
use Rattle.glk_windows.specs.declared.window.Window.{Window}
use Rattle.glk_windows.specs.declared.window.Content.{Content}
use Rattle.glk_windows.specs.declared.window.Content.TheVariants.{Pair}
use Rattle.glk_streams.specs.Answer as answer
use Rattle.glk_streams.specs.Streams as streams
use Rattle.glk_streams.specs.Opening as sopen
use Rattle.glk_streams.specs.Output as sout
use Rattle.glk_streams.specs.declared.file.File.{File}
use Rattle.glk_streams.specs.declared.fault.StreamStop.{StreamStop}
use Rattle.glk_streams.specs.declared.fault.StreamStop.TheVariants.{BadArgument}
use Rattle.glk_streams.specs.declared.stream.Stream.{Stream}
use Rattle.glk_streams.specs.declared.stream.Target as target
use Rattle.glk_streams.specs.declared.stream.Target.TheVariants as to
use Rattle.glk_input.specs.Request as request
use Rattle.glk_dispatch.specs.Events.{may_ask}
use Rattle.glk_dispatch.specs.Glk.{has_window}
use Rattle.glk_dispatch.specs.Valid.{AreValid}
use Rattle.glk_dispatch.specs.declared.glk.Glk.{Glk}
use Rattle.glk_dispatch.specs.Links.{Link, AreLinked, window_link}
use Rattle.glk_dispatch.specs.Links.{stream_end, links, stream_ends, owner}
use Rattle.glk_dispatch.specs.Valid.{IsValidGlk, AreAsked}
use Rattle.glk_numbers.proofs.FoundLemmas.{found-map, found-without, has-found, part-changed}
use Rattle.glk_numbers.proofs.FoundLemmas.{part-replaced}
use Rattle.glk_dispatch.proofs.LinkLemmas.{Same, linked-same, linked-closed, unechoed}
use Rattle.glk_dispatch.proofs.EchoLemmas.{streams-ascend}

-- two states in which windows and streams name each other alike
abbrev pub Alike : Glk → Glk → Type 0
Alike g h = Same (links g) (stream_ends g) (links h) (stream_ends h)

-- which windows are live and may be asked, by their links
pub is_window-link : (g : Glk) (win : ℕ) → has_window g win ≡ is_some (links g win)
is_window-link g win = has-found tree.window_number g.windows.slots win
    ∙ some-of (tree.window_at g.windows.slots win)
  where
    some-of : (o : Option Window) → is_some o ≡ is_some (option_map window_link o)
    some-of None = refl
    some-of (Some w) = refl

abbrev pub kind_at : Option Link → ℕ
kind_at None = 0
kind_at (Some l) = l.kind

pub kind-link : (g : Glk) (win : ℕ)
    → reading.window_kind g.windows.slots win ≡ kind_at (links g win)
kind-link g win = kind-in (tree.window_at g.windows.slots win)
  where
    kind-in : (o : Option Window) → tree.read_window 0 (λ w. reading.kind_in w.content) o
        ≡ kind_at (option_map window_link o)
    kind-in None = refl
    kind-in (Some w) = refl

-- the same windows with the same types
abbrev pub kinds : Glk → ℕ → Option ℕ
kinds g win = option_map (λ l. l.kind) (links g win)

some-kind : (o : Option Link) → is_some o ≡ is_some (option_map (λ (l : Link). l.kind) o)
some-kind None = refl
some-kind (Some l) = refl

abbrev pub kind_or : Option ℕ → ℕ
kind_or None = 0
kind_or (Some k) = k

at-kind : (o : Option Link) → kind_at o ≡ kind_or (option_map (λ (l : Link). l.kind) o)
at-kind None = refl
at-kind (Some l) = refl

pub live-kinds : (g : Glk) (win : ℕ) → has_window g win ≡ is_some (kinds g win)
live-kinds g win = is_window-link g win ∙ some-kind (links g win)

pub may_ask-kinds : (g : Glk) (win : ℕ) → may_ask g win
    ≡ (kind_or (kinds g win) == 3 || kind_or (kinds g win) == 4)
may_ask-kinds g win = ap (λ k. k == 3 || k == 4) (kind-link g win ∙ at-kind (links g win))

pub asked-kinds : (g h : Glk) → ((win : ℕ) → kinds h win ≡ kinds g win) → h.requests ≡ g.requests
    → AreAsked g → AreAsked h
asked-kinds g h same e v = record {
  listed =
      λ win. ap (λ r. has request.input_window_number r win) e ∙ v.listed win ∙ live-kinds g win
      ∙ ap is_some (sym (same win)) ∙ sym (live-kinds h win);
  askers = λ win i.
      may_ask-kinds h win ∙ ap (λ k. kind_or k == 3 || kind_or k == 4) (same win)
      ∙ sym (may_ask-kinds g win)
      ∙ v.askers win (ap (λ r. is_some (request.window_request r win)) (sym e) ∙ i);
}

pub asked-alike : (g h : Glk) → Alike g h → h.requests ≡ g.requests → AreAsked g → AreAsked h
asked-alike g h same e v = asked-kinds g h (λ win. ap (option_map (λ l. l.kind)) (same.windows win))
    e v

-- what changes neither is valid where its parts are
pub valid-alike : (g h : Glk) → Alike g h → h.requests ≡ g.requests → AreValid h
    → HaveAreas h.windows h.cols h.rows → IsValidGlk g → IsValidGlk h
valid-alike g h same e parts areas v = record {
  parts = parts;
  linked = linked-same (links g) (stream_ends g) (links h) (stream_ends h) same v.linked;
  asked = asked-alike g h same e v.asked;
  areas = areas;
}

-- ---- windows

pub kind-put : (c : Content) (code style : ℕ) → reading.kind_in (output.content_put c code style)
    ≡ reading.kind_in c
kind-put (Pair p) code style = refl
kind-put c code style = refl

pub kind-cleared : (c : Content) → reading.kind_in (output.content_cleared c) ≡ reading.kind_in c
kind-cleared (Pair p) = refl
kind-cleared c = refl

pub kind-kept : (c : Content) → reading.kind_in (output.content_kept c) ≡ reading.kind_in c
kind-kept (Pair p) = refl
kind-kept c = refl

link-kind : (w v : Window) → v.stream ≡ w.stream → v.echo ≡ w.echo → reading.kind_in v.content
    ≡ reading.kind_in w.content → window_link v ≡ window_link w
link-kind w v a b c = grind (arith, common_steps, a, b, c)

pub put-links : (t : tree.WindowTree) (win code style m : ℕ)
    → option_map window_link (tree.window_at (output.put_on_window t win code style).slots m)
    ≡ option_map window_link (tree.window_at t.slots m)
put-links t win code style m =
    part-changed tree.window_number window_link (λ w. output.window_put w code style) (λ w. refl)
    (λ w. link-kind w (output.window_put w code style) refl refl (kind-put w.content code style))
    t.slots win m

-- ---- streams

end-place : (s : Stream) (p : ℕ) → (streams.is_window_target s.target ≡ true → p ≡ s.place)
    → stream_end (sout.write_counted (sout.at_position p s)) ≡ stream_end s
end-place s p h = elim (cases_Bool (streams.is_window_target s.target)) [
  | inl e ↦ ap (λ q. stream_end (sout.write_counted (sout.at_position q s))) (h e)
  | inr e ↦ grind (arith, common_steps, e)
]

-- a window's stream keeps its place
abbrev pub SamePlace : Bool → ℕ → List File × MemoryMap × ℕ → Type 0
SamePlace w place p = w ≡ true → p.2 ≡ place

if-any : (place : ℕ) (r : sout.Put) → IfOk r (SamePlace false place)
if-any place (Ok p) = λ e. absurd cc
if-any place (Err e) = tt

put_in-place : (t : target.Target) (u : Bool) (fs : List File) (m : MemoryMap) (place code : ℕ)
    → IfOk (sout.put_in_target t u fs m place code) (SamePlace (streams.is_window_target t) place)
put_in-place (to.Window win) u fs m place code = λ e. refl
put_in-place (to.Memory buf len) u fs m place code =
    if-any place (sout.put_in_target (to.Memory buf len) u fs m place code)
put_in-place (to.File usage name) u fs m place code =
    if-any place (sout.put_in_target (to.File usage name) u fs m place code)

-- the streams that a call leaves are, as windows' streams, those that were there
abbrev pub SameEnds : streams.StreamTable → streams.StreamTable → Type 0
SameEnds t u = (m : ℕ) → option_map stream_end (streams.stream_at u m)
    ≡ option_map stream_end (streams.stream_at t m)

abbrev pub LeavesEnds : {A : Type 0} → streams.StreamTable
    → Result (streams.StreamTable × A) StreamStop → Type 0
LeavesEnds t (Ok p) = SameEnds t p.0
LeavesEnds t (Err e) = Unit {0}

pub put-ends : (t : streams.StreamTable) (m : MemoryMap) (n code : ℕ)
    → LeavesEnds t (sout.put_on_stream t m n code)
put-ends t m n code = put-live (streams.stream_at t n) refl
  where
    put-on : (s : Stream) → streams.stream_at t n ≡ Some s → (r : sout.Put)
        → IfOk r (SamePlace (streams.is_window_target s.target) s.place)
        → LeavesEnds t (◌>>=◌ r (λ done. Ok (
          streams.with_stream
              (record t { files = done.0 }) n (sout.write_counted (sout.at_position done.2 s)),
          done.1,
        )))
    put-on s e (Ok p) h = λ k. part-replaced streams.stream_number stream_end t.streams n k s
        (sout.write_counted (sout.at_position p.2 s)) e refl (end-place s p.2 h)
    put-on s e (Err f) h = tt

    put-mode : (s : Stream) (b : Bool) → IfOk (cond b
        (sout.put_in_target s.target s.unicode t.files m s.place code) (Err BadArgument))
        (SamePlace (streams.is_window_target s.target) s.place)
    put-mode s true = put_in-place s.target s.unicode t.files m s.place code
    put-mode s false = tt

    put-live : (o : Option Stream) → streams.stream_at t n ≡ o
        → LeavesEnds t (answer.live o (λ s. ◌>>=◌ (sout.put_by t.files m s code)
        (λ done. Ok (
          streams.with_stream (record t { files = done.0 }) n
              (sout.write_counted (sout.at_position done.2 s)),
          done.1,
        ))))
    put-live None e = tt
    put-live (Some s) e = put-on s e (sout.put_by t.files m s code)
        (put-mode s (streams.is_write_mode s.mode))

-- ---- glk_stream_close

abbrev pub stream_closed : Glk → ℕ → Glk
stream_closed g n = record g {
  streams = sopen.stream_dropped g.streams n;
  windows = closing.echo_ended
      g.windows n;
}

pub closed-linked : (g : Glk) (n : ℕ)
    → AreValid g → AreLinked (links g) (stream_ends g)
    → owner (stream_ends g n)
    ≡ None
    → AreLinked (links (stream_closed g n)) (stream_ends (stream_closed g n))
closed-linked g n valid v alone =
    linked-closed (links g) (stream_ends g) (links (stream_closed g n))
    (stream_ends (stream_closed g n))
    (λ m. false) (λ m. m == n) (record {
      windows = λ m. ap (option_map window_link) (found-map tree.window_number (closing.unechoed n)
          (λ w. refl) g.windows.slots m)
          ∙ of-link (tree.window_at g.windows.slots m);
      streams =
          λ m. ap (option_map stream_end) (found-without streams.stream_number g.streams.streams 0
          g.streams.next n m (streams-ascend g valid))
          ∙ of-end (m == n) (streams.stream_at g.streams m);
      together = λ m win e. other m win e (cases_Bool (m == n));
    }) v
  where
    of-link : (o : Option Window) → option_map window_link (option_map (closing.unechoed n) o)
        ≡ option_map (unechoed (λ m. m == n)) (option_map window_link o)
    of-link None = refl
    of-link (Some w) = refl

    of-end : (b : Bool) (o : Option Stream) → option_map stream_end (if b then None else o)
        ≡ (if b then None else option_map stream_end o)
    of-end true o = refl
    of-end false o = refl

    other : (m win : ℕ)
        → owner (stream_ends g m) ≡ Some win
        → ((m == n) ≡ true) ⊎ ((m == n) ≡ false)
        → (m == n) ≡ false
    other m win e (inl h) = (let i : m ≡ n = grind (arith, common_steps, h) in
        let c : None ≡ Some win = sym (ap (λ k. owner (stream_ends g k)) i ∙ alone) ∙ e in
        absurd cc)
    other m win e (inr h) = h

pub closed-kinds : (g : Glk) (n m : ℕ) → kinds (stream_closed g n) m ≡ kinds g m
closed-kinds g n m = ap (λ o. option_map (λ (l : Link). l.kind) (option_map window_link o))
    (found-map tree.window_number (closing.unechoed n) (λ w. refl) g.windows.slots m)
    ∙ of-kind (tree.window_at g.windows.slots m)
  where
    of-kind : (o : Option Window) → option_map (λ (l : Link). l.kind)
        (option_map window_link (option_map (closing.unechoed n) o))
        ≡ option_map (λ (l : Link). l.kind) (option_map window_link o)
    of-kind None = refl
    of-kind (Some w) = refl
