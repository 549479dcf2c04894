-- A window that is opened, with its stream and its entry for input.
use Rattle.std.proofs.Common.{◌≡◌, ℕ, ◌+◌, ◌==◌, nat_lt, Bool, true, false, List, [], ◌∷◌, ◌++◌}
use Rattle.std.proofs.Common.{length, refl, sym, ap, ◌∙◌, arith, subst, cond, Option, Some, None}
use Rattle.std.proofs.Common.{option_map, ◌≤◌, if◌then◌else◌}
use Rattle.std.proofs.lemmas.Bool.{cond_both, eq-eqb, ne_eqb}
use Rattle.std.proofs.lemmas.Grind.{common_steps}
use Rattle.glk_numbers.specs.Numbered.{found}
use Rattle.glk_numbers.specs.declared.numbered.TheConstants.{MAX_NUMBER}
use Rattle.glk_windows.specs.Tree as tree
use Rattle.glk_windows.specs.Arranging as arranging
use Rattle.glk_windows.specs.Opening as opening
use Rattle.glk_windows.specs.Reading as reading
use Rattle.glk_windows.specs.Resizing as resizing
use Rattle.glk_windows.specs.Valid as wvalid
use Rattle.glk_windows.specs.declared.window.Area.{Area}
use Rattle.glk_windows.specs.declared.window.Content.{Content}
use Rattle.glk_windows.specs.declared.window.Content.TheVariants.{Pair}
use Rattle.glk_windows.specs.declared.window.Window.{Window}
use Rattle.glk_windows.proofs.AreaLemmas.{places_windows}
use Rattle.glk_windows.proofs.RectangleLemmas.{read_placed}
use Rattle.glk_windows.proofs.ValidLemmas.{keeps_valid}
use Rattle.glk_input.specs.Request.{with_window}
use Rattle.glk_input.specs.declared.request.WindowInput.{WindowInput}
use Rattle.glk_streams.specs.Streams as streams
use Rattle.glk_streams.specs.Opening as sopen
use Rattle.glk_streams.specs.declared.stream.Stream.{Stream}
use Rattle.glk_streams.specs.declared.stream.Target.TheVariants as to
use Rattle.glk_dispatch.specs.Glk.{with_rectangles}
use Rattle.glk_dispatch.specs.Links.{AreLinked, Ends, Link, Links, stream_end}
use Rattle.glk_dispatch.specs.Links.{stream_ends, window_link, links}
use Rattle.glk_dispatch.specs.Valid.{AreValid, IsReadyGlk, IsValidGlk}
use Rattle.glk_dispatch.specs.Windows as rows
use Rattle.glk_dispatch.specs.declared.glk.Glk.{Glk}
use Rattle.glk_dispatch.proofs.AskLemmas.{AskedBy, asked-by, asked-more, asked-of, asked-same}
use Rattle.glk_dispatch.proofs.AskLemmas.{with_link}
use Rattle.glk_dispatch.proofs.CloseLemmas.{ends_in, links_in}
use Rattle.glk_numbers.proofs.FoundLemmas.{found-added, found-changed, found-high}
use Rattle.glk_dispatch.proofs.LinkLemmas.{linked-opened, linked-same}
use Rattle.glk_dispatch.proofs.PartLemmas.{Alike}
use Rattle.glk_dispatch.proofs.EchoLemmas.{streams-ascend}

-- ---- rectangles

kind-sized : (c : Content) (a : Area)
    → reading.kind_in (resizing.content_sized c a) ≡ reading.kind_in c
kind-sized (Pair p) a = refl
kind-sized c a = refl

read-link : (o : Option Window)
    → option_map window_link o ≡ tree.read_window None (λ w. Some (window_link w)) o
read-link None = refl
read-link (Some w) = refl

-- windows that get their rectangles name each other as before
pub placed-alike : (g : Glk) → Alike g (with_rectangles g)
placed-alike g = record {
  windows = λ m. read-link (tree.window_at (with_rectangles g).windows.slots m)
      ∙ read_placed None (λ w. Some (window_link w))
      (λ a w. ap (λ k. Some (record { stream = w.stream; echo = w.echo; kind = k }))
      (kind-sized w.content a))
      (length g.windows.slots) g.windows.slots g.windows.root
      (record { x = 0; y = 0; w = g.cols; h = g.rows }) m
      ∙ sym (read-link (tree.window_at g.windows.slots m));
  streams = λ m. refl;
}

-- ---- what windows, streams and entries for input say of each other

pub record Beside (w : Links) (s : Ends) (rs : List WindowInput) : Type 0 where
  pub linked : AreLinked w s
  pub asked : AskedBy w rs

pub beside-same : (w v : Links) (s t : Ends) (rs : List WindowInput) → ((m : ℕ) → v m ≡ w m)
    → ((m : ℕ) → t m ≡ s m) → Beside w s rs → Beside v t rs
beside-same w v s t rs windows ends b = record {
  linked = linked-same w s v t (record { windows = windows; streams = ends }) b.linked;
  asked = asked-same w v rs windows b.asked;
}

pub beside-of : (g : Glk) → IsValidGlk g → Beside (links g) (stream_ends g) g.requests
beside-of g v = record { linked = v.linked; asked = asked-by g v.asked }

pub placed-valid : (g : Glk) → AreValid (with_rectangles g) → wvalid.IsValidTree g.windows
    → Beside (links g) (stream_ends g) g.requests → IsValidGlk (with_rectangles g)
placed-valid g parts windows b =
    let same = placed-alike g in
    let c =
    beside-same (links g) (links (with_rectangles g)) (stream_ends g)
    (stream_ends (with_rectangles g)) g.requests
    same.windows same.streams b in
    record {
      parts = parts;
      linked = c.linked;
      asked = asked-of (with_rectangles g) c.asked;
      areas = places_windows.gives g.windows g.cols g.rows windows;
    }

-- a window of this kind with its stream, that echoes nowhere
abbrev pub new_link : ℕ → ℕ → Link
new_link b kind = record { stream = b; echo = 0; kind = kind }

abbrev pub with_end : Ends → ℕ → ℕ → Ends
with_end s b a m = if m == b then Some (record { owner = Some a; is_plain = true }) else s m

-- one window more, its stream and its entry
pub more-linked : (w : Links) (s : Ends) (a b kind : ℕ) → w a ≡ None → s b ≡ None
    → AreLinked w s → AreLinked (with_link w a (new_link b kind)) (with_end s b a)
more-linked w s a b kind e f v =
    linked-opened w s (with_link w a (new_link b kind)) (with_end s b a) a b kind (record {
      new_window = e;
      new_stream = f;
      window = ap (λ t. cond t (Some (new_link b kind)) (w a)) (eq-eqb a a refl);
      stream = ap (λ t. cond t (Some (record { owner = Some a; is_plain = true })) (s b))
          (eq-eqb b b refl);
      windows = λ m h. ap (λ t. cond t (Some (new_link b kind)) (w m)) (ne_eqb m a h);
      streams = λ m h.
          ap (λ t. cond t (Some (record { owner = Some a; is_plain = true })) (s m))
          (ne_eqb m b h);
    }) v

-- the streams with one more
abbrev pub window_stream : ℕ → ℕ → Stream
window_stream b a = sopen.fresh_stream b 0 1 false (to.Window a) 0

pub ends-more : (t : streams.StreamTable) (a m : ℕ)
    → found streams.stream_number t.streams t.next ≡ None
    → ends_in (sopen.stream_added t (window_stream t.next a)) m ≡ with_end (ends_in t) t.next a m
ends-more t a m e =
    ap (option_map stream_end)
    (found-added streams.stream_number t.streams (window_stream t.next a) m e)
    ∙ of-end (m == t.next) (found streams.stream_number t.streams m)
  where
    of-end : (b : Bool) (o : Option Stream)
        → option_map stream_end (cond b (Some (window_stream t.next a)) o)
        ≡ cond b (Some (record { owner = Some a; is_plain = true })) (option_map stream_end o)
    of-end true o = refl
    of-end false o = refl

-- one window more at the end
abbrev pub streaming : ℕ → Window → Window
streaming n w = record w { stream = n }

pub links-more : (ws : List Window) (w : Window) (b m : ℕ) → w.echo ≡ 0
    → found tree.window_number ws w.number ≡ None
    → links_in (tree.set_at (streaming b) (ws ++ w ∷ []) w.number) m
    ≡ with_link (links_in ws) w.number (new_link b (reading.kind_in w.content)) m
links-more ws w b m echo e =
    ap (option_map window_link)
    (found-changed tree.window_number (streaming b) (λ x. refl) (ws ++ w ∷ []) w.number m
    ∙ ap (λ o. cond (m == w.number) (option_map (streaming b) o) o)
    (found-added tree.window_number ws w m e))
    ∙ if-both (m == w.number) (found tree.window_number ws m)
    ∙ ap (λ x. cond (m == w.number)
    (Some (record { stream = b; echo = x; kind = reading.kind_in w.content })) (links_in ws m)) echo
  where
    if-both : (t : Bool) (o : Option Window)
        → option_map window_link
        (cond t (option_map (streaming b) (cond t (Some w) o)) (cond t (Some w) o))
        ≡ cond t (Some (record { stream = b; echo = w.echo; kind = reading.kind_in w.content }))
        (option_map window_link o)
    if-both true o = refl
    if-both false o = refl

pub more-beside : (w : Links) (s : Ends) (rs : List WindowInput) (a b kind : ℕ) → w a ≡ None
    → s b ≡ None → Beside w s rs
    → Beside (with_link w a (new_link b kind)) (with_end s b a) (with_window rs a)
more-beside w s rs a b kind e f v = record {
  linked = more-linked w s a b kind e f v.linked;
  asked = asked-more w rs a (new_link b kind) e v.asked;
}

-- ---- one window more

-- a window begins where a number for its stream is there
abbrev pub begun_as : Glk → ℕ → Glk
begun_as g win = record g {
  streams = sopen.stream_added g.streams (window_stream g.streams.next win);
  windows = arranging.stream_set g.windows win g.streams.next;
  requests = with_window g.requests win;
}

pub begun-is : (g : Glk) (win : ℕ) → nat_lt MAX_NUMBER g.streams.next ≡ false
    → rows.window_begun g win ≡ begun_as g win
begun-is g win e = rw e refl

pub no-window-yet : (g : Glk) (n : ℕ) → AreValid g → g.windows.next ≤ n
    → found tree.window_number g.windows.slots n ≡ None
unfolding wvalid.IsOrdered
no-window-yet g n v h =
    found-high tree.window_number g.windows.slots 0 g.windows.next n v.windows.ordered.1 h

pub no-stream-yet : (g : Glk) (n : ℕ) → AreValid g → g.streams.next ≤ n
    → found streams.stream_number g.streams.streams n ≡ None
no-stream-yet g n v h =
    found-high streams.stream_number g.streams.streams 0 g.streams.next n (streams-ascend g v) h

-- the windows with these at the end
abbrev pub windows_with : Glk → List Window → ℕ → ℕ → Glk
windows_with g ws next root = record g { windows = record { slots = ws; next = next; root = root } }

first-beside : (g : Glk) (w : Window) (next root : ℕ) → IsValidGlk g → w.number ≡ g.windows.next
    → w.echo ≡ 0
    → Beside (links (begun_as (windows_with g (g.windows.slots ++ w ∷ []) next root) w.number))
    (stream_ends (begun_as (windows_with g (g.windows.slots ++ w ∷ []) next root) w.number))
    (with_window g.requests w.number)
first-beside g w next root v n echo =
    let b = g.streams.next in
    let h = begun_as (windows_with g (g.windows.slots ++ w ∷ []) next root) w.number in
    let new = no-window-yet g w.number v.parts (omega (arith, n)) in
    let free = no-stream-yet g b v.parts (omega arith) in
    beside-same (with_link (links g) w.number (new_link b (reading.kind_in w.content))) (links h)
    (with_end (stream_ends g) b w.number) (stream_ends h) (with_window g.requests w.number)
    (λ m. links-more g.windows.slots w b m echo new)
    (λ m. ends-more g.streams w.number m free)
    (more-beside (links g) (stream_ends g) g.requests w.number b (reading.kind_in w.content)
    (ap (option_map window_link) new) (ap (option_map stream_end) free) (beside-of g v))

pub next-there : (g : Glk) → AreValid g → (g.windows.next == 0) ≡ false
unfolding wvalid.IsOrdered
next-there g v = let some = v.windows.ordered.0 in grind (arith, common_steps, some)

-- a state with its number, where that isn't 0
pub made-if : (b : Bool) (x y : Glk × ℕ) → b ≡ false → AreValid (cond b x y).0
    → (AreValid y.0 → IsReadyGlk y.0) → IsReadyGlk (cond b x y).0
made-if true x y e p k = absurd cc
made-if false x y e p k = k p

pub first-ready : (g : Glk) (kind rock : ℕ) → IsReadyGlk g
    → wvalid.IsValidTree (opening.split g.windows 0 0 0 kind rock).0
    → AreValid (rows.first_window_opened g kind rock).0
    → IsReadyGlk (rows.first_window_opened g kind rock).0
first-ready g kind rock v windows parts =
    cond_both (nat_lt MAX_NUMBER g.streams.next) (g, 0) _
    (λ (x : Glk × ℕ). AreValid x.0 → IsReadyGlk x.0) (λ e p. v)
    (λ e. cond_both _ (t, 0) (h.windows, t.next) (λ (x : tree.WindowTree × ℕ).
    wvalid.IsValidTree x.0 → AreValid (rows.first_made g x).0 → IsReadyGlk (rows.first_made g x).0)
    (λ f w_valid p. v)
    (λ f w_valid p. made-if (t.next == 0) (h, 0)
    (with_rectangles (rows.window_begun h t.next), t.next) (next-there g v.valid.parts) p
    (begun-ready e w_valid)) windows) parts
  where
    t : tree.WindowTree
    t = g.windows

    w : Window
    w = opening.unplaced_window t.next rock 0 (opening.new_content kind)

    h : Glk
    h = windows_with g (t.slots ++ w ∷ []) (t.next + 1) t.next

    begun-ready : nat_lt MAX_NUMBER g.streams.next ≡ false → wvalid.IsValidTree h.windows
        → AreValid (with_rectangles (rows.window_begun h t.next))
        → IsReadyGlk (with_rectangles (rows.window_begun h t.next))
    begun-ready e w_valid p =
        let is : rows.window_begun h t.next ≡ begun_as h t.next = begun-is h t.next e in
        subst (λ x. IsReadyGlk (with_rectangles x)) (sym is) (record {
          valid = placed-valid (begun_as h t.next) (subst (λ x. AreValid (with_rectangles x)) is p)
              (keeps_valid.set_stream h.windows t.next g.streams.next w_valid)
              (first-beside g w (t.next + 1) t.next v.valid refl refl);
          rests = record { event = v.rests.event; prompt = v.rests.prompt };
        })
