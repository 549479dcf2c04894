-- Windows and streams of lists as they name each other.
use Rattle.std.proofs.Common.{◌≡◌, ◌∙◌, ℕ, ◌==◌, Bool, true, false, List}
use Rattle.std.proofs.Common.{refl, sym, ap, arith, Option, Some, None, option_map, is_some}
use Rattle.std.specs.List.{list_all}
use Rattle.std.proofs.lemmas.Bool.{and_from, and_parts}
use Rattle.std.proofs.lemmas.Grind.{common_steps}
use Rattle.glk_numbers.specs.Numbered.{ascends, found}
use Rattle.glk_windows.specs.Tree as tree
use Rattle.glk_windows.specs.Reading as reading
use Rattle.glk_windows.specs.declared.window.Window.{Window}
use Rattle.glk_streams.specs.Streams as streams
use Rattle.glk_streams.specs.declared.stream.Stream.{Stream}
use Rattle.glk_streams.specs.declared.stream.Target as target
use Rattle.glk_streams.specs.declared.stream.Target.TheVariants as to
use Rattle.glk_dispatch.specs.Fields.{has_stream, is_named_by}
use Rattle.glk_dispatch.specs.Glk.{has_window, window_of_stream}
use Rattle.glk_dispatch.specs.Links.{ComesToAnEnd, End, Link, echo_by, echo_in}
use Rattle.glk_dispatch.specs.Links.{stream_end, stream_ends, window_link, links, next_echo, owner}
use Rattle.glk_dispatch.specs.Links.{owner_in, live_stream}
use Rattle.glk_dispatch.specs.Output.{echo_from}
use Rattle.glk_dispatch.specs.Valid.{AreValid}
use Rattle.glk_dispatch.specs.declared.glk.Glk.{Glk}
use Rattle.glk_dispatch.proofs.EchoLemmas.{echo-link, window-none, window-some}
use Rattle.glk_numbers.proofs.EachLemmas.{all-by-number, each-found}
use Rattle.glk_numbers.proofs.FoundLemmas.{has-found}
use Rattle.glk_dispatch.proofs.LoopLemmas.{end-go, end-stop}

-- ---- what holds of each of a list by its number

module _ {X : Type 0} (number : X → ℕ) (p : X → Bool) where
  pub all-found : (xs : List X) (n : ℕ) (x : X) → list_all p xs ≡ true → found number xs n ≡ Some x
      → p x ≡ true
  all-found xs n x e h = each-found number (list_all p) p refl (λ y ys. refl) xs n x h e

  pub found-all : (xs : List X) (low high : ℕ) → ascends number low high xs ≡ true
      → ((x : X) → found number xs (number x) ≡ Some x → p x ≡ true) → list_all p xs ≡ true
  found-all = all-by-number number (list_all p) p refl (λ y ys. refl)

-- ---- one window or stream, as it is named

pub owned-owner : (o : Option Stream) (win : ℕ)
    → streams.of_stream o false (λ s. streams.is_of_window win s.target) ≡ true
    → owner (option_map stream_end o) ≡ Some win
owned-owner None win e = absurd cc
owned-owner (Some s) win e = by-target s.target e
  where
    by-target : (t : target.Target) → streams.is_of_window win t ≡ true → owner_in t ≡ Some win
    by-target (to.Window w) e = let is : w ≡ win = grind (arith, common_steps, e) in ap Some is
    by-target (to.Memory b l) e = absurd cc
    by-target (to.File u n) e = absurd cc

pub owner-owned : (o : Option Stream) (win : ℕ) → owner (option_map stream_end o) ≡ Some win
    → streams.of_stream o false (λ s. streams.is_of_window win s.target) ≡ true
owner-owned None win e = absurd cc
owner-owned (Some s) win e = by-target s.target e
  where
    by-target : (t : target.Target) → owner_in t ≡ Some win → streams.is_of_window win t ≡ true
    by-target (to.Window w) e =
        let same : Some w ≡ Some win = e in
        let is : w ≡ win = cc in
        grind (arith, common_steps, is)
    by-target (to.Memory b l) e = absurd cc
    by-target (to.File u n) e = absurd cc

-- a link is that of a window
pub window-of-link : (o : Option Window) (l : Link) → option_map window_link o ≡ Some l
    → (w : Window) × (o ≡ Some w) × (l ≡ window_link w)
window-of-link None l e = absurd cc
window-of-link (Some w) l e =
    let same : ◌≡◌ {A = Option Link} (Some (window_link w)) (Some l) = e in
    let is : window_link w ≡ l = cc in
    (w, refl, sym is)

pub stream-of-end : (o : Option Stream) (e : End) → option_map stream_end o ≡ Some e
    → (s : Stream) × (o ≡ Some s) × (e ≡ stream_end s)
stream-of-end None e h = absurd cc
stream-of-end (Some s) e h =
    let same : ◌≡◌ {A = Option End} (Some (stream_end s)) (Some e) = h in
    let is : stream_end s ≡ e = cc in
    (s, refl, sym is)

pub stream-of-owner : (o : Option Stream) (win : ℕ) → owner (option_map stream_end o) ≡ Some win
    → (s : Stream) × (o ≡ Some s) × (owner_in s.target ≡ Some win)
stream-of-owner None win e = absurd cc
stream-of-owner (Some s) win e = (s, refl, e)

named-in : (o : Option Window) (n : ℕ) → is_some o ≡ true → tree.read_window 0 (λ w. w.stream) o ≡ n
    → live_stream (option_map window_link o) ≡ Some n
named-in None n e h = absurd cc
named-in (Some w) n e h = ap Some h

in-named : (o : Option Window) (n : ℕ) → live_stream (option_map window_link o) ≡ Some n
    → (is_some o ≡ true) × (tree.read_window 0 (λ w. w.stream) o ≡ n)
in-named None n e = absurd cc
in-named (Some w) n e =
    let same : Some w.stream ≡ Some n = e in
    let is : w.stream ≡ n = cc in
    (refl, is)

pub named-target : (g : Glk) (n win : ℕ) (t : target.Target) → owner_in t ≡ Some win
    → is_named_by g n t ≡ true → has_stream g win n ≡ true
named-target g n win (to.Window w) e h =
    let same : Some w ≡ Some win = e in
    let is : w ≡ win = cc in
    sym (ap (λ v. has_stream g v n) is) ∙ h
named-target g n win (to.Memory b l) e h = absurd cc
named-target g n win (to.File u m) e h = absurd cc

pub target-named : (g : Glk) (n : ℕ) (t : target.Target)
    → ((win : ℕ) → owner_in t ≡ Some win → has_stream g win n ≡ true) → is_named_by g n t ≡ true
target-named g n (to.Window w) h = h w refl
target-named g n (to.Memory b l) h = refl
target-named g n (to.File u m) h = refl

pub named-stream : (g : Glk) (win n : ℕ) → has_stream g win n ≡ true
    → live_stream (links g win) ≡ Some n
named-stream g win n e =
    let t = and_parts (has_window g win) (tree.stream_of g.windows.slots win == n) e in
    let is : tree.stream_of g.windows.slots win ≡ n = grind (arith, common_steps, t.1) in
    named-in (tree.window_at g.windows.slots win) n
    (sym (has-found tree.window_number g.windows.slots win) ∙ t.0) is

pub stream-named : (g : Glk) (win n : ℕ) → live_stream (links g win) ≡ Some n
    → has_stream g win n ≡ true
stream-named g win n e =
    let t = in-named (tree.window_at g.windows.slots win) n e in
    let is = t.1 in
    and_from (has_window g win) (tree.stream_of g.windows.slots win == n)
    (has-found tree.window_number g.windows.slots win ∙ t.0) (grind (arith, common_steps, is))

-- ---- the echoes, as the code follows them

pub echo-next : (g : Glk)
    → AreValid g → (n : ℕ)
    → echo_from g n ≡ next_echo (links g) (stream_ends g) n
echo-next g v n = by-owner (owner (stream_ends g n)) refl
  where
    at : ℕ → ℕ
    at x = reading.echo_of g.windows.slots x

    by-owner : (o : Option ℕ) → owner (stream_ends g n) ≡ o
        → reading.echo_of g.windows.slots (window_of_stream g n)
        ≡ echo_by (links g) (owner (stream_ends g n))
    by-owner None e =
        ap (reading.echo_of g.windows.slots) ((window-some g None n e).0 refl)
        ∙ echo-link (tree.window_at g.windows.slots 0)
        ∙ ap echo_in (window-none g v.windows)
        ∙ sym (ap (echo_by (links g)) e)
    by-owner (Some x) e =
        ap (reading.echo_of g.windows.slots) ((window-some g (Some x) n e).1 x refl)
        ∙ echo-link (tree.window_at g.windows.slots x)
        ∙ sym (ap (echo_by (links g)) e)

-- a stream that isn't live echoes to none
pub no-stream : (g : Glk) (n : ℕ) → streams.stream_at g.streams n ≡ None
    → ComesToAnEnd (next_echo (links g) (stream_ends g)) n
no-stream g n e =
    end-go (next_echo (links g) (stream_ends g)) n 0
    (ap (λ o. echo_by (links g) (owner (option_map stream_end o))) e)
    (end-stop (next_echo (links g) (stream_ends g)) 0 refl)
