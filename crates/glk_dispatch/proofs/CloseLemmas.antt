-- A window that is closed with its stream.
use Rattle.std.proofs.Common.{◌≡◌, inl, inr, ℕ, ◌==◌, Bool, true, false, List, [], ◌∷◌, refl}
use Rattle.std.proofs.Common.{sym, ap, ◌∙◌, arith, Option, Some, None, option_map, if◌then◌else◌}
use Rattle.std.proofs.Common.{◌≤◌}
use Rattle.std.proofs.lemmas.Grind.{common_steps}
use Rattle.std.proofs.lemmas.Bool.{both_ways, cases_Bool, eq-eqb, eqb-true}
use Rattle.glk_numbers.specs.Numbered.{ascends, found, without}
use Rattle.glk_windows.specs.Tree as tree
use Rattle.glk_windows.specs.Closing as closing
use Rattle.glk_windows.specs.Reading as reading
use Rattle.glk_windows.proofs.OrderLemmas.{Ascends}
use Rattle.glk_windows.specs.declared.window.Content.{Content}
use Rattle.glk_windows.specs.declared.window.Content.TheVariants.{Pair}
use Rattle.glk_windows.specs.declared.window.Window.{Window}
use Rattle.glk_streams.specs.Streams as streams
use Rattle.glk_streams.specs.Opening as sopen
use Rattle.glk_streams.specs.declared.stream.Stream.{Stream}
use Rattle.glk_streams.specs.declared.stream.Target as target
use Rattle.glk_streams.specs.declared.stream.Target.TheVariants as to
use Rattle.glk_dispatch.specs.Links.{AreLinked, Ends, Link, Links, stream_end}
use Rattle.glk_dispatch.specs.Links.{window_link, owner, owner_in, live_stream}
use Rattle.glk_numbers.proofs.FoundLemmas.{found-low, found-map, found-without}
use Rattle.glk_dispatch.proofs.LinkLemmas.{linked-closed, unechoed}

-- the windows of a list, and the streams of a table, as they name each other
abbrev pub links_in : List Window → Links
links_in ws m = option_map window_link (tree.window_at ws m)

abbrev pub ends_in : streams.StreamTable → Ends
ends_in t m = option_map stream_end (streams.stream_at t m)

pub is-of : (t : target.Target) (n : ℕ) → streams.is_of_window n t ≡ true → owner_in t ≡ Some n
is-of (to.Window w) n e = ap Some (grind (arith, common_steps, e))
is-of (to.Memory b l) n e = absurd cc
is-of (to.File u m) n e = absurd cc

of-owner : (t : target.Target) (n : ℕ) → owner_in t ≡ Some n → streams.is_of_window n t ≡ true
of-owner (to.Window w) n e = (let x : w ≡ n = some-number w n e in grind (arith, common_steps, x))
  where
    some-number : (m n : ℕ) → ◌≡◌ {A = Option ℕ} (Some m) (Some n) → m ≡ n
    some-number m n e = cc
of-owner (to.Memory b l) n e = absurd cc
of-owner (to.File u m) n e = absurd cc

-- the first stream of a window is one of the window
pub owned : (ss : List Stream) (low high n k : ℕ) → ascends streams.stream_number low high ss ≡ true
    → owner (option_map stream_end (found streams.stream_number ss k)) ≡ Some n
    → owner (option_map stream_end (found streams.stream_number ss (streams.stream_of_window ss n)))
    ≡ Some n
unfolding found ascends streams.stream_of_window
owned [] low high n k a e = absurd cc
owned (s ∷ ss) low high n k a e = elim (cases_Bool (streams.is_of_window n s.target)) [
  | inl h ↦
      let own = is-of s.target n h in
      let here : (s.number == s.number) ≡ true = grind (arith, common_steps) in
      ap (λ b. owner (option_map stream_end (if (s.number ==
      (if b then s.number else streams.stream_of_window ss n)) then Some s else found
      streams.stream_number ss (if b then s.number else streams.stream_of_window ss n)))) h
      ∙ ap (λ b. owner (option_map stream_end (if b then Some s else found streams.stream_number ss
      s.number))) here ∙ own
  | inr h ↦
      let order : ascends streams.stream_number s.number high ss
      ≡ true = grind (arith, common_steps, a) in
      let not_here : (s.number == k) ≡ false = elim (cases_Bool (s.number == k)) [
        | inl x ↦
            let c = of-owner s.target n (sym (ap (λ b. owner
            (option_map stream_end (if b then Some s else found streams.stream_number ss k))) x)
            ∙ e) in
            absurd (both_ways (streams.is_of_window n s.target) h c)
        | inr x ↦ x
      ] in
      let rest = owned ss s.number high n k order (sym
      (ap
      (λ b. owner (option_map stream_end (if b then Some s else found streams.stream_number ss k)))
      not_here) ∙ e) in
      let later : (s.number == streams.stream_of_window ss n)
      ≡ false = elim (cases_Bool (s.number == streams.stream_of_window ss n)) [
        | inl x ↦
            let le : streams.stream_of_window ss n ≤ s.number = grind (arith, common_steps, x) in
            let c : None ≡ Some n = sym (ap (λ o. owner (option_map stream_end o))
            (found-low streams.stream_number ss s.number high (streams.stream_of_window ss n) order
            le)) ∙ rest in
            absurd cc
        | inr x ↦ x
      ] in
      ap (λ b. owner (option_map stream_end (if (s.number ==
      (if b then s.number else streams.stream_of_window ss n)) then Some s else found
      streams.stream_number ss (if b then s.number else streams.stream_of_window ss n)))) h
      ∙ ap (λ b. owner (option_map stream_end (if b then Some s else found streams.stream_number ss
      (streams.stream_of_window ss n)))) later ∙ rest
]

kind-unkeyed : (c : Content) (n : ℕ) → reading.kind_in (closing.content_unkeyed n c)
    ≡ reading.kind_in c
kind-unkeyed (Pair p) n = refl
kind-unkeyed c n = refl

link-closed : (n str : ℕ) (b : Bool) (o : Option Window)
    → option_map window_link (option_map (closing.unlinked n str) (if b then None else o))
    ≡ (if b then None else option_map (unechoed (λ m. m == str)) (option_map window_link o))
link-closed n str true o = refl
link-closed n str false None = refl
link-closed n str false (Some w) = ap (λ k. Some (record
    { stream = w.stream; echo = if w.echo == str then 0 else w.echo; kind = k }))
    (kind-unkeyed w.content n)

end-closed : (b : Bool) (o : Option Stream) → option_map stream_end (if b then None else o)
    ≡ (if b then None else option_map stream_end o)
end-closed true o = refl
end-closed false o = refl

some-same : (m n : ℕ) → ◌≡◌ {A = Option ℕ} (Some m) (Some n) → m ≡ n
some-same m n e = cc

stream-link : (o : Option Window) (n : ℕ) → live_stream (option_map window_link o) ≡ Some n
    → tree.read_window 0 (λ w. w.stream) o ≡ n
stream-link None n e = absurd cc
stream-link (Some w) n e = some-same w.stream n e

live-owner : (w : Links) (s : Ends) → AreLinked w s → (n k : ℕ) (o : Option Link) → w n ≡ o
    → live_stream o ≡ Some k → owner (s k) ≡ Some n
live-owner w s v n k None e h = absurd cc
live-owner w s v n k (Some l) e h = ap (λ j. owner (s j)) (sym (some-same l.stream k h))
    ∙ v.streams n l e

both-or-none : (a b : Bool) → (a ≡ true → b ≡ true) → (b ≡ true → a ≡ true) → a ≡ b
both-or-none true b f g = sym (f refl)
both-or-none false true f g = g refl
both-or-none false false f g = refl

-- the windows that stay
pub links-less : (ws : List Window) (z n : ℕ) → Ascends 0 ws z → (m : ℕ)
    → links_in (closing.windows_without ws n) m
    ≡ (if m == n then None
    else option_map (unechoed (λ j. j == tree.stream_of ws n)) (links_in ws m))
links-less ws z n o m =
    ap (option_map window_link)
    (found-map tree.window_number (closing.unlinked n (tree.stream_of ws n)) (λ w. refl)
    (without tree.window_number ws n) m
    ∙ ap (option_map (closing.unlinked n (tree.stream_of ws n)))
    (found-without tree.window_number ws 0 z n m o.1))
    ∙ link-closed n (tree.stream_of ws n) (m == n) (tree.window_at ws m)

-- a live window is taken out of the list, and its stream out of the table: they end together, and
-- no window echoes to that stream
pub linked-less : (ws : List Window) (t : streams.StreamTable) (z n k : ℕ) → Ascends 0 ws z
    → ascends streams.stream_number 0 t.next t.streams ≡ true
    → live_stream (links_in ws n) ≡ Some k → AreLinked (links_in ws) (ends_in t)
    → AreLinked (links_in (closing.windows_without ws n)) (ends_in (sopen.closed_window t n).0)
linked-less ws t z n k o a live v =
    let str_is : tree.stream_of ws n ≡ k = stream-link (tree.window_at ws n) k live in
    let own : owner (ends_in t k) ≡ Some n = live-owner (links_in ws) (ends_in t) v n k
    (links_in ws n) refl live in
    let first : owner (ends_in t (streams.stream_of_window t.streams n))
    ≡ Some n = owned t.streams 0 t.next n k a own in
    let first_is : streams.stream_of_window t.streams n
    ≡ k = some-same (streams.stream_of_window t.streams n) k
    (sym (v.windows (streams.stream_of_window t.streams n) n first) ∙ live) in
    linked-closed (links_in ws) (ends_in t) (links_in (closing.windows_without ws n))
    (ends_in (sopen.closed_window t n).0) (λ m. m == n) (λ m. m == k) (record {
      windows = λ m. links-less ws z n o m
          ∙ ap (λ str. if m == n then None else option_map (unechoed (λ j. j == str))
          (links_in ws m))
          str_is;
      streams = λ m.
          ap (λ j. option_map stream_end (found streams.stream_number
          (without streams.stream_number t.streams j) m)) first_is
          ∙ ap (option_map stream_end)
          (found-without streams.stream_number t.streams 0 t.next k m a)
          ∙ end-closed (m == k) (streams.stream_at t m);
      together = λ m win e. both-or-none (m == k) (win == n)
          (λ x. eq-eqb win n (some-same win n (sym e
          ∙ ap (λ j. owner (ends_in t j)) (eqb-true m k x) ∙ own)))
          (λ x. eq-eqb m k (some-same m k (sym (v.windows m win e)
          ∙ ap (λ j. live_stream (links_in ws j)) (eqb-true win n x) ∙ live)));
    }) v
