-- A window that is opened beside another, and the pair above both.
use Rattle.std.proofs.Common.{◌≡◌, ℕ, ◌+◌, ◌==◌, nat_le, nat_lt, true, false, List, [], ◌∷◌, ◌++◌}
use Rattle.std.proofs.Common.{refl, sym, ap, ◌∙◌, arith, append_assoc, subst, cond, Option, Some}
use Rattle.std.proofs.Common.{None, option_map, if◌then◌else◌}
use Rattle.std.proofs.lemmas.Bool.{both_ways, cond_both, ne_eqb}
use Rattle.std.proofs.lemmas.Grind.{common_steps}
use Rattle.glk_numbers.specs.Numbered.{changed_at, found}
use Rattle.glk_numbers.specs.declared.numbered.TheConstants.{MAX_NUMBER}
use Rattle.glk_windows.specs.Tree as tree
use Rattle.glk_windows.specs.Arranging as arranging
use Rattle.glk_windows.specs.Opening as opening
use Rattle.glk_windows.specs.Reading as reading
use Rattle.glk_windows.specs.Valid as wvalid
use Rattle.glk_windows.specs.declared.window.Content.TheVariants.{Pair}
use Rattle.glk_windows.specs.declared.window.Window.{Window}
use Rattle.glk_windows.proofs.ValidLemmas.{keeps_valid}
use Rattle.glk_input.specs.Request.{with_window}
use Rattle.glk_input.specs.declared.request.WindowInput.{WindowInput}
use Rattle.glk_streams.specs.Streams as streams
use Rattle.glk_streams.specs.Opening as sopen
use Rattle.glk_dispatch.specs.Glk.{with_rectangles}
use Rattle.glk_dispatch.specs.Links.{Ends, Links, stream_end, stream_ends, window_link, links}
use Rattle.glk_dispatch.specs.Valid.{AreValid, IsReadyGlk, IsValidGlk}
use Rattle.glk_dispatch.specs.Windows as rows
use Rattle.glk_dispatch.specs.declared.glk.Glk.{Glk}
use Rattle.glk_dispatch.proofs.AskLemmas.{with_link}
use Rattle.glk_dispatch.proofs.BelowLemmas.{kind-swapped}
use Rattle.glk_dispatch.proofs.CloseLemmas.{links_in}
use Rattle.glk_numbers.proofs.FoundLemmas.{found-added, part-changed}
use Rattle.glk_dispatch.proofs.OpenLemmas.{Beside, begun-is, begun_as, beside-of, beside-same}
use Rattle.glk_dispatch.proofs.OpenLemmas.{ends-more, links-more, made-if, more-beside, new_link}
use Rattle.glk_dispatch.proofs.OpenLemmas.{next-there, no-stream-yet, no-window-yet, placed-valid}
use Rattle.glk_dispatch.proofs.OpenLemmas.{streaming, window_stream, windows_with, with_end}

changed-front : {X : Type 0} (number : X → ℕ) (f : X → X) (xs : List X) (x : X) (n : ℕ)
    → (number x == n) ≡ false
    → changed_at number f (xs ++ x ∷ []) n ≡ changed_at number f xs n ++ x ∷ []
unfolding changed_at
changed-front number f [] x n e = grind (arith, common_steps, e)
changed-front number f (y ∷ ys) x n e =
    grind (arith, common_steps, e, changed-front number f ys x n e)

joined-links : (ws : List Window) (from pair m : ℕ)
    → links_in (opening.pair_joined ws from pair) m ≡ links_in ws m
joined-links ws from pair m =
    part-changed tree.window_number window_link (λ w. record w { parent = pair })
    (λ w. refl) (λ w. refl)
    (tree.set_at (λ w. record w { content = tree.swapped w.content from pair }) ws
    (tree.parent_of ws from)) from m
    ∙ part-changed tree.window_number window_link
    (λ w. record w { content = tree.swapped w.content from pair }) (λ w. refl)
    (λ w. ap (λ k. record { stream = w.stream; echo = w.echo; kind = k })
    (kind-swapped w.content from pair)) ws (tree.parent_of ws from) m

unfound : (o : Option Window) → option_map window_link o ≡ None → o ≡ None
unfound None e = refl
unfound (Some w) e = cc

pub beside-beside : (g : Glk) (js : List Window) (w x : Window) (next root : ℕ) → IsValidGlk g
    → ((m : ℕ) → links_in js m ≡ links g m)
    → w.number ≡ g.windows.next → x.number ≡ g.windows.next + 1 → w.echo ≡ 0 → x.echo ≡ 0
    → Beside
    (links (begun_as (begun_as (windows_with g (js ++ w ∷ x ∷ []) next root) w.number) x.number))
    (stream_ends
    (begun_as (begun_as (windows_with g (js ++ w ∷ x ∷ []) next root) w.number) x.number))
    (with_window (with_window g.requests w.number) x.number)
beside-beside g js w x next root v same wn xn we xe =
    beside-same second (links h) second_ends (stream_ends h) second_asked second-links second-ends
    (more-beside first first_ends (with_window g.requests a) x.number (b + 1)
    (reading.kind_in x.content) first-none first_ends-none
    (more-beside (links_in js) (stream_ends g) g.requests a b (reading.kind_in w.content)
    (same a ∙ ap (option_map window_link) (no-window-yet g a v.parts (omega (arith, wn))))
    (ap (option_map stream_end) free)
    (beside-same (links g) (links_in js) (stream_ends g) (stream_ends g) g.requests same (λ m. refl)
    (beside-of g v))))
  where
    a : ℕ
    a = w.number

    b : ℕ
    b = g.streams.next

    h : Glk
    h = begun_as (begun_as (windows_with g (js ++ w ∷ x ∷ []) next root) w.number) x.number

    ws : List Window
    ws = tree.set_at (streaming b) (js ++ w ∷ []) a

    first : Links
    first = with_link (links_in js) a (new_link b (reading.kind_in w.content))

    second : Links
    second = with_link first x.number (new_link (b + 1) (reading.kind_in x.content))

    first_ends : Ends
    first_ends = with_end (stream_ends g) b a

    second_ends : Ends
    second_ends = with_end first_ends (b + 1) x.number

    second_asked : List WindowInput
    second_asked = with_window (with_window g.requests a) x.number

    free : found streams.stream_number g.streams.streams b ≡ None
    free = no-stream-yet g b v.parts (omega arith)

    apart : (x.number == a) ≡ false
    apart = ne_eqb x.number a (λ e. absurd (omega (arith, e, wn, xn)))

    after-apart : (b + 1 == b) ≡ false
    after-apart = ne_eqb (b + 1) b (λ e. absurd (omega (arith, e)))

    first-links : (m : ℕ) → links_in ws m ≡ first m
    first-links m = links-more js w b m we
        (unfound (found tree.window_number js a)
        (same a ∙ ap (option_map window_link) (no-window-yet g a v.parts (omega (arith, wn)))))

    first-none : first x.number ≡ None
    first-none =
        ap (λ t. cond t (Some (new_link b (reading.kind_in w.content))) (links_in js x.number))
        apart
        ∙ same x.number
        ∙ ap (option_map window_link) (no-window-yet g x.number v.parts (omega (arith, xn)))

    first_ends-none : first_ends (b + 1) ≡ None
    first_ends-none =
        ap (λ t. cond t (Some (record { owner = Some a; is_plain = true })) (stream_ends g (b + 1)))
        after-apart
        ∙ ap (option_map stream_end) (no-stream-yet g (b + 1) v.parts (omega arith))

    regrouped : (js ++ w ∷ []) ++ x ∷ [] ≡ js ++ w ∷ x ∷ []
    regrouped = simp append_assoc

    slots-are : tree.set_at (streaming b) (js ++ w ∷ x ∷ []) a ≡ ws ++ x ∷ []
    slots-are =
        ap (λ us. tree.set_at (streaming b) us a) (sym regrouped)
        ∙ changed-front tree.window_number (streaming b) (js ++ w ∷ []) x a apart

    second-links : (m : ℕ) → links h m ≡ second m
    second-links m =
        ap (λ us. links_in (tree.set_at (streaming (b + 1)) us x.number) m) slots-are
        ∙ links-more ws x (b + 1) m xe
        (unfound (found tree.window_number ws x.number) (first-links x.number ∙ first-none))
        ∙ ap (λ o. cond (m == x.number)
        (Some (new_link (b + 1) (reading.kind_in x.content))) o) (first-links m)

    second-ends : (m : ℕ) → stream_ends h m ≡ second_ends m
    second-ends m =
        ends-more (sopen.stream_added g.streams (window_stream b a)) x.number m
        (found-added streams.stream_number g.streams.streams (window_stream b a) (b + 1) free
        ∙ ap (λ t. cond t (Some (window_stream b a))
        (found streams.stream_number g.streams.streams (b + 1))) after-apart
        ∙ no-stream-yet g (b + 1) v.parts (omega arith))
        ∙ ap (λ o. cond (m == b + 1) (Some (record { owner = Some x.number; is_plain = true })) o)
        (ends-more g.streams a m free)

below-max : (n : ℕ) → nat_le MAX_NUMBER n ≡ false
    → (nat_lt MAX_NUMBER n ≡ false) × (nat_lt MAX_NUMBER (n + 1) ≡ false)
below-max n e = (grind (arith, common_steps, e), grind (arith, common_steps, e))

pub beside-ready : (g : Glk) (split method size kind rock : ℕ) → (split == 0) ≡ false → IsReadyGlk g
    → wvalid.IsValidTree (opening.split g.windows split method size kind rock).0
    → AreValid (rows.window_beside g split method size kind rock).0
    → IsReadyGlk (rows.window_beside g split method size kind rock).0
beside-ready g split method size kind rock some v windows parts =
    cond_both (nat_le MAX_NUMBER g.streams.next) (g, 0) _
    (λ (x : Glk × ℕ). AreValid x.0 → IsReadyGlk x.0) (λ e p. v)
    (λ e. cond_both (split == 0) _ _ Ready (λ f. absurd (both_ways _ some f))
    (λ f. cond_both _ (t, 0) (h.windows, t.next) Ready (λ f w_valid p. v)
    (λ f w_valid p. made-if (t.next == 0) (h, 0)
    (with_rectangles (rows.window_begun (rows.window_begun h t.next) (t.next + 1)), t.next)
    (next-there g v.valid.parts) p (begun-ready e w_valid))) windows) parts
  where
    Ready : tree.WindowTree × ℕ → Type 0
    Ready x = wvalid.IsValidTree x.0 → AreValid (rows.beside_made g x).0
        → IsReadyGlk (rows.beside_made g x).0

    t : tree.WindowTree
    t = g.windows

    js : List Window
    js = opening.pair_joined t.slots split (t.next + 1)

    w : Window
    w = opening.unplaced_window t.next rock (t.next + 1) (opening.new_content kind)

    x : Window
    x = opening.unplaced_window (t.next + 1) 0 (tree.parent_of t.slots split)
        (Pair (record {
          method = method;
          size = size;
          key = t.next;
          first = split;
          second = t.next;
        }))

    root : ℕ
    root = if t.root == split then t.next + 1 else t.root

    h : Glk
    h = windows_with g (js ++ w ∷ x ∷ []) (t.next + 2) root

    both-are : nat_le MAX_NUMBER g.streams.next ≡ false
        → rows.window_begun (rows.window_begun h t.next) (t.next + 1)
        ≡ begun_as (begun_as h t.next) (t.next + 1)
    both-are e =
        let few = below-max g.streams.next e in
        ap (λ y. rows.window_begun y (t.next + 1)) (begun-is h t.next few.0)
        ∙ begun-is (begun_as h t.next) (t.next + 1) few.1

    begun-ready : nat_le MAX_NUMBER g.streams.next ≡ false → wvalid.IsValidTree h.windows
        → AreValid (with_rectangles (rows.window_begun (rows.window_begun h t.next) (t.next + 1)))
        → IsReadyGlk (with_rectangles (rows.window_begun (rows.window_begun h t.next) (t.next + 1)))
    begun-ready e w_valid p =
        subst (λ y. IsReadyGlk (with_rectangles y)) (sym (both-are e)) (record {
          valid = placed-valid (begun_as (begun_as h t.next) (t.next + 1))
              (subst (λ y. AreValid (with_rectangles y)) (both-are e) p)
              (keeps_valid.set_stream
              (arranging.stream_set h.windows t.next g.streams.next) (t.next + 1)
              (g.streams.next + 1)
              (keeps_valid.set_stream h.windows t.next g.streams.next w_valid))
              (beside-beside g js w x (t.next + 2) root v.valid
              (joined-links t.slots split (t.next + 1)) refl refl refl refl);
          rests = record { event = v.rests.event; prompt = v.rests.prompt };
        })
