-- A window that is closed with all below it: the whole Glk state stays valid.
use Rattle.std.proofs.Common.{◌≡◌, ◌⊎◌, ℕ, ◌==◌, ◌≤◌, Bool, true, false, List, [], ◌∷◌}
use Rattle.std.proofs.Common.{length, refl, sym, ap, ◌∙◌, subst, arith, Option, Some, None, cond}
use Rattle.std.proofs.Common.{option_map, inl, inr}
use Rattle.std.proofs.lemmas.Grind.{common_steps}
use Rattle.std.proofs.lemmas.Bool.{cases_Bool, eqb-false, eqb-true}
use Rattle.glk_numbers.specs.Numbered.{ascends, found, without}
use Rattle.glk_windows.specs.Tree as tree
use Rattle.glk_windows.specs.Closing.{close, sibling_lifted, removed}
use Rattle.glk_windows.specs.OneTree.{IsTree, Shape, tree_size, top}
use Rattle.glk_windows.specs.Valid.{IsOrdered}
use Rattle.glk_windows.specs.declared.window.Window.{Window}
use Rattle.glk_windows.proofs.CutLemmas.{size_length}
use Rattle.glk_windows.proofs.OneTreeLemmas.{node_parent, once_le, spells_top}
use Rattle.glk_windows.proofs.OrderLemmas.{Ascends, ascends-removed}
use Rattle.glk_windows.proofs.ValidLemmas.{SomeTree, node_live, node_nil, some_tree}
use Rattle.glk_numbers.proofs.OrderLemmas.{ascends-without}
use Rattle.glk_streams.specs.Opening as sopen
use Rattle.glk_streams.specs.Streams as streams
use Rattle.glk_streams.specs.declared.stream.Stream.{Stream}
use Rattle.glk_dispatch.specs.Glk.{has_window}
use Rattle.glk_dispatch.specs.Links.{Link, stream_end, window_link, owner, live_stream}
use Rattle.glk_dispatch.specs.Valid.{AreValid, IsReadyGlk}
use Rattle.glk_dispatch.specs.Windows as rows
use Rattle.glk_dispatch.specs.declared.glk.Glk.{Glk}
use Rattle.glk_dispatch.proofs.AskLemmas.{asked-by, asked-less}
use Rattle.glk_dispatch.proofs.BelowLemmas.{AreLeft, all_dropped-same, all_dropped-windows}
use Rattle.glk_dispatch.proofs.BelowLemmas.{closed-left, removed-left}
use Rattle.glk_dispatch.proofs.CloseLemmas.{ends_in, is-of, links_in}
use Rattle.glk_numbers.proofs.FoundLemmas.{found-low, found-without}
use Rattle.glk_dispatch.proofs.LinkLemmas.{linked-same}
use Rattle.glk_dispatch.proofs.OpenLemmas.{placed-valid}
use Rattle.glk_dispatch.proofs.EchoLemmas.{streams-ascend}

-- ---- no stream is of a number that no window has

none-owned : (ss : List Stream) (low high n : ℕ) → ascends streams.stream_number low high ss ≡ true
    → ((k : ℕ) → owner (option_map stream_end (found streams.stream_number ss k)) ≡ Some n → ⊥)
    → streams.stream_of_window ss n ≡ 0
unfolding found ascends streams.stream_of_window
none-owned [] low high n a h = refl
none-owned (s ∷ ss) low high n a h = elim (cases_Bool (streams.is_of_window n s.target)) [
  | inl e ↦
      let here : (s.number == s.number) ≡ true = grind (arith, common_steps) in
      absurd (h s.number
      (ap (λ b.
      owner (option_map stream_end (cond b (Some s) (found streams.stream_number ss s.number))))
      here ∙ is-of s.target n e))
  | inr e ↦
      let order : ascends streams.stream_number s.number high ss ≡ true =
      grind (arith, common_steps, a) in
      ap (λ b. cond b s.number (streams.stream_of_window ss n)) e
      ∙ none-owned ss s.number high n order (λ k own. h k (behind k order own))
]
  where
    behind : (k : ℕ) → ascends streams.stream_number s.number high ss ≡ true
        → owner (option_map stream_end (found streams.stream_number ss k)) ≡ Some n
        → owner
        (option_map stream_end (cond (s.number == k) (Some s) (found streams.stream_number ss k)))
        ≡ Some n
    behind k order own = elim (cases_Bool (s.number == k)) [
      | inl x ↦
          let le : k ≤ s.number = grind (arith, common_steps, x) in
          let c : None ≡ Some n =
          sym (ap (λ o. owner (option_map stream_end o))
          (found-low streams.stream_number ss s.number high k order le)) ∙ own in
          absurd cc
      | inr x ↦
          ap
          (λ b. owner (option_map stream_end (cond b (Some s) (found streams.stream_number ss k))))
          x
          ∙ own
    ]

-- dropping such a number drops nothing
none-left : (us : List Window) (g : Glk) (z : ℕ) → Ascends 0 us z → AreLeft us g
    → AreLeft us (rows.window_dropped g 0)
none-left us g z o v = record {
  order = ascends-without streams.stream_number g.streams.streams 0 g.streams.next
      (streams.stream_of_window g.streams.streams 0) v.order;
  linked = linked-same (links_in us) (ends_in g.streams) (links_in us)
      (ends_in (sopen.closed_window g.streams 0).0)
      (record { windows = λ m. refl; streams = same-ends }) v.linked;
  asked = asked-less (links_in us) (links_in us) g.requests 0 (λ l. l) (λ l. refl)
      (λ m. same-link m (links_in us m) (cases_Bool (m == 0)) refl) v.asked;
}
  where
    none : links_in us 0 ≡ None
    none = ap (option_map window_link) (found-low tree.window_number us 0 z 0 o.1 (omega arith))

    no_stream : streams.stream_of_window g.streams.streams 0 ≡ 0
    no_stream = none-owned g.streams.streams 0 g.streams.next 0 v.order (λ k own.
        (let c : None ≡ Some k = sym (ap live_stream none) ∙ v.linked.windows k 0 own in absurd cc))

    same-ends : (m : ℕ) → ends_in (sopen.closed_window g.streams 0).0 m ≡ ends_in g.streams m
    same-ends m =
        ap (λ j. option_map stream_end
        (found streams.stream_number (without streams.stream_number g.streams.streams j) m))
        no_stream
        ∙ ap (option_map stream_end)
        (found-without streams.stream_number g.streams.streams 0 g.streams.next 0 m v.order)
        ∙ at-zero (m == 0) refl
      where
        at-zero : (b : Bool) → (m == 0) ≡ b
            → option_map stream_end (cond b None (found streams.stream_number g.streams.streams m))
            ≡ option_map stream_end (found streams.stream_number g.streams.streams m)
        at-zero true e =
            let m_is : m ≤ 0 = grind (arith, common_steps, e) in
            sym (ap (option_map stream_end)
            (found-low streams.stream_number g.streams.streams 0 g.streams.next m v.order m_is))
        at-zero false e = refl

    same-link : (m : ℕ) (o : Option Link) → ((m == 0) ≡ true) ⊎ ((m == 0) ≡ false)
        → links_in us m ≡ o → o ≡ cond (m == 0) None (option_map (λ (l : Link). l) o)
    same-link m o (inl e) f =
        let m_is : m ≡ 0 = grind (arith, common_steps, e) in
        sym f ∙ ap (links_in us) m_is ∙ none
        ∙ sym (ap (λ b. cond b None (option_map (λ (l : Link). l) o)) e)
    same-link m None (inr e) f = sym (ap (λ b. cond b None None) e)
    same-link m (Some l) (inr e) f = sym (ap (λ b. cond b None (Some l)) e)

-- ---- closing

left-true : (b : Bool) (x y : tree.WindowTree) (u : Glk) → b ≡ true → AreLeft x.slots u
    → AreLeft (cond b x y).slots u
left-true true x y u e h = h
left-true false x y u e h = absurd cc

root-left : (g : Glk) (s : Shape) (n : ℕ) → IsOrdered g.windows → IsTree g.windows (Some s)
    → top s ≡ n → AreLeft g.windows.slots g
    → AreLeft (close g.windows n).slots (rows.closed_dropped g n)
unfolding IsOrdered
root-left g s n o h e v =
    let ws : List Window = g.windows.slots in
    let d : ℕ = length ws in
    let few : tree_size s ≤ d =
    omega (arith, size_length 0 ws g.windows.next 0 s o h.1 h.2) in
    let all : AreLeft (removed d ws (top s)) (rows.all_dropped d g (top s)) =
    removed-left d s ws g 0 g.windows.next few o h.1 (λ m. once_le _ _ (h.2 m)) (λ m l. refl) v in
    let all_n : AreLeft (removed d ws n) (rows.all_dropped d g n) =
    subst (λ j. AreLeft (removed d ws j) (rows.all_dropped d g j)) e all in
    let above : tree.parent_of ws n ≡ 0 =
    ap (tree.parent_of ws) (sym e) ∙ sym (node_parent ws (top s) _ (spells_top ws s 0 h.1)) in
    let order : Ascends 0 (removed d ws n) g.windows.next =
    ascends-removed d 0 ws g.windows.next n o in
    let last : AreLeft (removed d ws n) (rows.window_dropped (rows.all_dropped d g n) 0) =
    none-left (removed d ws n) (rows.all_dropped d g n) g.windows.next order all_n in
    left-true (tree.parent_of ws n == 0) (record g.windows { slots = removed d ws n; root = 0 })
    (sibling_lifted (record g.windows { slots = removed d ws n }) (tree.parent_of ws n)
    (tree.pair_of (removed d ws n) (tree.parent_of ws n)) n)
    (rows.closed_dropped g n) (ap (λ j. j == 0) above)
    (subst (λ j. AreLeft (removed d ws n) (rows.window_dropped (rows.all_dropped d g n) j))
    (sym above)
    last)

close-left : (g : Glk) (n : ℕ) → IsOrdered g.windows → SomeTree g.windows
    → has_window g n ≡ true → AreLeft g.windows.slots g
    → AreLeft (close g.windows n).slots (rows.closed_dropped g n)
close-left g n o (None, h, k) live v =
    let x = node_live g.windows.slots n live in absurd (node_nil g.windows.slots n x.0 h.1 x.1)
close-left g n o (Some s, h, k) live v =
    let x = node_live g.windows.slots n live in
    elim (cases_Bool (top s == n)) [
      | inl e ↦ root-left g s n o h (eqb-true (top s) n e) v
      | inr e ↦ closed-left g s n x.0 o h x.1 (eqb-false (top s) n e) v
    ]

-- the closed windows, beside what was dropped with them, get their rectangles
pub closed-ready : (g : Glk) (win : ℕ) → IsReadyGlk g → has_window g win ≡ true
    → AreValid (rows.window_ended g win)
    → AreValid (rows.glk_without_window g win)
    → IsReadyGlk (rows.glk_without_window g win)
closed-ready g win v live ended parts =
    let d = length g.windows.slots in
    let c = rows.closed_dropped g win in
    let same : c.windows ≡ g.windows = all_dropped-windows d g win in
    let left : AreLeft (close g.windows win).slots c =
    close-left g win v.valid.parts.windows.ordered (some_tree g.windows v.valid.parts.windows) live
    (record {
      order = streams-ascend g v.valid.parts;
      linked = v.valid.linked;
      asked = asked-by g v.valid.asked;
    }) in
    let there : AreLeft (close c.windows win).slots c =
    subst (λ t. AreLeft (close t win).slots c) (sym same) left in
    record {
      valid = placed-valid (rows.window_ended g win) parts ended.windows
          (record { linked = there.linked; asked = there.asked });
      rests = record {
        event = all_dropped-same (λ h. h.event) (λ h n. refl) d g win ∙ v.rests.event;
        prompt = all_dropped-same (λ h. h.prompt) (λ h n. refl) d g win ∙ v.rests.prompt;
      };
    }
