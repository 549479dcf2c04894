-- The calls of windows keep what the work of a call keeps.
use Rattle.std.proofs.Common.{◌≡◌, ℕ, zero, suc, ◌==◌, ◌||◌, ◌&&◌, not, true, [], ◌∷◌, length, refl}
use Rattle.std.proofs.Common.{Result, Ok, Err, sym, subst, Option, Some, None, ◌≤◌, List, ap}
use Rattle.std.proofs.lemmas.Bool.{and_parts, cond_both, ne_eqb, not-true}
use Rattle.vm_memory.specs.Chaining.{◌>>=◌}
use Rattle.glk_numbers.specs.Numbered.{number_above, has}
use Rattle.glk_windows.proofs.AreaLemmas.{SamePlacement, areas-alike, content-placed}
use Rattle.glk_windows.proofs.AreaLemmas.{placement-changed}
use Rattle.glk_windows.specs.Areas.{HaveAreas}
use Rattle.glk_windows.specs.Arranging as arranging
use Rattle.glk_windows.specs.Closing as closing
use Rattle.glk_windows.specs.Output as output
use Rattle.glk_windows.specs.Reading as reading
use Rattle.glk_windows.specs.Tree as tree
use Rattle.glk_windows.specs.Valid as wvalid
use Rattle.glk_windows.specs.declared.window.Content.{Content}
use Rattle.glk_windows.specs.declared.window.Content.TheVariants.{Pair}
use Rattle.glk_windows.specs.declared.window.Pair as pairs
use Rattle.glk_windows.specs.declared.window.Window.{Window as Win}
use Rattle.glk_streams.specs.FileRefs as refs
use Rattle.glk_streams.specs.Laws as slaw
use Rattle.glk_streams.specs.Streams.{StreamTable}
use Rattle.glk_streams.specs.declared.fault.StreamStop.{StreamStop}
use Rattle.glk_dispatch.specs.Answer.{GlkCall, over_glk_alone, within}
use Rattle.glk_dispatch.specs.Fault.{streams_coded}
use Rattle.glk_dispatch.specs.Glk.{is_stream, has_window, with_rectangles, written_to}
use Rattle.glk_dispatch.specs.Links.{stream_ends, window_link, links}
use Rattle.glk_dispatch.specs.Valid.{AreValid, IsReadyGlk}
use Rattle.glk_dispatch.specs.Reference.{gives, refers, refers_all}
use Rattle.glk_dispatch.specs.Windows as rows
use Rattle.glk_dispatch.specs.declared.glk.Glk.{Glk}
use Rattle.glk_dispatch.specs.declared.windows.WindowCall.{WindowCall}
use Rattle.glk_dispatch.specs.declared.windows.WindowCall.TheVariants as to
use Rattle.glk_dispatch.proofs.BelowLemmas.{all_dropped-windows}
use Rattle.glk_dispatch.proofs.CloseLemmas.{links_in}
use Rattle.glk_dispatch.proofs.ClosingLemmas.{closed-ready}
use Rattle.glk_numbers.proofs.FoundLemmas.{part-changed}
use Rattle.glk_dispatch.proofs.KeptLemmas.{Kept, answers, kept-alone, kept-bind}
use Rattle.glk_dispatch.proofs.KeptLemmas.{kept-read, kept-row, laws, on, parts-windows, placed-on}
use Rattle.glk_dispatch.proofs.KeptLemmas.{row, row-needs, self, stands, told, with-streams}
use Rattle.glk_dispatch.proofs.KeptLemmas.{with-windows}
use Rattle.glk_dispatch.proofs.KeptOpening.{kept-opened, or-second, placed-parts}
use Rattle.glk_dispatch.proofs.KeptStory.{kept-one, kept-refers, kept-refers_all, kept-then}
use Rattle.glk_dispatch.proofs.KeptStory.{kept-told}
use Rattle.glk_dispatch.proofs.StreamLemmas.{LeavesAlone, current-more}
use Rattle.glk_dispatch.proofs.OpenLemmas.{beside-of, beside-same, placed-valid}
use Rattle.glk_dispatch.proofs.PartLemmas.{asked-kinds, kind-cleared}
use Rattle.glk_dispatch.proofs.EchoLemmas.{echo_set-kinds, echo_set-linked}

dropped-valid : (g : Glk) (win : ℕ) → AreValid g → AreValid (rows.window_dropped g win)
dropped-valid g win v = record {
  windows = v.windows;
  streams = (laws.streams g.streams v.streams).close_window win;
  requests = laws.requests.dropped g.requests win v.requests;
  next = v.next;
}

all_dropped-valid : (depth : ℕ) (g : Glk) (win : ℕ) → AreValid g
    → AreValid (rows.all_dropped depth g win)
unfolding rows.all_dropped
all_dropped-valid zero g win v = v
all_dropped-valid (suc depth) g win v =
    let h = rows.window_dropped g win in
    let p = reading.children_of g.windows.slots win in
    cond_both (p.0 == 0) h (rows.all_dropped depth (rows.all_dropped depth h p.0) p.1) AreValid
    (λ e. dropped-valid g win v)
    (λ e. all_dropped-valid depth (rows.all_dropped depth h p.0) p.1
    (all_dropped-valid depth h p.0 (dropped-valid g win v)))

next-lifted : (t : tree.WindowTree) (pair : ℕ) (o : Option pairs.Pair) (n : ℕ)
    → (closing.sibling_lifted t pair o n).next ≡ t.next
next-lifted t pair None n = refl
next-lifted t pair (Some p) n = refl

next-close : (t : tree.WindowTree) (n : ℕ) → (closing.close t n).next ≡ t.next
next-close t n =
    cond_both (tree.parent_of t.slots n == 0) _ _ (λ (u : tree.WindowTree). u.next ≡ t.next)
    (λ e. refl) (λ e. next-lifted _ _ _ _)

ended-valid : (g : Glk) (win : ℕ) → AreValid g → has_window g win ≡ true
    → AreValid (rows.window_ended g win)
ended-valid g win v live =
    let d = rows.all_dropped (length g.windows.slots) g win in
    let dv = all_dropped-valid (length g.windows.slots) g win v in
    let c = rows.closed_dropped g win in
    let cv : AreValid c = dropped-valid d (tree.parent_of g.windows.slots win) dv in
    let same : c.windows ≡ g.windows = all_dropped-windows (length g.windows.slots) g win in
    record {
      windows = laws.windows.close c.windows win cv.windows
          (subst (λ t. has tree.window_number t.slots win ≡ true) (sym same) live);
      streams = cv.streams;
      requests = cv.requests;
      next = subst (λ n. n ≤ 4294967295) (sym (next-close c.windows win)) cv.next;
    }

-- other windows that name their streams as before get their rectangles
placed-ready : (g : Glk) (t : tree.WindowTree) → IsReadyGlk g → wvalid.IsValidTree t
    → t.next ≤ 4294967295 → ((m : ℕ) → links (record g { windows = t }) m ≡ links g m)
    → IsReadyGlk (with_rectangles (record g { windows = t }))
placed-ready g t v windows next same =
    let h = record g { windows = t } in record {
      valid = placed-valid h
          (placed-parts h (parts-windows g t v.valid.parts windows next)) windows
          (beside-same (links g) (links h) (stream_ends g) (stream_ends h) g.requests same
          (λ m. refl)
          (beside-of g v.valid));
      rests = record { event = v.rests.event; prompt = v.rests.prompt };
    }

closed-there : (g : Glk) (win : ℕ) → IsReadyGlk g → has_window g win ≡ true
    → IsReadyGlk (rows.glk_without_window g win)
closed-there g win v live =
    let ended = ended-valid g win v.valid.parts live in
    closed-ready g win v live ended (placed-parts (rows.window_ended g win) ended)

kind-arranged : (c : Content) (method size key : ℕ)
    → reading.kind_in (tree.content_arranged c method size key) ≡ reading.kind_in c
kind-arranged (Pair p) method size key = refl
kind-arranged c method size key = refl

kind-moved : (c : Content) (x y : ℕ)
    → reading.kind_in (tree.grid_cursor_moved c x y) ≡ reading.kind_in c
kind-moved (Pair p) x y = refl
kind-moved c x y = refl

cleared-placement : SamePlacement output.content_cleared
cleared-placement (Pair p) = (refl, refl)
cleared-placement c = (refl, refl)

moved-placement : (x y : ℕ) → SamePlacement (λ c. tree.grid_cursor_moved c x y)
moved-placement x y (Pair p) = (refl, refl)
moved-placement x y c = (refl, refl)

content-areas : (f : Content → Content) → SamePlacement f → (t : tree.WindowTree)
    (n cols rows : ℕ) → HaveAreas t cols rows
    → HaveAreas (record t {
      slots = tree.set_at (λ w. record w { content = f w.content }) t.slots n;
    }) cols rows
content-areas f same t n cols rows h =
    areas-alike t
    (record t { slots = tree.set_at (λ w. record w { content = f w.content }) t.slots n })
    cols rows refl
    (placement-changed (λ w. record w { content = f w.content }) (λ w. refl)
    (content-placed f same) t.slots n) h

-- the content of a window is changed, and its type stays
content-links : (f : Content → Content)
    → ((c : Content) → reading.kind_in (f c) ≡ reading.kind_in c) → (ws : List Win) (n m : ℕ)
    → links_in (tree.set_at (λ w. record w { content = f w.content }) ws n) m ≡ links_in ws m
content-links f same ws n m =
    part-changed tree.window_number window_link (λ w. record w { content = f w.content })
    (λ w. refl)
    (λ w. ap (λ k. record { stream = w.stream; echo = w.echo; kind = k }) (same w.content)) ws n m

kept-arranged : (s : GlkCall) (win method size key : ℕ)
    → Kept s (told s) (rows.window_arranged s.glk win method size key)
kept-arranged s win method size key =
    let g = s.glk in
    let t = arranging.arrange g.windows win method size key in
    row-needs s (told s) (has_window g win) 21 _ (λ live.
    row-needs s (told s) (rows.is_pair g win) 22 _ (λ p.
    row-needs s (told s)
    (arranging.is_method method && reading.is_same_axis g.windows.slots win method) 22 _ (λ m.
    row-needs s (told s) (key == 0 || has_window g key) 21 _ (λ k.
    row-needs s (told s) (reading.may_key g.windows.slots win key) 22 _ (λ may. λ v.
    stands (with_rectangles (record g { windows = t })) 0 (placed-ready g t v
    (laws.windows.arrange g.windows win method size key v.valid.parts.windows
    (and_parts _ (reading.is_same_axis g.windows.slots win method) m).0
    (laws.may_key.only g.windows win key v.valid.parts.windows live may)) v.valid.parts.next
    (content-links (λ c. tree.content_arranged c method size key)
    (λ c. kind-arranged c method size key) g.windows.slots win)))))))

-- glk_window_set_echo_stream
echo_set-ready : (g : Glk) (win n : ℕ) → (n == 0 || is_stream g n) ≡ true
    → not (rows.is_loop g win n) ≡ true
    → IsReadyGlk g → IsReadyGlk (record g { windows = arranging.echo_set g.windows win n })
echo_set-ready g win n live loop v = record {
  valid = record {
    parts = parts-windows g (arranging.echo_set g.windows win n) v.valid.parts
        (laws.windows.set_echo g.windows win n v.valid.parts.windows) v.valid.parts.next;
    linked = echo_set-linked g win n v.valid.parts v.valid.linked
        (λ z. or-second (n == 0) (is_stream g n) live (ne_eqb n 0 z))
        (not-true (rows.is_loop g win n) loop);
    asked = asked-kinds g (record g { windows = arranging.echo_set g.windows win n })
        (echo_set-kinds g win n) refl v.valid.asked;
    areas = areas-alike g.windows (arranging.echo_set g.windows win n) g.cols g.rows refl
        (placement-changed (λ w. record w { echo = n }) (λ w. refl) (λ w. refl) g.windows.slots
        win) v.valid.areas;
  };
  rests = record { event = v.rests.event; prompt = v.rests.prompt };
}

kept-tells : (s : GlkCall) (win value : ℕ) → Kept s (row s) (rows.tells_of_window s win value)
kept-tells s win value =
    kept-read s (row s) s.glk (rows.told_of_window s.glk win value) (λ x. gives x s)
    (λ v. v) (λ x. answers s s x (self s))

kept-current : (s : GlkCall) (r : Result StreamTable StreamStop)
    → (AreValid s.glk → slaw.LeavesValidStreams r) → (AreValid s.glk → LeavesAlone s.glk.streams r)
    → Kept s (told s)
    (within s.glk (streams_coded r) >>= (λ t. rows.leaves_windows (record s.glk { streams = t })))
kept-current s (Ok t) h more = λ v.
    stands (record s.glk { streams = t }) 0
    (with-streams s.glk t v (h v.valid.parts) (more v.valid.parts))
kept-current s (Err e) h more = λ v. v

pub kept-window_work : (c : WindowCall) (s : GlkCall) (l : ℕ → ℕ)
    → Kept s (row s) (rows.window_work c s l)
unfolding rows.window_work
kept-window_work to.Iterate s l =
    row-needs s (row s) (l 0 == 0 || has_window s.glk (l 0)) 21 _
    (λ e. kept-one s (l 1)
    (reading.rock_of (rows.slots s) (number_above tree.window_number (rows.slots s) (l 0)))
    (number_above tree.window_number (rows.slots s) (l 0)))
kept-window_work to.GetRock s l = kept-tells s (l 0) (reading.rock_of (rows.slots s) (l 0))
kept-window_work to.GetRoot s l = answers s s _ (self s)
kept-window_work to.Open s l =
    kept-bind s (on s) (row s)
    (over_glk_alone s (rows.window_opened s.glk (l 0) (l 1) (l 2) (l 3) (l 4)))
    (λ p. gives p.1 p.0)
    (kept-alone s (rows.window_opened s.glk (l 0) (l 1) (l 2) (l 3) (l 4))
    (kept-opened s (l 0) (l 1) (l 2) (l 3) (l 4))) (λ p k. answers s p.0 p.1 k)
kept-window_work to.Close s l =
    let written = written_to s.glk (tree.stream_of (rows.slots s) (l 0)) in
    let t = record s { glk = rows.glk_without_window s.glk (l 0) } in
    row-needs s (row s) (has_window s.glk (l 0)) 21 _
    (λ live. kept-told s (refers_all t (l 1) (0 ∷ written ∷ [])) 0
    (kept-refers_all s t (l 1) (0 ∷ written ∷ [])
    (placed-on s (rows.glk_without_window s.glk (l 0)) (λ v. closed-there s.glk (l 0) v live))))
kept-window_work to.GetSize s l =
    let x = reading.size_of (rows.slots s) (l 0) in
    row-needs s (row s) (has_window s.glk (l 0)) 21 _
    (λ e. kept-told s (refers s (l 1) x.0 >>= (λ t. refers t (l 2) x.1)) 0
    (kept-then s (refers s (l 1) x.0) (l 2) x.1 (kept-refers s s (l 1) x.0 (self s))))
kept-window_work to.SetArrangement s l =
    kept-row s (rows.window_arranged s.glk (l 0) (l 1) (l 2) (l 3))
    (kept-arranged s (l 0) (l 1) (l 2) (l 3))
kept-window_work to.GetArrangement s l =
    let x = reading.arrangement_of (rows.slots s) (l 0) in
    row-needs s (row s) (has_window s.glk (l 0)) 21 _
    (λ e. row-needs s (row s) (rows.is_pair s.glk (l 0)) 22 _
    (λ f. kept-told s (refers s (l 1) x.0 >>= (λ t. refers t (l 2) x.1) >>=
    (λ t. refers t (l 3) x.2)) 0
    (kept-then s (refers s (l 1) x.0 >>= (λ t. refers t (l 2) x.1)) (l 3) x.2
    (kept-then s (refers s (l 1) x.0) (l 2) x.1 (kept-refers s s (l 1) x.0 (self s))))))
kept-window_work to.GetType s l = kept-tells s (l 0) (reading.window_kind (rows.slots s) (l 0))
kept-window_work to.GetParent s l = kept-tells s (l 0) (tree.parent_of (rows.slots s) (l 0))
kept-window_work to.GetSibling s l = kept-tells s (l 0) (reading.sibling_of (rows.slots s) (l 0))
kept-window_work to.Clear s l =
    let t = output.clear s.glk.windows (l 0) in
    kept-row s (rows.cleared s.glk (l 0))
    (row-needs s (told s) (has_window s.glk (l 0)) 21 _
    (λ e v. stands (record s.glk { windows = t }) 0 (with-windows s.glk t v
    (laws.windows.clear s.glk.windows (l 0) v.valid.parts.windows) v.valid.parts.next
    (content-links output.content_cleared kind-cleared s.glk.windows.slots (l 0))
    (content-areas output.content_cleared cleared-placement s.glk.windows (l 0) s.glk.cols
    s.glk.rows v.valid.areas))))
kept-window_work to.MoveCursor s l =
    let t = arranging.move_to s.glk.windows (l 0) (l 1) (l 2) in
    kept-row s (rows.cursor_moved s.glk (l 0) (l 1) (l 2))
    (row-needs s (told s) (has_window s.glk (l 0)) 21 _
    (λ e. row-needs s (told s) (rows.is_grid s.glk (l 0)) 22 _
    (λ f v. stands (record s.glk { windows = t }) 0 (with-windows s.glk t v
    (laws.windows.move_to s.glk.windows (l 0) (l 1) (l 2) v.valid.parts.windows)
    v.valid.parts.next
    (content-links (λ c. tree.grid_cursor_moved c (l 1) (l 2)) (λ c. kind-moved c (l 1) (l 2))
    s.glk.windows.slots (l 0))
    (content-areas (λ c. tree.grid_cursor_moved c (l 1) (l 2))
    (moved-placement (l 1) (l 2)) s.glk.windows
    (l 0) s.glk.cols s.glk.rows v.valid.areas)))))
kept-window_work to.GetStream s l = kept-tells s (l 0) (tree.stream_of (rows.slots s) (l 0))
kept-window_work to.SetEchoStream s l =
    kept-row s (rows.echo_stream_set s.glk (l 0) (l 1))
    (row-needs s (told s) (has_window s.glk (l 0)) 21 _
    (λ e. row-needs s (told s) (l 1 == 0 || is_stream s.glk (l 1)) 21 _
    (λ f. row-needs s (told s) (not (rows.is_loop s.glk (l 0) (l 1))) 22 _
    (λ k v. stands (record s.glk { windows = arranging.echo_set s.glk.windows (l 0) (l 1) }) 0
    (echo_set-ready s.glk (l 0) (l 1) f k v)))))
kept-window_work to.GetEchoStream s l = kept-tells s (l 0) (reading.echo_of (rows.slots s) (l 0))
kept-window_work to.SetWindow s l =
    kept-row s (rows.window_set s.glk (l 0))
    (row-needs s (told s) (l 0 == 0 || has_window s.glk (l 0)) 21 _
    (λ e. kept-current s
    (refs.with_current s.glk.streams (tree.stream_of s.glk.windows.slots (l 0)))
    (λ v. (laws.streams s.glk.streams v.streams).current (tree.stream_of s.glk.windows.slots (l 0)))
    (λ v. current-more s.glk.streams (tree.stream_of s.glk.windows.slots (l 0)))))
