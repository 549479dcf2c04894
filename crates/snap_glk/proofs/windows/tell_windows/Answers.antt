use Rattle.std.proofs.Common.{rules, ◌≡◌, ◌∙◌, ◌+◌, ◌++◌, ◌∷◌, [], arith, length, refl}
use Rattle.std.proofs.lemmas.List.{length-append}
use Rattle.std.proofs.lemmas.Slice.Zip.{zip_end, zip_turn}
use Rattle.snap_glk.specs.Told.{window_told}
use Rattle.snap_glk.proofs.ListLemmas.{zip-all, zip-more}
use Rattle.snap_glk.proofs.windows.tell_windows.Goals as goal

pub loop-window-preserved : goal.loop-window-preserved
loop-window-preserved c =
    let ws = c.args.windows.now in
    let is = c.args.inputs.now in
    let w = c.in-Some.window in
    let i = c.in-Some.input in
    let n = length c.loop-window.yielded in
    let turn = zip_turn ws is c.loop-window.yielded c.into_iter-window-iterator.result
    c.loop-window.window-iterator c.next.new.self c.next.result (search rules) (search rules)
    c.loop-window.yielded_by (w, i) c.in-Some.is c.next.ensures.steps in
    let more = zip-more window_told ws is n w.now i.now turn.0 turn.1 (turn.2 w.now)
    (turn.3 i.now) in
    let long : length (c.loop-window.yielded ++ (w, i) ∷ []) ≡ n + 1 =
    omega (arith, length-append c.loop-window.yielded ((w, i) ∷ [])) in
    let items : c.push.new.self.items
    ≡ c.loop-window.list.items ++ c.in_ok-tell_window.field-0 ∷ [] = c.in_ok-push.ensures.items in
    rw (long, more, items, c.in_ok-tell_window.ensures, c.loop-window.invariant) refl

pub returns : goal.returns
returns c =
    let ws = c.args.windows.now in
    let is = c.args.inputs.now in
    let n = length c.loop-window.yielded in
    let end = zip_end ws is c.loop-window.yielded c.into_iter-window-iterator.result
    c.loop-window.window-iterator c.next.new.self c.next.result (search rules) (search rules)
    c.loop-window.yielded_by c.in-None.is c.next.ensures.steps in
    c.of.ensures ∙ c.loop-window.invariant ∙ zip-all window_told ws is n end
