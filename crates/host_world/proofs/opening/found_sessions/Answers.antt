use Rattle.std.proofs.Common.{◌++◌, ◌∷◌, [], ◌∙◌, ap, arith, List, map, None, sym}
use Rattle.std.specs.List.{range_with_len}
use Rattle.std.proofs.lemmas.List.FromFn.{map-range_with_len_more}
use Rattle.session_core.specs.declared.entry.Entry.{Entry}
use Rattle.host_world.specs.Sessions.{found_session}
use Rattle.host_world.specs.declared.turn.Session.{Session}
use Rattle.host_world.proofs.opening.found_sessions.Goals as goal

pub loop-s-preserved : goal.loop-s-preserved
loop-s-preserved c =
    let rows = c.args.rows.now in
    let s = c.loop-s.s in
    c.in_ok-push.ensures.items
    ∙ ap (λ (l : List Session). l ++ record { history = c.in_ok-history.history; turn = None } ∷ [])
    c.loop-s.invariant
    ∙ ap (λ (h : List Entry). map (found_session rows) (range_with_len 0 s)
    ++ record { history = h; turn = None } ∷ []) c.in_ok-history.ensures
    ∙ sym (map-range_with_len_more (found_session rows) 0 s s (omega arith))
