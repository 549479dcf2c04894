use Rattle.host_top.proofs.NameLemmas.{names_begun, names_pushed}
use Rattle.host_top.proofs.folder.names_in.Goals as goal

pub loop-session-init : goal.loop-session-init
loop-session-init c =
    names_begun _ _ _ _ c.new-all.ensures.items c.in_ok-push.ensures.items
    c.in_ok-journal_name.ensures

pub loop-session-preserved : goal.loop-session-preserved
loop-session-preserved c =
    names_pushed _ _ _ _ _ c.in_ok-push-2.ensures.items c.loop-session.invariant
    c.in_ok-snap_name.ensures
