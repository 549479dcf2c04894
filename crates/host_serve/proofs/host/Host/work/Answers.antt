use denote.Param.Send.{sendable}
use Rattle.host_serve.proofs.SharingLemmas.{passes_send, shift_sync}
use Rattle.host_serve.proofs.host.Host.work.Goals as goal

pub all_run-requires-send-M : goal.all_run-requires-send-M
all_run-requires-send-M g c κs within = search (sendable, passes_send) depth 20

pub all_run-requires-sync-C : goal.all_run-requires-sync-C
all_run-requires-sync-C g c κs within = search (sendable, shift_sync) depth 40
