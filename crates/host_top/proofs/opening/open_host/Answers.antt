use Rattle.std.proofs.Common.{refl}
use Rattle.line_talk.proofs.StreamsLemmas.{gave_none, wrote_none}
use Rattle.host_top.proofs.ConversedLemmas.{may_open_again}
use Rattle.host_top.proofs.LinksLemmas.{fault_no_door, fault_not_done}
use Rattle.host_top.proofs.opening.open_host.Goals as goal

pub returns-in-Ok-clause-ok : goal.returns-in-Ok-clause-ok
returns-in-Ok-clause-ok g c = (c.in-Ok.ensures.ok.0, c.in-Ok.ensures.ok.2, c.in-Ok.ensures.ok.3)

pub returns-in-Err-Journal-clause-refused : goal.returns-in-Err-Journal-clause-refused
returns-in-Err-Journal-clause-refused g c =
    let same = rw c.in-Err-Journal.field-0-is at c.in-Err-Journal.ensures.kept in
    let crash = rw c.in-Err-Journal.field-0-is at c.in-Err-Journal.ensures.crash in
    λ input. record {
      fault = c.in-Err-Journal.fault;
      explains = rw c.in-Err-Journal.field-0-is at c.in-Err-Journal.ensures.exact;
      cause = rw c.in-Err-Journal.field-0-is at c.in-Err-Journal.ensures.cause;
      looked = rw c.in-Err-Journal.field-0-is at c.in-Err-Journal.ensures.refused;
      gave = gave_none input;
      says = c.say_fault.ensures.value;
      images =
          may_open_again g.D.Disk c.args.disks.journal c.in-Err-Journal.disk
          same.telling crash (g.met.D.Disk.counts_now c.in-Err-Journal.disk);
      meanwhile = crash;
      reaches = rw c.in-Err-Journal.field-0-is at c.in-Err-Journal.ensures.writes;
    }

pub returns-in-Err-Journal-clause-kept : goal.returns-in-Err-Journal-clause-kept
returns-in-Err-Journal-clause-kept g c =
    rw c.in-Err-Journal.field-0-is at c.in-Err-Journal.ensures.kept

pub returns-in-Err-Journal-clause-status : goal.returns-in-Err-Journal-clause-status
returns-in-Err-Journal-clause-status g c = (
  fault_not_done c.in-Err-Journal.fault _ _ c.say_fault.result c.say_fault.ensures.value,
  fault_no_door c.in-Err-Journal.fault _ _ c.say_fault.result c.say_fault.ensures.value,
  c.say_fault.ensures.no_read,
)

pub returns-in-Err-Snap-clause-refused : goal.returns-in-Err-Snap-clause-refused
returns-in-Err-Snap-clause-refused g c =
    let snap = rw c.in-Err-Snap.field-0-is at c.in-Err-Snap.ensures.snap in
    λ input. record {
      failed = refl;
      given = snap.disk;
      stands = snap.given;
      rose = snap.cause.rose;
      looks = snap.kept;
      gave = gave_none input;
      wrote = wrote_none _;
    }

pub returns-in-Err-Snap-clause-kept : goal.returns-in-Err-Snap-clause-kept
returns-in-Err-Snap-clause-kept g c =
    let snap = rw c.in-Err-Snap.field-0-is at c.in-Err-Snap.ensures.snap in
    (snap.disk, snap.given, snap.kept.same)
