use Rattle.std.proofs.Common.{ap, Result, Ok, Err, OnOk}
use Rattle.host_world.specs.declared.state.JournalHost.{JournalHost}
use Rattle.host_world.specs.declared.whole.HostState.{HostState}
use Rattle.host_world.proofs.whole.HostState.happen.Goals as goal

abbrev as_whole : HostState → JournalHost → HostState
as_whole w host = record { host = host; stores = w.stores }

on_any : {T E P : Type 0} (r : Result T E) → P → OnOk r P
on_any (Ok x) p = p
on_any (Err e) p = tt

pub returns-in-Want : goal.returns-in-Want
returns-in-Want c = record {
  value = rw c.in-Want.is (ap (λ (h : JournalHost). as_whole c.args.self.now h)
      (c.want.ensures c.args.stories.now c.args.budget));
  own = rw c.in-Want.is tt;
}

pub returns-in-Hold : goal.returns-in-Hold
returns-in-Hold c = record {
  value = rw c.in-Hold.is (ap (λ (h : JournalHost). as_whole c.args.self.now h)
      (c.hold.ensures c.args.stories.now c.args.budget));
  own = rw c.in-Hold.is tt;
}

pub returns-in-Free : goal.returns-in-Free
returns-in-Free c = record {
  value = rw c.in-Free.is (ap (λ (h : JournalHost). as_whole c.args.self.now h)
      (c.free.ensures c.args.stories.now c.args.budget));
  own = rw c.in-Free.is tt;
}

pub returns-in-Run : goal.returns-in-Run
returns-in-Run c = record {
  value = rw c.in-Run.is (ap (λ (h : JournalHost). as_whole c.args.self.now h)
      (c.run_turn.ensures c.args.stories.now c.args.budget));
  own = rw c.in-Run.is tt;
}

pub returns-in-Keep : goal.returns-in-Keep
returns-in-Keep c = record {
  value = rw c.in-Keep.is (c.keep.ensures.value c.args.budget);
  own = rw c.in-Keep.is c.keep.ensures.own;
}

pub returns-in-Give : goal.returns-in-Give
returns-in-Give c = record {
  value = rw c.in-Give.is (c.give.ensures c.args.stories.now c.args.budget);
  own = rw c.in-Give.is (on_any c.give.result tt);
}

pub returns-in-Stop : goal.returns-in-Stop
returns-in-Stop c = record {
  value = rw c.in-Stop.is (c.stop.ensures c.args.stories.now c.args.budget);
  own = rw c.in-Stop.is (on_any c.stop.result tt);
}

pub returns-in-Recover : goal.returns-in-Recover
returns-in-Recover c = record {
  value = rw c.in-Recover.is (c.recover.ensures c.args.stories.now c.args.budget);
  own = rw c.in-Recover.is (on_any c.recover.result tt);
}
