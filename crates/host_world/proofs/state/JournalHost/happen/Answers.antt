use Rattle.host_world.proofs.state.JournalHost.happen.Goals as goal

pub returns-in-Want : goal.returns-in-Want
returns-in-Want c = rw c.in-Want.is (c.want.ensures c.args.stories.now c.args.budget)

pub returns-in-Hold : goal.returns-in-Hold
returns-in-Hold c = rw c.in-Hold.is (c.hold.ensures c.args.stories.now c.args.budget)

pub returns-in-Free : goal.returns-in-Free
returns-in-Free c = rw c.in-Free.is (c.free.ensures c.args.stories.now c.args.budget)

pub returns-in-Run : goal.returns-in-Run
returns-in-Run c = rw c.in-Run.is (c.run_turn.ensures c.args.stories.now c.args.budget)

pub returns-in-Recover : goal.returns-in-Recover
returns-in-Recover c = rw c.in-Recover.is (c.recover.ensures c.args.stories.now c.args.budget)

pub returns-in-Give : goal.returns-in-Give
returns-in-Give c = rw c.in-Give.is (c.give.ensures.ok c.args.stories.now c.args.budget)

pub returns-in-Stop : goal.returns-in-Stop
returns-in-Stop c = rw c.in-Stop.is (c.stop.ensures.ok c.args.stories.now c.args.budget)
