use Rattle.std.proofs.Common.{◌≡◌, ◌∙◌, false, sym}
use Rattle.host_world.specs.Whole.{is_up}
use Rattle.host_world.proofs.WholeCode.{recovers_is}
use Rattle.host_world.proofs.whole.HostState.recover.Goals as goal

pub returns : goal.returns
returns c = λ stories budget.
    let down : is_up c.args.self.now ≡ false = sym c.is_up.ensures ∙ c.if-is_up.false in
    recovers_is stories budget c.args.self.now c.close_up.new.self c.recover_host.new.self
    c.open_files.new.self down (c.in_ok-close_up.ensures stories budget)
    (c.recover_host.ensures stories budget) c.open_files.ensures
