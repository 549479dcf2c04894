use Rattle.std.proofs.Common.{◌≡◌, rules, true}
use Rattle.disk_model.specs.Plain.{is_image}
use Rattle.host_world.specs.Whole.{are_images}
use Rattle.host_world.proofs.WholeCode.{on_ok, stops_is}
use Rattle.host_world.proofs.whole.HostState.stop_by.Goals as goal

pub returns : goal.returns
returns c = λ stories budget.
    let first : is_image c.args.self.now.host.disk c.args.image.now ≡ true = search rules in
    let others : are_images c.args.self.now.stores c.args.others.now ≡ true = search rules in
    on_ok c.stop_files.result
    (λ is. stops_is stories budget c.args.self.now c.args.image.now c.args.others.now
    c.stop_host.new.self c.stop_files.new.self first others
    (c.in_ok-stop_host.ensures stories budget) is)
    c.stop_files.ensures
