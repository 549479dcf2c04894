use Rattle.std.proofs.Common.{refl, rules}
use Rattle.std.proofs.lemmas.Option.{slice_get_read}
use Rattle.host_world.proofs.deciding.take_entry.Goals as goal

pub take-requires : goal.take-requires
take-requires c =
    c.requires c.in-Some.session.now
    (slice_get_read c.args.sessions.now.items _ c.args.s c.in-Some.session.now refl (search rules)
    (search rules))
