use Rattle.std.proofs.Common.{arith, ap, ◌≡◌, length}
use Rattle.std.proofs.lemmas.List.{length-take}
use Rattle.quetzal.proofs.reader.story_identity.Goals as goal

pub slice_bounds-result-end : goal.slice_bounds-result-end
slice_bounds-result-end c =
    let laid = c.bytes.ensures.kept in
    let same : length c.bytes.result.now ≡ length c.args.image.now =
    ap length c.bytes.ensures.value in
    omega (
      arith,
      length-take 128 c.bytes.result.now,
      same,
      laid.ram_from,
      laid.ram_below,
      laid.ext_inside,
    )
