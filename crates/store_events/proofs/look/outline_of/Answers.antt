use Rattle.std.proofs.Common.{◌≡◌, refl, slice_index}
use Rattle.snap_store.specs.File.{gate_byte, has_header, area_head}
use Rattle.snap_store.specs.declared.side.Side.TheVariants.{A, B}
use Rattle.store_events.proofs.look.outline_of.Goals as goal

pub returns : goal.returns
unfolding gate_byte
returns c =
    let made : c.has_header.result ≡ has_header c.args.file.now = c.has_header.ensures in
    let gate_a : c.byte_at.result ≡ slice_index c.args.file.now 10 = c.byte_at.ensures in
    let gate_b : c.byte_at-2.result ≡ slice_index c.args.file.now 11 = c.byte_at-2.ensures in
    let a : c.head_at.result ≡ area_head A c.args.file.now = c.head_at.ensures in
    let b : c.head_at-2.result ≡ area_head B c.args.file.now = c.head_at-2.ensures in
    rw (made, gate_a, gate_b, a, b) refl
