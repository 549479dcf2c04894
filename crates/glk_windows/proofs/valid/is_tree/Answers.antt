use Rattle.std.proofs.Common.{◌≡◌, ◌∙◌, false, length, sym, is_some}
use Rattle.glk_windows.specs.OneTree.{shape_of}
use Rattle.glk_windows.proofs.FieldLemmas.{spelled-none}
use Rattle.glk_windows.proofs.valid.is_tree.Goals as goal

pub returns-else-is_some : goal.returns-else-is_some
returns-else-is_some c =
    let none : is_some c.rest_of.result ≡ false = sym c.is_some.ensures ∙ c.if-is_some.false in
    c.if-is_some.false ∙ sym (spelled-none c.args.slots.now
    (shape_of (length c.args.slots.now) c.args.slots.now c.args.root) c.rest_of.result
    c.rest_of.ensures none)
