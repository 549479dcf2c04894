use Rattle.std.proofs.Common.{sym, ◌∙◌, arith}
use Rattle.vm_memory.proofs.OwnLemmas.{own_yes}
use Rattle.vm_memory.proofs.laid.is_own.Goals as goal

pub returns-then-byte_at-image_byte : goal.returns-then-byte_at-image_byte
returns-then-byte_at-image_byte c =
    sym (own_yes c.args.rom.now c.args.ramstart c.args.rows.now c.args.size c.args.number
    c.loop-at.at c.requires.within (omega arith) (omega arith)
    (λ e. c.if-byte_at-image_byte.true (c.byte_at.ensures ∙ e ∙ sym c.image_byte.ensures)))
