use Rattle.std.proofs.Common.{subst, sym}
use Rattle.vm_string.specs.Meaning.{SpellsPiece}
use Rattle.vm_string.proofs.MeaningLemmas.{spells}
use Rattle.vm_string.proofs.next.next_piece.Goals as goal

pub returns-clause-value : goal.returns-clause-value
returns-clause-value c =
    subst (SpellsPiece c.args.memory.now c.args.table c.args.cursor) (sym c.piece_at.ensures)
    (spells c.args.memory.now c.args.table c.args.cursor)
