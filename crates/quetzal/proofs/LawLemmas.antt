-- Runs, piece by piece.
use Rattle.std.proofs.Common.{◌≡◌, ◌≢◌, ◌∙◌, ℕ, ◌==◌, true, false, List, [], ◌∷◌, length, Some}
use Rattle.std.proofs.Common.{refl, ap, sym, arith}
use Rattle.std.specs.Int.RustNames.{bit_xor}
use Rattle.std.proofs.lemmas.Bool.Decides.{nat_tests}
use Rattle.std.proofs.lemmas.List.Elements.{All-head, All-tail}
use Rattle.vm_undo.specs.Runs.{runs_decoded, with_front}
use Rattle.quetzal.specs.Laws.{Same, Changed, IsPiece, coding_of_pieces, RestoresPieces}
use Rattle.vm_undo.proofs.RunLemmas.{run_skips}

changed : (d byte : ℕ) (rest after bs : List ℕ) → d ≢ 0 → runs_decoded false rest bs ≡ Some after
    → runs_decoded false (byte ∷ rest) (d ∷ bs) ≡ Some (bit_xor byte d ∷ after)
changed d byte rest after bs ne h =
    let other : (d == 0) ≡ false = grind (arith, nat_tests, ne) in
    let some : (length (byte ∷ rest) == 0) ≡ false = grind (arith, nat_tests) in
    rw (other, some, h) refl

pub restores_pieces : RestoresPieces
restores_pieces [] old new a m = ap Some (sym m)
restores_pieces (Same n ∷ ps) old new a m =
    let front = m.0 in
    let rest = m.1 in
    let after = m.2 in
    let h : runs_decoded false rest (coding_of_pieces ps) ≡ Some after =
    restores_pieces ps rest after (All-tail IsPiece (Same n) ps a) m.6 in
    ap (λ (l : List ℕ). runs_decoded true l (n ∷ coding_of_pieces ps)) m.4
    ∙ run_skips n front rest (coding_of_pieces ps) m.3 ∙ ap (with_front front) h ∙ ap Some (sym m.5)
restores_pieces (Changed d ∷ ps) old new a m =
    let byte = m.0 in
    let rest = m.1 in
    let after = m.2 in
    let h : runs_decoded false rest (coding_of_pieces ps) ≡ Some after =
    restores_pieces ps rest after (All-tail IsPiece (Changed d) ps a) m.5 in
    ap (λ (l : List ℕ). runs_decoded false l (d ∷ coding_of_pieces ps)) m.3
    ∙ changed d byte rest after (coding_of_pieces ps) (All-head IsPiece (Changed d) ps a) h
    ∙ ap Some (sym m.4)
