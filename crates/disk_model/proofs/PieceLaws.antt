-- A piece put in its place, byte by byte or at the end (own).
use Rattle.std.proofs.Common.{List, ap, arith, inl, inr, drop, length, length-append}
use Rattle.std.proofs.Common.{replicate, sym, take, ℕ, ◌++◌, ◌+◌, ◌-◌, ◌<◌, ◌∙◌, ◌≡◌, ◌≤◌}
use Rattle.std.proofs.lemmas.List.{append-nil, drop_all, take_all, length-replicate}
use Rattle.std.proofs.lemmas.Bool.{cases_lt}
use Rattle.disk_model.specs.Disk.{file_written}

none_more : (old : List ℕ) (at : ℕ) → at ≤ length old → old ++ replicate (at - length old) 0 ≡ old
none_more old at le =
    let zero_ : at - length old ≡ 0 = omega (arith, le) in
    ap (λ (k : ℕ). old ++ replicate k 0) zero_ ∙ append-nil old

-- inside the bytes
pub written_inside : (old piece : List ℕ) (at : ℕ) → at + length piece ≤ length old
    → take at old ++ piece ++ drop (at + length piece) old ≡ file_written old at piece
written_inside old piece at le =
    ap (λ (l : List ℕ). take at l ++ piece ++ drop (at + length piece) old)
    (sym (none_more old at (omega (arith, le))))

take_more_than : (old more : List ℕ) (at : ℕ) → length old + length more ≡ at
    → take at (old ++ more) ≡ old ++ more
take_more_than old more at is =
    take_all at (old ++ more) (omega (arith, is, length-append old more))

-- past their end
pub written_behind : (old piece : List ℕ) (at : ℕ) → length old < at + length piece
    → take at old ++ replicate (at - length old) 0 ++ piece ≡ file_written old at piece
written_behind old piece at past = elim (cases_lt (length old) at) [
  | inl gap ↦
      ap (λ (l : List ℕ). l ++ replicate (at - length old) 0 ++ piece)
      (take_all at old (omega (arith, gap)))
      ∙ ap (λ (l : List ℕ). l ++ piece)
      (sym (take_more_than old (replicate (at - length old) 0) at
      (omega (arith, gap, length-replicate {A = ℕ} (at - length old) 0))))
      ∙ end
  | inr inside ↦
      let zero_ : at - length old ≡ 0 = omega (arith, inside) in
      ap (λ (k : ℕ). take at old ++ replicate k 0 ++ piece) zero_
      ∙ ap (λ (l : List ℕ). l ++ piece) (append-nil (take at old))
      ∙ ap (λ (l : List ℕ). take at l ++ piece) (sym (none_more old at inside))
      ∙ end
]
  where
    end :
        take at (old ++ replicate (at - length old) 0) ++ piece ≡ file_written old at piece
    end =
        sym (append-nil (take at (old ++ replicate (at - length old) 0) ++ piece))
        ∙ ap (λ (l : List ℕ). take at (old ++ replicate (at - length old) 0) ++ piece ++ l)
        (sym (drop_all (at + length piece) old (omega (arith, past))))
