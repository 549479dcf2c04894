use Rattle.std.proofs.Common.{◌≡◌, ◌<◌, ◌∙◌, ◌+◌, ℕ, List, inl, inr, ap}
use Rattle.std.proofs.Common.{sym, arith, length, slice_index, slice_set}
use Rattle.std.proofs.lemmas.Bool.{cases_eq}
use Rattle.std.proofs.lemmas.List.{get_or-set_other, get_or-set_same, length-set}
use Rattle.store_events.proofs.look.bytes_at.Goals as goal

-- one byte more
one_more : (file bytes : List ℕ) (at i byte : ℕ) → i < length bytes
    → byte ≡ slice_index file (at + i)
    → ((k : ℕ) → k < i → slice_index bytes k ≡ slice_index file (at + k))
    → (k : ℕ) → k < i + 1 → slice_index (slice_set bytes i byte) k ≡ slice_index file (at + k)
one_more file bytes at i byte within is each k lt = elim (cases_eq k i) [
  | inl same ↦
      ap (λ (n : ℕ). slice_index (slice_set bytes i byte) n) same
      ∙ get_or-set_same bytes i byte 0 within ∙ is
      ∙ ap (λ (n : ℕ). slice_index file (at + n)) (sym same)
  | inr other ↦
      get_or-set_other bytes i k byte 0 other ∙ each k (omega (arith, lt, other))
]

pub loop-i-preserved : goal.loop-i-preserved
loop-i-preserved c = record {
  size = length-set c.loop-i.bytes c.loop-i.i c.byte_at.result ∙ c.loop-i.invariant.size;
  each =
      one_more c.args.file.now c.loop-i.bytes c.args.at c.loop-i.i c.byte_at.result
      (omega (arith, c.loop-i.invariant.size, c.loop-i-test.true)) c.byte_at.ensures
      c.loop-i.invariant.each;
}

pub returns : goal.returns
returns c = λ i lt.
    c.loop-i.invariant.each i
    (omega (arith, lt, c.loop-i.invariant.size, c.loop-i-test.false))
