use Rattle.std.proofs.Common.{◌≡◌, ◌+◌, ◌-◌, ◌<◌, ◌++◌, [], ◌∷◌, List, ℕ, take, drop, length, get_or}
use Rattle.std.proofs.Common.{refl, sym, ◌∙◌, ap, arith, length-append, append_assoc}
use Rattle.std.specs.Prelude.{vec_len}
use Rattle.std.proofs.lemmas.List.{take_at, take_more, drop_more}
use Rattle.gate_journal.specs.declared.row.Row.{Row}
use Rattle.gate_journal.specs.Rows.{rows_behind_open_gates, row_body}
use Rattle.gate_journal.proofs.RowLemmas.{opened-push}
use Rattle.journal_pack.specs.Live.{HaveRanges}
use Rattle.journal_pack.proofs.written.bytes_behind_header.Goals as goal

-- one row more, in the place of the closed gate
one_more :
    (rows : List Row) (r : Row) (i : ℕ) (old popped pushed body new : List ℕ)
    → i < length rows → r ≡ get_or rows i r
    → old ≡ rows_behind_open_gates (take i rows) ++ 0 ∷ []
    → popped ≡ take (length old - 1) old → pushed ≡ popped ++ 1 ∷ []
    → body ≡ row_body r ++ 0 ∷ [] → new ≡ pushed ++ body
    → new ≡ rows_behind_open_gates (take (i + 1) rows) ++ 0 ∷ []
one_more rows r i old popped pushed body new lt is was pop push row put =
    let front = rows_behind_open_gates (take i rows) in
    let size : length old - 1 ≡ length front =
    omega (arith, ap length was, length-append front (0 ∷ [])) in
    let left : popped ≡ front =
    pop ∙ ap (λ (l : List ℕ). take (length old - 1) l) was
    ∙ take_at front (0 ∷ []) (length old - 1) (sym size) in
    let more : take (i + 1) rows ≡ take i rows ++ r ∷ [] =
    take_more rows i r lt ∙ ap (λ (x : Row). take i rows ++ x ∷ []) (sym is) in
    put ∙ ap (λ (l : List ℕ). l ++ body) (push ∙ ap (λ (l : List ℕ). l ++ 1 ∷ []) left)
    ∙ ap (λ (l : List ℕ). (front ++ 1 ∷ []) ++ l) row
    ∙ append_assoc front (1 ∷ []) (row_body r ++ 0 ∷ [])
    ∙ sym (append_assoc front (1 ∷ row_body r) (0 ∷ []))
    ∙ ap (λ (l : List ℕ). l ++ 0 ∷ [])
    (sym (opened-push (take i rows) r) ∙ ap rows_behind_open_gates (sym more))

later_ranges : (rows : List Row) (r : Row) (i : ℕ) → i < length rows
    → HaveRanges (drop i rows) → HaveRanges (drop (i + 1) rows)
later_ranges rows r i lt have = (rw (drop_more rows i r lt) at have).1

pub loop-row-preserved : goal.loop-row-preserved
loop-row-preserved c =
    let bytes = c.loop-row.bytes in
    let size : vec_len bytes ≡ length bytes.items = omega (arith, bytes.ok.0) in
    let popped =
    c.pop.ensures.rest ∙ ap (λ (k : ℕ). take (k - 1) bytes.items) size in
    record {
      bytes =
          one_more c.args.rows.now c.row-item.result c.loop-row.row-index c.loop-row.bytes.items
          c.pop.new.self.items c.push-in-loop-row.new.self.items c.deref.result.now
          c.extend_from_slice.new.self.items c.loop-row-test.true c.row-item.is
          c.loop-row.invariant.bytes popped c.in_ok-push-2.ensures.items
          (c.deref.ensures.value ∙ c.in_ok-body.ensures c.row-item.result refl refl)
          c.in_ok-extend_from_slice.ensures.items;
      ranges =
          later_ranges c.args.rows.now c.row-item.result c.loop-row.row-index c.loop-row-test.true
          c.loop-row.invariant.ranges;
    }
