use Rattle.std.proofs.Common.{◌≡◌, ◌++◌, ◌∷◌, [], ◌+◌, take, refl, sym, ◌∙◌, ap}
use Rattle.std.proofs.lemmas.List.{take_all, take_more}
use Rattle.gate_journal.specs.declared.row.Row.{Row}
use Rattle.gate_journal.proofs.SeatLemmas.{counted_other}
use Rattle.gate_journal.proofs.seats.Seats.of.Goals as goal
use Rattle.gate_journal.proofs.seats.Seats.of.Goals.{then-row-lt64, else-row-lt64}

pub loop-row-init : goal.loop-row-init
loop-row-init c = c.new-seats.ensures

pub loop-row-preserved : goal.loop-row-preserved
loop-row-preserved c =
    let rows = c.args.rows.now in
    let i = c.loop-row.row-index in
    let item = c.row-item.result in
    let one : take (i + 1) rows ≡ take i rows ++ item ∷ [] =
    take_more rows i item c.loop-row-test.true
    ∙ ap (λ (r : Row). take i rows ++ r ∷ []) (sym c.row-item.is) in
    elim c.if-row-lt64.branch [
      | then-row-lt64 w ↦
          rw (one, w.seats-is) (w.count.ensures (take i rows) item refl refl c.loop-row.invariant)
      | else-row-lt64 w ↦
          rw (one, w.seats-is) (counted_other (take i rows) item c.loop-row.seats.counts
          c.loop-row.seats.uses w.if-row-lt64.false c.loop-row.invariant)
    ]

pub returns : goal.returns
returns c =
    rw (take_all c.loop-row.row-index c.args.rows.now c.loop-row-test.false)
    at c.loop-row.invariant
