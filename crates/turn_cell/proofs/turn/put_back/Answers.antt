use Rattle.std.proofs.Common.{rules, ◌≡◌, ◌∷◌, ◌∙◌, [], sym, ap, Some, arith}
use Rattle.turn_cell.specs.Views.{at_stage}
use Rattle.turn_cell.proofs.TurnLemmas.{rested, kept_seen, raises_at}
use Rattle.turn_cell.proofs.TurnLemmas.{passes_at, raised_to, stayed_at}
use Rattle.turn_cell.proofs.turn.put_back.Goals as goal
use Rattle.turn_cell.proofs.turn.put_back.Goals.{then-now-count, else-now-count}

pub fetch_add-requires : goal.fetch_add-requires
fetch_add-requires g c =
    let t = c.exchange.ensures in let n = c.count-now.ensures in let k = c.requires.inside in (
      t.0 ∙ c.requires.table.0,
      omega (arith, c.requires.table.1),
      raises_at g.T.Told.entries g.T.Told.by g.T.Told.tag _ _ _ c.args.place.now.me _
          c.args.value k.0 k.2 c.requires.value (λ e. c.if-now-count.true (n ∙ (e ∙ sym k.1)))
          (omega (arith, n, c.count-now.type_inv))
          (rested g.T.Told.entries g.T.Told.by g.T.Told.tag c.args.place.now.me _
          c.args.value k.0 t.3),
    )

pub fetch_add-requires-2 : goal.fetch_add-requires-2
fetch_add-requires-2 g c =
    let t = c.exchange.ensures in let n = c.count-now.ensures in let k = c.requires.inside in
    let is =
    rested g.T.Told.entries g.T.Told.by g.T.Told.tag c.args.place.now.me _ c.args.value k.0 t.3 in
    let same : c.if-now-count.place.table_id ≡ c.args.table.now.table_id =
    elim c.if-now-count.branch
    [ then-now-count w ↦ search rules | else-now-count w ↦ search rules ] in
    let me : c.if-now-count.place.me
    ≡ (
      at_stage c.args.place.now.me.0 c.args.place.now.me.0.stage (g.T.Told.entries c.args.value),
      (0, Some c.args.value) ∷ [],
    ) = elim c.if-now-count.branch [
      | then-now-count w ↦
          ap (λ p. p.me) w.place-is
          ∙ raised_to g.T.Told.entries g.T.Told.by g.T.Told.tag c.args.place.now.me _ _ c.args.value
          is w.fetch_add.ensures.2
      | else-now-count w ↦
          ap (λ p. p.me) w.place-is
          ∙ stayed_at g.T.Told.entries g.T.Told.by g.T.Told.tag c.args.place.now.me _
          c.args.value is
          (kept_seen g.T.Told.entries g.T.Told.by g.T.Told.tag c.args.place.now.me.0 c.args.value
          c.requires.value (sym n ∙ (w.if-now-count.false ∙ k.1)))
    ] in (
      same,
      omega (arith, c.requires.table.1),
      passes_at g.T.Told.entries g.T.Told.by g.T.Told.tag _ _ _ c.args.place.now.me _
          c.args.value k.0 c.requires.value me,
    )
