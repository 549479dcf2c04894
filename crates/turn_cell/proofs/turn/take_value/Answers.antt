use Rattle.std.proofs.Common.{rules, ◌≡◌, ◌∷◌, ap, sym, ◌∙◌, Some, arith, subst}
use Rattle.std.specs.Option.{IsSome}
use mathlib.Core.Option.{none}
use Rattle.atomic_table.specs.Table.{rest, step}
use Rattle.turn_cell.specs.declared.view.Stage.TheVariants.{Waits}
use Rattle.turn_cell.specs.Views.{at_stage}
use Rattle.turn_cell.proofs.StepLemmas.{draws, looks}
use Rattle.turn_cell.proofs.TurnLemmas.{takes_value, held_same}
use Rattle.turn_cell.proofs.turn.take_value.Goals as goal
use Rattle.turn_cell.proofs.turn.take_value.Goals.{
  else-served-ticket-via-then-served-ticket+else-ticket-lt-TICKETS,
}
use Rattle.turn_cell.proofs.turn.take_value.Goals.{else-served-ticket-via-else-served-ticket}

pub fetch_add-ticket-requires : goal.fetch_add-ticket-requires
fetch_add-ticket-requires g c = (
  search rules,
  omega (arith, c.requires.table.1),
  draws g.T.Told.entries g.T.Told.by g.T.Told.tag _ _ _ (step 0 0 0 0 none) _ c.requires.idle.0,
)

pub loop-init : goal.loop-init
loop-init g c =
    let t = c.fetch_add-ticket.ensures in (
      t.0,
      t.1,
      t.2
          ∙ ap (λ x. (
            at_stage c.args.place.now.me.0
                (Waits c.fetch_add-ticket.result) c.args.place.now.me.0.seen,
            x,
          )) c.requires.idle.1,
    )

pub load-served-requires : goal.load-served-requires
load-served-requires g c =
    let i = c.loop.invariant in (
      i.0 ∙ c.requires.table.0,
      omega (arith, c.requires.table.1),
      looks g.T.Told.entries g.T.Told.by g.T.Told.tag _ _ _
          (step 0 0 0 0 none) _ c.fetch_add-ticket.result (ap (λ m. m.0.stage) i.2),
    )

pub exchange-requires : goal.exchange-requires
exchange-requires g c = let i = c.loop.invariant in let t = c.load-served.ensures in
    let k =
    (t.2 c.fetch_add-ticket.result (ap (λ m. m.0.stage) i.2)).1 (search rules) (search rules) in (
      t.0 ∙ (i.0 ∙ c.requires.table.0),
      (Some k.0, ap (λ m. m.1) k.1 ∙ ap (λ m. (0, Some k.0) ∷ rest m.1) (sym k.1)),
    )

pub unwrap-requires : goal.unwrap-requires
unwrap-requires g c =
    let i = c.loop.invariant in let t = c.load-served.ensures in let x = c.exchange.ensures in
    let k =
    (t.2 c.fetch_add-ticket.result (ap (λ m. m.0.stage) i.2)).1 (search rules) (search rules) in
    let is = held_same _ _ (Some k.0) c.exchange.result (ap (λ m. m.1) k.1) x.2 in
    subst IsSome (sym is) (search rules)

pub returns-then-ticket-lt-TICKETS-clause-kept : goal.returns-then-ticket-lt-TICKETS-clause-kept
returns-then-ticket-lt-TICKETS-clause-kept g c =
    let i = c.loop.invariant in let t = c.load-served.ensures in
    let x = c.exchange.ensures in
    (x.0 ∙ (t.0 ∙ i.0), x.1 ∙ (t.1 ∙ i.1))

pub returns-then-ticket-lt-TICKETS-clause-value : goal.returns-then-ticket-lt-TICKETS-clause-value
returns-then-ticket-lt-TICKETS-clause-value g c =
    let i = c.loop.invariant in let t = c.load-served.ensures in let x = c.exchange.ensures in
    let k =
    (t.2 c.fetch_add-ticket.result (ap (λ m. m.0.stage) i.2)).1 (search rules) (search rules) in
    takes_value g.T.Told.entries g.T.Told.by g.T.Told.tag c.args.place.now.me _ _ _ _
    c.unwrap.result c.exchange.result i.2 k x.2 x.3 c.unwrap.ensures

pub loop-preserved : goal.loop-preserved
loop-preserved g c =
    let i = c.loop.invariant in let t = c.load-served.ensures in
    let k = t.2 c.fetch_add-ticket.result (ap (λ m. m.0.stage) i.2) in
    let same : c.load-served.new.seat.me ≡ c.loop.place.me = elim c.else-served-ticket.branch [
      | else-served-ticket-via-then-served-ticket+else-ticket-lt-TICKETS w ↦ k.2 (search rules)
      | else-served-ticket-via-else-served-ticket w ↦ k.0 (search rules)
    ] in (t.0 ∙ i.0, t.1 ∙ i.1, same ∙ i.2)
