use Rattle.std.proofs.Common.{◌∙◌, ◌≤◌, ℕ, List, sym, ap, arith, length, subst}
use Rattle.std.specs.Option.{IsSome}
use mathlib.Core.Option.{none}
use Rattle.atomic_table.specs.Table.{step}
use Rattle.turn_cell.proofs.JoinLemmas.{joins, learn_end, joined_numbered}
use Rattle.turn_cell.specs.History.{Continues}
use Rattle.turn_cell.proofs.HistoryLemmas.{among_head, longer_left, longer_right}
use Rattle.turn_cell.proofs.StepLemmas.{learns}
use Rattle.turn_cell.proofs.cell.Cell.join.Goals as goal

pub join_seat-requires : goal.join_seat-requires
join_seat-requires g c = let o = c.args.other.known in (
  c.requires.cell.0,
  c.requires.cell.1,
  c.requires.outside.1.1,
  omega (arith, c.args.self.now.sized.0),
  joins g.T.Told.entries g.T.Told.by g.T.Told.tag _ _ _ _ _ c.requires.outside.0.0
      c.requires.outside.1.0 (λ h. c.requires.other (o.numbered.0 ∙ o.numbered.1.2 h)),
)

pub load-requires : goal.load-requires
load-requires g c = let t = c.join_seat.ensures in (
  t.0 ∙ c.requires.cell.0,
  omega (arith, c.args.self.now.sized.0),
  learns g.T.Told.entries g.T.Told.by g.T.Told.tag _ _ _ (step 0 0 0 0 none) _ _ _ _ _
      (ap (λ m. m.0.stage) t.2),
)

pub invariant_of-known : goal.invariant_of-known
invariant_of-known g c = let p = c.args.pass.now.known in let o = c.args.other.known in
    let k =
    learn_end g.T.Told.by p.place.me _ _ o.place.me.0 c.join_seat.ensures.2 c.requires.outside.0.1
    c.load.ensures.2 in
    record {
      numbered = (
        p.numbered.0 ∙ ap (λ m. m.0.number) (sym k.0),
        joined_numbered p.place.me.0 o.place.me.0 _ (ap (λ m. m.0) k.0) p.numbered.1 o.numbered.1
            (λ e. c.requires.other (o.numbered.0 ∙ e)),
      );
      tagged = subst IsSome (ap (λ m. m.0.sample) (sym k.0)) p.tagged;
      counted = (
        p.counted.0 ∙ ap (λ m. m.0.made) (sym k.0),
        o.counted.1
            ∙ (sym (longer_right p.place.me.0.seen o.place.me.0.seen
            (omega (arith, c.if-count-known.true, p.counted.1, o.counted.1)))
            ∙ ap (λ m. length m.0.seen) (sym k.0)),
      );
    }

pub invariant_of-known-else-count-known : goal.invariant_of-known-else-count-known
invariant_of-known-else-count-known g c =
    let p = c.args.pass.now.known in let o = c.args.other.known in
    let k =
    learn_end g.T.Told.by p.place.me _ _ o.place.me.0 c.join_seat.ensures.2 c.requires.outside.0.1
    c.load.ensures.2 in
    record {
      numbered = (
        p.numbered.0 ∙ ap (λ m. m.0.number) (sym k.0),
        joined_numbered p.place.me.0 o.place.me.0 _ (ap (λ m. m.0) k.0) p.numbered.1 o.numbered.1
            (λ e. c.requires.other (o.numbered.0 ∙ e)),
      );
      tagged = subst IsSome (ap (λ m. m.0.sample) (sym k.0)) p.tagged;
      counted = (
        p.counted.0 ∙ ap (λ m. m.0.made) (sym k.0),
        p.counted.1
            ∙ (sym (longer_left p.place.me.0.seen o.place.me.0.seen
            (omega (arith, c.if-count-known.false, p.counted.1, o.counted.1)))
            ∙ ap (λ m. length m.0.seen) (sym k.0)),
      );
    }

pub returns-then-count-known-clause-apart : goal.returns-then-count-known-clause-apart
returns-then-count-known-clause-apart g c =
    (learn_end g.T.Told.by c.args.pass.now.known.place.me _ _ c.args.other.known.place.me.0
    c.join_seat.ensures.2 c.requires.outside.0.1 c.load.ensures.2).3

pub returns-else-count-known-clause-apart : goal.returns-else-count-known-clause-apart
returns-else-count-known-clause-apart g c =
    (learn_end g.T.Told.by c.args.pass.now.known.place.me _ _ c.args.other.known.place.me.0
    c.join_seat.ensures.2 c.requires.outside.0.1 c.load.ensures.2).3

pub returns-then-count-known-clause-given : goal.returns-then-count-known-clause-given
returns-then-count-known-clause-given g c zero =
    let p = c.args.pass.now.known in let n = p.numbered in
    let k =
    learn_end g.T.Told.by p.place.me _ _ c.args.other.known.place.me.0 c.join_seat.ensures.2
    c.requires.outside.0.1 c.load.ensures.2 in
    let given =
    k.4 (among_head 0 p.place.me.0.holds n.1.0 (n.1.1 ∙ (sym n.0 ∙ zero))) in
    subst (λ (x : ℕ × List g.row.T-Entry.Denot).
    Continues (λ e. g.T.Told.by e ≤ x.0) x.1 p.place.me.0.seen)
    (λ i. (sym p.counted.0 i, sym (ap (λ m. m.0.seen) k.0) i)) given

pub returns-else-count-known-clause-given : goal.returns-else-count-known-clause-given
returns-else-count-known-clause-given g c zero =
    let p = c.args.pass.now.known in let n = p.numbered in
    let k =
    learn_end g.T.Told.by p.place.me _ _ c.args.other.known.place.me.0 c.join_seat.ensures.2
    c.requires.outside.0.1 c.load.ensures.2 in
    let given =
    k.4 (among_head 0 p.place.me.0.holds n.1.0 (n.1.1 ∙ (sym n.0 ∙ zero))) in
    subst (λ (x : ℕ × List g.row.T-Entry.Denot).
    Continues (λ e. g.T.Told.by e ≤ x.0) x.1 p.place.me.0.seen)
    (λ i. (sym p.counted.0 i, sym (ap (λ m. m.0.seen) k.0) i)) given
