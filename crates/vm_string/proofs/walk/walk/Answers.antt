use Rattle.std.proofs.Common.{◌∙◌, rules, arith, sym, ap, Ok}
use Rattle.vm_string.proofs.WalkLemmas.{walk_unread, walk_unmet, walk_gives}
use Rattle.vm_string.proofs.WalkLemmas.{walk_ends, walk_lost, walk_on}
use Rattle.vm_string.proofs.walk.walk.Goals as goal

pub returns-in_err-node : goal.returns-in_err-node
returns-in_err-node c =
    let h =
    walk_unread c.loop-node.left c.args.memory.now c.args.root c.loop-node.way
    c.in_err-node.field-0.0 c.in_err-node.ensures.value
    ∙ c.loop-node.invariant.same in
    search (rules, h)

pub returns-in_err-piece : goal.returns-in_err-piece
returns-in_err-piece c =
    let h =
    walk_unmet c.loop-node.left c.args.memory.now c.args.root c.loop-node.way c.in_ok-node.node
    c.in_err-piece.field-0.0 c.in_ok-node.ensures.value c.in_err-piece.ensures.value
    ∙ c.loop-node.invariant.same in
    search (rules, h)

pub returns-in-Gives : goal.returns-in-Gives
returns-in-Gives c =
    walk_gives _ _ _ _ _ _ _ c.in_ok-node.ensures.value
    (ap (λ t. Ok t) (sym c.in-Gives.is) ∙ c.in_ok-piece.ensures.value)
    ∙ c.loop-node.invariant.same

pub returns-then-left-eq0 : goal.returns-then-left-eq0
returns-then-left-eq0 c =
    walk_ends _ _ _ _ _ _ c.if-left-eq0.true c.in_ok-node.ensures.value
    (ap (λ t. Ok t) (sym c.in-Branches.is) ∙ c.in_ok-piece.ensures.value)
    ∙ c.loop-node.invariant.same

pub returns-in_err-way-in-Branches : goal.returns-in_err-way-in-Branches
returns-in_err-way-in-Branches c =
    let h =
    walk_lost c.loop-node.left c.args.memory.now c.args.root c.loop-node.way c.in_ok-node.node
    c.in-Branches.branch c.in_err-way-in-Branches.field-0.0 (omega (arith, c.if-left-eq0.false))
    c.in_ok-node.ensures.value (ap (λ t. Ok t) (sym c.in-Branches.is) ∙ c.in_ok-piece.ensures.value)
    c.in_err-way-in-Branches.ensures.value
    ∙ c.loop-node.invariant.same in
    search (rules, h)

pub loop-node-preserved : goal.loop-node-preserved
loop-node-preserved c = record {
  same =
      walk_on _ _ _ _ _ _ _ (omega (arith, c.if-left-eq0.false)) c.in_ok-node.ensures.value
      (ap (λ t. Ok t) (sym c.in-Branches.is) ∙ c.in_ok-piece.ensures.value)
      c.in_ok-way-in-Branches.ensures.value
      ∙ c.loop-node.invariant.same;
  fit = c.in_ok-way-in-Branches.ensures.kept;
}
