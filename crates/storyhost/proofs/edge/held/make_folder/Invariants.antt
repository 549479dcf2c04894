use Rattle.storyhost.proofs.edge.held.make_folder.Given as goal

abbrev pub invariant-loop-path : goal.invariant-loop-path
invariant-loop-path g l =
    (goal.iterator-loop-path g).can_next l.path-iterator
    × (goal.iterator-loop-path g).is_finite l.path-iterator

abbrev pub invariant-loop-path-2 : goal.invariant-loop-path-2
invariant-loop-path-2 g l =
    (goal.iterator-loop-path-2 g).can_next l.path-iterator
    × (goal.iterator-loop-path-2 g).is_finite l.path-iterator
