use Rattle.std.proofs.Common.{append_assoc, codes, arith, rules}
use Rattle.story_make.specs.Script.{letters}
use Rattle.story_make.proofs.LineLemmas.{line_typed, letters_are}
use Rattle.story_make.proofs.line.push_line.Goals as goal

pub returns-in_ok-extend_from_slice-in-Skip : goal.returns-in_ok-extend_from_slice-in-Skip
returns-in_ok-extend_from_slice-in-Skip c =
    rw (
      c.in-Skip.is,
      line_typed c.args.session c.in-Skip.n (codes "x") ((omega arith, omega arith), tt),
    )
    (search (rules, append_assoc))

pub returns-in_ok-push-in-Next : goal.returns-in_ok-push-in-Next
returns-in_ok-push-in-Next c =
    let word = c.in-Next.word in
    rw (c.in-Next.is, line_typed c.args.session c.in-Next.n (letters word) (letters_are word))
    (search (rules, append_assoc))
