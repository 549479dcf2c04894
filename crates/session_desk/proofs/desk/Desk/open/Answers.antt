use Rattle.std.proofs.Common.{◌≡◌, ◌≤◌, ◌∙◌, ap, subst, sym, ℕ, List, length, replicate, arith}
use Rattle.gate_journal.specs.declared.command.Command.{Command}
use Rattle.session_desk.specs.declared.desk.mark.Mark.TheVariants as marks
use Rattle.session_desk.specs.Desk.{cold_desk}
use Rattle.session_desk.proofs.SoundLemmas.{whole-open}
use Rattle.session_desk.proofs.desk.Desk.open.Goals as goal

pub invariant_of-result : goal.invariant_of-result
invariant_of-result g c =
    let all : c.in_ok-marks.marks.items
    ≡ replicate (length c.in_ok-commands.commands.items) (marks.Accepted 0) =
    c.in_ok-marks.ensures.items_if_clones_equal (λ y is. is)
    ∙ ap (λ (n : ℕ). replicate n (marks.Accepted 0)) (omega (arith, c.len.ensures)) in (
      record {
        numbered = c.requires.session;
        within =
            subst (λ (l : List Command). length l ≤ 8192) (sym c.in_ok-commands.ensures)
            c.requires.within;
        in_use = tt;
      },
      rw c.deref.ensures.value at c.begins_of-begins.ensures,
      (whole-open g.D.Disk g.met.D.Disk.only_now c.in_ok-marks.marks.items c.last_open-place.result
          (cold_desk c.args.session c.args.stories.now c.args.budget
          c.in_ok-commands.commands.items)
          c.args.session c.args.stories.now c.args.budget c.args.rows.now
          c.args.pass c.open-saves.result c.of-given.result.value c.of-first.result.value
          c.args.store all
          (ap (cold_desk c.args.session c.args.stories.now c.args.budget) c.in_ok-commands.ensures)
          c.requires.pass c.requires.rows c.last_open-place.ensures
          c.open-saves.ensures.value c.of-given.ensures c.of-first.ensures
          c.is_made-made.ensures.images).0,
    )

pub returns : goal.returns
returns g c =
    let all : c.in_ok-marks.marks.items
    ≡ replicate (length c.in_ok-commands.commands.items) (marks.Accepted 0) =
    c.in_ok-marks.ensures.items_if_clones_equal (λ y is. is)
    ∙ ap (λ (n : ℕ). replicate n (marks.Accepted 0)) (omega (arith, c.len.ensures)) in
    record {
      value =
          (whole-open g.D.Disk g.met.D.Disk.only_now c.in_ok-marks.marks.items
          c.last_open-place.result
          (cold_desk c.args.session c.args.stories.now c.args.budget
          c.in_ok-commands.commands.items)
          c.args.session c.args.stories.now c.args.budget c.args.rows.now
          c.args.pass c.open-saves.result c.of-given.result.value c.of-first.result.value
          c.args.store all
          (ap (cold_desk c.args.session c.args.stories.now c.args.budget) c.in_ok-commands.ensures)
          c.requires.pass c.requires.rows c.last_open-place.ensures
          c.open-saves.ensures.value c.of-given.ensures c.of-first.ensures
          c.is_made-made.ensures.images).1;
    }
