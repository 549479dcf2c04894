use Rattle.std.proofs.Common.{arith, inl, inr, ◌∙◌, ap, length, List, ℕ, get_or}
use Rattle.std.proofs.lemmas.Bool.{cases_Bool}
use Rattle.disk_model.specs.DiskState.{DiskState}
use Rattle.disk_model.specs.Drawn.{keeps}
use Rattle.disk_model.proofs.LandedLaws.{written_image, written_covers}
use Rattle.disk_model.proofs.stop.draw_image.Goals as goal

pub returns-clause-image : goal.returns-clause-image
returns-clause-image c =
    let p : DiskState = record {
      synced = c.args.synced.now;
      seen = c.args.seen.now;
      ranges = c.args.ranges.now;
    } in
    let image = written_image c.args.choice p c.args.landed.now c.requires.seen c.requires.landed in
    let loop = c.loop-place.invariant in
    let is = c.written_by-written.ensures in
    record {
      no_shorter = omega (arith, loop.size);
      no_longer = omega (arith, loop.size);
      same = λ i lt untouched. elim (cases_Bool (keeps c.args.choice i)) [
        | inl kept ↦
            loop.kept i (omega arith) (omega (arith, ap length is, image.no_shorter)) kept
            ∙ ap (λ (l : List ℕ). get_or l i 0) is ∙ image.same i lt untouched
        | inr lost ↦ loop.lost i (omega arith) lt lost
      ];
    }

pub returns-clause-drawn : goal.returns-clause-drawn
returns-clause-drawn c =
    let p : DiskState = record {
      synced = c.args.synced.now;
      seen = c.args.seen.now;
      ranges = c.args.ranges.now;
    } in
    let loop = c.loop-place.invariant in
    let is = c.written_by-written.ensures in
    let even = c.image_size-end.ensures.even in
    let odd = c.image_size-end.ensures.odd in
    let covers =
    written_covers c.args.choice c.image_size-end.result p c.args.landed.now c.requires.seen
    c.requires.landed even odd in
    record {
      even = λ so. omega (arith, loop.size, even so);
      odd = λ so. omega (arith, loop.size, odd so);
      kept = λ i lt kept.
          loop.kept i (omega (arith, lt, loop.size))
          (omega (arith, lt, loop.size, covers, ap length is)) kept
          ∙ ap (λ (l : List ℕ). get_or l i 0) is;
      lost = λ i lt lost. loop.lost i (omega (arith, lt)) lt lost;
      rubbish = λ i lt past lost. loop.rubbish i (omega (arith, lt, loop.size)) past lost;
    }
