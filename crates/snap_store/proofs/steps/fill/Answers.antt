use Rattle.std.proofs.lemmas.Result.{MatchResult-from_err}
use Rattle.disk_model.proofs.CountLaws.{answered, calls_then, failed_farther, refused}
use Rattle.std.proofs.Common.{◌≡◌, ◌∙◌, ◌+◌, ap, subst, sym, arith, rules, length, Bool, List, ℕ}
use Rattle.std.specs.Prelude.{IsTrue}
use Rattle.disk_model.proofs.WorkLaws.{on_ok, then_, through}
use Rattle.snap_store.specs.File.{head_bytes}
use Rattle.snap_store.proofs.AreaWritten.{length-head}
use Rattle.snap_store.proofs.LaidLemmas.{laid_area_torn, laid_filled}
use Rattle.snap_store.proofs.PutLemmas.{area_begun}
use Rattle.snap_store.proofs.steps.fill.Goals as goal

-- the head's write failed
pub returns-in_err-write_at-clause-triple : goal.returns-in_err-write_at-clause-triple
returns-in_err-write_at-clause-triple g c area beside_area beside spares =
    let long : length c.head_bytes.result ≡ 16 =
    ap (λ (l : List ℕ). length l) c.head_bytes.ensures
    ∙ length-head c.args.place c.args.count (length c.args.bytes.now) in
    let begun = area_begun {disks = g.D.Disk}
    c.args.side {area = area} {beside_area = beside_area} spares (omega (arith, c.start.ensures))
    (omega (arith, c.start.ensures, long)) (g.met.D.Disk.only_now c.args.disk.now)
    c.write_at.ensures.time c.write_at.ensures.crash in
    record { meanwhile = begun.meanwhile; ended = λ told each. search rules }

-- both were written, and a sync followed
pub returns-clause-triple : goal.returns-clause-triple
returns-clause-triple g c area beside_area beside spares =
    let side = c.args.side in
    let d = c.args.disk.now in
    let bytes = c.args.bytes.now in
    let long : length c.head_bytes.result ≡ 16 =
    ap (λ (l : List ℕ). length l) c.head_bytes.ensures
    ∙ length-head c.args.place c.args.count (length bytes) in
    let begun = area_begun {disks = g.D.Disk}
    side {area = area} {beside_area = beside_area} spares (omega (arith, c.start.ensures))
    (omega (arith, c.start.ensures, long)) (g.met.D.Disk.only_now d)
    c.write_at.ensures.time c.write_at.ensures.crash in
    let meanwhile =
    then_ begun c.write_at.ensures.kept.telling
    (through {after = λ f. Unit {0}} (c.start-2.result + 16) bytes _
    (g.met.D.Disk.seen_may_stay c.write_at.new.self)
    c.write_through.ensures.ok c.write_through.ensures.crash
    (λ f e laid torn. laid_area_torn side area beside beside_area f e (c.start-2.result + 16)
    (length bytes) spares (omega (arith, c.start-2.ensures))
    (omega (arith, c.start-2.ensures, c.requires)) torn laid)
    (λ e laid. tt)) in
    let file = g.D.Disk.seen d in
    let head = head_bytes c.args.place c.args.count (length bytes) in
    record {
      meanwhile = meanwhile.meanwhile;
      ended = λ told each. on_ok c.write_through.result (λ wrote f now.
          let told_first =
          subst (λ (b : Bool). IsTrue b) (sym c.write_at.ensures.kept.telling) told in
          rw (
            wrote told_first f now,
            c.in_ok-write_at.ensures.ok told,
            c.head_bytes.ensures,
            c.start.ensures,
            c.start-2.ensures,
          )
          (laid_filled side beside beside_area area file c.args.place c.args.count bytes
          (omega (arith, c.ranges.place.fits))
          (omega (arith, c.ranges.count.fits)) c.requires spares
          (each file (g.met.D.Disk.seen_may_stay d)))) c.write_through.ensures.ok;
    }

pub returns-in_err-write_at-clause-calls : goal.returns-in_err-write_at-clause-calls
returns-in_err-write_at-clause-calls g c told =
    let long : length c.head_bytes.result ≡ 16 =
    ap (λ (l : List ℕ). length l) c.head_bytes.ensures
    ∙ length-head c.args.place c.args.count (length c.args.bytes.now) in
    MatchResult-from_err _ _ _ c.from_residual.ensures.0
    (λ e. (
      0,
      omega arith,
      failed_farther (omega (arith, c.start.ensures, long))
          (refused (c.start.result + length c.head_bytes.result) (λ found. found.clock)
          (c.in_err-write_at.ensures.only told) (c.write_at.ensures.clock told)
          c.write_at.ensures.listed),
    ))

pub returns-clause-calls : goal.returns-clause-calls
returns-clause-calls g c told =
    calls_then g.D.Disk c.write_through.new.disk c.write_through.result 1 2
    (c.start-2.result + 16 + length c.args.bytes.now) _
    (answered (λ is_err. absurd (cc)) c.in_ok-write_at.ensures.err
    (c.in_ok-write_at.ensures.clock told) c.write_at.ensures.listed)
    c.write_at.ensures.kept.size (omega (arith, c.start-2.ensures))
    (c.write_through.ensures.calls
    (subst (λ (b : Bool). IsTrue b) (sym c.write_at.ensures.kept.telling) told))
