use Rattle.std.proofs.Common.{ℕ, ◌∙◌, ap, arith}
use Rattle.std.specs.Prelude.{slice_index}
use Rattle.gate_journal.specs.Log.{rows_of}
use Rattle.gate_journal.proofs.LogLemmas.{closed_either, rises-all}
use Rattle.gate_journal.proofs.Opening.{keeps_open, keeps_standing}
use Rattle.gate_journal.proofs.StopLemmas.{found_in}
use Rattle.gate_journal.proofs.SinceLemmas.{since_begun}
use Rattle.gate_journal.proofs.journal.Journal.open.Goals as goal

pub invariant_of-result : goal.invariant_of-result
invariant_of-result g c =
    let entries = c.in-Ok.parsed.history.list in
    let journal = c.in-Ok.ensures.journal in (
      record {
        journal = journal.0;
        ends = journal.1;
        within = omega (arith, journal.2, c.load.ensures.kept.size);
        next = tt;
        images = c.in-Ok.ensures.shut;
        counts =
            rw (c.of-opened.ensures, c.in-Ok.ensures.fresh)
            (rises-all (rows_of entries) _ _ (omega (arith, c.in-Ok.ensures.cause)));
      },
      rw c.of-opened.ensures
          (since_begun c.len-found.result c.len-found.ensures c.in-Ok.ensures.fresh journal.0
          c.load.ensures.kept
          (λ start all each told. keeps_open (g.met.D.Disk.seen_may_stay _) start all
          (c.load.ensures.migrates told) (each told))
          (omega (arith, journal.1, c.in-Ok.ensures.ends)) c.in-Ok.ensures.shut
          (g.met.D.Disk.only_now _) c.of-start.ensures c.new.ensures),
    )

pub returns-clause-untouched : goal.returns-clause-untouched
returns-clause-untouched g c told closed second =
    c.in-Ok.ensures.untouched told
    (ap (λ (k : ℕ). slice_index (g.D.Disk.seen c.args.disk) k) c.in-Ok.ensures.journal.1 ∙ closed)
    second

pub returns-clause-crash : goal.returns-clause-crash
returns-clause-crash g c rows all each told =
    keeps_open (g.met.D.Disk.seen_may_stay _) rows all (c.load.ensures.migrates told) (each told)

pub returns-clause-stands : goal.returns-clause-stands
returns-clause-stands g c rows u all next each told =
    let seen = g.D.Disk.seen c.args.disk in (
      keeps_standing (g.met.D.Disk.seen_may_stay _) rows all (c.load.ensures.migrates told) u next
          (each told),
      found_in rows u (rows_of c.in-Ok.parsed.history.list) seen
          (closed_either rows u seen all next (each told seen (g.met.D.Disk.seen_may_stay _)))
          (c.in-Ok.ensures.ok told),
    )

pub returns-clause-calls : goal.returns-clause-calls
returns-clause-calls g c told = rw (← c.in-Ok.ensures.journal.1) (c.in-Ok.ensures.calls told)

-- and where it is refused
pub returns-in-Err-clause-crash : goal.returns-in-Err-clause-crash
returns-in-Err-clause-crash g c rows all each told =
    keeps_open (g.met.D.Disk.seen_may_stay _) rows all (c.load.ensures.migrates told) (each told)

pub returns-in-Err-clause-stands : goal.returns-in-Err-clause-stands
returns-in-Err-clause-stands g c rows u all next each told =
    keeps_standing (g.met.D.Disk.seen_may_stay _) rows all (c.load.ensures.migrates told) u next
    (each told)
