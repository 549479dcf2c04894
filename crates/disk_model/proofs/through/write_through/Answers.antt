use Rattle.std.proofs.Common.{◌∙◌, ◌+◌, sym, subst, List, ℕ, Bool, length, arith, inl, inr, ⊎_elim}
use Rattle.std.proofs.lemmas.Result.{MatchResult-from_err}
use Rattle.disk_model.proofs.CountLaws.{good_then, failed_then, answered, refused}
use Rattle.std.specs.Prelude.{IsTrue}
use Rattle.disk_model.specs.Disk.{AfterWrite}
use Rattle.disk_model.proofs.Torn.{torn_same}
use Rattle.disk_model.proofs.Moments.{started, goes_on}
use Rattle.disk_model.proofs.through.write_through.Goals as goal

pub returns-in_err-write_at-clause-crash : goal.returns-in_err-write_at-clause-crash
returns-in_err-write_at-clause-crash g c told =
    let d = c.args.disk.now in
    let P : List ℕ → Type 0 =
    AfterWrite c.args.place (length c.args.piece.now) (g.D.Disk.may_leave d) in
    let at_start =
    started g.D.Disk d P
    (λ f left. (f, g.met.D.Disk.only_now d f left, torn_same _ _ f)) in
    goes_on g.D.Disk d d c.write_at.new.self P _ at_start
    c.write_at.ensures.time (c.write_at.ensures.crash told)

pub returns-in_err-sync-clause-crash : goal.returns-in_err-sync-clause-crash
returns-in_err-sync-clause-crash g c told =
    let d = c.args.disk.now in
    let told_then = subst (λ (b : Bool). IsTrue b) (sym c.write_at.ensures.kept.telling) told in
    let P : List ℕ → Type 0 =
    AfterWrite c.args.place (length c.args.piece.now) (g.D.Disk.may_leave d) in
    let at_start =
    started g.D.Disk d P
    (λ f left. (f, g.met.D.Disk.only_now d f left, torn_same _ _ f)) in
    let wrote =
    goes_on g.D.Disk d d c.write_at.new.self P _ at_start
    c.write_at.ensures.time (c.write_at.ensures.crash told) in
    goes_on g.D.Disk d
    c.write_at.new.self c.sync.new.self P _ wrote c.sync.ensures.time
    (λ f now. c.write_at.ensures.crash told f (c.sync.ensures.crash told_then f now))

pub returns-clause-crash : goal.returns-clause-crash
returns-clause-crash g c told =
    let d = c.args.disk.now in
    let told_then = subst (λ (b : Bool). IsTrue b) (sym c.write_at.ensures.kept.telling) told in
    let P : List ℕ → Type 0 =
    AfterWrite c.args.place (length c.args.piece.now) (g.D.Disk.may_leave d) in
    let at_start =
    started g.D.Disk d P
    (λ f left. (f, g.met.D.Disk.only_now d f left, torn_same _ _ f)) in
    let wrote =
    goes_on g.D.Disk d d c.write_at.new.self P _ at_start
    c.write_at.ensures.time (c.write_at.ensures.crash told) in
    goes_on g.D.Disk d
    c.write_at.new.self c.sync.new.self P _ wrote c.sync.ensures.time
    (λ f now. c.write_at.ensures.crash told f (c.sync.ensures.crash told_then f now))

pub returns-clause-ok : goal.returns-clause-ok
returns-clause-ok g c told f now =
    let told_then = subst (λ (b : Bool). IsTrue b) (sym c.write_at.ensures.kept.telling) told in
    c.in_ok-sync.ensures.ok told_then f now ∙ c.in_ok-write_at.ensures.ok told

pub returns-in_err-write_at-clause-calls : goal.returns-in_err-write_at-clause-calls
returns-in_err-write_at-clause-calls g c told =
    MatchResult-from_err _ _ _ c.from_residual.ensures.0
    (λ e. (
      0,
      omega arith,
      refused (c.args.place + length c.args.piece.now) (λ found. found.clock)
          (c.in_err-write_at.ensures.only told) (c.write_at.ensures.clock told)
          c.write_at.ensures.listed,
    ))

pub returns-in_err-sync-clause-calls : goal.returns-in_err-sync-clause-calls
returns-in_err-sync-clause-calls g c told =
    let told_then = subst (λ (b : Bool). IsTrue b) (sym c.write_at.ensures.kept.telling) told in
    let wrote =
    answered (λ is_err. absurd (cc)) c.in_ok-write_at.ensures.err (c.in_ok-write_at.ensures.clock told)
    c.write_at.ensures.listed in
    MatchResult-from_err _ _ _ c.from_residual-in_err-sync.ensures.0
    (λ e. (
      1,
      omega arith,
      failed_then 1 0 0 _ wrote c.write_at.ensures.kept.size (omega arith)
          (refused 0 (λ found. found.clock)
          (⊎_elim (λ found. inl found) (λ listed. inr (inl listed))
          (c.in_err-sync.ensures.only told_then)) (c.sync.ensures.clock told_then)
          c.sync.ensures.listed),
    ))

pub returns-clause-calls : goal.returns-clause-calls
returns-clause-calls g c told =
    let told_then = subst (λ (b : Bool). IsTrue b) (sym c.write_at.ensures.kept.telling) told in
    good_then 1 1
    (answered (λ is_err. absurd (cc)) c.in_ok-write_at.ensures.err (c.in_ok-write_at.ensures.clock told)
    c.write_at.ensures.listed)
    (answered (λ is_err. absurd (cc)) c.in_ok-sync.ensures.err (c.in_ok-sync.ensures.clock told_then)
    c.sync.ensures.listed)
