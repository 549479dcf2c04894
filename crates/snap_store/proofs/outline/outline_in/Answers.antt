use Rattle.std.proofs.Common.{Bool, inl, inr, subst, ⊎_elim}
use Rattle.std.specs.Prelude.{IsTrue}
use Rattle.std.proofs.lemmas.Result.{MatchResult-from_err}
use Rattle.disk_model.proofs.CountLaws.{among_more, among_then, answered_ok, good_then, refused}
use Rattle.std.proofs.Common.{◌≡◌, ◌∙◌, sym, ap, refl, arith, length, List, ℕ}
use Rattle.std.specs.Prelude.{slice_index}
use Rattle.disk_model.specs.Disk.{ReadsFile}
use Rattle.disk_model.specs.Work.{GoodCalls}
use Rattle.snap_store.specs.declared.side.Side.TheVariants.{A, B}
use Rattle.snap_store.specs.File.{has_header, gate_byte, area_head}
use Rattle.snap_store.proofs.outline.outline_in.Goals as goal

pub returns-clause-ok : goal.returns-clause-ok
unfolding gate_byte
returns-clause-ok g c told =
    let file = g.D.Disk.seen c.args.disk.now in
    let told_sized = rw (← c.size.ensures.kept.telling) at told in
    let told_read = rw (← c.read_at.ensures.kept.telling) at told_sized in
    let told_a = rw (← c.read_head.ensures.kept.same.telling) at told_read in
    let sized = c.in_ok-size.ensures.seen told in
    let seen_read = c.in_ok-read_at.ensures.seen told_sized ∙ sized in
    let seen_a = c.in_ok-a.ensures.seen told_read ∙ seen_read in
    let size : c.in_ok-size.size ≡ length file = c.in_ok-size.ensures.ok.1 told in
    let reads : ReadsFile file 0 c.read_at.new.into =
    rw sized at (c.in_ok-read_at.ensures.ok told_sized) in
    let made : c.is_header.result ≡ has_header file = c.is_header.ensures file (sym size) reads in
    let gate_a : slice_index c.read_at.new.into 10 ≡ slice_index file 10 = reads 10 (omega arith) in
    let gate_b : slice_index c.read_at.new.into 11 ≡ slice_index file 11 = reads 11 (omega arith) in
    let a : c.in_ok-a.a ≡ area_head A file =
    c.in_ok-a.ensures.ok told_read ∙ ap (λ (l : List ℕ). area_head A l) seen_read in
    let b : c.in_ok-b.b ≡ area_head B file =
    c.in_ok-b.ensures.ok told_a ∙ ap (λ (l : List ℕ). area_head B l) seen_a in
    rw (made, size, gate_a, gate_b, a, b) refl

pub returns-in_err-size-clause-calls : goal.returns-in_err-size-clause-calls
returns-in_err-size-clause-calls g c told =
    MatchResult-from_err _ _ _ c.from_residual.ensures.0
    (λ e. (
      0,
      omega arith,
      (refused 0 (λ found. found.clock)
          (⊎_elim (λ found. inl found) (λ listed. inr (inl listed))
          (c.in_err-size.ensures.only told)) (c.size.ensures.clock told) c.size.ensures.listed),
    ))

pub returns-in_err-read_at-clause-calls : goal.returns-in_err-read_at-clause-calls
returns-in_err-read_at-clause-calls g c told =
    let told_sized = subst (λ (b : Bool). IsTrue b) (sym c.size.ensures.kept.telling) told in
    MatchResult-from_err _ _ _ c.from_residual-in_err-read_at.ensures.0
    (λ e. among_more 2 4 0 0 (omega arith) (omega arith)
    (among_then 1 1 0 0
    (answered_ok c.in_ok-size.ensures.err
    (c.in_ok-size.ensures.clock told) c.size.ensures.listed)
    c.size.ensures.kept.size (omega arith) (
      0,
      omega arith,
      (refused 0 (λ found. found.clock)
          (⊎_elim (λ found. inl found) (λ listed. inr (inl listed))
          (c.in_err-read_at.ensures.only told_sized)) (c.read_at.ensures.clock told_sized) c.read_at.ensures.listed),
    )))

pub returns-in_err-a-clause-calls : goal.returns-in_err-a-clause-calls
returns-in_err-a-clause-calls g c told =
    let told_sized = subst (λ (b : Bool). IsTrue b) (sym c.size.ensures.kept.telling) told in
    let told_read =
    subst (λ (b : Bool). IsTrue b) (sym c.read_at.ensures.kept.telling) told_sized in
    let good : GoodCalls g.D.Disk 2 c.args.disk.now c.read_at.new.self =
    good_then 1 1
    (answered_ok c.in_ok-size.ensures.err
    (c.in_ok-size.ensures.clock told) c.size.ensures.listed)
    (answered_ok c.in_ok-read_at.ensures.err
    (c.in_ok-read_at.ensures.clock told_sized) c.read_at.ensures.listed) in
    MatchResult-from_err _ _ _ c.from_residual-in_err-a.ensures.0
    (λ e. among_more 3 4 0 0 (omega arith) (omega arith)
    (among_then 2 1 0 0 good
    (c.read_at.ensures.kept.size ∙ c.size.ensures.kept.size) (omega arith)
    (c.in_err-a.ensures.calls told_read)))

pub returns-in_err-b-clause-calls : goal.returns-in_err-b-clause-calls
returns-in_err-b-clause-calls g c told =
    let told_sized = subst (λ (b : Bool). IsTrue b) (sym c.size.ensures.kept.telling) told in
    let told_read =
    subst (λ (b : Bool). IsTrue b) (sym c.read_at.ensures.kept.telling) told_sized in
    let good : GoodCalls g.D.Disk 2 c.args.disk.now c.read_at.new.self =
    good_then 1 1
    (answered_ok c.in_ok-size.ensures.err
    (c.in_ok-size.ensures.clock told) c.size.ensures.listed)
    (answered_ok c.in_ok-read_at.ensures.err
    (c.in_ok-read_at.ensures.clock told_sized) c.read_at.ensures.listed) in
    let told_a =
    subst (λ (b : Bool). IsTrue b) (sym c.read_head.ensures.kept.same.telling) told_read in
    MatchResult-from_err _ _ _ c.from_residual-in_err-b.ensures.0
    (λ e. among_then 3 1 0 0 (good_then 2 1 good (c.in_ok-a.ensures.calls told_read))
    (c.read_head.ensures.kept.same.size ∙ c.read_at.ensures.kept.size
    ∙ c.size.ensures.kept.size) (omega arith)
    (c.in_err-b.ensures.calls told_a))

pub returns-clause-calls : goal.returns-clause-calls
returns-clause-calls g c told =
    let told_sized = subst (λ (b : Bool). IsTrue b) (sym c.size.ensures.kept.telling) told in
    let told_read =
    subst (λ (b : Bool). IsTrue b) (sym c.read_at.ensures.kept.telling) told_sized in
    let good : GoodCalls g.D.Disk 2 c.args.disk.now c.read_at.new.self =
    good_then 1 1
    (answered_ok c.in_ok-size.ensures.err
    (c.in_ok-size.ensures.clock told) c.size.ensures.listed)
    (answered_ok c.in_ok-read_at.ensures.err
    (c.in_ok-read_at.ensures.clock told_sized) c.read_at.ensures.listed) in
    let told_a =
    subst (λ (b : Bool). IsTrue b) (sym c.read_head.ensures.kept.same.telling) told_read in
    good_then 3 1 (good_then 2 1 good (c.in_ok-a.ensures.calls told_read))
    (c.in_ok-b.ensures.calls told_a)
