use Rattle.std.proofs.Common.{◌≢◌, [], ◌∷◌, ℕ, List, inl, inr, get_or, subst, sym, ◌∙◌, ap}
use Rattle.disk_model.specs.Disk.{Torn, file_written}
use Rattle.disk_model.proofs.WorkLaws.{nothing, through, looser}
use Rattle.disk_model.proofs.CountLaws.{good_none}
use Rattle.gate_journal.proofs.Opening.{other_byte, same_byte, set_none, set_two}
use Rattle.gate_journal.proofs.migrate.set_byte.Goals as goal

pub returns-then-now-wanted-clause-triple : goal.returns-then-now-wanted-clause-triple
returns-then-now-wanted-clause-triple g c bytes is =
    rw (same_byte bytes c.args.place c.args.wanted (is ∙ c.if-now-wanted.true))
    (looser (λ f same. inl same)
    (nothing {disks = g.D.Disk} (g.met.D.Disk.only_now c.args.disk.now)))

pub returns-then-now-wanted-clause-calls : goal.returns-then-now-wanted-clause-calls
returns-then-now-wanted-clause-calls g c told =
    rw (← set_none c.args.now c.args.wanted c.if-now-wanted.true) (good_none c.args.disk.now)

pub returns-clause-triple : goal.returns-clause-triple
returns-clause-triple g c bytes is =
    let place = c.args.place in
    let wanted = c.args.wanted in
    let other : get_or bytes place 0 ≢ wanted = λ there. c.if-now-wanted.false (sym is ∙ there) in
    through place (wanted ∷ []) _ (g.met.D.Disk.seen_may_stay c.args.disk.now)
    c.write_through.ensures.ok c.write_through.ensures.crash
    (λ f d same torn. inr (other, subst (λ (l : List ℕ). Torn place 1 l f) same torn))
    (λ d same.
    ap (λ (l : List ℕ). file_written l place (wanted ∷ [])) same
    ∙ sym (other_byte bytes place wanted other))

pub returns-clause-calls : goal.returns-clause-calls
returns-clause-calls g c told =
    rw (← set_two c.args.now c.args.wanted c.if-now-wanted.false)
    (c.write_through.ensures.calls told)
